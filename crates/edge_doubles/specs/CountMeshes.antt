-- A sink of meshes that counts them: what contracts see of it. This project's own words.
use Rattle.std.specs.Prelude.{ℕ, Bool}

-- how many meshes were finished, how many bytes were written, and whether a mesh is under way
pub record CountedMeshes : Type 0 where
  pub meshes : ℕ
  pub bytes : ℕ
  pub under_way : Bool

-- Triangles with their corners. This project's own words.
-- Words: AreCorners.
use Rattle.std.specs.Prelude.{◌≡◌, ℕ, List, All}
use Rattle.mesh_defs.specs.Triangle.{corners_of}
use Rattle.obj_write.specs.declared.walk.Step.{Step}

-- beside each triangle stand its corners
abbrev pub AreCorners : ℕ → List Step → Type 0
AreCorners n steps = All (λ s. s.corners ≡ corners_of n s.tri) steps

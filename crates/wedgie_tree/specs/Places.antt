-- Where heights stand in the list of heights. This project's own words.
use Rattle.std.specs.Prelude.{◌≡◌, ℕ}
use Rattle.mesh_defs.specs.declared.point.Corners.{Corners}
use Rattle.mesh_defs.specs.HeightField.{place_of}
use Rattle.wedgie_tree.specs.declared.fine.Places.{Places}

-- these are the places of the corners in file order
pub record IsAt (n : ℕ) (c : Corners) (p : Places) : Type 0 where
  pub apex : p.apex ≡ place_of n c.apex.x c.apex.y
  pub v0 : p.v0 ≡ place_of n c.v0.x c.v0.y
  pub v1 : p.v1 ≡ place_of n c.v1.x c.v1.y

-- The points of a row by their places.
use Rattle.std.proofs.Common.{◌≡◌, ℕ, ◌+◌, ◌*◌, ◌<◌, ◌∙◌, ap, ap₂}
use Rattle.std.proofs.lemmas.Nat.{div-mul-add, mod-mul-add}
use Rattle.mesh_defs.specs.HeightField.{side_of}
use Rattle.mesh_defs.specs.BoundingBox.{point}
use Rattle.obj_write.specs.VertexMarks.{place_point}

-- the point of a row at a place of it
pub point-in-row : (n y x k : ℕ) → x < side_of n → k ≡ y * side_of n + x → place_point n k ≡ point x y
point-in-row n y x k low is =
    ap (place_point n) is ∙ ap₂ (λ i j. point i j) (mod-mul-add y (side_of n) x low) (div-mul-add y (side_of n) x low)

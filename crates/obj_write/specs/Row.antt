-- A row of the grid in the text of its vertices. This project's own words.
use Rattle.std.specs.Prelude.{◌≡◌, ℕ, ◌*◌, ◌^◌, ◌≤◌}
use Rattle.mesh_defs.specs.HeightField.{side_of}
use Rattle.obj_write.specs.declared.row.Row.{Row}
use Rattle.obj_write.specs.Field.{IsFieldOf}

-- The row begins at its place, and its field is that of its distance from the lowest row.
pub record IsRow (n spacing : ℕ) (r : Row) : Type 0 where
  pub within : r.y ≤ 2 ^ n
  pub begins : r.start ≡ r.y * side_of n
  pub field_is : IsFieldOf r.field (spacing * r.y)

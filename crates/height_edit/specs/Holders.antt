-- The triangles that hold a point of the grid. This project's own words.
use Rattle.std.specs.Prelude.{ℕ, ◌+◌, ◌-◌, ◌*◌, ◌^◌, List}
use Rattle.std.specs.List.{filter, range_with_len}
use Rattle.mesh_defs.specs.declared.point.Point.{Point}
use Rattle.mesh_defs.specs.BoundingBox.{holds_point}

-- of so many addresses from this one on, those whose closed triangle holds the point, ascending
abbrev pub held_from : ℕ → Point → ℕ → ℕ → List ℕ
held_from n p from count = filter (λ a. holds_point n a p) (range_with_len from count)

-- all addresses of the grid whose closed triangle holds the point, ascending
abbrev pub holders : ℕ → Point → List ℕ
holders n p = held_from n p 2 (2 ^ (2 * n + 2) - 2)

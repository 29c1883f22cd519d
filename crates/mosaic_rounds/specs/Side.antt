-- Neighbours of a tile: those beyond its lower (0), left (1), upper (2) and right side (3).
-- This project's own form. Words: IsNeighbour.
use Rattle.std.specs.Prelude.{◌≡◌, ℕ, zero, suc, ◌+◌}
use Rattle.mesh_defs.specs.declared.point.Point.{Point}

-- tile u lies beyond this side of tile t
abbrev pub IsNeighbour : ℕ → Point → Point → Type 0
IsNeighbour zero t u = (t.x ≡ u.x) × (t.y ≡ u.y + 1)
IsNeighbour (suc zero) t u = (t.x ≡ u.x + 1) × (t.y ≡ u.y)
IsNeighbour (suc (suc zero)) t u = (t.x ≡ u.x) × (u.y ≡ t.y + 1)
IsNeighbour (suc (suc (suc _))) t u = (u.x ≡ t.x + 1) × (t.y ≡ u.y)

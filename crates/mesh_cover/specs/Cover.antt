-- In how many triangles of a mesh a point lies, by the edges that pass it: the half-open rule.
-- Words: high_across, low_across, IsCounterclockwise, passes, ups_at, downs_at, IsHeld, IsOnceAtMost.
use Rattle.std.specs.Prelude.{◌≡◌, ℕ, ◌+◌, ◌*◌, ◌<◌, ◌≤◌, ◌⊎◌, ◌&&◌, nat_le, nat_lt, cond}
use Rattle.mesh_defs.specs.declared.point.Point.{Point}

-- twice the area of the triangle r, p, q is the first sum less the second
abbrev pub high_across : Point → Point → Point → ℕ
high_across r p q = p.x * q.y + q.x * r.y + r.x * p.y

abbrev pub low_across : Point → Point → Point → ℕ
low_across r p q = p.y * q.x + q.y * r.x + r.y * p.x

-- the three points turn left
abbrev pub IsCounterclockwise : Point → Point → Point → Type 0
IsCounterclockwise a b c = low_across a b c < high_across a b c

-- 1 where the edge from p to q goes up through the row of o, from p's row on and before q's, and o lies left of it
unfoldable pub passes : Point → Point → Point → ℕ
passes p q o = cond (nat_le p.y o.y && (nat_lt o.y q.y && nat_lt (low_across o p q) (high_across o p q))) 1 0

-- how often the edges of a triangle pass o upwards, and downwards
abbrev pub ups_at : Point → Point → Point → Point → ℕ
ups_at a b c o = passes a b o + passes b c o + passes c a o

abbrev pub downs_at : Point → Point → Point → Point → ℕ
downs_at a b c o = passes b a o + passes c b o + passes a c o

-- o lies in the closed triangle
pub record IsHeld (a b c o : Point) : Type 0 where
  pub ab : low_across o a b ≤ high_across o a b
  pub bc : low_across o b c ≤ high_across o b c
  pub ca : low_across o c a ≤ high_across o c a

-- the edges pass o upwards as often as downwards, or once more; then the triangle holds o
abbrev pub IsOnceAtMost : Point → Point → Point → Point → Type 0
IsOnceAtMost a b c o =
    (ups_at a b c o ≡ downs_at a b c o) ⊎ ((ups_at a b c o ≡ downs_at a b c o + 1) × IsHeld a b c o)

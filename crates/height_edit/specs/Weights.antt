-- How much of the full turn around a point a triangle that holds it takes up, in eighths: why at most eight
-- triangles of one level hold a point. This project's own words.
use Rattle.std.specs.Prelude.{ℕ, zero, suc, ◌+◌, ◌-◌, ◌*◌, min, List, [], ◌∷◌}
use Rattle.std.specs.List.{flat_map}
use Rattle.mesh_defs.specs.declared.point.Point.{Point}
use Rattle.mesh_defs.specs.declared.point.Corners.{Corners}
use Rattle.mesh_defs.specs.Triangle.{corners_of}
use Rattle.height_edit.specs.Holders.{held_from}

-- 0 where i is greater, 1 where they are equal, 2 where i is less
abbrev pub side_by : ℕ → ℕ → ℕ
side_by i j = (1 + min 1 (j - i)) - min 1 (i - j)

-- where the point lies to the line from p to q: 0 on the right, 1 on the line, 2 on the left
abbrev pub side_at : Point → Point → Point → ℕ
side_at r p q = side_by (p.y * q.x + q.y * r.x + r.y * p.x) (p.x * q.y + q.x * r.y + r.x * p.y)

-- by the sides of the left leg, the base and the right leg: 8 inside, 4 on an edge, 2 at the apex, 1 at an
-- end of the base, and 0 outside
abbrev pub eighths : ℕ → ℕ → ℕ → ℕ
eighths zero base right = 0
eighths (suc left) zero right = 0
eighths (suc left) (suc base) zero = 0
eighths (suc zero) (suc zero) (suc right) = 1
eighths (suc zero) (suc (suc _)) (suc zero) = 2
eighths (suc zero) (suc (suc _)) (suc (suc _)) = 4
eighths (suc (suc _)) (suc zero) (suc zero) = 1
eighths (suc (suc _)) (suc zero) (suc (suc _)) = 4
eighths (suc (suc _)) (suc (suc _)) (suc zero) = 4
eighths (suc (suc _)) (suc (suc _)) (suc (suc _)) = 8

-- the eighths of the full turn around the point that lie in the triangle with these corners
abbrev pub weight_in : Corners → Point → ℕ
weight_in c r = eighths (side_at r c.apex c.v0) (side_at r c.v0 c.v1) (side_at r c.v1 c.apex)

-- the sum over these triangles
abbrev pub weights : ℕ → Point → List ℕ → ℕ
weights n p [] = 0
weights n p (a ∷ rest) = weight_in (corners_of n a) p + weights n p rest

-- the children of these triangles that hold the point
abbrev pub offspring : ℕ → Point → List ℕ → List ℕ
offspring n p level = flat_map (λ a. held_from n p (2 * a) 2) level

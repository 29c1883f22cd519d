-- Corners are counterclockwise, and so three points: a sample lies strictly left of all three edges, and the
-- sum of the three tests leaves out the sample.
use Rattle.std.proofs.Common.{◌≡◌, ℕ, ◌+◌, ◌-◌, ◌*◌, ◌<◌, ap, arith}
use Rattle.mesh_defs.specs.declared.point.Corners.{Corners}
use Rattle.mesh_defs.specs.Triangle.{level_of, corners_of, IsAddress}
use Rattle.bintree_laws.specs.Corners.{IsCounterclockwise, AreApart}
use Rattle.bintree_laws.proofs.MateLemmas.{coordinates}
use Rattle.mesh_laws.proofs.WayLemmas.{IsBounded, IsBounded-from}
use Rattle.mesh_laws.proofs.DescentLemmas.{IsDown-address, sample_of}

-- what has a point strictly inside is counterclockwise
counterclockwise-bounded : (x y : ℕ) (c : Corners) → IsBounded x y c → IsCounterclockwise c
counterclockwise-bounded x y c w = let leg = w.leg in let base = w.base in let other = w.other in omega arith

-- the corners of each triangle of the grid are counterclockwise
pub counterclockwise : (n a : ℕ) → IsAddress n a → IsCounterclockwise (corners_of n a)
counterclockwise n a address =
    let s = sample_of n (2 * n - level_of a) a (IsDown-address n a address) in
    counterclockwise-bounded s.0 s.1 (corners_of n a) (IsBounded-from s.0 s.1 (corners_of n a) s.3)

-- no area lies between two points
apart-counterclockwise : (c : Corners) → IsCounterclockwise c → AreApart c
apart-counterclockwise c turn = (
  λ e. let p = coordinates c.apex c.v0 e in
      flat c.apex.x c.apex.y c.v0.x c.v0.y c.v1.x c.v1.y p.0 p.1 turn,
  λ e. let p = coordinates c.v0 c.v1 e in
      flat c.v0.x c.v0.y c.v1.x c.v1.y c.apex.x c.apex.y p.0 p.1 (omega arith),
  λ e. let p = coordinates c.v1 c.apex e in
      flat c.v1.x c.v1.y c.apex.x c.apex.y c.v0.x c.v0.y p.0 p.1 (omega arith),
)
  where
    flat : (px py qx qy rx ry : ℕ) → px ≡ qx → py ≡ qy → py * qx + qy * rx + ry * px < px * qy + qx * ry + rx * py → ⊥
    flat px py qx qy rx ry e f turn =
        let one : ry * px ≡ ry * qx = ap (λ k. ry * k) e in let two : rx * py ≡ rx * qy = ap (λ k. rx * k) f in
        let three : py * qx ≡ qy * qx = ap (λ k. k * qx) f in
        let four : px * qy ≡ qx * qy = ap (λ k. k * qy) e in
        omega arith

-- the corners of each triangle of the grid are three points
pub apart : (n a : ℕ) → IsAddress n a → AreApart (corners_of n a)
apart n a address = apart-counterclockwise (corners_of n a) (counterclockwise n a address)

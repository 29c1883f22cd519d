-- A point of the closed rectangle, and one just left of and below it, at a finer scale: what triangle holds the second holds
-- the first, and what has the first strictly inside has the second. So the right and upper sides need no rule of their own.
use Rattle.std.proofs.Common.{◌≡◌, ℕ, ◌+◌, ◌*◌, ◌-◌, ◌<◌, ◌≤◌, ap, arith, ⊎_elim, mul-le-mul_left}
use Rattle.std.proofs.lemmas.Bool.{cases_lt}
use Rattle.mesh_defs.specs.declared.point.Point.{Point}
use Rattle.mesh_cover.specs.Cover.{high_across, low_across, IsHeld}
use Rattle.mesh_cover.specs.Mesh.{IsWithin, IsPartnered, IsInside, IsTiling, times}
use Rattle.mesh_cover.proofs.ScaleLemmas.{keeps-less, scaled-mesh}
use Rattle.mesh_cover.proofs.TilingLemmas.{covered, apart}

-- ---- one edge

-- a point one less than j times as far, at most
abbrev near : ℕ → Point → Point
near j o = record { x = j * o.x - 1; y = j * o.y - 1 }

le-of-product : (k i j : ℕ) → 0 < k → k * i ≤ k * j → i ≤ j
le-of-product k i j some le = ⊎_elim
    (λ (less : j < i). let h = keeps-less k j i some less in absurd (omega arith))
    (λ (le : i ≤ j). le)
    (cases_lt j i)

at-most-once : (e i : ℕ) → e ≤ 1 → i * e ≤ i
at-most-once e i le = let h : i * e ≤ i * 1 = mul-le-mul_left i le in omega arith

-- the sums of the edge over j k and over k, where j is more than the coordinates of its ends together
left-near : (j k ox oy ux uy ex ey px py qx qy : ℕ) → 0 < k → j * ox ≡ ux + ex → j * oy ≡ uy + ey → ex ≤ 1 → ey ≤ 1 →
    qy + px < j →
    j * k * py * qx + qy * ux + px * uy ≤ j * k * px * qy + qx * uy + py * ux →
    k * py * qx + qy * ox + px * oy ≤ k * px * qy + qx * oy + py * ox
left-near j k ox oy ux uy ex ey px py qx qy some xe ye ex1 ey1 small le =
    let a : qy * (j * ox) ≡ qy * (ux + ex) = ap (λ n. qy * n) xe in
    let b : px * (j * oy) ≡ px * (uy + ey) = ap (λ n. px * n) ye in
    let c : qx * (j * oy) ≡ qx * (uy + ey) = ap (λ n. qx * n) ye in
    let d : py * (j * ox) ≡ py * (ux + ex) = ap (λ n. py * n) xe in
    let e : qy * ex ≤ qy = at-most-once ex qy ex1 in
    let f : px * ey ≤ px = at-most-once ey px ey1 in
    ⊎_elim
    (λ (more : k * px * qy + qx * oy + py * ox < k * py * qx + qy * ox + px * oy).
    let times_j : j * (k * px * qy + qx * oy + py * ox + 1) ≤ j * (k * py * qx + qy * ox + px * oy) =
    mul-le-mul_left j (omega arith) in
    absurd (omega arith))
    (λ (fine : k * py * qx + qy * ox + px * oy ≤ k * px * qy + qx * oy + py * ox). fine)
    (cases_lt (k * px * qy + qx * oy + py * ox) (k * py * qx + qy * ox + px * oy))

held-near : (j k : ℕ) (o p q : Point) → 0 < k → 0 < j → q.y + p.x < j →
    low_across (near j o) (times (j * k) p) (times (j * k) q) ≤ high_across (near j o) (times (j * k) p) (times (j * k) q) →
    low_across o (times k p) (times k q) ≤ high_across o (times k p) (times k q)
held-near j k o p q some many small le =
    let ux : ℕ = j * o.x - 1 in
    let uy : ℕ = j * o.y - 1 in
    let product : 0 < j * k = let h = keeps-less j 0 k many some in omega arith in
    let low : j * k * (j * k * p.y * q.x + q.y * ux + p.x * uy) ≡ low_across (near j o) (times (j * k) p) (times (j * k) q) = omega arith in
    let high : j * k * (j * k * p.x * q.y + q.x * uy + p.y * ux) ≡ high_across (near j o) (times (j * k) p) (times (j * k) q) = omega arith in
    let divided : j * k * p.y * q.x + q.y * ux + p.x * uy ≤ j * k * p.x * q.y + q.x * uy + p.y * ux =
    le-of-product (j * k) (j * k * p.y * q.x + q.y * ux + p.x * uy) (j * k * p.x * q.y + q.x * uy + p.y * ux) product (omega arith) in
    let there : k * p.y * q.x + q.y * o.x + p.x * o.y ≤ k * p.x * q.y + q.x * o.y + p.y * o.x =
    left-near j k o.x o.y ux uy (j * o.x - ux) (j * o.y - uy) p.x p.y q.x q.y some (omega arith) (omega arith) (omega arith) (omega arith) small divided in
    let whole : k * (k * p.y * q.x + q.y * o.x + p.x * o.y) ≤ k * (k * p.x * q.y + q.x * o.y + p.y * o.x) = mul-le-mul_left k there in
    omega arith

inside-near : (j k : ℕ) (o p q : Point) → 0 < k → 0 < j → p.y + q.x < j →
    low_across o (times k p) (times k q) < high_across o (times k p) (times k q) →
    low_across (near j o) (times (j * k) p) (times (j * k) q) < high_across (near j o) (times (j * k) p) (times (j * k) q)
inside-near j k o p q some many small less = ⊎_elim
    (λ (fine : low_across (near j o) (times (j * k) p) (times (j * k) q) < high_across (near j o) (times (j * k) p) (times (j * k) q)). fine)
    (λ (le : high_across (near j o) (times (j * k) p) (times (j * k) q) ≤ low_across (near j o) (times (j * k) p) (times (j * k) q)).
    let back = held-near j k o q p some many small (omega arith) in
    absurd (omega arith))
    (cases_lt (low_across (near j o) (times (j * k) p) (times (j * k) q)) (high_across (near j o) (times (j * k) p) (times (j * k) q)))

-- ---- a triangle

held-so : (right top k : ℕ) (a b c o : Point) → 0 < k → IsWithin right top a → IsWithin right top b → IsWithin right top c →
    IsHeld (times ((right + top + 1) * k) a) (times ((right + top + 1) * k) b) (times ((right + top + 1) * k) c) (near (right + top + 1) o) →
    IsHeld (times k a) (times k b) (times k c) o
held-so right top k a b c o some wa wb wc held = record {
  ab = held-near (right + top + 1) k o a b some (omega arith) (omega arith) held.ab;
  bc = held-near (right + top + 1) k o b c some (omega arith) (omega arith) held.bc;
  ca = held-near (right + top + 1) k o c a some (omega arith) (omega arith) held.ca;
}

inside-so : (right top k : ℕ) (a b c o : Point) → 0 < k → IsWithin right top a → IsWithin right top b → IsWithin right top c →
    IsInside (times k a) (times k b) (times k c) o →
    IsInside (times ((right + top + 1) * k) a) (times ((right + top + 1) * k) b) (times ((right + top + 1) * k) c) (near (right + top + 1) o)
inside-so right top k a b c o some wa wb wc inside = record {
  ab = inside-near (right + top + 1) k o a b some (omega arith) (omega arith) inside.ab;
  bc = inside-near (right + top + 1) k o b c some (omega arith) (omega arith) inside.bc;
  ca = inside-near (right + top + 1) k o c a some (omega arith) (omega arith) inside.ca;
}

-- ---- the mesh

near-within : (j k side i : ℕ) → 0 < j → 0 < k → 0 < side → i ≤ k * side → j * i - 1 < j * k * side
near-within j k side i many some wide le =
    let first : j * 0 < j * k = keeps-less j 0 k many some in
    let second : j * k * 0 < j * k * side = keeps-less (j * k) 0 side (omega arith) wide in
    let most : j * i ≤ j * (k * side) = mul-le-mul_left j le in
    omega arith

pub tiles : (right top count : ℕ) (corner : ℕ → Point) (across : ℕ → ℕ) → 0 < right → 0 < top →
    IsPartnered right top count corner across → IsTiling right top count corner
tiles right top count corner across wide high mesh =
    let j : ℕ = right + top + 1 in
    let finer = λ (k : ℕ) (some : 0 < k). scaled-mesh (j * k) right top count corner across
    (let h = keeps-less j 0 k (omega arith) some in omega arith) mesh in
    record {
      covers = λ k some o in_columns in_rows.
          let there = covered (j * k * right) (j * k * top) count (λ i. times (j * k) (corner i)) across (near j o) (finer k some)
          (near-within j k right o.x (omega arith) some wide in_columns) (near-within j k top o.y (omega arith) some high in_rows) in (
            there.0,
            there.1,
            held-so right top k (corner (there.0 * 3)) (corner (there.0 * 3 + 1)) (corner (there.0 * 3 + 2)) o some
                (mesh.within (there.0 * 3) (omega (arith, there.1))) (mesh.within (there.0 * 3 + 1) (omega (arith, there.1))) (mesh.within (there.0 * 3 + 2) (omega (arith, there.1))) there.2,
          );
      apart = λ k some o in_columns in_rows s t hs ht first second.
          apart (j * k * right) (j * k * top) count (λ i. times (j * k) (corner i)) across (near j o) (finer k some)
          (near-within j k right o.x (omega arith) some wide in_columns) (near-within j k top o.y (omega arith) some high in_rows) s t hs ht
          (inside-so right top k (corner (s * 3)) (corner (s * 3 + 1)) (corner (s * 3 + 2)) o some
          (mesh.within (s * 3) (omega arith)) (mesh.within (s * 3 + 1) (omega arith)) (mesh.within (s * 3 + 2) (omega arith)) first)
          (inside-so right top k (corner (t * 3)) (corner (t * 3 + 1)) (corner (t * 3 + 2)) o some
          (mesh.within (t * 3) (omega arith)) (mesh.within (t * 3 + 1) (omega arith)) (mesh.within (t * 3 + 2) (omega arith)) second);
    }

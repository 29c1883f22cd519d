-- Ratios of thickness and distance keep the order of thicknesses and turn that of distances round.
use Rattle.std.proofs.Common.{◌≡◌, ℕ, ◌+◌, ◌*◌, ◌≤◌, refl, arith}
use Rattle.std.proofs.Math.Nat.{mul-le-mul, div-mul-le_self}
use Rattle.std.proofs.lemmas.Nat.{le-div}
use Rattle.mesh_defs.specs.declared.mark.Mark.{Mark}
use Rattle.mesh_defs.specs.declared.mark.Mark.TheVariants.{Inside, Cut, Outside}
use Rattle.mesh_defs.specs.Priority.{ratio_of, seen_ratio}

-- thinner and farther is no more
pub ratio_of-order : (e f c d : ℕ) → e ≤ f → d ≤ c → ratio_of e c ≤ ratio_of f d
ratio_of-order e f c d thinner nearer =
    let q = ratio_of e c in
    let nearer_next : d + 1 ≤ c + 1 = omega arith in
    let same : q ≤ q = omega arith in
    le-div q (65536 * f) (d + 1) (omega arith)
    (omega (arith, div-mul-le_self (65536 * e) (c + 1), mul-le-mul same nearer_next))

-- the same under one mark
pub seen_ratio-order : (mark : Mark) (e f c d : ℕ) → e ≤ f → d ≤ c → seen_ratio mark e c ≤ seen_ratio mark f d
seen_ratio-order Inside e f c d thinner nearer = ratio_of-order e f c d thinner nearer
seen_ratio-order Cut e f c d thinner nearer = ratio_of-order e f c d thinner nearer
seen_ratio-order Outside e f c d thinner nearer = omega arith

-- no mark makes more of a ratio
seen_ratio-high : (mark : Mark) (e c : ℕ) → seen_ratio mark e c ≤ ratio_of e c
seen_ratio-high Inside e c = omega arith
seen_ratio-high Cut e c = omega arith
seen_ratio-high Outside e c = omega arith

-- the same where what is Outside stays so
pub seen_ratio-inherited : (outer inner : Mark) (e f c d : ℕ) → (outer ≡ Outside → inner ≡ Outside) → e ≤ f → d ≤ c →
    seen_ratio inner e c ≤ seen_ratio outer f d
seen_ratio-inherited Inside inner e f c d stays thinner nearer =
    omega (arith, seen_ratio-high inner e c, ratio_of-order e f c d thinner nearer)
seen_ratio-inherited Cut inner e f c d stays thinner nearer =
    omega (arith, seen_ratio-high inner e c, ratio_of-order e f c d thinner nearer)
seen_ratio-inherited Outside inner e f c d stays thinner nearer = rw (stays refl) (omega arith)

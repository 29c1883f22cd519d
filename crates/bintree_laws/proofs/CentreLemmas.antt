-- The midpoint of a base tells the level: how often 2 divides its coordinates. So two splittable triangles
-- with one midpoint are equal or mates.
use Rattle.std.proofs.Common.{◌≡◌, ◌⊎◌, sym, ◌∙◌, ap, ℕ, suc, ◌+◌, ◌-◌, ◌*◌, ◌/◌, ◌%◌, ◌^◌, ◌<◌, ◌≤◌, arith, inl, inr}
use Rattle.std.proofs.Common.{⊎_elim}
use Rattle.std.proofs.Math.Nat.{mul_assoc, mul-add, pow-succ'}
use Rattle.std.proofs.lemmas.Bool.{cases_order}
use Rattle.std.proofs.lemmas.Nat.{pow_pos, pow-add}
use Rattle.mesh_defs.specs.declared.point.Point.{Point}
use Rattle.mesh_defs.specs.declared.point.Corners.{Corners}
use Rattle.mesh_defs.specs.Triangle.{level_of, corners_of, midpoint, IsAddress, IsSplittable, IsMate, HasBorderBase}
use Rattle.bintree_laws.specs.Corners.{HasEvenBase, IsReversed}
use Rattle.bintree_laws.proofs.LatticeLemmas.{lattice, halved-half, step_of, step_of-power, corners_of-lattice}
use Rattle.bintree_laws.proofs.LatticeLemmas.{HasEvenBase-corners_of}
use Rattle.bintree_laws.proofs.UnitLemmas.{frame, IsHalf, IsSomeHalf, IsHalf-frame, SameSum}
use Rattle.bintree_laws.proofs.MateLemmas.{cancel, coordinates, parity, lattice-frame, AllTurned, AllTurned-frame}
use Rattle.bintree_laws.proofs.MateLemmas.{spread, same_sum_cases, IsMate-pair, pair-IsMate, IsReversed-mate}
use Rattle.bintree_laws.proofs.MateLemmas.{border_or_has_pair, no_pair-HasBorderBase}
use Rattle.bintree_laws.proofs.PairLemmas.{pair_unique}
use Rattle.bintree_laws.proofs.LevelLemmas.{level-le}

-- ---- the midpoint as a power of 2 times a point with an odd coordinate

-- how often 2 divides both coordinates of the midpoint of a base at this level
abbrev shift : ℕ → ℕ → ℕ
shift n level = n - 1 - level / 2

-- the midpoint m is 2 ^ k times (p, q), of which one is odd, and both are if the level is even
record IsCentreAt (k level p q : ℕ) (m : Point) : Type 0 where
  x : m.x ≡ 2 ^ k * p
  y : m.y ≡ 2 ^ k * q
  one_odd : (p % 2 ≡ 1) ⊎ (q % 2 ≡ 1)
  kind : (p + q) % 2 ≡ level % 2

abbrev IsCentre : ℕ → ℕ → Point → Type 0
IsCentre k level m = (p : ℕ) × (q : ℕ) × IsCentreAt k level p q m

-- the midpoint at a step of 2 u
even_centre : (u level i j : ℕ) (c : Corners) → level % 2 ≡ 0 → IsHalf i j c →
    ((2 * u * c.v0.x + 2 * u * c.v1.x) / 2 ≡ u * (c.v0.x + c.v1.x)) ×
    ((2 * u * c.v0.y + 2 * u * c.v1.y) / 2 ≡ u * (c.v0.y + c.v1.y)) × ((c.v0.x + c.v1.x) % 2 ≡ 1) ×
    ((c.v0.x + c.v1.x + (c.v0.y + c.v1.y)) % 2 ≡ 0)
even_centre u level i j c even h = let x = h.x.sum in let y = h.y.sum in
    (omega arith, omega arith, omega arith, omega arith)

-- the midpoint at a step of u, where the frame is turned
odd_sums : (k i j : ℕ) (c d : Corners) → AllTurned k c d → IsHalf i j d → ((c.v0.x + c.v1.x) % 2 ≡ 0) ×
    ((c.v0.y + c.v1.y) % 2 ≡ 0) × (((c.v0.x + c.v1.x) / 2 + (c.v0.y + c.v1.y) / 2) % 2 ≡ 1)
odd_sums k i j c d t h =
    let a = t.v0 in let b = t.v1 in let x = h.x.sum in let y = h.y.sum in (omega arith, omega arith, omega arith)

half_multiple : (u p q : ℕ) → (p + q) % 2 ≡ 0 → (u * p + u * q) / 2 ≡ u * ((p + q) / 2)
half_multiple u p q even =
    let half : p + q ≡ 2 * ((p + q) / 2) = omega arith in
    let all : u * p + u * q ≡ 2 * (u * ((p + q) / 2)) = sym (mul-add u p q) ∙ ap (λ k. u * k) half ∙ omega arith in
    omega arith

one_is_odd : (p q : ℕ) → (p + q) % 2 ≡ 1 → (p % 2 ≡ 1) ⊎ (q % 2 ≡ 1)
one_is_odd p q odd = ⊎_elim (λ even. inr (omega arith)) (λ yes. inl yes) (parity p)

IsCentre-corners_of : (n a : ℕ) → level_of a < 2 * n → IsCentre (shift n (level_of a)) (level_of a)
    (midpoint (corners_of n a).v0 (corners_of n a).v1)
IsCentre-corners_of n a coarse =
    let half : IsSomeHalf (frame (level_of a) a) = IsHalf-frame (level_of a) a in
    ⊎_elim
    (λ even.
    let step : step_of n (level_of a) ≡ 2 * 2 ^ shift n (level_of a) = step_of-power n (level_of a)
    (suc (shift n (level_of a))) (omega (arith, halved-half (level_of a))) ∙ pow-succ' 2 (shift n (level_of a)) in
    let same : lattice (level_of a) a ≡ frame (level_of a) a = lattice-frame (level_of a) a even in
    let parts = even_centre (2 ^ shift n (level_of a)) (level_of a) half.0 half.1 (frame (level_of a) a) even half.2 in
    rw (corners_of-lattice n a (omega arith), step, same) (
      (frame (level_of a) a).v0.x + (frame (level_of a) a).v1.x,
      (frame (level_of a) a).v0.y +
          (frame (level_of a) a).v1.y,
      record {
        x = parts.0;
        y = parts.1;
        one_odd = inl parts.2;
        kind = parts.3
            ∙ sym even;
      },
    ))
    (λ odd.
    let step : step_of n (level_of a) ≡ 2 ^ shift n (level_of a) = step_of-power n (level_of a) (shift n (level_of a))
    (omega (arith, halved-half (level_of a))) in
    let sums = odd_sums (spread (level_of a)) half.0 half.1 (lattice (level_of a) a) (frame (level_of a) a)
    (AllTurned-frame (level_of a) a odd) half.2 in
    let p : ℕ = ((lattice (level_of a) a).v0.x + (lattice (level_of a) a).v1.x) / 2 in
    let q : ℕ = ((lattice (level_of a) a).v0.y + (lattice (level_of a) a).v1.y) / 2 in
    rw (corners_of-lattice n a (omega arith), step) (
      p,
      q,
      record {
        x = half_multiple (2 ^ shift n (level_of a)) (lattice (level_of a) a).v0.x
            (lattice (level_of a) a).v1.x sums.0;
        y = half_multiple (2 ^ shift n (level_of a))
            (lattice (level_of a) a).v0.y (lattice (level_of a) a).v1.y sums.1;
        one_odd = one_is_odd p q sums.2;
        kind = sums.2 ∙ sym odd;
      },
    ))
    (parity (level_of a))

-- ---- the power is determined

evened : (k i p r : ℕ) → 2 ^ k * p ≡ 2 ^ (k + suc i) * r → p ≡ 2 * (2 ^ i * r)
evened k i p r e =
    let power : 2 ^ (k + suc i) ≡ 2 ^ k * (2 * 2 ^ i) = pow-add 2 k (suc i) ∙ ap (λ z. 2 ^ k * z) (pow-succ' 2 i) in
    cancel (2 ^ k) p (2 * (2 ^ i * r)) (pow_pos k) (e ∙ ap (λ z. z * r) power ∙ mul_assoc (2 ^ k) (2 * 2 ^ i) r ∙ ap
    (λ z. 2 ^ k * z) (mul_assoc 2 (2 ^ i) r))

not_less : (k j p q r s : ℕ) → k < j → (p % 2 ≡ 1) ⊎ (q % 2 ≡ 1) → 2 ^ k * p ≡ 2 ^ j * r → 2 ^ k * q ≡ 2 ^ j * s → ⊥
not_less k j p q r s less odd x y =
    let more : j ≡ k + suc (j - k - 1) = omega arith in
    let first : p ≡ 2 * (2 ^ (j - k - 1) * r) = evened k (j - k - 1) p r (x ∙ ap (λ z. 2 ^ z * r) more) in
    let second : q ≡ 2 * (2 ^ (j - k - 1) * s) = evened k (j - k - 1) q s (y ∙ ap (λ z. 2 ^ z * s) more) in
    ⊎_elim (λ e. omega arith) (λ e. omega arith) odd

same_power : (k j l m : ℕ) (c : Point) → IsCentre k l c → IsCentre j m c → (k ≡ j) × (l % 2 ≡ m % 2)
same_power k j l m c a b =
    let e = a.2 in let f = b.2 in
    let x : 2 ^ k * a.0 ≡ 2 ^ j * b.0 = sym e.x ∙ f.x in
    let y : 2 ^ k * a.1 ≡ 2 ^ j * b.1 = sym e.y ∙ f.y in
    let power : k ≡ j = ⊎_elim (λ same. same) (⊎_elim (λ less. absurd
    (not_less k j a.0 a.1 b.0 b.1 less e.one_odd x y))
    (λ more. absurd (not_less j k b.0 b.1 a.0 a.1 more f.one_odd (sym x) (sym y)))) (cases_order k j) in
    let first : a.0 ≡ b.0 = cancel (2 ^ k) a.0 b.0 (pow_pos k) (x ∙ ap (λ z. 2 ^ z * b.0) (sym power)) in
    let second : a.1 ≡ b.1 = cancel (2 ^ k) a.1 b.1 (pow_pos k) (y ∙ ap (λ z. 2 ^ z * b.1) (sym power)) in
    (power, sym e.kind ∙ ap (λ z. z % 2) (ap (λ z. z + a.1) first ∙ ap (λ z. b.0 + z) second) ∙ f.kind)

-- ---- two splittable triangles with one midpoint

exact_sums : (c d : Corners) → HasEvenBase c → HasEvenBase d → midpoint c.v0 c.v1 ≡ midpoint d.v0 d.v1 → SameSum c d
exact_sums c d p q same =
    let e = coordinates (midpoint c.v0 c.v1) (midpoint d.v0 d.v1) same in
    let a = p.x in let b = p.y in let f = q.x in let g = q.y in let x = e.0 in let y = e.1 in
    record { x = omega arith; y = omega arith }

-- they are equal or mates
pub same_centre : (n a b : ℕ) → IsSplittable n a → IsSplittable n b → midpoint (corners_of n a).v0
    (corners_of n a).v1 ≡ midpoint (corners_of n b).v0 (corners_of n b).v1 → (b ≡ a) ⊎ IsMate n a b
same_centre n a b p q same =
    let powers : (shift n (level_of a) ≡ shift n (level_of b)) × (level_of a % 2 ≡ level_of b % 2) =
    same_power (shift n (level_of a)) (shift n (level_of b)) (level_of a) (level_of b)
    (midpoint (corners_of n a).v0 (corners_of n a).v1)
    (IsCentre-corners_of n a p.coarse) (rw same (IsCentre-corners_of n b q.coarse)) in
    let level : level_of b ≡ level_of a = (let s = powers.0 in let r = powers.1 in let g = p.coarse in
    let h = q.coarse in omega arith) in
    let sums : SameSum (corners_of n a) (corners_of n b) = exact_sums (corners_of n a) (corners_of n b)
    (HasEvenBase-corners_of n a p.coarse) (HasEvenBase-corners_of n b q.coarse) same in
    let fits : level_of a ≤ 2 * n = (let g = p.coarse in omega arith) in
    ⊎_elim (λ equal. inl equal) (λ pair. inr (IsMate-pair n a b p.low fits pair))
    (same_sum_cases n a b p.low q.low fits level sums)

-- ---- laws of mates

-- a triangle has one mate at most
pub mate_unique : (n a b c : ℕ) → IsAddress n a → IsMate n a b → IsMate n a c → b ≡ c
mate_unique n a b c address p q =
    let fits : level_of a ≤ 2 * n = level-le n a address in
    pair_unique (level_of a) a b c (pair-IsMate n a b address.low fits p) (pair-IsMate n a c address.low fits q)

-- a triangle is the mate of its mate
pub mate_symmetric : (n a b : ℕ) → IsAddress n a → IsMate n a b → IsMate n b a
mate_symmetric n a b address mate =
    record {
      address = address;
      other = (λ e. mate.other (sym e));
      level = sym mate.level;
      base = ⊎_elim (λ e. inl (sym e.0, sym e.1)) (λ e. inr (sym e.1, sym e.0)) mate.base;
    }

-- a triangle has its base on the border or has a mate
pub border_or_mate : (n a : ℕ) → IsAddress n a → HasBorderBase n a ⊎ ((b : ℕ) × IsMate n a b)
border_or_mate n a address =
    let fits : level_of a ≤ 2 * n = level-le n a address in
    ⊎_elim (λ border. inl border) (λ pair. inr (pair.0, IsMate-pair n a pair.0 address.low fits pair.1))
    (border_or_has_pair n a address.low fits)

-- and not both
pub not_border_and_mate : (n a b : ℕ) → IsAddress n a → HasBorderBase n a → IsMate n a b → ⊥
not_border_and_mate n a b address border mate =
    let fits : level_of a ≤ 2 * n = level-le n a address in no_pair-HasBorderBase n a b fits border
    (pair-IsMate n a b address.low fits mate)

-- the bases of a triangle and its mate are reversed
pub mate_reversed : (n a b : ℕ) → IsAddress n a → IsMate n a b → IsReversed (corners_of n a) (corners_of n b)
mate_reversed n a b address mate = IsReversed-mate n a b address.low (level-le n a address) mate

-- all laws of mates
pub ruleset mate_facts = (same_centre, mate_unique, mate_symmetric, border_or_mate, not_border_and_mate, mate_reversed)

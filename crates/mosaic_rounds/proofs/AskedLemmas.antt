-- What is asked of a tile across a side, by bits.
use Rattle.std.proofs.Common.{◌≡◌, ◌⊎◌, ◌↔◌, ℕ, zero, suc, ◌+◌, ◌*◌, ◌%◌, ◌^◌, ◌<◌, ◌≤◌, Bool, true, false, IsTrue}
use Rattle.std.proofs.Common.{List, [], ◌∷◌, length, take, set, get_or, ◌||◌, eqb, eq-eqb, refl, sym, ◌∙◌, ap, subst}
use Rattle.std.proofs.Common.{arith, ⊎_elim, inl, inr}
use Rattle.std.specs.Cmp.{IsEquivalence}
use Rattle.std.specs.List.{IsDistinct, list_any}
use Rattle.std.proofs.Common.{nat_eq}
use Rattle.std.proofs.Math.Seq.{take-suc-set}
use Rattle.std.proofs.lemmas.Bool.{both_ways, cases_eq, or_cases, or_left, or_right, or_from, eqb-true, ne_eqb}
use Rattle.std.proofs.lemmas.Map.Keys.{IsDistinct-push}
use Rattle.mesh_defs.specs.declared.point.Point.{Point}
use Rattle.mesh_defs.specs.ClosedSet.{among}
use Rattle.mosaic_laws.specs.Tile.{IsTile}
use Rattle.mosaic_rounds.specs.declared.shape.Shape.{Shape}
use Rattle.mosaic_rounds.specs.Border.{is_border, side_of, place_of}
use Rattle.mosaic_rounds.specs.Bits.{has_bit, splits_at}
use Rattle.mosaic_rounds.specs.Side.{IsNeighbour}
use Rattle.mosaic_rounds.specs.Shape.{first_of}
use Rattle.mosaic_rounds.specs.Across.{IsAcross, LacksAcross, IsAskedBy}
use Rattle.mosaic_rounds.proofs.BorderLemmas.{border-found, border-coarse, border-small, border-some, border-same}
use Rattle.mosaic_rounds.proofs.SplitLemmas.{splits-border, two-off}
use Rattle.mosaic_rounds.proofs.ShapeLemmas.{neighbour-one}

module _ (s : Shape) (words : List ℕ) (t : Point) (side : ℕ) where
  -- the tile's own bit of such a triangle
  pub across-here : (a : ℕ) → IsAcross s words t side a →
      splits_at s.n words (first_of s t) a ≡ has_bit words (first_of s t + (side * 2 ^ s.n + place_of a))
  across-here a is =
      let same : side_of a * 2 ^ s.n + place_of a ≡ side * 2 ^ s.n + place_of a =
      ap (λ k. k * 2 ^ s.n + place_of a) is.side in
      splits-border s.n words (first_of s t) a is.coarse is.border ∙ ap (λ k. has_bit words (first_of s t + k)) same

  -- its place is one of the side
  pub across-place : (a : ℕ) → IsAcross s words t side a → (1 ≤ place_of a) × (place_of a < 2 ^ s.n)
  across-place a is = (border-some a is.low is.border, border-small s.n a is.low is.border is.coarse)

  -- nothing is asked for where no tile lies
  pub across-nowhere : ((u : Point) → IsTile s.columns s.rows u → IsNeighbour side t u → ⊥) → (a : ℕ) →
      IsAcross s words t side a → ⊥
  across-nowhere none a is = none is.other is.tile is.beyond

  module _ (u : Point) (tile : IsTile s.columns s.rows u) (beyond : IsNeighbour side t u) where
    -- a bit of the tile beyond asks for the triangle at its place
    pub across-from : (a p : ℕ) → 4 ≤ a → IsTrue (is_border a) → side_of a ≡ side → place_of a ≡ p → p < 2 ^ s.n →
        has_bit words (first_of s u + ((side + 2) % 4 * 2 ^ s.n + p)) ≡ true → IsAcross s words t side a
    across-from a p big is at_side at_place less there = record {
      low = omega arith;
      coarse = border-coarse s.n a (omega arith) is (omega arith);
      border = is;
      side = at_side;
      other = u;
      tile = tile;
      beyond = beyond;
      there = ap (λ k. has_bit words (first_of s u + ((side + 2) % 4 * 2 ^ s.n + k))) at_place ∙ there;
    }

    -- and no other
    pub across-to : (a : ℕ) → IsAcross s words t side a →
        has_bit words (first_of s u + ((side + 2) % 4 * 2 ^ s.n + place_of a)) ≡ true
    across-to a is =
        let one : is.other ≡ u = neighbour-one side t is.other u is.beyond beyond in
        subst (λ v. has_bit words (first_of s v + ((side + 2) % 4 * 2 ^ s.n + place_of a)) ≡ true) one is.there

    -- the tile lacks what the other has at a place where it has nothing
    pub lacks-yes : side < 4 → (p : ℕ) → 1 ≤ p → p < 2 ^ s.n →
        has_bit words (first_of s u + ((side + 2) % 4 * 2 ^ s.n + p)) ≡ true →
        has_bit words (first_of s t + (side * 2 ^ s.n + p)) ≡ false → LacksAcross s words t side
    lacks-yes small p some less there here =
        let a = border-found side p small some in
        let is = across-from a.0 p a.1 a.2 a.3 a.4 less there in (
          a.0,
          is,
          across-here a.0 is ∙ ap (λ k. has_bit words (first_of s t + (side * 2 ^ s.n + k))) a.4 ∙ here,
        )

    -- and where it lacks something, it does at a place
    pub lacks-at : LacksAcross s words t side → (p : ℕ) × (1 ≤ p) × (p < 2 ^ s.n)
        × (has_bit words (first_of s u + ((side + 2) % 4 * 2 ^ s.n + p)) ≡ true)
        × (has_bit words (first_of s t + (side * 2 ^ s.n + p)) ≡ false)
    lacks-at (a, is, off) =
        let place = across-place a is in (
          place_of a,
          place.0,
          place.1,
          across-to a is,
          sym (across-here a is) ∙ off,
        )

-- one triangle more in a list
pub among-more : (next x a : ℕ) (list : List ℕ) → next < length list →
    among (take (suc next) (set list next x)) a ≡ (among (take next list) a || eqb x a)
among-more next x a [] room = absurd (omega arith)
among-more zero x a (y ∷ ys) room = last (eqb x a)
  where
    last : (b : Bool) → (b || false) ≡ b
    last true = refl
    last false = refl
among-more (suc next) x a (y ∷ ys) room =
    ap (λ b. eqb y a || b) (among-more next x a ys (omega arith))
    ∙ assoc (eqb y a) (among (take next ys) a) (eqb x a)
  where
    assoc : (p q r : Bool) → (p || (q || r)) ≡ ((p || q) || r)
    assoc true q r = refl
    assoc false q r = refl

-- what a list has of a side up to a place
abbrev pub IsToldTo : Shape → List ℕ → Point → ℕ → (ℕ → Bool) → ℕ → (ℕ → Bool) → Type 0
IsToldTo s words t side before place now =
    (a : ℕ) → IsTrue (now a) ↔ (IsTrue (before a) ⊎ (IsAcross s words t side a × (place_of a < place)))

module _ (s : Shape) (words : List ℕ) (t : Point) (side : ℕ) (u : Point) (tile : IsTile s.columns s.rows u)
    (beyond : IsNeighbour side t u) (before now next : ℕ → Bool) (place : ℕ)
    (told : IsToldTo s words t side before place now) where
  -- the bit at the next place is set
  pub told-set : (x : ℕ) → 4 ≤ x → IsTrue (is_border x) → side_of x ≡ side → place_of x ≡ place → place < 2 ^ s.n →
      has_bit words (first_of s u + ((side + 2) % 4 * 2 ^ s.n + place)) ≡ true →
      ((a : ℕ) → next a ≡ (now a || eqb x a)) → IsToldTo s words t side before (place + 1) next
  told-set x big is at_side at_place less there more a = (
    (λ h. ⊎_elim
        (λ old. ⊎_elim (λ first. inl first) (λ (p : IsAcross s words t side a × (place_of a < place)).
        inr (p.0, (let q = p.1 in omega arith))) ((told a).0 old))
        (λ fresh. let same : x ≡ a = eqb-true x a fresh in
        inr (subst (λ k. IsAcross s words t side k × (place_of k < place + 1)) same
        (across-from s words t side u tile beyond x place big is at_side at_place less there, (omega arith))))
        (or_cases (now a) (eqb x a) (sym (more a) ∙ h))),
    (λ h. more a ∙ ⊎_elim
        (λ first. or_left (now a) (eqb x a) ((told a).1 (inl first)))
        (λ (p : IsAcross s words t side a × (place_of a < place + 1)). ⊎_elim
        (λ (same : place_of a ≡ place). or_right (now a) (eqb x a) (eq-eqb x a
        (border-same x a (omega arith) p.0.low is p.0.border (at_side ∙ sym p.0.side) (at_place ∙ sym same))))
        (λ (other : place_of a ≡ place → ⊥). let q = p.1 in
        or_left (now a) (eqb x a) ((told a).1 (inr (p.0, omega arith))))
        (cases_eq (place_of a) place))
        h),
  )

  -- or it is not
  pub told-unset : has_bit words (first_of s u + ((side + 2) % 4 * 2 ^ s.n + place)) ≡ false →
      IsToldTo s words t side before (place + 1) now
  told-unset off a = (
    (λ h. ⊎_elim (λ first. inl first) (λ (p : IsAcross s words t side a × (place_of a < place)).
        inr (p.0, (let q = p.1 in omega arith))) ((told a).0 h)),
    (λ h. ⊎_elim
        (λ first. (told a).1 (inl first))
        (λ (p : IsAcross s words t side a × (place_of a < place + 1)). ⊎_elim
        (λ (same : place_of a ≡ place).
        absurd (both_ways (has_bit words (first_of s u + ((side + 2) % 4 * 2 ^ s.n + place))) off
        (sym (ap (λ k. has_bit words (first_of s u + ((side + 2) % 4 * 2 ^ s.n + k))) same)
        ∙ across-to s words t side u tile beyond a p.0)))
        (λ (other : place_of a ≡ place → ⊥). let q = p.1 in (told a).1 (inr (p.0, omega arith)))
        (cases_eq (place_of a) place))
        h),
  )

-- a list without repetitions that has nothing of the side yet has none once the side is told
abbrev pub IsApart : Shape → List ℕ → Point → ℕ → List ℕ → List ℕ → Type 0
IsApart s words t side before now =
    ((a : ℕ) → IsTrue (among before a) → IsAcross s words t side a → ⊥) →
    IsDistinct nat_eq before → IsDistinct nat_eq now

same-number : IsEquivalence nat_eq
same-number = record {
  refl = λ x. eq-eqb x x refl;
  symm = λ x y. flipped x y;
  congr = λ x y z e. ap (λ k. eqb k z) (eqb-true x y e);
}
  where
    flipped : (x y : ℕ) → eqb x y ≡ eqb y x
    flipped x y = ⊎_elim
        (λ (is : x ≡ y). eq-eqb x y is ∙ sym (eq-eqb y x (sym is)))
        (λ (no : x ≡ y → ⊥). ne_eqb x y no ∙ sym (ne_eqb y x (λ e. no (sym e))))
        (cases_eq x y)

-- who is not among the entries is equal to none
none-among : (x : ℕ) (xs : List ℕ) → (IsTrue (among xs x) → ⊥) → list_any (nat_eq x) xs ≡ false
none-among x [] out = refl
none-among x (y ∷ ys) out = or_from (eqb x y) (list_any (nat_eq x) ys)
    (ne_eqb x y (λ e. out (or_left (eqb y x) (among ys x) (eq-eqb y x (sym e)))))
    (none-among x ys (λ h. out (or_right (eqb y x) (among ys x) h)))

-- one triangle more at the next place
pub apart-more : (s : Shape) (words : List ℕ) (t : Point) (side place next x : ℕ) (before list : List ℕ) →
    next < length list → IsToldTo s words t side (among before) place (among (take next list)) →
    IsAcross s words t side x → place_of x ≡ place → IsApart s words t side before (take next list) →
    IsApart s words t side before (take (suc next) (set list next x))
apart-more s words t side place next x before list room told is at_place old apart distinct =
    subst (IsDistinct nat_eq) (sym (take-suc-set list next x room))
    (IsDistinct-push same-number (take next list) x (old apart distinct) (none-among x (take next list)
    (λ h. ⊎_elim
    (λ first. apart x first is)
    (λ (p : IsAcross s words t side x × (place_of x < place)). let less = p.1 in omega arith)
    ((told x).0 h))))

-- at the end of the side the list has all
pub told-all : (s : Shape) (words : List ℕ) (t : Point) (side place : ℕ) (before now : ℕ → Bool) → 2 ^ s.n ≤ place →
    IsToldTo s words t side before place now → (a : ℕ) →
    IsTrue (now a) ↔ (IsTrue (before a) ⊎ IsAcross s words t side a)
told-all s words t side place before now end told a = (
  (λ h. ⊎_elim (λ first. inl first) (λ (p : IsAcross s words t side a × (place_of a < place)). inr p.0) ((told a).0 h)),
  (λ h. (told a).1 (⊎_elim (λ first. inl first)
      (λ is. let p = across-place s words t side a is in let q = p.1 in inr (is, (omega arith))) h)),
)

-- one side more
pub asked-more : (s : Shape) (words : List ℕ) (t : Point) (side : ℕ) (before now : ℕ → Bool) →
    ((a : ℕ) → IsTrue (before a) ↔ IsAskedBy s words t side a) →
    ((a : ℕ) → IsTrue (now a) ↔ (IsTrue (before a) ⊎ IsAcross s words t side a)) →
    (a : ℕ) → IsTrue (now a) ↔ IsAskedBy s words t (side + 1) a
asked-more s words t side before now old more a = (
  (λ h. ⊎_elim
      (λ first. ⊎_elim (λ two. inl two)
      (λ (p : (k : ℕ) × (k < side) × IsAcross s words t k a). inr (p.0, (let q = p.1 in omega arith), p.2))
      ((old a).0 first))
      (λ is. inr (side, omega arith, is))
      ((more a).0 h)),
  (λ h. (more a).1 (⊎_elim
      (λ two. inl ((old a).1 (inl two)))
      (λ (p : (k : ℕ) × (k < side + 1) × IsAcross s words t k a). ⊎_elim
      (λ (same : p.0 ≡ side). inr (subst (λ k. IsAcross s words t k a) same p.2))
      (λ (other : p.0 ≡ side → ⊥). let q = p.1 in inl ((old a).1 (inr (p.0, omega arith, p.2))))
      (cases_eq p.0 side))
      h)),
)

-- 2 is on no side, and no triangle is on two
pub asked-apart : (s : Shape) (words : List ℕ) (t : Point) (side a : ℕ) → IsAskedBy s words t side a →
    IsAcross s words t side a → ⊥
asked-apart s words t side a (inl two) is =
    both_ways (is_border 2) two-off (subst (λ k. IsTrue (is_border k)) two is.border)
asked-apart s words t side a (inr h) is =
    let less = h.1 in
    let one = h.2.side in
    let other = is.side in omega arith

-- each entry of a list is among its entries
pub among-entry : (list : List ℕ) (k d : ℕ) → k < length list → IsTrue (among list (get_or list k d))
among-entry [] k d less = absurd (omega arith)
among-entry (y ∷ ys) zero d less = or_left (eqb y y) (among ys y) (eq-eqb y y refl)
among-entry (y ∷ ys) (suc k) d less =
    or_right (eqb y (get_or ys k d)) (among ys (get_or ys k d)) (among-entry ys k d (omega arith))

-- Triangles with their base on a side, by corners: their sides, and their mirror images beyond.
use Rattle.std.proofs.Common.{◌≡◌, ◌⊎◌, ℕ, zero, suc, ◌+◌, ◌-◌, ◌*◌, ◌/◌, ◌%◌, ◌^◌, ◌<◌, ◌≤◌, IsTrue, refl, sym, ◌∙◌}
use Rattle.std.proofs.Common.{ap, subst}
use Rattle.std.proofs.Common.{arith, ⊎_elim, inl, inr, pow_pos}
use Rattle.std.proofs.lemmas.Bool.{cases_lt, cases_eq}
use Rattle.mesh_defs.specs.declared.point.Point.{Point}
use Rattle.mesh_defs.specs.declared.point.Corners.{Corners}
use Rattle.mesh_defs.specs.Triangle.{level_of, corners_of, child, IsAddress, HasBorderBase}
use Rattle.bintree_laws.specs.Pair.{IsPair}
use Rattle.bintree_laws.proofs.LevelLemmas.{level-le}
use Rattle.bintree_laws.proofs.CornerLemmas.{corners_of-2, corners_of-3, corners_of-left, corners_of-right}
use Rattle.bintree_laws.proofs.LatticeLemmas.{same_point}
use Rattle.bintree_laws.proofs.PairLemmas.{IsPair-root, IsPair-inner_first, IsPair-inner_last, IsPair-outer}
use Rattle.bintree_laws.proofs.MateLemmas.{no_pair-HasBorderBase}
use Rattle.mesh_laws.proofs.OrientationLemmas.{apart}
use Rattle.mosaic_laws.specs.Mirror.{mirror_quarter, mirrored, IsBeyond}
use Rattle.mosaic_laws.proofs.MirrorLemmas.{mirrored-left, mirrored-right, mirrored-quarter, mirrored-big}
use Rattle.mosaic_rounds.specs.Border.{backward, is_border, side_of, place_of}
use Rattle.mosaic_rounds.specs.Side.{IsNeighbour}
use Rattle.mosaic_rounds.proofs.BorderLemmas.{border-first, side-first, place-first, border-parts, border-from}
use Rattle.mosaic_rounds.proofs.BorderLemmas.{side-deep}
use Rattle.mosaic_rounds.proofs.BorderLemmas.{border-big, border-placed, border-half, border-second, border-third}
use Rattle.mosaic_rounds.proofs.BorderLemmas.{IsHalf}
use Rattle.mosaic_rounds.proofs.SplitLemmas.{border-low}

-- both ends of the base lie on this side of the square of side m
abbrev pub AreOnSide : ℕ → ℕ → Corners → Type 0
AreOnSide zero m c = (c.v0.y ≡ 0) × (c.v1.y ≡ 0)
AreOnSide (suc zero) m c = (c.v0.x ≡ 0) × (c.v1.x ≡ 0)
AreOnSide (suc (suc zero)) m c = (c.v0.y ≡ m) × (c.v1.y ≡ m)
AreOnSide (suc (suc (suc _))) m c = (c.v0.x ≡ m) × (c.v1.x ≡ m)

-- the halves of a base lie where it lies
half-second : (side m : ℕ) (c : Corners) → AreOnSide side m c → AreOnSide side m (child 1 (child 0 c))
half-second zero m c h = (h.0, (let a = h.0 in let b = h.1 in omega arith))
half-second (suc zero) m c h = (h.0, (let a = h.0 in let b = h.1 in omega arith))
half-second (suc (suc zero)) m c h = (h.0, (let a = h.0 in let b = h.1 in omega arith))
half-second (suc (suc (suc _))) m c h = (h.0, (let a = h.0 in let b = h.1 in omega arith))

half-third : (side m : ℕ) (c : Corners) → AreOnSide side m c → AreOnSide side m (child 0 (child 1 c))
half-third zero m c h = ((let a = h.0 in let b = h.1 in omega arith), h.1)
half-third (suc zero) m c h = ((let a = h.0 in let b = h.1 in omega arith), h.1)
half-third (suc (suc zero)) m c h = ((let a = h.0 in let b = h.1 in omega arith), h.1)
half-third (suc (suc (suc _))) m c h = ((let a = h.0 in let b = h.1 in omega arith), h.1)

-- the four quarters
on-quarter : (n k : ℕ) → k < 4 → AreOnSide k (2 ^ n) (corners_of n (4 + k))
on-quarter n zero less =
    subst (AreOnSide 0 (2 ^ n)) (sym (corners_of-left n 2 (omega arith) ∙ ap (child 0) (corners_of-2 n))) (refl, refl)
on-quarter n (suc zero) less =
    subst (AreOnSide 1 (2 ^ n)) (sym (corners_of-right n 2 (omega arith) ∙ ap (child 1) (corners_of-2 n))) (refl, refl)
on-quarter n (suc (suc zero)) less =
    subst (AreOnSide 2 (2 ^ n)) (sym (corners_of-left n 3 (omega arith) ∙ ap (child 0) (corners_of-3 n))) (refl, refl)
on-quarter n (suc (suc (suc zero))) less =
    subst (AreOnSide 3 (2 ^ n)) (sym (corners_of-right n 3 (omega arith) ∙ ap (child 1) (corners_of-3 n))) (refl, refl)
on-quarter n (suc (suc (suc (suc k)))) less = absurd (omega (arith, less))

-- such a triangle is the second or the third grandchild of another
two_ways : (a : ℕ) → (a % 4 ≡ 1) ⊎ (a % 4 ≡ 2) → (a ≡ 2 * (2 * (a / 4)) + 1) ⊎ (a ≡ 2 * (2 * (a / 4) + 1))
two_ways a (inl h) = inl (omega arith)
two_ways a (inr h) = inr (omega arith)

-- a triangle on a side by its address is there by its corners
pub on-side : (n a : ℕ) → IsTrue (is_border a) → AreOnSide (side_of a) (2 ^ n) (corners_of n a)
on-side n a is = at (suc a) a (omega arith) is
  where
    at : (fuel a : ℕ) → a < fuel → IsTrue (is_border a) → AreOnSide (side_of a) (2 ^ n) (corners_of n a)
    at zero a enough is = absurd (omega arith)
    at (suc fuel) a enough is =
        let big = border-big a (border-low a is) is in ⊎_elim
        (λ (small : a < 8).
        let side : side_of a ≡ a % 4 = side-first a big small in
        let whole : 4 + a % 4 ≡ a = omega arith in
        subst (λ k. AreOnSide k (2 ^ n) (corners_of n a)) (sym side)
        (subst (λ k. AreOnSide (a % 4) (2 ^ n) (corners_of n k)) whole (on-quarter n (a % 4) (omega arith))))
        (λ (deep : 8 ≤ a).
        let parts = border-parts a deep is in
        let above : AreOnSide (side_of (a / 4)) (2 ^ n) (corners_of n (a / 4)) = at fuel (a / 4)
        (omega arith) parts.1 in
        subst (λ k. AreOnSide k (2 ^ n) (corners_of n a)) (sym (side-deep a deep)) (⊎_elim
        (λ (second : a ≡ 2 * (2 * (a / 4)) + 1).
        subst (AreOnSide (side_of (a / 4)) (2 ^ n))
        (sym (ap (corners_of n) second ∙ corners_of-right n (2 * (a / 4)) (omega arith)
        ∙ ap (child 1) (corners_of-left n (a / 4) (omega arith))))
        (half-second (side_of (a / 4)) (2 ^ n) (corners_of n (a / 4)) above))
        (λ (third : a ≡ 2 * (2 * (a / 4) + 1)).
        subst (AreOnSide (side_of (a / 4)) (2 ^ n))
        (sym (ap (corners_of n) third ∙ corners_of-left n (2 * (a / 4) + 1) (omega arith)
        ∙ ap (child 0) (corners_of-right n (a / 4) (omega arith))))
        (half-third (side_of (a / 4)) (2 ^ n) (corners_of n (a / 4)) above))
        (two_ways a parts.0)))
        (cases_lt a 8)

-- a triangle in no pair is on a side
border-none : (fuel a : ℕ) → a < fuel → 2 ≤ a → ((b : ℕ) → IsPair (level_of a) a b → ⊥) → IsTrue (is_border a)
border-none zero a enough low none = absurd (omega arith)
border-none (suc fuel) a enough low none = ⊎_elim
    (λ (root : a < 4). absurd (none (5 - a) (IsPair-root a low root)))
    (λ (big : 4 ≤ a). ⊎_elim
    (λ (small : a < 8). border-first a big small)
    (λ (deep : 8 ≤ a). ⊎_elim
    (λ (first : a % 4 ≡ 0). absurd (none (a + 3) (IsPair-inner_first a deep first)))
    (λ (not_first : a % 4 ≡ 0 → ⊥). ⊎_elim
    (λ (last : a % 4 ≡ 3). absurd (none (a - 3) (IsPair-inner_last a deep last)))
    (λ (not_last : a % 4 ≡ 3 → ⊥).
    border-from a deep (either (a % 4) (omega arith) not_first not_last)
    (border-none fuel (a / 4) (omega arith) (omega arith)
    (λ b pair. none (4 * b + 3 - a % 4) (IsPair-outer a b deep not_first not_last pair))))
    (cases_eq (a % 4) 3))
    (cases_eq (a % 4) 0))
    (cases_lt a 8))
    (cases_lt a 4)
  where
    either : (last : ℕ) → last < 4 → (last ≡ 0 → ⊥) → (last ≡ 3 → ⊥) → (last ≡ 1) ⊎ (last ≡ 2)
    either last small first three = ⊎_elim (λ e. inl e) (λ other. inr (omega arith)) (cases_eq last 1)

-- so a triangle with its base on the border is on a side by its address
pub border-address : (n a : ℕ) → IsAddress n a → HasBorderBase n a → IsTrue (is_border a)
border-address n a address border =
    border-none (suc a) a (omega arith) address.low
    (λ b pair. no_pair-HasBorderBase n a b (level-le n a address) border pair)

-- and the other way round
pub border-base : (n a : ℕ) → IsTrue (is_border a) → HasBorderBase n a
border-base n a is = at (side_of a) (border-placed a (border-low a is) is).side (on-side n a is)
  where
    at : (side : ℕ) → side < 4 → AreOnSide side (2 ^ n) (corners_of n a) → HasBorderBase n a
    at zero less h = inr (inr (inl (h.0, h.1)))
    at (suc zero) less h = inl (h.0, h.1)
    at (suc (suc zero)) less h = inr (inr (inr (h.0, h.1)))
    at (suc (suc (suc zero))) less h = inr (inl (h.0, h.1))
    at (suc (suc (suc (suc k)))) less h = absurd (omega (arith, less))

-- two sides have no base in common
two_sides : (n k : ℕ) (c : Corners) → 1 ≤ 2 ^ n → (c.v0 ≡ c.v1 → ⊥) → (j : ℕ) → k < 4 → j < 4 → AreOnSide k (2 ^ n) c →
    AreOnSide j (2 ^ n) c → k ≡ j
two_sides n zero c some differ zero less less' h g = refl
two_sides n zero c some differ (suc zero) less less' h g =
    absurd (differ (same_point c.v0.x c.v0.y c.v1.x c.v1.y (g.0 ∙ sym g.1) (h.0 ∙ sym h.1)))
two_sides n zero c some differ (suc (suc zero)) less less' h g =
    let p = h.0 in let q = g.0 in absurd (omega (arith, p, q, some))
two_sides n zero c some differ (suc (suc (suc zero))) less less' h g =
    absurd (differ (same_point c.v0.x c.v0.y c.v1.x c.v1.y (g.0 ∙ sym g.1) (h.0 ∙ sym h.1)))
two_sides n (suc zero) c some differ zero less less' h g =
    absurd (differ (same_point c.v0.x c.v0.y c.v1.x c.v1.y (h.0 ∙ sym h.1) (g.0 ∙ sym g.1)))
two_sides n (suc zero) c some differ (suc zero) less less' h g = refl
two_sides n (suc zero) c some differ (suc (suc zero)) less less' h g =
    absurd (differ (same_point c.v0.x c.v0.y c.v1.x c.v1.y (h.0 ∙ sym h.1) (g.0 ∙ sym g.1)))
two_sides n (suc zero) c some differ (suc (suc (suc zero))) less less' h g =
    let p = h.0 in let q = g.0 in absurd (omega (arith, p, q, some))
two_sides n (suc (suc zero)) c some differ zero less less' h g =
    let p = h.0 in let q = g.0 in absurd (omega (arith, p, q, some))
two_sides n (suc (suc zero)) c some differ (suc zero) less less' h g =
    absurd (differ (same_point c.v0.x c.v0.y c.v1.x c.v1.y (g.0 ∙ sym g.1) (h.0 ∙ sym h.1)))
two_sides n (suc (suc zero)) c some differ (suc (suc zero)) less less' h g = refl
two_sides n (suc (suc zero)) c some differ (suc (suc (suc zero))) less less' h g =
    absurd (differ (same_point c.v0.x c.v0.y c.v1.x c.v1.y (g.0 ∙ sym g.1) (h.0 ∙ sym h.1)))
two_sides n (suc (suc (suc zero))) c some differ zero less less' h g =
    absurd (differ (same_point c.v0.x c.v0.y c.v1.x c.v1.y (h.0 ∙ sym h.1) (g.0 ∙ sym g.1)))
two_sides n (suc (suc (suc zero))) c some differ (suc zero) less less' h g =
    let p = h.0 in let q = g.0 in absurd (omega (arith, p, q, some))
two_sides n (suc (suc (suc zero))) c some differ (suc (suc zero)) less less' h g =
    absurd (differ (same_point c.v0.x c.v0.y c.v1.x c.v1.y (h.0 ∙ sym h.1) (g.0 ∙ sym g.1)))
two_sides n (suc (suc (suc zero))) c some differ (suc (suc (suc zero))) less less' h g = refl
two_sides n (suc (suc (suc (suc k)))) c some differ j less less' h g = absurd (omega (arith, less))
two_sides n k c some differ (suc (suc (suc (suc j)))) less less' h g = absurd (omega (arith, less'))

-- the way in which a side's triangles are mirrored into the tile beyond: up and down at the lower and the upper side
abbrev pub way_of : ℕ → ℕ
way_of side = (side + 1) % 2

-- what lies beyond, by side
pub record IsBeyondSide (n : ℕ) (t u : Point) (a c : ℕ) : Type 0 where
  pub border : IsTrue (is_border a)
  pub neighbour : IsNeighbour (side_of a) t u
  pub image : c ≡ mirrored (way_of (side_of a)) a

module _ (n : ℕ) (t u : Point) (a c : ℕ) (address : IsAddress n a) where
  by_side : (side : ℕ) → side < 4 → AreOnSide side (2 ^ n) (corners_of n a) → HasBorderBase n a → IsNeighbour side t u →
      c ≡ mirrored (way_of side) a → IsBeyondSide n t u a c
  by_side side less there border neighbour image =
      let is = border-address n a address border in
      let small = (border-placed a address.low is).side in
      let same : side ≡ side_of a =
      two_sides n side (corners_of n a) (pow_pos n) ((apart n a address).1) (side_of a) less small there
      (on-side n a is) in record {
        border = is;
        neighbour = subst (λ k. IsNeighbour k t u) same neighbour;
        image = image ∙ ap (λ k. mirrored (way_of k) a) same;
      }

  pub beyond-side : IsBeyond n t u a c → IsBeyondSide n t u a c
  beyond-side (inl h) = by_side 1 (omega arith) (h.0, h.1) (inl (h.0, h.1)) (h.2, h.3) h.4
  beyond-side (inr (inl h)) = by_side 3 (omega arith) (h.0, h.1) (inr (inl (h.0, h.1))) (h.2, h.3) h.4
  beyond-side (inr (inr (inl h))) =
      by_side 0 (omega arith) (h.0, h.1) (inr (inr (inl (h.0, h.1)))) (h.2, h.3) h.4
  beyond-side (inr (inr (inr h))) =
      by_side 2 (omega arith) (h.0, h.1) (inr (inr (inr (h.0, h.1)))) (h.2, h.3) h.4

-- and back
pub side-beyond : (n : ℕ) (t u : Point) (a : ℕ) → IsTrue (is_border a) → IsNeighbour (side_of a) t u →
    IsBeyond n t u a (mirrored (way_of (side_of a)) a)
side-beyond n t u a is neighbour =
    at (side_of a) (border-placed a (border-low a is) is).side (on-side n a is) neighbour
  where
    at : (side : ℕ) → side < 4 → AreOnSide side (2 ^ n) (corners_of n a) → IsNeighbour side t u →
        IsBeyond n t u a (mirrored (way_of side) a)
    at zero less h b = inr (inr (inl (h.0, h.1, b.0, b.1, refl)))
    at (suc zero) less h b = inl (h.0, h.1, b.0, b.1, refl)
    at (suc (suc zero)) less h b = inr (inr (inr (h.0, h.1, b.0, b.1, refl)))
    at (suc (suc (suc zero))) less h b = inr (inl (h.0, h.1, b.0, b.1, refl))
    at (suc (suc (suc (suc k)))) less h b = absurd (omega (arith, less))

-- the mirror image is at the same place of the facing side
pub record IsFacing (a c : ℕ) : Type 0 where
  pub border : IsTrue (is_border c)
  pub side : side_of c ≡ (side_of a + 2) % 4
  pub place : place_of c ≡ place_of a

facing-first : (k : ℕ) → k < 4 → mirror_quarter (way_of k) k ≡ (k + 2) % 4
facing-first zero less = refl
facing-first (suc zero) less = refl
facing-first (suc (suc zero)) less = refl
facing-first (suc (suc (suc zero))) less = refl
facing-first (suc (suc (suc (suc k)))) less = absurd (omega (arith, less))

facing-back : (k : ℕ) → k < 4 → backward ((k + 2) % 4) + backward k ≡ 1
facing-back zero less = refl
facing-back (suc zero) less = refl
facing-back (suc (suc zero)) less = refl
facing-back (suc (suc (suc zero))) less = refl
facing-back (suc (suc (suc (suc k)))) less = absurd (omega (arith, less))

facing-half : (last last' f g : ℕ) → f + g ≡ 1 → last + last' ≡ 3 → (last ≡ 1) ⊎ (last ≡ 2) →
    (last' + 1 + f) % 2 ≡ (last + 1 + g) % 2
facing-half last last' zero g e s (inl h) = omega arith
facing-half last last' zero g e s (inr h) = omega arith
facing-half last last' (suc f) g e s (inl h) = omega arith
facing-half last last' (suc f) g e s (inr h) = omega arith

-- so is the second grandchild of a triangle the third one of its image, and the third the second
facing-deep : (a b c d last last' : ℕ) → IsHalf a b last → IsHalf c d last' → side_of b < 4 → last + last' ≡ 3 →
    (last ≡ 1) ⊎ (last ≡ 2) → IsFacing b d → IsFacing a c
facing-deep a b c d last last' h k small sum which f = record {
  border = k.border;
  side = k.side ∙ f.side ∙ ap (λ j. (j + 2) % 4) (sym h.side);
  place =
      let e : backward (side_of d) + backward (side_of b) ≡ 1 =
      ap (λ j. backward j + backward (side_of b)) f.side ∙ facing-back (side_of b) small in
      let bits = facing-half last last' (backward (side_of d)) (backward (side_of b)) e sum which in
      let place_a = h.place in
      let place_c = k.place in
      let above = f.place in omega arith;
}

pub mirrored-facing : (a : ℕ) → IsTrue (is_border a) → IsFacing a (mirrored (way_of (side_of a)) a)
mirrored-facing a is = at (suc a) a (omega arith) is
  where
    at : (fuel a : ℕ) → a < fuel → IsTrue (is_border a) → IsFacing a (mirrored (way_of (side_of a)) a)
    at zero a enough is = absurd (omega arith)
    at (suc fuel) a enough is =
        let big = border-big a (border-low a is) is in ⊎_elim
        (λ (small : a < 8).
        let side : side_of a ≡ a % 4 = side-first a big small in
        let way : way_of (side_of a) ≡ way_of (a % 4) = ap way_of side in
        let image : mirrored (way_of (side_of a)) a ≡ 4 + (a % 4 + 2) % 4 =
        ap (λ w. mirrored w a) way ∙ mirrored-quarter (way_of (a % 4)) a big small
        ∙ ap (λ k. 4 + k) (facing-first (a % 4) (omega arith)) in
        subst (IsFacing a) (sym image) record {
          border = border-first (4 + (a % 4 + 2) % 4) (omega arith) (omega arith);
          side = side-first (4 + (a % 4 + 2) % 4) (omega arith) (omega arith)
              ∙ (let e : (4 + (a % 4 + 2) % 4) % 4 ≡ (a % 4 + 2) % 4 = omega arith in e)
              ∙ ap (λ j. (j + 2) % 4) (sym side);
          place = place-first (4 + (a % 4 + 2) % 4) (omega arith) (omega arith) ∙ sym (place-first a big small);
        })
        (λ (deep : 8 ≤ a).
        let parts = border-parts a deep is in
        let above : IsFacing (a / 4) (mirrored (way_of (side_of (a / 4))) (a / 4)) =
        at fuel (a / 4) (omega arith) parts.1 in
        let big_b : 4 ≤ a / 4 = border-big (a / 4) (border-low (a / 4) parts.1) parts.1 in
        let small = (border-placed (a / 4) (border-low (a / 4) parts.1) parts.1).side in
        let way : way_of (side_of a) ≡ way_of (side_of (a / 4)) = ap way_of (side-deep a deep) in
        let d : ℕ = mirrored (way_of (side_of (a / 4))) (a / 4) in
        let big_d : 4 ≤ mirrored (way_of (side_of (a / 4))) (a / 4) =
        mirrored-big (way_of (side_of (a / 4))) (a / 4) big_b in
        subst (λ w. IsFacing a (mirrored w a)) (sym way) (⊎_elim
        (λ (second : a ≡ 2 * (2 * (a / 4)) + 1).
        let image : mirrored (way_of (side_of (a / 4))) a
        ≡ 2 * (2 * mirrored (way_of (side_of (a / 4))) (a / 4) + 1) =
        ap (mirrored (way_of (side_of (a / 4)))) second
        ∙ mirrored-right (way_of (side_of (a / 4))) (2 * (a / 4)) (omega arith)
        ∙ ap (λ z. 2 * z) (mirrored-left (way_of (side_of (a / 4))) (a / 4) big_b) in
        subst (IsFacing a) (sym image)
        (facing-deep a (a / 4) (2 * (2 * mirrored (way_of (side_of (a / 4))) (a / 4) + 1))
        (mirrored (way_of (side_of (a / 4))) (a / 4)) 1 2
        (border-half a (a / 4) 1 big_b refl (omega arith) (inl refl) parts.1)
        (border-third (mirrored (way_of (side_of (a / 4))) (a / 4)) big_d above.border) small refl (inl refl) above))
        (λ (third : a ≡ 2 * (2 * (a / 4) + 1)).
        let image : mirrored (way_of (side_of (a / 4))) a
        ≡ 2 * (2 * mirrored (way_of (side_of (a / 4))) (a / 4)) + 1 =
        ap (mirrored (way_of (side_of (a / 4)))) third
        ∙ mirrored-left (way_of (side_of (a / 4))) (2 * (a / 4) + 1) (omega arith)
        ∙ ap (λ z. 2 * z + 1) (mirrored-right (way_of (side_of (a / 4))) (a / 4) big_b) in
        subst (IsFacing a) (sym image)
        (facing-deep a (a / 4) (2 * (2 * mirrored (way_of (side_of (a / 4))) (a / 4)) + 1)
        (mirrored (way_of (side_of (a / 4))) (a / 4)) 2 1
        (border-half a (a / 4) 2 big_b refl (omega arith) (inr refl) parts.1)
        (border-second (mirrored (way_of (side_of (a / 4))) (a / 4)) big_d above.border) small refl (inr refl) above))
        (two_ways a parts.0)))
        (cases_lt a 8)

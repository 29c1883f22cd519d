-- What lies above a leaf and is kept: 2, and a chain of triangles on one side, from a quarter down.
use Rattle.std.proofs.Common.{◌≡◌, ◌⊎◌, ℕ, zero, suc, ◌+◌, ◌-◌, ◌*◌, ◌/◌, ◌%◌, ◌^◌, ◌<◌, ◌≤◌, Bool, true, false, ◌&&◌}
use Rattle.std.proofs.Common.{◌||◌, IsTrue, nat_le, eqb, List, refl, sym, ◌∙◌, ap, subst, arith, ⊎_elim, inl, inr}
use Rattle.std.proofs.Common.{eq-eqb}
use Rattle.std.proofs.lemmas.Bool.{cases_lt, and_parts, and_from, or_cases, or_left, or_right}
use Rattle.std.proofs.lemmas.Bool.{eqb-true, leb-true, le-leb, both_ways}
use Rattle.std.proofs.lemmas.Nat.{shr-shr, shr_le, shr_below, le-div, pow-add, pow_pos}
use Rattle.mesh_defs.specs.Triangle.{level_of}
use Rattle.mesh_defs.proofs.TestLemmas.{same_tests}
use Rattle.bintree_laws.proofs.LevelLemmas.{level_of-parent, level_of-root, IsAtLevel-level_of}
use Rattle.mesh_laws.specs.Ancestors.{is_above, ancestors_of}
use Rattle.mesh_laws.proofs.ConverseLemmas.{is_above-power}
use Rattle.mosaic_rounds.specs.Border.{is_border, bit_of}
use Rattle.mosaic_rounds.specs.Bits.{has_bit, is_kept, splits_at}
use Rattle.mosaic_rounds.specs.Marks.{Marks, MarksAll}
use Rattle.mosaic_rounds.proofs.BorderLemmas.{border-big, border-parts, border-placed}
use Rattle.mosaic_rounds.proofs.SplitLemmas.{border-low, kept-cases, one-more}

-- so many halvings are as many levels
pub shift-level : (k e : ℕ) → 2 ≤ e / 2 ^ k → level_of e ≡ level_of (e / 2 ^ k) + k
shift-level zero e low =
    let one : e / 2 ^ 0 ≡ e = omega arith in rw one (omega arith)
shift-level (suc k) e low =
    let step : e / 2 ^ (suc k) ≡ e / 2 / 2 ^ k = sym (shr-shr e 1 k ∙ ap (λ j. e / 2 ^ j) (omega arith)) in
    let rest : level_of (e / 2) ≡ level_of (e / 2 / 2 ^ k) + k =
    shift-level k (e / 2) (subst (λ z. 2 ≤ z) step low) in
    let some : 2 ≤ e / 2 / 2 ^ k = subst (λ z. 2 ≤ z) step low in
    let less : e / 2 / 2 ^ k ≤ e / 2 = shr_le (e / 2) k in
    let up = level_of-parent e (omega arith) in
    let same : level_of (e / 2 ^ (suc k)) ≡ level_of (e / 2 / 2 ^ k) = ap level_of step in omega arith

-- what lies above a leaf is so many halvings of it as levels lie between
pub above-shift : (a e : ℕ) → IsTrue (is_above a e) →
    (2 ≤ a) × (level_of a < level_of e) × (a ≡ e / 2 ^ (level_of e - level_of a))
above-shift a e is =
    let p = (is_above-power a e).0 is in
    let low = p.0 in
    let same : e / 2 ^ (p.1.0 + 1) ≡ a = p.1.1 in
    let level = shift-level (p.1.0 + 1) e (subst (λ z. 2 ≤ z) (sym same) low) in
    let here : level_of (e / 2 ^ (p.1.0 + 1)) ≡ level_of a = ap level_of same in
    let between : level_of e - level_of a ≡ p.1.0 + 1 = omega arith in
    (low, omega arith, sym same ∙ ap (λ j. e / 2 ^ j) (sym between))

pub shift-above : (k e : ℕ) → 1 ≤ k → 2 ≤ e / 2 ^ k → IsTrue (is_above (e / 2 ^ k) e)
shift-above k e some low =
    (is_above-power (e / 2 ^ k) e).1 (low, (k - 1, ap (λ j. e / 2 ^ j) (omega arith)))

-- above a triangle on a side every second one is on it
pub border-shift : (m a : ℕ) → IsTrue (is_border a) → 4 ≤ a / 2 ^ (2 * m) → IsTrue (is_border (a / 2 ^ (2 * m)))
border-shift zero a is big =
    let one : a / 2 ^ (2 * 0) ≡ a = omega arith in subst (λ z. IsTrue (is_border z)) (sym one) is
border-shift (suc m) a is big =
    let step : a / 2 ^ (2 * suc m) ≡ a / 4 / 2 ^ (2 * m) =
    ap (λ j. a / 2 ^ j) (omega arith) ∙ sym (shr-shr a 2 (2 * m)) in
    let rest : 4 ≤ a / 4 / 2 ^ (2 * m) = subst (λ z. 4 ≤ z) step big in
    let less : a / 4 / 2 ^ (2 * m) ≤ a / 4 = shr_le (a / 4) (2 * m) in
    let deep : 8 ≤ a = omega arith in
    subst (λ z. IsTrue (is_border z)) (sym step) (border-shift m (a / 4) (border-parts a deep is).1 rest)

-- the bits say what is above the leaf from one level on, if they say it of one triangle and of the rest
pub combined : (n leaf b level : ℕ) (old mid new : List ℕ) (rest : ℕ → Bool) →
    ((a : ℕ) → splits_at n mid 0 a ≡ (splits_at n old 0 a || (is_kept n a && eqb a b))) →
    level ≤ level_of b → IsTrue (is_above b leaf) →
    ((a : ℕ) → splits_at n new 0 a ≡ (splits_at n mid 0 a || (is_kept n a && rest a))) →
    ((a : ℕ) → IsTrue (is_kept n a) → IsTrue (rest a) → (level ≤ level_of a) × IsTrue (is_above a leaf)) →
    ((a : ℕ) → IsTrue (is_kept n a) → level ≤ level_of a → IsTrue (is_above a leaf) → (a ≡ b) ⊎ IsTrue (rest a)) →
    Marks n leaf level old new
combined n leaf b level old mid new rest first from above next sound complete a =
    next a ∙ ap (λ t. t || (is_kept n a && rest a)) (first a)
    ∙ joined (splits_at n old 0 a) (is_kept n a) (eqb a b) (rest a) (nat_le level (level_of a) && is_above a leaf)
    (λ kept. same_tests (eqb a b || rest a) (nat_le level (level_of a) && is_above a leaf) (there kept) (back kept))
  where
    joined : (x k e r m : Bool) → (k ≡ true → (e || r) ≡ m) → ((x || (k && e)) || (k && r)) ≡ (x || (k && m))
    joined true k e r m h = refl
    joined false true e r m h = h refl
    joined false false e r m h = refl

    there : IsTrue (is_kept n a) → IsTrue (eqb a b || rest a) → IsTrue (nat_le level (level_of a) && is_above a leaf)
    there kept h = ⊎_elim
        (λ same. let e : a ≡ b = eqb-true a b same in
        and_from (nat_le level (level_of a)) (is_above a leaf)
        (le-leb level (level_of a) (subst (λ z. level ≤ level_of z) (sym e) from))
        (subst (λ z. IsTrue (is_above z leaf)) (sym e) above))
        (λ more. let p = sound a kept more in
        and_from (nat_le level (level_of a)) (is_above a leaf) (le-leb level (level_of a) p.0) p.1)
        (or_cases (eqb a b) (rest a) h)

    back : IsTrue (is_kept n a) → IsTrue (nat_le level (level_of a) && is_above a leaf) → IsTrue (eqb a b || rest a)
    back kept h =
        let p = and_parts (nat_le level (level_of a)) (is_above a leaf) h in ⊎_elim
        (λ same. or_left (eqb a b) (rest a) (eq-eqb a b same))
        (λ more. or_right (eqb a b) (rest a) more)
        (complete a kept (leb-true level (level_of a) p.0) p.1)

-- the triangle so many levels above the leaf
module _ (n leaf above : ℕ) (low : 2 ≤ leaf) (less : above < level_of leaf)
    (here : IsTrue (is_border (leaf / 2 ^ above))) where
  -- at the level that is left
  pub chain-level : level_of leaf ≡ level_of (leaf / 2 ^ above) + above
  chain-level = shift-level above leaf (border-low (leaf / 2 ^ above) here)

  -- what is kept from there on is it, or two levels further down
  pub chain-next : (a : ℕ) → IsTrue (is_kept n a) → level_of leaf - above ≤ level_of a → IsTrue (is_above a leaf) →
      (a ≡ leaf / 2 ^ above) ⊎ (level_of leaf - above + 2 ≤ level_of a)
  chain-next a kept from is =
      let level = chain-level in
      let odd = (border-placed (leaf / 2 ^ above) (border-low (leaf / 2 ^ above) here) here).odd in
      let p = above-shift a leaf is in
      let same : a ≡ leaf / 2 ^ (level_of leaf - level_of a) = p.2 in ⊎_elim
      (λ (more : level_of leaf - above < level_of a). ⊎_elim
      (λ (two : a ≡ 2). let first = level_of-root a (omega arith) (omega arith) in absurd (omega arith))
      (λ (border : (level_of a < 2 * n) × IsTrue (is_border a)).
      let odd_a = (border-placed a (border-low a border.1) border.1).odd in inr (omega arith))
      (kept-cases n a kept))
      (λ (most : level_of a ≤ level_of leaf - above).
      let between : level_of leaf - level_of a ≡ above = omega arith in
      inl (same ∙ ap (λ j. leaf / 2 ^ j) between))
      (cases_lt (level_of leaf - above) (level_of a))

  -- below it a chain goes on by the second and third grandchildren alone
  pub chain-last : (a : ℕ) → 2 ≤ above → IsTrue (is_kept n a) → level_of leaf - above + 2 ≤ level_of a →
      IsTrue (is_above a leaf) →
      (leaf / 2 ^ (above - 2) % 4 ≡ 1) ⊎ (leaf / 2 ^ (above - 2) % 4 ≡ 2)
  chain-last a two kept from is = ⊎_elim
      (λ (half : a ≡ 2).
      let first = level_of-root a (omega arith) (omega arith) in absurd (omega arith))
      (λ (border : (level_of a < 2 * n) × IsTrue (is_border a)).
      let level = chain-level in
      let odd = (border-placed (leaf / 2 ^ above) (border-low (leaf / 2 ^ above) here) here).odd in
      let odd_a = (border-placed a (border-low a border.1) border.1).odd in
      let p = above-shift a leaf is in
      let same : a ≡ leaf / 2 ^ (level_of leaf - level_of a) = p.2 in
      let m : ℕ = (level_of a / 2) - (level_of (leaf / 2 ^ above) / 2) - 1 in
      let gap : 2 * m + (level_of leaf - level_of a) ≡ above - 2 = omega arith in
      let down : leaf / 2 ^ (above - 2) ≡ a / 2 ^ (2 * m) =
      sym (ap (λ z. z / 2 ^ (2 * m)) same ∙ shr-shr leaf (level_of leaf - level_of a) (2 * m)
      ∙ ap (λ j. leaf / 2 ^ j) (omega arith)) in
      let up : leaf / 2 ^ (above - 2) / 4 ≡ leaf / 2 ^ above =
      shr-shr leaf (above - 2) 2 ∙ ap (λ j. leaf / 2 ^ j) (omega arith) in
      let big = border-big (leaf / 2 ^ above) (border-low (leaf / 2 ^ above) here) here in
      let large : 4 ≤ a / 2 ^ (2 * m) = omega arith in
      (border-parts (leaf / 2 ^ (above - 2)) (omega arith)
      (subst (λ z. IsTrue (is_border z)) (sym down) (border-shift m a border.1 large))).0)
      (kept-cases n a kept)

  module _ (coarse : level_of leaf ≤ 2 * n) (some : 1 ≤ above) (old mid : List ℕ)
      (added : (j : ℕ) → has_bit mid j ≡ (has_bit old j || eqb (bit_of n (leaf / 2 ^ above)) j)) where
    -- it has a bit
    pub chain-first : (a : ℕ) → splits_at n mid 0 a ≡ (splits_at n old 0 a || (is_kept n a && eqb a (leaf / 2 ^ above)))
    chain-first =
        let level = chain-level in
        one-more n (leaf / 2 ^ above) (bit_of n (leaf / 2 ^ above)) old mid added (inr (omega arith, here, refl))

    chain-above : IsTrue (is_above (leaf / 2 ^ above) leaf)
    chain-above = shift-above above leaf some (border-low (leaf / 2 ^ above) here)

    -- where nothing that is kept lies between it and the leaf, that is all
    pub chain-end : ((a : ℕ) → IsTrue (is_kept n a) → level_of leaf - above + 2 ≤ level_of a → IsTrue
        (is_above a leaf) → ⊥) →
        Marks n leaf (level_of leaf - above) old mid
    chain-end none =
        let level = chain-level in
        combined n leaf (leaf / 2 ^ above) (level_of leaf - above) old mid mid (λ a. false) chain-first (omega arith)
        chain-above
        (λ a. nothing (splits_at n mid 0 a) (is_kept n a))
        (λ a kept h. absurd (both_ways false refl h))
        (λ a kept from is. ⊎_elim (λ same. inl same) (λ next. absurd (none a kept next is)) (chain-next a kept from is))
      where
        nothing : (x k : Bool) → x ≡ (x || (k && false))
        nothing true k = refl
        nothing false true = refl
        nothing false false = refl

    -- or the rest comes two levels further down
    pub chain-on : (new : List ℕ) → Marks n leaf (level_of leaf - (above - 2)) mid new → 2 ≤ above →
        Marks n leaf (level_of leaf - above) old new
    chain-on new marks two =
        let level = chain-level in
        let next : level_of leaf - (above - 2) ≡ level_of leaf - above + 2 = omega arith in
        combined n leaf (leaf / 2 ^ above) (level_of leaf - above) old mid new
        (λ a. nat_le (level_of leaf - (above - 2)) (level_of a) && is_above a leaf) chain-first
        (omega arith) chain-above
        marks
        (λ a kept h. let p = and_parts (nat_le (level_of leaf - (above - 2)) (level_of a)) (is_above a leaf) h in
        let from = leb-true (level_of leaf - (above - 2)) (level_of a) p.0 in (omega arith, p.1))
        (λ a kept from is. ⊎_elim
        (λ same. inl same)
        (λ (more : level_of leaf - above + 2 ≤ level_of a).
        inr (and_from (nat_le (level_of leaf - (above - 2)) (level_of a)) (is_above a leaf)
        (le-leb (level_of leaf - (above - 2)) (level_of a) (omega arith)) is))
        (chain-next a kept from is))

-- from the leaf's own level on nothing lies above it
pub marks-none : (n leaf level : ℕ) (words : List ℕ) → level_of leaf ≤ level → Marks n leaf level words words
marks-none n leaf level words most a =
    at (splits_at n words 0 a) (is_kept n a) (nat_le level (level_of a) && is_above a leaf) nowhere
  where
    at : (x k m : Bool) → (m ≡ true → ⊥) → x ≡ (x || (k && m))
    at true k m h = refl
    at false true true h = absurd (h refl)
    at false true false h = refl
    at false false m h = refl

    nowhere : IsTrue (nat_le level (level_of a) && is_above a leaf) → ⊥
    nowhere h =
        let p = and_parts (nat_le level (level_of a)) (is_above a leaf) h in
        let from = leb-true level (level_of a) p.0 in
        let q = above-shift a leaf p.1 in
        let less = q.1 in omega arith

-- from the first level on there is 2 beside the chain, below which the leaf lies
module _ (n leaf : ℕ) (low : 2 ≤ leaf) (deep : 1 ≤ level_of leaf) (old mid new : List ℕ)
    (marks : Marks n leaf 1 mid new) where
  -- if it lies below 2
  pub marks-two : ((j : ℕ) → has_bit mid j ≡ (has_bit old j || eqb 0 j)) → leaf / 2 ^ level_of leaf ≡ 2 →
      Marks n leaf 0 old new
  marks-two added two =
      let level = level_of-root 2 (omega arith) (omega arith) in
      combined n leaf 2 0 old mid new (λ a. nat_le 1 (level_of a) && is_above a leaf)
      (one-more n 2 0 old mid added (inl (refl, refl))) (omega arith)
      (subst (λ z. IsTrue (is_above z leaf)) two (shift-above (level_of leaf) leaf deep (omega arith)))
      marks
      (λ a kept h. (omega arith, (and_parts (nat_le 1 (level_of a)) (is_above a leaf) h).1))
      (λ a kept from is. ⊎_elim
      (λ half. inl half)
      (λ (border : (level_of a < 2 * n) × IsTrue (is_border a)).
      let odd = (border-placed a (border-low a border.1) border.1).odd in
      inr (and_from (nat_le 1 (level_of a)) (is_above a leaf) (le-leb 1 (level_of a) (omega arith)) is))
      (kept-cases n a kept))

  -- and if not
  pub marks-no_two : mid ≡ old → (leaf / 2 ^ level_of leaf ≡ 2 → ⊥) → Marks n leaf 0 old new
  marks-no_two same other a =
      marks a ∙ ap (λ w. splits_at n w 0 a || (is_kept n a && (nat_le 1 (level_of a) && is_above a leaf))) same
      ∙ at (splits_at n old 0 a) (is_kept n a) (nat_le 1 (level_of a)) (nat_le 0 (level_of a)) (is_above a leaf)
      (le-leb 0 (level_of a) (omega arith)) deeper
    where
      at : (x k l z m : Bool) → z ≡ true → (k ≡ true → m ≡ true → l ≡ true) →
          (x || (k && (l && m))) ≡ (x || (k && (z && m)))
      at x k l false m e h = absurd (both_ways false refl e)
      at true k l true m e h = refl
      at false false l true m e h = refl
      at false true true true m e h = refl
      at false true false true true e h = absurd (both_ways false refl (h refl refl))
      at false true false true false e h = refl

      deeper : IsTrue (is_kept n a) → IsTrue (is_above a leaf) → IsTrue (nat_le 1 (level_of a))
      deeper kept is = ⊎_elim
          (λ (half : a ≡ 2).
          let level = level_of-root 2 (omega arith) (omega arith) in
          let first : level_of a ≡ level_of 2 = ap level_of half in
          let p = above-shift a leaf is in
          let is' : a ≡ leaf / 2 ^ (level_of leaf - level_of a) = p.2 in
          let all : level_of leaf - level_of a ≡ level_of leaf = omega arith in
          absurd (other (sym (ap (λ j. leaf / 2 ^ j) all) ∙ sym is' ∙ half)))
          (λ (border : (level_of a < 2 * n) × IsTrue (is_border a)).
          let odd = (border-placed a (border-low a border.1) border.1).odd in
          le-leb 1 (level_of a) (omega arith))
          (kept-cases n a kept)

-- a leaf that is no half of the square lies in a quarter
pub quarter-range : (leaf : ℕ) → 2 ≤ leaf → 1 ≤ level_of leaf →
    (4 ≤ leaf / 2 ^ (level_of leaf - 1)) × (leaf / 2 ^ (level_of leaf - 1) < 8)
quarter-range leaf low deep =
    let at = IsAtLevel-level_of leaf low in
    let down = at.low in
    let up = at.high in
    let k : ℕ = level_of leaf - 1 in
    let first : 2 ^ (level_of leaf + 1) ≡ 2 ^ 2 * 2 ^ (level_of leaf - 1) =
    ap (λ j. 2 ^ j) (omega arith) ∙ pow-add 2 2 (level_of leaf - 1) in
    let some = pow_pos (level_of leaf - 1) in
    let last : level_of leaf + 2 ≡ 3 + (level_of leaf - 1) = omega arith in
    let top : leaf / 2 ^ (level_of leaf - 1) < 2 ^ 3 =
    shr_below leaf 3 (level_of leaf - 1) (subst (λ j. leaf < 2 ^ j) last up) in
    (le-div 4 leaf (2 ^ (level_of leaf - 1)) some (omega arith), omega arith)

-- what the bits say of a triangle of which they tell, and that they tell of no other
or_and : (x k m : Bool) → k ≡ true → (x || (k && m)) ≡ (x || m)
or_and x true m e = refl
or_and x false m e = absurd (both_ways false refl e)

or_only : (x k m : Bool) → IsTrue (x || (k && m)) → IsTrue (x || m)
or_only true k m h = refl
or_only false true m h = h
or_only false false m h = absurd (both_ways false refl h)

module _ (n leaf : ℕ) (old new : List ℕ) (marks : Marks n leaf 0 old new) where
  any_level : (a : ℕ) → nat_le 0 (level_of a) && is_above a leaf ≡ is_above a leaf
  any_level a = ap (λ b. b && is_above a leaf) (le-leb 0 (level_of a) (omega arith))

  pub marks-kept : (a : ℕ) → IsTrue (is_kept n a) → splits_at n new 0 a ≡ (splits_at n old 0 a || is_above a leaf)
  marks-kept a kept =
      marks a ∙ or_and (splits_at n old 0 a) (is_kept n a) (nat_le 0 (level_of a) && is_above a leaf) kept
      ∙ ap (λ b. splits_at n old 0 a || b) (any_level a)

  pub marks-only : (a : ℕ) → IsTrue (splits_at n new 0 a) → IsTrue (splits_at n old 0 a || is_above a leaf)
  marks-only a is =
      subst (λ b. IsTrue (splits_at n old 0 a || b)) (any_level a)
      (or_only (splits_at n old 0 a) (is_kept n a) (nat_le 0 (level_of a) && is_above a leaf) (sym (marks a) ∙ is))

module _ (n : ℕ) (leaves old new : List ℕ) (marks : MarksAll n leaves old new) where
  pub all-kept : (a : ℕ) → IsTrue (is_kept n a) → splits_at n new 0 a ≡ (splits_at n old 0 a || ancestors_of leaves a)
  all-kept a kept = marks a ∙ or_and (splits_at n old 0 a) (is_kept n a) (ancestors_of leaves a) kept

  pub all-only : (a : ℕ) → IsTrue (splits_at n new 0 a) → IsTrue (splits_at n old 0 a || ancestors_of leaves a)
  all-only a is = or_only (splits_at n old 0 a) (is_kept n a) (ancestors_of leaves a) (sym (marks a) ∙ is)

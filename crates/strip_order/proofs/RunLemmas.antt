-- What turning runs round does: the strips of the children, turned round, are the strip of the triangle.
use Rattle.std.proofs.Common.{◌≡◌, ◌≢◌, ℕ, zero, suc, ◌+◌, ◌*◌, ◌<◌, ◌≤◌, ◌⊎◌, inl, inr, Bool, true, false, not, eqb}
use Rattle.std.proofs.Common.{List, [], ◌∷◌, ◌++◌, length, reverse, take, drop, get_or, refl, sym, ◌∙◌, ap, ap₂, subst}
use Rattle.std.proofs.Common.{arith, ⊎_elim, append_assoc, length-append}
use Rattle.std.proofs.lemmas.Bool.{eqb-false}
use Rattle.std.proofs.lemmas.List.{append-nil, reverse-append, reverse-reverse, length-reverse, take_at, drop_at}
use Rattle.mesh_defs.specs.Triangle.{level_of}
use Rattle.mesh_defs.specs.ClosedSet.{leaves_under, leaves_of}
use Rattle.bintree_laws.proofs.LevelLemmas.{level_of-left, level_of-right}
use Rattle.mesh_defs.proofs.ListLemmas.{length-counts}
use Rattle.mesh_laws.specs.Strip.{has_even_level, strip_under, strip_of, AreLeavesInOrder}
use Rattle.strip_order.specs.Run.{turned, facing, IsFront, IsArranged}
use Rattle.mesh_laws.proofs.StripOrderLemmas.{count-strip_under}
use Rattle.mesh_laws.proofs.StripLemmas.{has_even_level-left, has_even_level-right}
use Rattle.mesh_laws.proofs.ClosureLemmas.{leaves_under-some}

-- ---- the two cases of a triangle

-- it is a leaf, and so its own strip
record IsSingle (levels : ℕ) (has : ℕ → Bool) (a : ℕ) : Type 0 where
  leaves : leaves_under levels has a ≡ a ∷ []
  faces : facing levels has a ≡ a ∷ []

-- or it is split, into its children
pub record IsForked (below : ℕ) (has : ℕ → Bool) (a : ℕ) : Type 0 where
  pub leaves : leaves_under (suc below) has a ≡ leaves_under below has (2 * a) ++ leaves_under below has (2 * a + 1)
  pub faces : facing (suc below) has a ≡ reverse (facing below has (2 * a)) ++ reverse (facing below has (2 * a + 1))

-- a strip of one triangle, in either direction
turned_one : (even : Bool) (a : ℕ) → turned even (a ∷ []) ≡ a ∷ []
turned_one true a = refl
turned_one false a = refl

-- the strips of both children, in the order of the level
abbrev both : Bool → List ℕ → List ℕ → List ℕ
both even left right = elim even as (λ _. List ℕ) [ true ↦ left ++ right | false ↦ right ++ left ]

-- turned by those of the children, whose levels are of the other kind
turned_both : (even : Bool) (left right : List ℕ) →
    turned even (both even left right) ≡ reverse (turned (not even) left) ++ reverse (turned (not even) right)
turned_both true left right = rw (reverse-reverse left, reverse-reverse right) refl
turned_both false left right = reverse-append right left

-- one step, whether a is a member or not
cases_step : (member : Bool) (has : ℕ → Bool) (levels a : ℕ) → has a ≡ member → 2 ≤ a →
    IsSingle (suc levels) has a ⊎ IsForked levels has a
cases_step true has levels a is low =
    let left : List ℕ = strip_under levels has (2 * a) in
    let right : List ℕ = strip_under levels has (2 * a + 1) in
    let strip : strip_under (suc levels) has a ≡ both (has_even_level a) left right =
    ap (λ (b : Bool). elim b as (λ _. List ℕ) [ true ↦ both (has_even_level a) left right | false ↦ a ∷ [] ]) is in
    inr record {
      leaves = ap (λ (b : Bool). elim b as (λ _. List ℕ)
          [ true ↦ leaves_under levels has (2 * a) ++ leaves_under levels has (2 * a + 1) | false ↦ a ∷ [] ]) is;
      faces = ap (turned (has_even_level a)) strip ∙ turned_both (has_even_level a) left right
          ∙ ap₂ (λ (e f : Bool). reverse (turned e left) ++ reverse (turned f right))
          (sym (has_even_level-left a low)) (sym (has_even_level-right a low));
    }
cases_step false has levels a is low =
    let left : List ℕ = strip_under levels has (2 * a) in
    let right : List ℕ = strip_under levels has (2 * a + 1) in
    let strip : strip_under (suc levels) has a ≡ a ∷ [] =
    ap (λ (b : Bool). elim b as (λ _. List ℕ) [ true ↦ both (has_even_level a) left right | false ↦ a ∷ [] ]) is in
    inl record {
      leaves = ap (λ (b : Bool). elim b as (λ _. List ℕ)
          [ true ↦ leaves_under levels has (2 * a) ++ leaves_under levels has (2 * a + 1) | false ↦ a ∷ [] ]) is;
      faces = ap (turned (has_even_level a)) strip ∙ turned_one (has_even_level a) a;
    }

-- one of the two
abbrev Cases : ℕ → (ℕ → Bool) → ℕ → Type 0
Cases zero has a = IsSingle zero has a
Cases (suc levels) has a = IsSingle (suc levels) has a ⊎ IsForked levels has a

cases_of : (has : ℕ → Bool) (levels a : ℕ) → 2 ≤ a → Cases levels has a
cases_of has zero a low = record { leaves = refl; faces = turned_one (has_even_level a) a }
cases_of has (suc levels) a low = cases_step (has a) has levels a refl low

-- a strip is as long as the leaves
length-turned : (even : Bool) (strip : List ℕ) → length (turned even strip) ≡ length strip
length-turned true strip = refl
length-turned false strip = length-reverse strip

length-facing : (has : ℕ → Bool) (levels a : ℕ) → length (facing levels has a) ≡ length (leaves_under levels has a)
length-facing has levels a =
    length-turned (has_even_level a) (strip_under levels has a)
    ∙ sym (length-counts (leaves_under levels has a) (strip_under levels has a)
    (λ e. count-strip_under (λ t. eqb t e) has levels a))

-- ---- the first leaf tells the case

-- the first leaf is a or lies below it
first-le : (has : ℕ → Bool) (levels a d : ℕ) (rest : List ℕ) → 2 ≤ a →
    a ≤ get_or (leaves_under levels has a ++ rest) 0 d
first-le has zero a d rest low = omega arith
first-le has (suc levels) a d rest low = ⊎_elim
    (λ single. rw single.leaves (omega arith))
    (λ forked.
    rw (forked.leaves, append_assoc (leaves_under levels has (2 * a)) (leaves_under levels has (2 * a + 1)) rest)
    (omega (arith, first-le has levels (2 * a) d (leaves_under levels has (2 * a + 1) ++ rest) (omega arith))))
    (cases_of has (suc levels) a low)

-- of a split triangle it lies below a
first-lt : (has : ℕ → Bool) (levels a d : ℕ) (rest run : List ℕ) → 2 ≤ a → IsForked levels has a →
    run ≡ leaves_under (suc levels) has a ++ rest → a < get_or run 0 d
first-lt has levels a d rest run low forked e =
    let is : run ≡ leaves_under levels has (2 * a) ++ (leaves_under levels has (2 * a + 1) ++ rest) =
    e ∙ ap (λ (xs : List ℕ). xs ++ rest) forked.leaves
    ∙ append_assoc (leaves_under levels has (2 * a)) (leaves_under levels has (2 * a + 1)) rest in
    let le : 2 * a ≤ get_or run 0 d =
    rw is (first-le has levels (2 * a) d (leaves_under levels has (2 * a + 1) ++ rest) (omega arith)) in
    omega arith

-- so a run that begins with the leaves of a has an entry
pub IsFront-some : (levels : ℕ) (has : ℕ → Bool) (a : ℕ) (rest run : List ℕ) →
    IsFront levels has a rest run → 0 < length run
IsFront-some levels has a rest run front =
    let some = leaves_under-some levels has a in
    let both = ap length front.is ∙ length-append (leaves_under levels has a) rest in omega arith

-- ---- where the run begins with a

-- a is a leaf, and the run is as it is to be
IsArranged-single : (has : ℕ → Bool) (levels a : ℕ) (rest run : List ℕ) → IsSingle levels has a →
    run ≡ leaves_under levels has a ++ rest → IsArranged levels has a rest run 1
IsArranged-single has levels a rest run single e = record {
  counted = rw single.leaves refl;
  is = e ∙ ap (λ (xs : List ℕ). xs ++ rest) (single.leaves ∙ sym single.faces);
}

-- a run that begins with a itself has a as its one leaf there, and is in order as it is
pub IsArranged-leaf : (levels : ℕ) (has : ℕ → Bool) (a d : ℕ) (rest run : List ℕ) → a ≡ get_or run 0 d →
    IsFront levels has a rest run → IsArranged levels has a rest run 1
IsArranged-leaf zero has a d rest run first front =
    IsArranged-single has zero a rest run (cases_of has zero a front.low) front.is
IsArranged-leaf (suc levels) has a d rest run first front = ⊎_elim
    (λ single. IsArranged-single has (suc levels) a rest run single front.is)
    (λ forked.
    let below : a < get_or run 0 d = first-lt has levels a d rest run front.low forked front.is in
    absurd (omega arith))
    (cases_of has (suc levels) a front.low)

-- ---- where it begins with another leaf

-- a has levels below it, and its children's leaves follow each other
pub record IsParted (levels : ℕ) (has : ℕ → Bool) (a : ℕ) (rest run : List ℕ) : Type 0 where
  pub below : ℕ
  pub deeper : levels ≡ suc below
  pub forked : IsForked below has a
  pub left : IsFront below has (2 * a) (leaves_under below has (2 * a + 1) ++ rest) run

-- a run of a's leaves that begins with another triangle has the leaves of a's left child and then of its right one
pub IsParted-other : (levels : ℕ) (has : ℕ → Bool) (a d : ℕ) (rest run : List ℕ) → a ≢ get_or run 0 d →
    IsFront levels has a rest run → IsParted levels has a rest run
IsParted-other zero has a d rest run other front = absurd (other (sym (ap (λ (xs : List ℕ). get_or xs 0 d) front.is)))
IsParted-other (suc levels) has a d rest run other front = ⊎_elim
    (λ single. absurd
    (other (sym (ap (λ (xs : List ℕ). get_or xs 0 d) (front.is ∙ ap (λ (xs : List ℕ). xs ++ rest) single.leaves)))))
    (λ forked. record {
      below = levels;
      deeper = refl;
      forked = forked;
      left = record {
        low = let low = front.low in omega arith;
        deep = let deep = front.deep in let next = level_of-left a front.low in omega arith;
        is = front.is ∙ ap (λ (xs : List ℕ). xs ++ rest) forked.leaves
            ∙ append_assoc (leaves_under levels has (2 * a)) (leaves_under levels has (2 * a + 1)) rest;
      };
    })
    (cases_of has (suc levels) a front.low)

-- the same from the test of the first leaf
pub IsParted-unequal : (levels : ℕ) (has : ℕ → Bool) (a d : ℕ) (rest run : List ℕ) (equal : Bool) →
    equal ≡ eqb (get_or run 0 d) a →
    equal ≡ false → IsFront levels has a rest run → IsParted levels has a rest run
IsParted-unequal levels has a d rest run equal test is front =
    IsParted-other levels has a d rest run (λ e. eqb-false (get_or run 0 d) a (sym test ∙ is) (sym e)) front

-- what a call promises of the triangle x, by another name
pub IsArranged-same : (x a : ℕ) (run new : List ℕ) (count : ℕ) → x ≡ a →
    ((levels : ℕ) (has : ℕ → Bool) (rest : List ℕ) → IsFront levels has x rest run →
    IsArranged levels has x rest new count) →
    (levels : ℕ) (has : ℕ → Bool) (rest : List ℕ) → IsFront levels has a rest run →
    IsArranged levels has a rest new count
IsArranged-same x a run new count same call levels has rest front =
    subst (λ z. IsArranged levels has z rest new count) same
    (call levels has rest (subst (λ z. IsFront levels has z rest run) (sym same) front))

-- ---- a run after both steps

-- the right child's leaves are next
pub IsFront-right : (levels : ℕ) (has : ℕ → Bool) (a count : ℕ) (rest run back : List ℕ) →
    IsFront levels has a rest run →
    (p : IsParted levels has a rest run) → (new : List ℕ) →
    IsArranged p.below has (2 * a) (leaves_under p.below has (2 * a + 1) ++ rest) new count →
    back ≡ drop count new → IsFront p.below has (2 * a + 1) rest back
IsFront-right levels has a count rest run back front p new arranged e =
    let low = front.low in
    let deep = front.deep in
    let next = level_of-right a front.low in
    let deeper = p.deeper in
    let counted : length (facing p.below has (2 * a)) ≡ count =
    length-facing has p.below (2 * a) ∙ sym arranged.counted in
    record {
      low = omega arith;
      deep = omega arith;
      is = e ∙ ap (drop count) arranged.is
          ∙ drop_at (facing p.below has (2 * a)) (leaves_under p.below has (2 * a + 1) ++ rest) count counted;
    }

-- both strips, turned round, are the strip of a
IsArranged-both : (levels : ℕ) (has : ℕ → Bool) (a : ℕ) (rest run : List ℕ) → (p : IsParted levels has a rest run) →
    (first second : List ℕ) (left right : ℕ) →
    IsArranged p.below has (2 * a) (leaves_under p.below has (2 * a + 1) ++ rest) first left →
    IsArranged p.below has (2 * a + 1) rest second right →
    IsArranged levels has a rest (reverse (take left first) ++ (reverse (take right second) ++ drop right second))
    (left + right)
IsArranged-both levels has a rest run p first second left right x y =
    let near : List ℕ = facing p.below has (2 * a) in
    let far : List ℕ = facing p.below has (2 * a + 1) in
    let near_count : length near ≡ left = length-facing has p.below (2 * a) ∙ sym x.counted in
    let far_count : length far ≡ right = length-facing has p.below (2 * a + 1) ∙ sym y.counted in
    let a0 : take left first ≡ near =
    ap (take left) x.is ∙ take_at near (leaves_under p.below has (2 * a + 1) ++ rest) left near_count in
    let a1 : take right second ≡ far = ap (take right) y.is ∙ take_at far rest right far_count in
    let a2 : drop right second ≡ rest = ap (drop right) y.is ∙ drop_at far rest right far_count in
    let count : length (leaves_under (suc p.below) has a) ≡ left + right =
    ap length p.forked.leaves ∙ length-append (leaves_under p.below has (2 * a)) (leaves_under p.below has (2 * a + 1))
    ∙ sym (ap₂ (λ i j. i + j) x.counted y.counted) in
    subst (λ k. IsArranged k has a rest
    (reverse (take left first) ++ (reverse (take right second) ++ drop right second)) (left + right))
    (sym p.deeper)
    record {
      counted = sym count;
      is = rw (a0, a1, a2, p.forked.faces) (sym (append_assoc (reverse near) (reverse far) rest));
    }

-- as the code has the two parts of the run
pub IsArranged-parts : (levels : ℕ) (has : ℕ → Bool) (a : ℕ) (rest run : List ℕ) →
    (p : IsParted levels has a rest run) →
    (first second near far : List ℕ) (left right : ℕ) →
    IsArranged p.below has (2 * a) (leaves_under p.below has (2 * a + 1) ++ rest) first left →
    IsArranged p.below has (2 * a + 1) rest second right →
    near ≡ reverse (take left first) → far ≡ reverse (take right second) →
    IsArranged levels has a rest (near ++ (far ++ drop right second)) (left + right)
IsArranged-parts levels has a rest run p first second near far left right x y e f =
    rw (e, f) (IsArranged-both levels has a rest run p first second left right x y)

-- ---- the whole list

-- 2 and 3 have even levels
facing-2 : (has : ℕ → Bool) (levels : ℕ) → facing levels has 2 ≡ strip_under levels has 2
unfolding level_of
facing-2 has levels = refl

facing-3 : (has : ℕ → Bool) (levels : ℕ) → facing levels has 3 ≡ strip_under levels has 3
unfolding level_of
facing-3 has levels = refl

-- the leaves of a closed set begin with those of 2
pub IsFront-lower : (n : ℕ) (has : ℕ → Bool) (leaves run : List ℕ) → AreLeavesInOrder n has leaves → run ≡ leaves →
    IsFront (2 * n) has 2 (leaves_under (2 * n) has 3) run
unfolding leaves_of level_of
IsFront-lower n has leaves run of e = record {
  low = omega arith;
  deep = let fits = of.in_grid in omega arith;
  is = e ∙ of.is;
}

-- then come those of 3
pub IsFront-upper : (n : ℕ) (has : ℕ → Bool) (leaves new back : List ℕ) (count : ℕ) → AreLeavesInOrder n has leaves →
    IsArranged (2 * n) has 2 (leaves_under (2 * n) has 3) new count → back ≡ drop count new →
    IsFront (2 * n) has 3 [] back
unfolding level_of
IsFront-upper n has leaves new back count of x e = record {
  low = omega arith;
  deep = let fits = of.in_grid in omega arith;
  is = e ∙ ap (drop count) x.is
      ∙ drop_at (facing (2 * n) has 2) (leaves_under (2 * n) has 3) count (length-facing has (2 * n) 2 ∙ sym x.counted)
      ∙ sym (append-nil (leaves_under (2 * n) has 3));
}

-- and both strips are that of the set
pub strip_of-parts : (n : ℕ) (has : ℕ → Bool) (new front back : List ℕ) (count upper : ℕ) →
    IsArranged (2 * n) has 2 (leaves_under (2 * n) has 3) new count → front ≡ take count new →
    IsArranged (2 * n) has 3 [] back upper → front ++ back ≡ strip_of n has
unfolding strip_of
strip_of-parts n has new front back count upper x e y =
    let near : front ≡ strip_under (2 * n) has 2 = e ∙ ap (take count) x.is
    ∙ take_at (facing (2 * n) has 2) (leaves_under (2 * n) has 3) count (length-facing has (2 * n) 2 ∙ sym x.counted)
    ∙ facing-2 has (2 * n) in
    let far : back ≡ strip_under (2 * n) has 3 = y.is ∙ append-nil (facing (2 * n) has 3) ∙ facing-3 has (2 * n) in
    ap₂ (λ (xs ys : List ℕ). xs ++ ys) near far

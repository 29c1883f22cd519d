-- The leaves of a closed set: which addresses they are, that each stands once, how many there can be, and that
-- they determine the set.
use Rattle.std.proofs.Common.{◌≡◌, ℕ, zero, suc, ◌+◌, ◌-◌, ◌*◌, ◌/◌, ◌^◌, ◌<◌, ◌≤◌, ◌↔◌, Bool, true, false, eqb, IsTrue}
use Rattle.std.proofs.Common.{List, [], ◌∷◌, ◌++◌, length, Contains, refl, sym, subst, arith, ⊎_elim, length-append}
use Rattle.std.proofs.Common.{count_by, pow_pos, pow-add, ◌∙◌, ap}
use Rattle.std.proofs.Math.Nat.{pow-succ'}
use Rattle.std.proofs.lemmas.Bool.{cases_lt, cases_Bool, eqb-true, both_ways}
use Rattle.std.proofs.lemmas.List.Elements.{All-contains}
use Rattle.mesh_defs.specs.Triangle.{level_of, IsAddress}
use Rattle.mesh_defs.specs.Tiling.{is_inside}
use Rattle.mesh_defs.specs.ClosedSet.{IsClosed, leaves_under, leaves_of}
use Rattle.mesh_defs.proofs.ListLemmas.{IsIn, Contains-in, some-count, count-narrower}
use Rattle.mesh_laws.proofs.DescentLemmas.{IsDown-address, IsAddress-splittable, sample_of, IsAddress-leaves_of}
use Rattle.mesh_laws.proofs.DescentLemmas.{Tiles-leaves_of}
use Rattle.mesh_laws.proofs.ConformityLemmas.{IsUnder, self, below, member_above}
use Rattle.mesh_laws.proofs.ConverseLemmas.{IsAddress-parent}
use Rattle.mesh_defs.proofs.TestLemmas.{same_tests}
use Rattle.mesh_laws.proofs.ClosureLemmas.{IsOuter, IsOuter-leaves_of, leaf-outer}

-- which they are

-- a leaf is a triangle of the grid and no member, and its parent is a member unless it is 2 or 3
pub leaf-where : (n : ℕ) (has : ℕ → Bool) (a : ℕ) → IsClosed n has →
    Contains (leaves_of n has) a ↔ (IsAddress n a × (IsTrue (has a) → ⊥) × (4 ≤ a → IsTrue (has (a / 2))))
leaf-where n has a closed = (
  λ leaf. let outer : IsOuter n has a =
      All-contains (IsOuter n has) (leaves_of n has) a (IsOuter-leaves_of n has closed) leaf in
      (outer.address, outer.outside, outer.parent),
  λ outer. Contains-in a (leaves_of n has)
      (leaf-outer n has a closed record { address = outer.0; outside = outer.1; parent = outer.2 }),
)

-- each once

-- no address is a leaf twice, whatever the set
pub leaf-once : (n : ℕ) (has : ℕ → Bool) (a : ℕ) → count_by (λ t. eqb t a) (leaves_of n has) ≤ 1
leaf-once n has a = ⊎_elim
    (λ none. omega arith)
    (λ some.
    let found : (t : ℕ) × IsIn t (leaves_of n has) × (eqb t a ≡ true) =
    some-count (λ t. eqb t a) (leaves_of n has) some in
    let leaf : Contains (leaves_of n has) a =
    Contains-in a (leaves_of n has) (subst (λ t. IsIn t (leaves_of n has)) (eqb-true found.0 a found.2) found.1) in
    let address : IsAddress n a = All-contains (IsAddress n) (leaves_of n has) a (IsAddress-leaves_of n has) leaf in
    let s = sample_of n (2 * n - level_of a) a (IsDown-address n a address) in
    let one : count_by (is_inside n s.0 s.1) (leaves_of n has) ≡ 1 = Tiles-leaves_of n has s.0 s.1 s.2 in
    let narrower = count-narrower (λ t. eqb t a) (is_inside n s.0 s.1) (leaves_of n has)
    (λ t same. subst (λ z. is_inside n s.0 s.1 z ≡ true) (sym (eqb-true t a same)) s.3) in omega arith)
    (cases_lt (count_by (λ t. eqb t a) (leaves_of n has)) 1)

-- at and below a triangle

-- the leaves at and below a, by whether it is split
abbrev fork : List ℕ → List ℕ → ℕ → Bool → List ℕ
fork left right a split = elim split as (λ _. List ℕ) [ true ↦ left ++ right | false ↦ a ∷ [] ]

-- a member has the leaves of its left child, and then those of its right child
pub leaves_under-split : (levels : ℕ) (has : ℕ → Bool) (a : ℕ) → 1 ≤ levels → has a ≡ true →
    leaves_under levels has a ≡ leaves_under (levels - 1) has (2 * a) ++ leaves_under (levels - 1) has (2 * a + 1)
leaves_under-split zero has a some split = absurd (omega arith)
leaves_under-split (suc levels) has a some split =
    let less : levels ≡ suc levels - 1 = omega arith in
    ap (fork (leaves_under levels has (2 * a)) (leaves_under levels has (2 * a + 1)) a) split
    ∙ ap (λ l. leaves_under l has (2 * a) ++ leaves_under l has (2 * a + 1)) less

-- what is no member is its own leaf
pub leaves_under-whole : (levels : ℕ) (has : ℕ → Bool) (a : ℕ) → has a ≡ false → leaves_under levels has a ≡ a ∷ []
leaves_under-whole zero has a whole = refl
leaves_under-whole (suc levels) has a whole =
    ap (fork (leaves_under levels has (2 * a)) (leaves_under levels has (2 * a + 1)) a) whole

-- how many

-- at and below a triangle there are at most as many as finest ones
length-leaves_under : (levels : ℕ) (has : ℕ → Bool) (a : ℕ) → length (leaves_under levels has a) ≤ 2 ^ levels
length-leaves_under zero has a = omega arith
length-leaves_under (suc levels) has a =
    let left = length-leaves_under levels has (2 * a) in let right = length-leaves_under levels has (2 * a + 1) in
    step (has a) (leaves_under levels has (2 * a)) (leaves_under levels has (2 * a + 1)) left right
  where
    step : (b : Bool) (left right : List ℕ) → length left ≤ 2 ^ levels → length right ≤ 2 ^ levels →
        length (elim b as (λ _. List ℕ) [ true ↦ left ++ right | false ↦ a ∷ [] ]) ≤ 2 ^ suc levels
    step true left right l r = let e = length-append left right in let p = pow-succ' 2 levels in omega arith
    step false left right l r = let some : 0 < 2 ^ suc levels = pow_pos (suc levels) in omega arith

-- 4 ^ n is 2 ^ (2 n)
pub four-power : (n : ℕ) → 4 ^ n ≡ 2 ^ (2 * n)
four-power zero = refl
four-power (suc n) =
    let rest = four-power n in let p = pow-succ' 4 n in let q = pow-add 2 (2 * n) 2 in
    let e : 2 * suc n ≡ 2 * n + 2 = omega arith in rw e (omega arith)

-- there are at most as many leaves as finest triangles
pub leaves-most : (n : ℕ) (has : ℕ → Bool) → length (leaves_of n has) ≤ 2 * 4 ^ n
unfolding leaves_of
leaves-most n has =
    let lower = length-leaves_under (2 * n) has 2 in let upper = length-leaves_under (2 * n) has 3 in
    let e = length-append (leaves_under (2 * n) has 2) (leaves_under (2 * n) has 3) in
    let p = four-power n in
    omega arith

-- they determine the set

-- a triangle that is no member lies at or below a leaf
leaf_above : (n : ℕ) (has : ℕ → Bool) (steps a : ℕ) → a ≤ steps → IsAddress n a → has a ≡ false →
    (v : ℕ) × IsOuter n has v × IsUnder v a
leaf_above n has zero a enough address none = let low = address.low in absurd (omega arith)
leaf_above n has (suc steps) a enough address none = ⊎_elim
    (λ base. (
      a,
      record { address = address; outside = λ is. both_ways (has a) none is; parent = λ big. absurd (omega arith) },
      self,
    ))
    (λ big. ⊎_elim
    (λ (parent : has (a / 2) ≡ true).
    (a, record { address = address; outside = λ is. both_ways (has a) none is; parent = λ _. parent }, self))
    (λ (outside : has (a / 2) ≡ false).
    let r = leaf_above n has steps (a / 2) (omega arith) (IsAddress-parent n a address big) outside in
    (r.0, r.1, below a big r.2))
    (cases_Bool (has (a / 2))))
    (cases_lt a 4)

-- where all leaves of the one are leaves of the other, all members of the other are members of the one
within_leaves : (n : ℕ) (has other : ℕ → Bool) → IsClosed n has → IsClosed n other →
    ((v : ℕ) → Contains (leaves_of n other) v → Contains (leaves_of n has) v) → (a : ℕ) → IsAddress n a →
    IsTrue (has a) → other a ≡ false → ⊥
within_leaves n has other closed too leaves a address member none =
    let v = leaf_above n other a a (omega arith) address none in
    let leaf : Contains (leaves_of n has) v.0 =
    leaves v.0 (Contains-in v.0 (leaves_of n other) (leaf-outer n other v.0 too v.1)) in
    ((leaf-where n has v.0 closed).0 leaf).1 (member_above has closed.parent v.0 a v.2 member)

-- closed sets with the same leaves are the same set
pub leaves-determine : (n : ℕ) (has other : ℕ → Bool) → IsClosed n has → IsClosed n other →
    ((v : ℕ) → Contains (leaves_of n has) v ↔ Contains (leaves_of n other) v) → (a : ℕ) → has a ≡ other a
leaves-determine n has other closed too leaves a = same_tests (has a) (other a)
    (λ is. member has other closed too (λ v. (leaves v).1) is)
    (λ is. member other has too closed (λ v. (leaves v).0) is)
  where
    member : (one two : ℕ → Bool) → IsClosed n one → IsClosed n two →
        ((v : ℕ) → Contains (leaves_of n two) v → Contains (leaves_of n one) v) →
        one a ≡ true → two a ≡ true
    member one two c d within is = ⊎_elim
        (λ yes. yes)
        (λ none. absurd (within_leaves n one two c d within a (IsAddress-splittable n a (c.splittable a is)) is none))
        (cases_Bool (two a))

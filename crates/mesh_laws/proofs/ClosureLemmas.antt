-- Least closed sets: they are unique, grow with what is wanted, and exist; and how leaves follow from members.
use Rattle.std.proofs.Common.{◌≡◌, ℕ, zero, suc, ◌+◌, ◌-◌, ◌*◌, ◌/◌, ◌<◌, ◌≤◌, Bool, true, false, List, [], ◌∷◌, ◌++◌}
use Rattle.std.proofs.Common.{length, All, IsTrue, refl, sym, ◌∙◌, ap₂, subst, arith, ⊎_elim, length-append, count_by}
use Rattle.std.proofs.lemmas.Bool.{cases_lt, cases_Bool, false≢true, both_ways}
use Rattle.std.proofs.lemmas.List.Elements.{All-contains}
use Rattle.mesh_defs.specs.Triangle.{level_of, IsAddress, IsSplittable, IsMate}
use Rattle.mesh_defs.specs.Tiling.{IsSample, is_inside}
use Rattle.mesh_defs.specs.ClosedSet.{IsClosed, IsSubset, IsLeastClosed, leaves_under, leaves_of}
use Rattle.mesh_defs.specs.Greedy.{with_triangle}
use Rattle.bintree_laws.proofs.LevelLemmas.{level_of-root, level_of-parent}
use Rattle.bintree_laws.proofs.CentreLemmas.{border_or_mate, not_border_and_mate}
use Rattle.mesh_laws.specs.Forcing.{IsPrepared}
use Rattle.mesh_laws.proofs.DescentLemmas.{IsDown-address, IsAddress-down, IsAddress-splittable, sample_of}
use Rattle.mesh_laws.proofs.DescentLemmas.{All-leaves_of, Tiles-leaves_of}
use Rattle.mesh_laws.proofs.ConformityLemmas.{IsUnder, self, below, member_above}
use Rattle.mesh_defs.proofs.TestLemmas.{same_tests}
use Rattle.mesh_defs.proofs.ListLemmas.{IsIn, Contains-in, some-count}
use Rattle.mesh_laws.proofs.ConverseLemmas.{IsUnder-sample, is_inside-up, IsAddress-parent}
use Rattle.mesh_laws.proofs.ForcingLemmas.{IsLeastClosed-member, IsPrepared-base, IsPrepared-parent}
use Rattle.mesh_laws.proofs.ForcingLemmas.{IsLeastClosed-single, IsLeastClosed-pair}

-- unique and monotone

-- closing more gives more
pub IsSubset-closures : (n : ℕ) (some all has other : ℕ → Bool) → IsSubset some all → IsLeastClosed n some has →
    IsLeastClosed n all other → IsSubset has other
IsSubset-closures n some all has other within p q = p.least other q.closed (λ a h. q.holds a (within a h))

-- a least closed set is unique
pub IsLeastClosed-unique : (n : ℕ) (wanted has other : ℕ → Bool) → IsLeastClosed n wanted has →
    IsLeastClosed n wanted other → (a : ℕ) → has a ≡ other a
IsLeastClosed-unique n wanted has other p q a =
    same_tests (has a) (other a)
    (IsSubset-closures n wanted wanted has other (λ b h. h) p q a)
    (IsSubset-closures n wanted wanted other has (λ b h. h) q p a)

-- tests that agree are least closed sets alike
pub IsLeastClosed-same : (n : ℕ) (wanted has other : ℕ → Bool) → ((a : ℕ) → has a ≡ other a) →
    IsLeastClosed n wanted has → IsLeastClosed n wanted other
IsLeastClosed-same n wanted has other same p = record {
  closed = record {
    splittable = λ a h. p.closed.splittable a (same a ∙ h);
    parent = λ a h big. sym (same (a / 2)) ∙ p.closed.parent a (same a ∙ h) big;
    mate = λ a b h m. sym (same b) ∙ p.closed.mate a b (same a ∙ h) m;
  };
  holds = λ a h. sym (same a) ∙ p.holds a h;
  least = λ some c holds a h. p.least some c holds a (same a ∙ h);
}

-- the empty set

-- it is closed
pub nothing_closed : (n : ℕ) → IsClosed n (λ _. false)
nothing_closed n = record {
  splittable = λ a h. absurd (false≢true h);
  parent = λ a h. absurd (false≢true h);
  mate = λ a b h. absurd (false≢true h);
}

-- and the least closed set where nothing is wanted
pub nothing_least : (n : ℕ) (wanted : ℕ → Bool) → ((a : ℕ) → wanted a ≡ false) → IsLeastClosed n wanted (λ _. false)
nothing_least n wanted none = record {
  closed = nothing_closed n;
  holds = λ a h. absurd (false≢true (sym (none a) ∙ h));
  least = λ other c holds a h. absurd (false≢true h);
}

-- existence

-- what one forced split goes to
abbrev HasClosure : ℕ → (ℕ → Bool) → ℕ → Type 0
HasClosure n has t = (next : ℕ → Bool) × IsLeastClosed n (with_triangle has t) next

-- what it goes to before the triangle itself
abbrev HasPrepared : ℕ → (ℕ → Bool) → ℕ → Type 0
HasPrepared n has t = (next : ℕ → Bool) × IsPrepared n has next t

-- from the parent
prepare : (n : ℕ) (has : ℕ → Bool) (t : ℕ) → IsClosed n has → (4 ≤ t → HasClosure n has (t / 2)) → HasPrepared n has t
prepare n has t closed above = ⊎_elim
    (λ small. (has, IsPrepared-base n has t closed small))
    (λ big. let c : HasClosure n has (t / 2) = above big in (c.0, IsPrepared-parent n has c.0 t (t / 2) refl big c.1))
    (cases_lt t 4)

-- the parent of a splittable triangle is splittable
pub IsSplittable-half : (n t : ℕ) → IsSplittable n t → 4 ≤ t → IsSplittable n (t / 2)
IsSplittable-half n t s big =
    let e = level_of-parent t big in
    let h = s.coarse in
    record { low = omega arith; coarse = omega arith }

-- and so is its mate
pub IsSplittable-mate : (n t m : ℕ) → IsSplittable n t → IsMate n t m → IsSplittable n m
IsSplittable-mate n t m s mate =
    let e = mate.level in
    let h = s.coarse in
    record { low = mate.address.low; coarse = omega arith }

-- a closed set and a triangle have a least closed set, down to each level
closure_at : (n level : ℕ) (has : ℕ → Bool) (t : ℕ) → IsClosed n has → IsSplittable n t →
    level_of t < level → HasClosure n has t
closure_at n zero has t closed s deep = absurd (omega arith)
closure_at n (suc level) has t closed s deep = ⊎_elim
    (λ member. (has, IsLeastClosed-member n has t closed member))
    (λ other.
    let p : HasPrepared n has t = prepare n has t closed (λ big.
    closure_at n level has (t / 2) closed (IsSplittable-half n t s big)
    (let e = level_of-parent t big in omega arith)) in
    ⊎_elim
    (λ border. (
      with_triangle p.0 t,
      IsLeastClosed-single n has p.0 (with_triangle p.0 t) t s p.1
          (λ b m. not_border_and_mate n t b (IsAddress-splittable n t s) border m) (λ a. refl),
    ))
    (λ (mate : (b : ℕ) × IsMate n t b).
    let u : ℕ = mate.0 in
    let same : level_of u ≡ level_of t = mate.1.level in
    let su : IsSplittable n u = (let h = s.coarse in record { low = mate.1.address.low; coarse = omega arith }) in
    let q : HasPrepared n p.0 u = prepare n p.0 u p.1.closed (λ big.
    closure_at n level p.0 (u / 2) p.1.closed (IsSplittable-half n u su big)
    (let e = level_of-parent u big in omega arith)) in (
      with_triangle (with_triangle q.0 u) t,
      IsLeastClosed-pair n has p.0 q.0 (with_triangle q.0 u)
          (with_triangle (with_triangle q.0 u) t) t u s mate.1 p.1 q.1 (λ a. refl) (λ a. refl),
    ))
    (border_or_mate n t (IsAddress-splittable n t s)))
    (cases_Bool (has t))

-- a closed set and a splittable triangle have a least closed set
pub closure_of : (n : ℕ) (has : ℕ → Bool) (t : ℕ) → IsClosed n has → IsSplittable n t → HasClosure n has t
closure_of n has t closed s = closure_at n (suc (level_of t)) has t closed s (omega arith)

-- leaves by members

-- one step of two tests that agree at a
step_same : (b c : Bool) (l r m s : List ℕ) (a : ℕ) → b ≡ c → l ≡ m → r ≡ s →
    elim b as (λ _. List ℕ) [ true ↦ l ++ r | false ↦ a ∷ [] ]
    ≡ elim c as (λ _. List ℕ) [ true ↦ m ++ s | false ↦ a ∷ [] ]
step_same true true l r m s a e f g = ap₂ (λ (x y : List ℕ). x ++ y) f g
step_same true false l r m s a e f g = absurd (false≢true (sym e))
step_same false true l r m s a e f g = absurd (false≢true e)
step_same false false l r m s a e f g = refl

-- tests that agree have the same leaves
leaves_under-same : (levels : ℕ) (has other : ℕ → Bool) (a : ℕ) → ((b : ℕ) → has b ≡ other b) →
    leaves_under levels has a ≡ leaves_under levels other a
leaves_under-same zero has other a same = refl
leaves_under-same (suc levels) has other a same =
    step_same (has a) (other a) (leaves_under levels has (2 * a)) (leaves_under levels has (2 * a + 1))
    (leaves_under levels other (2 * a)) (leaves_under levels other (2 * a + 1)) a (same a)
    (leaves_under-same levels has other (2 * a) same) (leaves_under-same levels has other (2 * a + 1) same)

-- the same for all leaves
pub leaves_of-same : (n : ℕ) (has other : ℕ → Bool) → ((b : ℕ) → has b ≡ other b) → leaves_of n has ≡ leaves_of n other
unfolding leaves_of
leaves_of-same n has other same =
    ap₂ (λ (x y : List ℕ). x ++ y) (leaves_under-same (2 * n) has other 2 same)
    (leaves_under-same (2 * n) has other 3 same)

-- one step of two tests of which one holds more
step_more : (b c : Bool) (l r m s : List ℕ) (a : ℕ) → (b ≡ true → c ≡ true) → length l ≤ length m →
    length r ≤ length s → 1 ≤ length m →
    length (elim b as (λ _. List ℕ) [ true ↦ l ++ r | false ↦ a ∷ [] ])
    ≤ length (elim c as (λ _. List ℕ) [ true ↦ m ++ s | false ↦ a ∷ [] ])
step_more true true l r m s a within f g some = omega (arith, length-append l r, length-append m s)
step_more true false l r m s a within f g some = absurd (false≢true (within refl))
step_more false true l r m s a within f g some = omega (arith, length-append m s)
step_more false false l r m s a within f g some = omega arith

-- one leaf at least
step_some : (c : Bool) (m s : List ℕ) (a : ℕ) → 1 ≤ length m →
    1 ≤ length (elim c as (λ _. List ℕ) [ true ↦ m ++ s | false ↦ a ∷ [] ])
step_some true m s a some = omega (arith, length-append m s)
step_some false m s a some = omega arith

-- there is a leaf below each triangle
pub leaves_under-some : (levels : ℕ) (has : ℕ → Bool) (a : ℕ) → 1 ≤ length (leaves_under levels has a)
leaves_under-some zero has a = omega arith
leaves_under-some (suc levels) has a =
    step_some (has a) (leaves_under levels has (2 * a)) (leaves_under levels has (2 * a + 1)) a
    (leaves_under-some levels has (2 * a))

-- more members have more leaves
leaves_under-more : (levels : ℕ) (has other : ℕ → Bool) (a : ℕ) → IsSubset has other →
    length (leaves_under levels has a) ≤ length (leaves_under levels other a)
leaves_under-more zero has other a within = omega arith
leaves_under-more (suc levels) has other a within =
    step_more (has a) (other a) (leaves_under levels has (2 * a)) (leaves_under levels has (2 * a + 1))
    (leaves_under levels other (2 * a)) (leaves_under levels other (2 * a + 1)) a (within a)
    (leaves_under-more levels has other (2 * a) within) (leaves_under-more levels has other (2 * a + 1) within)
    (leaves_under-some levels other (2 * a))

-- the same for all leaves
pub leaves_of-more : (n : ℕ) (has other : ℕ → Bool) → IsSubset has other →
    length (leaves_of n has) ≤ length (leaves_of n other)
unfolding leaves_of
leaves_of-more n has other within =
    let lower = leaves_under-more (2 * n) has other 2 within in
    let upper = leaves_under-more (2 * n) has other 3 within in
    omega (
      arith,
      length-append (leaves_under (2 * n) has 2) (leaves_under (2 * n) has 3),
      length-append (leaves_under (2 * n) other 2) (leaves_under (2 * n) other 3),
    )

-- a test that holds of nothing has the two base triangles as leaves
step_none : (b : Bool) (l r : List ℕ) (a : ℕ) → b ≡ false →
    length (elim b as (λ _. List ℕ) [ true ↦ l ++ r | false ↦ a ∷ [] ]) ≡ 1
step_none true l r a e = absurd (false≢true (sym e))
step_none false l r a e = refl

-- a triangle that is no member is its one leaf
leaves_under-none : (levels : ℕ) (has : ℕ → Bool) (a : ℕ) → has a ≡ false → length (leaves_under levels has a) ≡ 1
leaves_under-none zero has a none = refl
leaves_under-none (suc levels) has a none =
    step_none (has a) (leaves_under levels has (2 * a)) (leaves_under levels has (2 * a + 1)) a none

-- so there are two
pub leaves_of-none : (n : ℕ) (has : ℕ → Bool) → ((a : ℕ) → has a ≡ false) → length (leaves_of n has) ≡ 2
unfolding leaves_of
leaves_of-none n has none =
    let lower = leaves_under-none (2 * n) has 2 (none 2) in
    let upper = leaves_under-none (2 * n) has 3 (none 3) in
    length-append (leaves_under (2 * n) has 2) (leaves_under (2 * n) has 3) ∙ omega arith

-- what is a leaf

-- what is known of a leaf of a closed set
pub record IsOuter (n : ℕ) (has : ℕ → Bool) (a : ℕ) : Type 0 where
  pub address : IsAddress n a
  pub outside : IsTrue (has a) → ⊥
  pub parent : 4 ≤ a → IsTrue (has (a / 2))

-- each leaf is outside, below members
pub IsOuter-leaves_of : (n : ℕ) (has : ℕ → Bool) → IsClosed n has → All (IsOuter n has) (leaves_of n has)
IsOuter-leaves_of n has closed =
    All-leaves_of n has (λ a. 4 ≤ a → IsTrue (has (a / 2))) (IsOuter n has)
    (λ levels a d is known. (
      (λ _. let half : 2 * a / 2 ≡ a = omega arith in subst (λ z. IsTrue (has z)) (sym half) is),
      (λ _. let half : (2 * a + 1) / 2 ≡ a = omega arith in subst (λ z. IsTrue (has z)) (sym half) is),
    ))
    (λ levels a d ends known. record {
      address = IsAddress-down n levels a d;
      outside = λ is. ⊎_elim
          (λ none. let h = (closed.splittable a is).coarse in let l = d.height in omega arith)
          (λ other. both_ways (has a) other is)
          ends;
      parent = known;
    })
    (λ h. absurd (omega arith))
    (λ h. absurd (omega arith))

-- and what is outside, below members, is a leaf
pub leaf-outer : (n : ℕ) (has : ℕ → Bool) (a : ℕ) → IsClosed n has → IsOuter n has a → IsIn a (leaves_of n has)
leaf-outer n has a closed outer =
    let s = sample_of n (2 * n - level_of a) a (IsDown-address n a outer.address) in
    let one : count_by (is_inside n s.0 s.1) (leaves_of n has) ≡ 1 = Tiles-leaves_of n has s.0 s.1 s.2 in
    let e = some-count (is_inside n s.0 s.1) (leaves_of n has) (omega arith) in
    let leaf = All-contains (IsOuter n has) (leaves_of n has) e.0 (IsOuter-leaves_of n has closed)
    (Contains-in e.0 (leaves_of n has) e.1) in
    ⊎_elim
    (λ deeper. absurd (under_leaf e.0 leaf deeper s.0 s.1 s.2 s.3 e.2))
    (λ higher. itself e.0 a e.1 leaf outer
    (IsUnder-sample n s.0 s.1 (level_of a - level_of e.0) e.0 a s.2 leaf.address outer.address (omega arith) e.2 s.3))
    (cases_lt (level_of a) (level_of e.0))
  where
    itself : (v b : ℕ) → IsIn v (leaves_of n has) → IsOuter n has v → IsOuter n has b → IsUnder v b →
        IsIn b (leaves_of n has)
    itself v b in_v leaf outer self = in_v
    itself v b in_v leaf outer (below c big u) =
        absurd (leaf.outside (member_above has closed.parent v (c / 2) u (outer.parent big)))

    under_leaf : (e : ℕ) → IsOuter n has e → level_of a < level_of e → (x y : ℕ) → IsSample n x y →
        is_inside n x y a ≡ true → is_inside n x y e ≡ true → ⊥
    under_leaf e leaf deeper x y s h k =
        let big : 4 ≤ e = ⊎_elim
        (λ small. let z = level_of-root e leaf.address.low small in absurd (omega arith))
        (λ large. large)
        (cases_lt e 4) in
        let l = level_of-parent e big in
        let u = IsUnder-sample n x y (level_of e - 1 - level_of a) a (e / 2) s outer.address
        (IsAddress-parent n e leaf.address big) (omega arith) h
        (is_inside-up n e x y leaf.address big s k) in
        outer.outside (member_above has closed.parent a (e / 2) u (leaf.parent big))

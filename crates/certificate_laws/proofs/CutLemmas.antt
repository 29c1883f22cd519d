-- The test of conforming lists by the set of their ancestors is exact, so being conforming is decided.
use Rattle.std.proofs.Common.{◌≡◌, ℕ, zero, suc, ◌+◌, ◌-◌, ◌*◌, ◌/◌, ◌^◌, ◌<◌, ◌≤◌, ◌⊎◌, inl, inr, true, false, eqb}
use Rattle.std.proofs.Common.{nat_eq, IsTrue, List, length, All, Contains, sym, ◌∙◌, subst, arith, ⊎_elim}
use Rattle.std.proofs.lemmas.Bool.{cases_lt, cases_Bool, cases_eq, both_ways, eqb-true}
use Rattle.std.proofs.lemmas.List.Elements.{All-contains}
use Rattle.mesh_defs.specs.Triangle.{level_of, IsAddress, IsSplittable, IsMate}
use Rattle.mesh_defs.specs.Tiling.{is_inside, IsConforming}
use Rattle.mesh_defs.specs.ClosedSet.{IsClosed, leaves_of}
use Rattle.bintree_laws.proofs.LevelLemmas.{level-le, splittable-below}
use Rattle.bintree_laws.proofs.LevelLemmas.{level_of-parent}
use Rattle.mesh_laws.specs.Ancestors.{is_above, ancestors_of}
use Rattle.mesh_laws.proofs.DescentLemmas.{IsAddress-splittable, IsDown-address, sample_of}
use Rattle.mesh_laws.proofs.ConformityLemmas.{IsUnder, self, IsUnder-up, IsConforming-leaves_of}
use Rattle.mesh_defs.proofs.ListLemmas.{IsIn, IsIn-contains, Contains-in, IsIn-among, among-in, Any-in, list_any-in}
use Rattle.mesh_defs.proofs.ListLemmas.{count-some, some-count, count-narrower, one_entry}
use Rattle.mesh_laws.proofs.ConverseLemmas.{under-above, above-under, level-under, IsClosed-ancestors_of}
use Rattle.mesh_laws.proofs.ClosureLemmas.{leaf-outer}
use Rattle.std.specs.List.{IsDistinct}
use Rattle.mesh_laws.proofs.SetListLemmas.{All-in, list_of, ascending-list_of, among-list_of}
use Rattle.mesh_laws.proofs.SetListLemmas.{length-distinct}
use Rattle.mesh_laws.proofs.DiamondLemmas.{mate_or_none}
use Rattle.bintree_laws.proofs.CentreLemmas.{mate_unique}
use Rattle.mesh_laws.proofs.LeastLemmas.{entry_outside, length-ancestors}
use Rattle.certificate_laws.specs.Cut.{IsCut}
use Rattle.certificate_laws.proofs.DistinctLemmas.{some_or_none, distinct-ascending, distinct_or_not, distinct-counts}
use Rattle.certificate_laws.proofs.DistinctLemmas.{count-one, subset-length, size_of-leaves}

-- ancestors of triangles of the grid

module _ (n : ℕ) (triangles : List ℕ) (addresses : All (IsAddress n) triangles) where
  -- an entry is an address
  address_of : (e : ℕ) → IsIn e triangles → IsAddress n e
  address_of e i = All-contains (IsAddress n) triangles e addresses (Contains-in e triangles i)

  -- an ancestor has an entry below it
  record HasBelow (a : ℕ) : Type 0 where
    entry : ℕ
    listed : IsIn entry triangles
    low : 2 ≤ a
    big : 4 ≤ entry
    under : IsUnder a (entry / 2)

  -- from the test
  below_of : (a : ℕ) → IsTrue (ancestors_of triangles a) → HasBelow a
  below_of a h =
      let e = Any-in (λ e. is_above a e) triangles h in
      let parts = under-above a e.0 e.2 in
      record { entry = e.0; listed = e.1; low = parts.0; big = parts.1; under = parts.2 }

  -- to the test
  pub ancestor_of : (a e : ℕ) → IsIn e triangles → 2 ≤ a → 4 ≤ e → IsUnder a (e / 2) → IsTrue (ancestors_of triangles a)
  ancestor_of a e i low big u = list_any-in (λ e. is_above a e) triangles e i (above-under a e low big u)

  -- an ancestor is splittable
  pub ancestor-splittable : (a : ℕ) → IsTrue (ancestors_of triangles a) → IsSplittable n a
  ancestor-splittable a h =
      let b = below_of a h in
      let l = level-under a (b.entry / 2) b.under in
      let e = level_of-parent b.entry b.big in
      let fits = level-le n b.entry (address_of b.entry b.listed) in
      record { low = b.low; coarse = omega arith }

  -- and its parent is an ancestor
  pub ancestor-parent : (a : ℕ) → IsTrue (ancestors_of triangles a) → 4 ≤ a → IsTrue (ancestors_of triangles (a / 2))
  ancestor-parent a h big =
      let b = below_of a h in
      ancestor_of (a / 2) b.entry b.listed (omega arith) b.big (IsUnder-up a (b.entry / 2) big b.under)

  -- so they are a closed set where they have their mates
  ancestors-closed : ((a b : ℕ) → IsTrue (ancestors_of triangles a) → IsMate n a b →
      IsTrue (ancestors_of triangles b)) → IsClosed n (ancestors_of triangles)
  ancestors-closed mates = record { splittable = ancestor-splittable; parent = ancestor-parent; mate = mates }

  -- an entry that is no ancestor is a leaf
  entry-leaf : (closed : IsClosed n (ancestors_of triangles)) (a : ℕ) → IsIn a triangles →
      (IsTrue (ancestors_of triangles a) → ⊥) →
      IsIn a (leaves_of n (ancestors_of triangles))
  entry-leaf closed a i outside = leaf-outer n (ancestors_of triangles) a closed record {
    address = address_of a i;
    outside = outside;
    parent = λ big. ancestor_of (a / 2) a i (omega arith) big self;
  }

-- a list that passes the test is conforming

module _ (n : ℕ) (triangles : List ℕ) (cut : IsCut n triangles) where
  -- the ancestors are a closed set
  cut-closed : IsClosed n (ancestors_of triangles)
  cut-closed = ancestors-closed n triangles cut.addresses cut.mates

  -- each entry is a leaf
  cut-leaf : (a : ℕ) → IsIn a triangles → IsIn a (leaves_of n (ancestors_of triangles))
  cut-leaf a i = entry-leaf n triangles cut.addresses cut-closed a i (cut.outside a (Contains-in a triangles i))

  -- there are as many entries as leaves
  cut-count : length (leaves_of n (ancestors_of triangles)) ≤ length triangles
  cut-count =
      let size = size_of-leaves n (ancestors_of triangles) cut-closed in
      let most = length-distinct (list_of n (ancestors_of triangles)) cut.members
      (distinct-ascending (list_of n (ancestors_of triangles)) (ascending-list_of n (ancestors_of triangles)))
      (λ a h. (cut.same a).1 (among-list_of n (ancestors_of triangles) cut-closed a ∙ h)) in
      let counted = cut.counted in omega arith

  -- so each leaf is an entry
  leaf-cut : (a : ℕ) → IsIn a (leaves_of n (ancestors_of triangles)) → IsIn a triangles
  leaf-cut a i = IsIn-among a triangles (subset-length triangles (leaves_of n (ancestors_of triangles)) cut.distinct
      (λ b h. among-in b (leaves_of n (ancestors_of triangles)) (cut-leaf b (IsIn-among b triangles h)))
      cut-count a (among-in a (leaves_of n (ancestors_of triangles)) i))

  -- the list is conforming
  pub conforming-cut : IsConforming n triangles
  conforming-cut =
      let mesh : IsConforming n (leaves_of n (ancestors_of triangles)) =
      IsConforming-leaves_of n (ancestors_of triangles) cut-closed in
      record {
        addresses = cut.addresses;
        tiles = λ x y s.
            let one = mesh.tiles x y s in
            let leaf = some-count (is_inside n x y) (leaves_of n (ancestors_of triangles)) (omega arith) in
            let some = count-some (is_inside n x y) leaf.0 triangles (leaf-cut leaf.0 leaf.1) leaf.2 in
            let most = count-one (is_inside n x y) triangles cut.distinct (λ a b i j h k.
            one_entry (is_inside n x y) (leaves_of n (ancestors_of triangles)) a b (omega arith)
            (cut-leaf a i) (cut-leaf b j) h k) in
            omega arith;
        whole_edges = λ a b p q r in_a in_b corner edge between. mesh.whole_edges a b p q r
            (Contains-in a (leaves_of n (ancestors_of triangles)) (cut-leaf a (IsIn-contains a triangles in_a)))
            (Contains-in b (leaves_of n (ancestors_of triangles)) (cut-leaf b (IsIn-contains b triangles in_b)))
            corner edge between;
      }

-- a conforming list passes the test

-- no entry of a conforming list stands twice
pub conforming-distinct : (n : ℕ) (triangles : List ℕ) → IsConforming n triangles → IsDistinct nat_eq triangles
conforming-distinct n triangles conforming = distinct-counts triangles (λ a i.
    let address = All-contains (IsAddress n) triangles a conforming.addresses (Contains-in a triangles i) in
    let s = sample_of n (2 * n - level_of a) a (IsDown-address n a address) in
    let one = conforming.tiles s.0 s.1 s.2 in
    let le = count-narrower (λ t. eqb t a) (is_inside n s.0 s.1) triangles
    (λ t e. subst (λ z. is_inside n s.0 s.1 z ≡ true) (sym (eqb-true t a e)) s.3) in
    omega arith)

-- so each conforming list passes
pub cut-conforming : (n : ℕ) (triangles : List ℕ) → IsConforming n triangles → IsCut n triangles
cut-conforming n triangles conforming =
    let closed = IsClosed-ancestors_of n triangles conforming in
    let same = among-list_of n (ancestors_of triangles) closed in
    record {
      addresses = conforming.addresses;
      distinct = conforming-distinct n triangles conforming;
      outside = λ a listed. entry_outside n triangles conforming a (IsIn-contains a triangles listed);
      mates = closed.mate;
      members = list_of n (ancestors_of triangles);
      once = distinct-ascending (list_of n (ancestors_of triangles)) (ascending-list_of n (ancestors_of triangles));
      same = λ a. ((λ h. same a ∙ h), (λ h. sym (same a) ∙ h));
      counted = sym (length-ancestors n triangles conforming) ∙ size_of-leaves n (ancestors_of triangles) closed;
    }

-- decisions

-- whether an address is one of the grid
pub address_or_not : (n a : ℕ) → IsAddress n a ⊎ (IsAddress n a → ⊥)
address_or_not n a = ⊎_elim
    (λ small. inr (λ (h : IsAddress n a). let low = h.low in absurd (omega arith)))
    (λ low. ⊎_elim
    (λ high. inl record { low = low; high = high })
    (λ big. inr (λ (h : IsAddress n a). let high = h.high in absurd (omega arith)))
    (cases_lt a (2 ^ (2 * n + 2))))
    (cases_lt a 2)

-- the opposite of what is decided
opposite : (P : Type 0) → P ⊎ (P → ⊥) → (P → ⊥) ⊎ ((P → ⊥) → ⊥)
opposite P (inl holds) = inr (λ (fails : P → ⊥). fails holds)
opposite P (inr fails) = inl fails

-- all entries have P or one has not
all_or_not : (P : ℕ → Type 0) (xs : List ℕ) → ((a : ℕ) → P a ⊎ (P a → ⊥)) → All P xs ⊎ (All P xs → ⊥)
all_or_not P xs decide = ⊎_elim
    (λ (found : (a : ℕ) × IsIn a xs × (P a → ⊥)).
    inr (λ (all : All P xs). found.2 (All-contains P xs found.0 all (Contains-in found.0 xs found.1))))
    (λ (none : (a : ℕ) → IsIn a xs → (P a → ⊥) → ⊥). inl (All-in P xs (λ a i. by_case a (none a i) (decide a))))
    (some_or_none (λ a. P a → ⊥) xs (λ a i. opposite (P a) (decide a)))
  where
    by_case : (a : ℕ) → ((P a → ⊥) → ⊥) → P a ⊎ (P a → ⊥) → P a
    by_case a h (inl holds) = holds
    by_case a h (inr fails) = absurd (h fails)

-- an address that has P below a bound, or none
some_below : (P : ℕ → Type 0) → ((a : ℕ) → P a ⊎ (P a → ⊥)) → (bound : ℕ) →
    ((a : ℕ) × P a) ⊎ ((a : ℕ) → a < bound → P a → ⊥)
some_below P decide zero = inr (λ a less. absurd (omega arith))
some_below P decide (suc bound) = ⊎_elim
    (λ (yes : P bound). inl (bound, yes))
    (λ (no : P bound → ⊥). ⊎_elim
    (λ (found : (a : ℕ) × P a). inl found)
    (λ (none : (a : ℕ) → a < bound → P a → ⊥). inr (λ a less p. ⊎_elim
    (λ below_bound. none a below_bound p)
    (λ rest. no (subst P (let e : a ≡ bound = omega arith in e) p))
    (cases_lt a bound)))
    (some_below P decide bound))
    (decide bound)

-- an ancestor whose mate is none
abbrev LacksMate : ℕ → List ℕ → ℕ → Type 0
LacksMate n triangles a =
    IsTrue (ancestors_of triangles a) × (m : ℕ) × IsMate n a m × (ancestors_of triangles m ≡ false)

-- that is decided
lacks_mate_or_not : (n : ℕ) (triangles : List ℕ) → All (IsAddress n) triangles → (a : ℕ) →
    LacksMate n triangles a ⊎ (LacksMate n triangles a → ⊥)
lacks_mate_or_not n triangles addresses a = ⊎_elim
    (λ member. let address = IsAddress-splittable n a (ancestor-splittable n triangles addresses a member) in ⊎_elim
    (λ (found : (m : ℕ) × IsMate n a m). ⊎_elim
    (λ has_it. inr (λ (l : LacksMate n triangles a). both_ways (ancestors_of triangles l.1) l.3
    (subst (λ z. ancestors_of triangles z ≡ true) (mate_unique n a found.0 l.1 address found.1 l.2) has_it)))
    (λ lacks. inl (member, found.0, found.1, lacks))
    (cases_Bool (ancestors_of triangles found.0)))
    (λ (none : (m : ℕ) → IsMate n a m → ⊥). inr (λ (l : LacksMate n triangles a). none l.1 l.2))
    (mate_or_none n a address))
    (λ other. inr (λ (l : LacksMate n triangles a). both_ways (ancestors_of triangles a) other l.0))
    (cases_Bool (ancestors_of triangles a))

-- what each part of the test is, decided in turn

module _ (n : ℕ) (triangles : List ℕ) where
  -- the rest, where the ancestors are closed and the entries are leaves
  counted_or_not : (addresses : All (IsAddress n) triangles) → IsDistinct nat_eq triangles →
      ((a : ℕ) → Contains triangles a → IsTrue (ancestors_of triangles a) → ⊥) →
      ((a b : ℕ) → IsTrue (ancestors_of triangles a) → IsMate n a b → IsTrue (ancestors_of triangles b)) →
      IsCut n triangles ⊎ (IsCut n triangles → ⊥)
  counted_or_not addresses distinct outside mates =
      let closed = ancestors-closed n triangles addresses mates in
      let same = among-list_of n (ancestors_of triangles) closed in
      ⊎_elim
      (λ equal. inl record {
        addresses = addresses;
        distinct = distinct;
        outside = outside;
        mates = mates;
        members = list_of n (ancestors_of triangles);
        once = distinct-ascending (list_of n (ancestors_of triangles)) (ascending-list_of n (ancestors_of triangles));
        same = λ a. ((λ h. same a ∙ h), (λ h. sym (same a) ∙ h));
        counted = equal;
      })
      (λ unequal. inr (λ (cut : IsCut n triangles). unequal
      (sym (length-ancestors n triangles (conforming-cut n triangles cut))
      ∙ size_of-leaves n (ancestors_of triangles) closed)))
      (cases_eq (length triangles) (length (list_of n (ancestors_of triangles)) + 2))

  -- with the mates
  mates_or_not : (addresses : All (IsAddress n) triangles) → IsDistinct nat_eq triangles →
      ((a : ℕ) → Contains triangles a → IsTrue (ancestors_of triangles a) → ⊥) →
      IsCut n triangles ⊎ (IsCut n triangles → ⊥)
  mates_or_not addresses distinct outside = ⊎_elim
      (λ (found : (a : ℕ) × LacksMate n triangles a).
      inr (λ (cut : IsCut n triangles). both_ways (ancestors_of triangles found.1.1) found.1.3
      (cut.mates found.0 found.1.1 found.1.0 found.1.2)))
      (λ (none : (a : ℕ) → a < 4 * 2 ^ (2 * n) → LacksMate n triangles a → ⊥).
      counted_or_not addresses distinct outside (λ a b h mate. ⊎_elim
      (λ yes. yes)
      (λ lacks.
      absurd (none a (splittable-below n a (ancestor-splittable n triangles addresses a h)) (h, b, mate, lacks)))
      (cases_Bool (ancestors_of triangles b))))
      (some_below (LacksMate n triangles) (lacks_mate_or_not n triangles addresses) (4 * 2 ^ (2 * n)))

  -- with the entries outside
  outside_or_not : All (IsAddress n) triangles → IsDistinct nat_eq triangles →
      IsCut n triangles ⊎ (IsCut n triangles → ⊥)
  outside_or_not addresses distinct = ⊎_elim
      (λ (found : (a : ℕ) × IsIn a triangles × IsTrue (ancestors_of triangles a)). inr (λ (cut : IsCut n triangles).
      cut.outside found.0 (Contains-in found.0 triangles found.1) found.2))
      (λ (none : (a : ℕ) → IsIn a triangles → IsTrue (ancestors_of triangles a) → ⊥).
      mates_or_not addresses distinct (λ a listed. none a (IsIn-contains a triangles listed)))
      (some_or_none (λ a. IsTrue (ancestors_of triangles a)) triangles (λ a i. ⊎_elim
      (λ (yes : ancestors_of triangles a ≡ true). inl yes)
      (λ (no : ancestors_of triangles a ≡ false). inr (λ h. both_ways (ancestors_of triangles a) no h))
      (cases_Bool (ancestors_of triangles a))))

  -- the test is decided
  pub cut_or_not : IsCut n triangles ⊎ (IsCut n triangles → ⊥)
  cut_or_not = ⊎_elim
      (λ (addresses : All (IsAddress n) triangles). ⊎_elim
      (λ (distinct : IsDistinct nat_eq triangles). outside_or_not addresses distinct)
      (λ (twice : IsDistinct nat_eq triangles → ⊥). inr (λ (cut : IsCut n triangles). twice cut.distinct))
      (distinct_or_not triangles))
      (λ (some : All (IsAddress n) triangles → ⊥). inr (λ (cut : IsCut n triangles). some cut.addresses))
      (all_or_not (IsAddress n) triangles (address_or_not n))

-- so being conforming is decided
pub conforming_or_not : (n : ℕ) (triangles : List ℕ) → IsConforming n triangles ⊎ (IsConforming n triangles → ⊥)
conforming_or_not n triangles = ⊎_elim
    (λ (cut : IsCut n triangles). inl (conforming-cut n triangles cut))
    (λ (no : IsCut n triangles →
    ⊥). inr (λ (conforming : IsConforming n triangles). no (cut-conforming n triangles conforming)))
    (cut_or_not n triangles)

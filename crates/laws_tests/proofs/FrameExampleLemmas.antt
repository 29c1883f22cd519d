-- Plain tests of the words of steps on lists of addresses, for the worked examples: what passes a test is so.
use Rattle.std.proofs.Common.{◌≡◌, ℕ, zero, suc, ◌+◌, ◌-◌, ◌*◌, ◌/◌, ◌%◌, ◌<◌, ◌≤◌, ◌⊎◌, ◌&&◌, ◌||◌, inl, inr, Bool}
use Rattle.std.proofs.Common.{true, not, nat_eq, nat_lt, nat_le, IsTrue, List, [], ◌∷◌, take, All, refl, sym, ap, subst}
use Rattle.std.proofs.Common.{arith, ⊎_elim}
use Rattle.std.specs.List.{filter, list_any, list_all}
use Rattle.std.proofs.lemmas.Bool.{both_ways, and_parts, and_from, or_cases, or_left, or_right, eqb-true, eq-eqb}
use Rattle.std.proofs.lemmas.Bool.{ltb-true, lt-ltb, le-leb, leb-true, not-true, not_from_false, false_from_ne_true}
use Rattle.mesh_defs.specs.Triangle.{level_of, IsAddress, IsSplittable, IsMate}
use Rattle.mesh_defs.specs.ClosedSet.{IsClosed, leaves_of, among}
use Rattle.mesh_defs.specs.Ranking.{RanksBefore}
use Rattle.mesh_defs.specs.Greedy.{IsFirstLeaf, with_triangle}
use Rattle.mesh_defs.specs.GridSet.{IsAscending, IsGridSet, IsForced}
use Rattle.mesh_defs.proofs.ListLemmas.{IsIn, IsIn-contains, Contains-in, IsIn-among, among-in, Any-in, list_any-in}
use Rattle.bintree_laws.specs.Pair.{IsInner, IsOuter, IsPair}
use Rattle.bintree_laws.proofs.LevelLemmas.{IsAtLevel, IsAtLevel-level_of, level-le}
use Rattle.bintree_laws.proofs.PairLemmas.{IsAtLevel-quarter}
use Rattle.bintree_laws.proofs.MateLemmas.{IsMate-pair, pair-IsMate}
use Rattle.mesh_laws.proofs.DescentLemmas.{IsAddress-splittable}
use Rattle.mesh_laws.specs.Diamond.{IsInDiamond, IsWithoutDiamond}
use Rattle.mesh_laws.proofs.ForcingLemmas.{with-cases, with-old, with-new}
use Rattle.mesh_laws.proofs.SetListLemmas.{All-in, among-filter, filter-among, ascending-filter}
use Rattle.mesh_laws.specs.Lead.{IsLead, IsLastLead}
use Rattle.mesh_laws.specs.Steps.{leaf_count, DoesNotFit, IsSplitStep, MustMerge, makes_room, IsMergeStep, AreLoose}

-- lists

-- a test of each entry
every-in : (p : ℕ → Bool) (xs : List ℕ) → list_all p xs ≡ true → (a : ℕ) → IsIn a xs → p a ≡ true
every-in p [] h a i = absurd i
every-in p (x ∷ xs) h a (inl e) = subst (λ z. p z ≡ true) e (and_parts (p x) (list_all p xs) h).0
every-in p (x ∷ xs) h a (inr i) = every-in p xs (and_parts (p x) (list_all p xs) h).1 a i

in-every : (p : ℕ → Bool) (xs : List ℕ) → ((a : ℕ) → IsIn a xs → p a ≡ true) → list_all p xs ≡ true
in-every p [] h = refl
in-every p (x ∷ xs) h = and_from (p x) (list_all p xs) (h x (inl refl)) (in-every p xs (λ a i. h a (inr i)))

abbrev rises : List ℕ → Bool
rises [] = true
rises (x ∷ xs) = list_all (λ y. nat_lt x y) xs && rises xs

rises-ascending : (xs : List ℕ) → rises xs ≡ true → IsAscending xs
rises-ascending [] h = tt
rises-ascending (x ∷ xs) h =
    let r = and_parts (list_all (λ y. nat_lt x y) xs) (rises xs) h in
    (All-in (λ y. x < y) xs (λ a i. ltb-true x a (every-in (λ y. nat_lt x y) xs r.0 a i)), rises-ascending xs r.1)

-- mates

abbrev outer_mates : ℕ → List ℕ → List ℕ
outer_mates r [] = []
outer_mates r (m ∷ ms) = (4 * m + r) ∷ outer_mates r ms

abbrev grandchild_mates : ℕ → ℕ → List ℕ → List ℕ
grandchild_mates zero q above = (4 * q + 3) ∷ []
grandchild_mates (suc zero) q above = outer_mates 2 above
grandchild_mates (suc (suc zero)) q above = outer_mates 1 above
grandchild_mates (suc (suc (suc r))) q above = (4 * q) ∷ []

-- the mate of an address of this level, if it has one
abbrev mates_at : ℕ → ℕ → List ℕ
mates_at zero a = (5 - a) ∷ []
mates_at (suc zero) a = []
mates_at (suc (suc level)) a = grandchild_mates (a % 4) (a / 4) (mates_at level (a / 4))

in_outer : (r m : ℕ) (ms : List ℕ) → IsIn m ms → IsIn (4 * m + r) (outer_mates r ms)
in_outer r m [] i = absurd i
in_outer r m (x ∷ xs) (inl e) = inl (ap (λ z. 4 * z + r) e)
in_outer r m (x ∷ xs) (inr i) = inr (in_outer r m xs i)

from_outer : (r b : ℕ) (ms : List ℕ) → IsIn b (outer_mates r ms) → (m : ℕ) × IsIn m ms × (4 * m + r ≡ b)
from_outer r b [] i = absurd i
from_outer r b (x ∷ xs) (inl e) = (x, inl refl, e)
from_outer r b (x ∷ xs) (inr i) = let rest = from_outer r b xs i in (rest.0, inr rest.1, rest.2)

in_grandchild : (r s q t : ℕ) (above : List ℕ) → r + s ≡ 3 → (IsInner r × (q ≡ t)) ⊎ (IsOuter r × IsIn t above) →
    IsIn (4 * t + s) (grandchild_mates r q above)
in_grandchild zero s q t above sum (inl h) = inl (let e = h.1 in omega arith)
in_grandchild zero s q t above sum (inr h) = absurd h.0
in_grandchild (suc zero) s q t above sum (inl h) = absurd h.0
in_grandchild (suc zero) s q t above sum (inr h) =
    subst (λ z. IsIn (4 * t + z) (outer_mates 2 above)) (let e : 2 ≡ s = omega arith in e) (in_outer 2 t above h.1)
in_grandchild (suc (suc zero)) s q t above sum (inl h) = absurd h.0
in_grandchild (suc (suc zero)) s q t above sum (inr h) =
    subst (λ z. IsIn (4 * t + z) (outer_mates 1 above)) (let e : 1 ≡ s = omega arith in e) (in_outer 1 t above h.1)
in_grandchild (suc (suc (suc r))) s q t above sum (inl h) = inl (let e = h.1 in omega arith)
in_grandchild (suc (suc (suc r))) s q t above sum (inr h) = absurd h.0

from_grandchild : (P : ℕ → Type 0) (r q b : ℕ) (above : List ℕ) → r < 4 → ((m : ℕ) → IsIn m above → P m) →
    IsIn b (grandchild_mates r q above) →
    (r + b % 4 ≡ 3) × ((IsInner r × (q ≡ b / 4)) ⊎ (IsOuter r × P (b / 4)))
from_grandchild P zero q b above less each (inl e) = (omega arith, inl (tt, omega arith))
from_grandchild P zero q b above less each (inr i) = absurd i
from_grandchild P (suc zero) q b above less each i =
    let m = from_outer 2 b above i in let e = m.2 in
    (omega arith, inr (tt, subst P (let f : m.0 ≡ b / 4 = omega arith in f) (each m.0 m.1)))
from_grandchild P (suc (suc zero)) q b above less each i =
    let m = from_outer 1 b above i in let e = m.2 in
    (omega arith, inr (tt, subst P (let f : m.0 ≡ b / 4 = omega arith in f) (each m.0 m.1)))
from_grandchild P (suc (suc (suc r))) q b above less each (inl e) = (omega arith, inl (tt, omega arith))
from_grandchild P (suc (suc (suc r))) q b above less each (inr i) = absurd i

pair-in : (level a b : ℕ) → IsPair level a b → IsIn b (mates_at level a)
pair-in zero a b pair = inl (omega arith)
pair-in (suc zero) a b pair = absurd pair
pair-in (suc (suc level)) a b pair =
    subst (λ z. IsIn z (mates_at (suc (suc level)) a)) (let e : 4 * (b / 4) + b % 4 ≡ b = omega arith in e)
    (in_grandchild (a % 4) (b % 4) (a / 4) (b / 4) (mates_at level (a / 4)) pair.0 (⊎_elim
    (λ inner. inl inner)
    (λ outer. inr (outer.0, pair-in level (a / 4) (b / 4) outer.1))
    pair.1))

in-pair : (level a b : ℕ) → IsAtLevel level a → IsIn b (mates_at level a) → IsPair level a b
in-pair zero a b at (inl e) = let high = at.high in omega arith
in-pair zero a b at (inr i) = absurd i
in-pair (suc zero) a b at i = absurd i
in-pair (suc (suc level)) a b at i =
    from_grandchild (λ z. IsPair level (a / 4) z) (a % 4) (a / 4) b (mates_at level (a / 4)) (omega arith)
    (λ m j. in-pair level (a / 4) m (IsAtLevel-quarter level a at) j) i

-- the triangles of a diamond
abbrev pub diamond_at : ℕ → List ℕ
diamond_at a = a ∷ mates_at (level_of a) a

-- each triangle of the diamond of a stands in the list
pub diamond-in : (n a b : ℕ) → IsAddress n a → IsInDiamond n a b → IsIn b (diamond_at a)
diamond-in n a b address (inl same) = inl (sym same)
diamond-in n a b address (inr mate) =
    inr (pair-in (level_of a) a b (pair-IsMate n a b address.low (level-le n a address) mate))

in-mates : (n a b : ℕ) → IsAddress n a → IsIn b (mates_at (level_of a) a) → IsMate n a b
in-mates n a b address i =
    IsMate-pair n a b address.low (level-le n a address) (in-pair (level_of a) a b (IsAtLevel-level_of a address.low) i)

in-diamond : (n a b : ℕ) → IsAddress n a → IsIn b (diamond_at a) → IsInDiamond n a b
in-diamond n a b address (inl same) = inl (sym same)
in-diamond n a b address (inr i) = inr (in-mates n a b address i)

-- closed sets

abbrev fits : ℕ → List ℕ → ℕ → Bool
fits n xs a =
    (nat_le 2 a && nat_lt (level_of a) (2 * n)) &&
    ((not (nat_le 4 a) || among xs (a / 2)) && list_all (among xs) (diamond_at a))

-- a list in order each of whose entries fits is a closed set
abbrev pub is_grid_set : ℕ → List ℕ → Bool
is_grid_set n xs = (nat_le 1 n && nat_le n 14) && (rises xs && list_all (fits n xs) xs)

-- a list that passes the test is a closed set of the grid
pub grid_set : (n : ℕ) (xs : List ℕ) → is_grid_set n xs ≡ true → IsGridSet n xs
grid_set n xs h =
    let both = and_parts (nat_le 1 n && nat_le n 14) (rises xs && list_all (fits n xs) xs) h in
    let bounds = and_parts (nat_le 1 n) (nat_le n 14) both.0 in
    let list = and_parts (rises xs) (list_all (fits n xs) xs) both.1 in
    record {
      n_low = leb-true 1 n bounds.0;
      n_high = leb-true n 14 bounds.1;
      ascending = rises-ascending xs list.0;
      closed = closed list.1;
    }
  where
    closed : list_all (fits n xs) xs ≡ true → IsClosed n (among xs)
    closed all = record {
      splittable = splittable;
      parent = λ a member big. ⊎_elim
          (λ small. absurd (both_ways (nat_le 4 a) (not-true (nat_le 4 a) small) (le-leb 4 a big)))
          (λ there. there)
          (or_cases (not (nat_le 4 a)) (among xs (a / 2)) (rest a member).0);
      mate = λ a b member mate. every-in (among xs) (diamond_at a) (rest a member).1 b
          (diamond-in n a b (IsAddress-splittable n a (splittable a member)) (inr mate));
    }
      where
        parts : (a : ℕ) → IsTrue (among xs a) → ((nat_le 2 a && nat_lt (level_of a) (2 * n)) ≡ true)
            × (((not (nat_le 4 a) || among xs (a / 2)) && list_all (among xs) (diamond_at a)) ≡ true)
        parts a member =
            and_parts (nat_le 2 a && nat_lt (level_of a) (2 * n))
            ((not (nat_le 4 a) || among xs (a / 2)) && list_all (among xs) (diamond_at a))
            (every-in (fits n xs) xs all a (IsIn-among a xs member))

        rest : (a : ℕ) → IsTrue (among xs a) →
            ((not (nat_le 4 a) || among xs (a / 2)) ≡ true) × (list_all (among xs) (diamond_at a) ≡ true)
        rest a member =
            and_parts (not (nat_le 4 a) || among xs (a / 2)) (list_all (among xs) (diamond_at a)) (parts a member).1

        splittable : (a : ℕ) → IsTrue (among xs a) → IsSplittable n a
        splittable a member =
            let low = and_parts (nat_le 2 a) (nat_lt (level_of a) (2 * n)) (parts a member).0 in
            record { low = leb-true 2 a low.0; coarse = ltb-true (level_of a) (2 * n) low.1 }

-- the order of rank

-- a ranks before b: by a greater priority, or by a lesser address where the priorities are the same
abbrev pub is_before : (ℕ → ℕ) → ℕ → ℕ → Bool
is_before priority a b = nat_lt (priority b) (priority a) || (nat_eq (priority a) (priority b) && nat_lt a b)

-- what passes the test ranks before
pub before-is : (priority : ℕ → ℕ) (a b : ℕ) → is_before priority a b ≡ true → RanksBefore priority a b
before-is priority a b h = ⊎_elim
    (λ more. inl (ltb-true (priority b) (priority a) more))
    (λ tie.
    let r = and_parts (nat_eq (priority a) (priority b)) (nat_lt a b) tie in
    inr (eqb-true (priority a) (priority b) r.0, ltb-true a b r.1))
    (or_cases (nat_lt (priority b) (priority a)) (nat_eq (priority a) (priority b) && nat_lt a b) h)

is-before : (priority : ℕ → ℕ) (a b : ℕ) → RanksBefore priority a b → is_before priority a b ≡ true
is-before priority a b (inl more) =
    or_left (nat_lt (priority b) (priority a)) (nat_eq (priority a) (priority b) && nat_lt a b)
    (lt-ltb (priority b) (priority a) more)
is-before priority a b (inr tie) =
    or_right (nat_lt (priority b) (priority a)) (nat_eq (priority a) (priority b) && nat_lt a b)
    (and_from (nat_eq (priority a) (priority b)) (nat_lt a b)
    (eq-eqb (priority a) (priority b) tie.0) (lt-ltb a b tie.1))

-- leads

abbrev is_childless : List ℕ → ℕ → Bool
is_childless members a = not (among members (2 * a)) && not (among members (2 * a + 1))

-- a is a member, no triangle of its diamond has a child among the members, and a ranks before its mate
abbrev pub is_lead : (ℕ → ℕ) → List ℕ → ℕ → Bool
is_lead priority members a =
    among members a && (list_all (is_childless members) (diamond_at a) && list_all
    (λ b. nat_eq b a || is_before priority a b) (diamond_at a))

-- a triangle that passes the test leads its diamond
pub lead-is : (n : ℕ) (priority : ℕ → ℕ) (members : List ℕ) (a : ℕ) → IsAddress n a →
    is_lead priority members a ≡ true → IsLead n priority (among members) a
lead-is n priority members a address h =
    let r = and_parts (among members a) (list_all (is_childless members) (diamond_at a) && list_all
    (λ b. nat_eq b a || is_before priority a b) (diamond_at a)) h in
    let s = and_parts (list_all (is_childless members) (diamond_at a))
    (list_all (λ b. nat_eq b a || is_before priority a b) (diamond_at a)) r.1 in
    record {
      mergeable = record {
        member = r.0;
        childless = λ b i.
            let c = every-in (is_childless members) (diamond_at a) s.0 b (diamond-in n a b address i) in
            let d = and_parts (not (among members (2 * b))) (not (among members (2 * b + 1))) c in
            (not-true (among members (2 * b)) d.0, not-true (among members (2 * b + 1)) d.1);
      };
      first = λ b mate. ⊎_elim
          (λ same. absurd (mate.other (eqb-true b a same)))
          (λ before. before-is priority a b before)
          (or_cases (nat_eq b a) (is_before priority a b)
          (every-in (λ b. nat_eq b a || is_before priority a b) (diamond_at a) s.1 b
          (diamond-in n a b address (inr mate))));
    }

-- and a triangle that leads its diamond passes the test
pub is-lead : (n : ℕ) (priority : ℕ → ℕ) (members : List ℕ) (a : ℕ) → IsAddress n a →
    IsLead n priority (among members) a → is_lead priority members a ≡ true
is-lead n priority members a address lead =
    and_from (among members a) (list_all (is_childless members) (diamond_at a) && list_all
    (λ b. nat_eq b a || is_before priority a b) (diamond_at a))
    lead.mergeable.member
    (and_from (list_all (is_childless members) (diamond_at a))
    (list_all (λ b. nat_eq b a || is_before priority a b) (diamond_at a))
    (in-every (is_childless members) (diamond_at a) (λ b i.
    let c = lead.mergeable.childless b (in-diamond n a b address i) in
    and_from (not (among members (2 * b))) (not (among members (2 * b + 1)))
    (not_from_false (among members (2 * b)) c.0) (not_from_false (among members (2 * b + 1)) c.1)))
    (in-every (λ b. nat_eq b a || is_before priority a b) (diamond_at a) (λ b i. ⊎_elim
    (λ (same : b ≡ a). or_left (nat_eq b a) (is_before priority a b) (eq-eqb b a same))
    (λ (mate : IsMate n a b). or_right (nat_eq b a) (is_before priority a b)
    (is-before priority a b (lead.first b mate)))
    (in-diamond n a b address i))))

-- d leads, and P holds of each lead
abbrev pub each_lead : (ℕ → ℕ) → List ℕ → (ℕ → Bool) → Bool
each_lead priority members p = list_all (λ a. not (is_lead priority members a) || p a) members

each_lead-is : (n : ℕ) (priority : ℕ → ℕ) (members : List ℕ) (p : ℕ → Bool) → IsClosed n (among members) →
    each_lead priority members p ≡ true →
    (a : ℕ) → IsLead n priority (among members) a → p a ≡ true
each_lead-is n priority members p closed h a lead =
    let member = lead.mergeable.member in
    let is = is-lead n priority members a (IsAddress-splittable n a (closed.splittable a member)) lead in
    ⊎_elim
    (λ none. absurd (both_ways (is_lead priority members a) (not-true (is_lead priority members a) none) is))
    (λ passes. passes)
    (or_cases (not (is_lead priority members a)) (p a)
    (every-in (λ b. not (is_lead priority members b) || p b) members h a (IsIn-among a members member)))

-- d leads its diamond, and each other lead ranks before d
abbrev pub is_last_lead : (ℕ → ℕ) → List ℕ → ℕ → Bool
is_last_lead priority members d =
    is_lead priority members d && each_lead priority members (λ a. nat_eq a d || is_before priority a d)

-- a triangle that passes the test leads the last diamond in rank
pub last_lead : (n : ℕ) (priority : ℕ → ℕ) (members : List ℕ) (d : ℕ) → IsClosed n (among members) →
    is_last_lead priority members d ≡ true →
    IsLastLead n priority (among members) d
last_lead n priority members d closed h =
    let r = and_parts (is_lead priority members d)
    (each_lead priority members (λ a. nat_eq a d || is_before priority a d)) h in
    let member = (and_parts (among members d) (list_all (is_childless members) (diamond_at d) && list_all
    (λ b. nat_eq b d || is_before priority d b) (diamond_at d)) r.0).0 in
    record {
      lead = lead-is n priority members d (IsAddress-splittable n d (closed.splittable d member)) r.0;
      last = λ a lead other. ⊎_elim
          (λ same. absurd (other (eqb-true a d same)))
          (λ before. before-is priority a d before)
          (or_cases (nat_eq a d) (is_before priority a d)
          (each_lead-is n priority members (λ a. nat_eq a d || is_before priority a d) closed r.1 a lead));
    }

-- every lead ranks before f
pub leads_before : (n : ℕ) (priority : ℕ → ℕ) (members : List ℕ) (f : ℕ) → IsClosed n (among members) →
    each_lead priority members (λ a. is_before priority a f) ≡ true →
    (d : ℕ) → IsLead n priority (among members) d → RanksBefore priority d f
leads_before n priority members f closed h d lead =
    before-is priority d f (each_lead-is n priority members (λ a. is_before priority a f) closed h d lead)

-- every lead has a positive priority
pub leads_positive : (n : ℕ) (priority : ℕ → ℕ) (members : List ℕ) → IsClosed n (among members) →
    each_lead priority members (λ a. nat_lt 0 (priority a)) ≡ true →
    (d : ℕ) → IsLead n priority (among members) d → 0 < priority d
leads_positive n priority members closed h d lead =
    ltb-true 0 (priority d) (each_lead-is n priority members (λ a. nat_lt 0 (priority a)) closed h d lead)

-- leaves

-- f is a leaf of positive priority, and ranks before each other leaf of positive priority
abbrev pub is_first_leaf : ℕ → (ℕ → ℕ) → List ℕ → ℕ → Bool
is_first_leaf n priority members f =
    among (leaves_of n (among members)) f && (nat_lt 0 (priority f)
    && list_all (λ a. nat_eq a f || (not (nat_lt 0 (priority a)) || is_before priority f a))
    (leaves_of n (among members)))

-- a triangle that passes the test is the first leaf in rank
pub first_leaf : (n : ℕ) (priority : ℕ → ℕ) (members : List ℕ) (f : ℕ) → is_first_leaf n priority members f ≡ true →
    IsFirstLeaf n priority (among members) f
first_leaf n priority members f h =
    let all : Bool = list_all (λ a. nat_eq a f || (not (nat_lt 0 (priority a)) || is_before priority f a))
    (leaves_of n (among members)) in
    let r = and_parts (among (leaves_of n (among members)) f) (nat_lt 0 (priority f) && all) h in
    let s = and_parts (nat_lt 0 (priority f)) all r.1 in
    record {
      leaf = Contains-in f (leaves_of n (among members)) (IsIn-among f (leaves_of n (among members)) r.0);
      positive = ltb-true 0 (priority f) s.0;
      first = λ a leaf some other. ⊎_elim
          (λ same. absurd (other (eqb-true a f same)))
          (λ rest. ⊎_elim
          (λ none. absurd (both_ways (nat_lt 0 (priority a)) (not-true (nat_lt 0 (priority a)) none)
          (lt-ltb 0 (priority a) some)))
          (λ before. before-is priority f a before)
          (or_cases (not (nat_lt 0 (priority a))) (is_before priority f a) rest))
          (or_cases (nat_eq a f) (not (nat_lt 0 (priority a)) || is_before priority f a)
          (every-in (λ a. nat_eq a f || (not (nat_lt 0 (priority a)) || is_before priority f a))
          (leaves_of n (among members)) s.1 a
          (IsIn-contains a (leaves_of n (among members)) leaf)));
    }

-- two tables agree at each entry
pub same_at_each : (f g : ℕ → ℕ) (xs : List ℕ) → list_all (λ a. nat_eq (f a) (g a)) xs ≡ true → All (λ a. f a ≡ g a) xs
same_at_each f g xs h =
    All-in (λ a. f a ≡ g a) xs (λ a i. eqb-true (f a) (g a) (every-in (λ a. nat_eq (f a) (g a)) xs h a i))

-- a list of leaves that passes the test at each entry has priority 0 throughout
pub zero_leaves : (priority : ℕ → ℕ) (leaves : List ℕ) → list_all (λ a. nat_eq (priority a) 0) leaves ≡ true →
    All (λ a. priority a ≡ 0) leaves
zero_leaves priority leaves h = same_at_each priority (λ a. 0) leaves h

-- forced splits

-- each link is the parent or the mate of one that is known by then
abbrev are_linked : List ℕ → List ℕ → Bool
are_linked known [] = true
are_linked known (x ∷ xs) =
    list_any (λ y. (nat_le 4 y && nat_eq (y / 2) x) || among (mates_at (level_of y) y) x) known && are_linked
    (x ∷ known) xs

linked-held : (n : ℕ) (other : ℕ → Bool) (known links : List ℕ) → IsClosed n other →
    ((a : ℕ) → IsIn a known → IsTrue (other a)) → are_linked known links ≡ true →
    (a : ℕ) → IsIn a links → IsTrue (other a)
linked-held n other known [] shut held h a i = absurd i
linked-held n other known (x ∷ xs) shut held h a i =
    let r = and_parts (list_any (λ y. (nat_le 4 y && nat_eq (y / 2) x) || among (mates_at (level_of y) y) x) known)
    (are_linked (x ∷ known) xs) h in
    let y = Any-in (λ y. (nat_le 4 y && nat_eq (y / 2) x) || among (mates_at (level_of y) y) x) known r.0 in
    let there : IsTrue (other y.0) = held y.0 y.1 in
    let new : IsTrue (other x) = ⊎_elim
    (λ parent.
    let s = and_parts (nat_le 4 y.0) (nat_eq (y.0 / 2) x) parent in
    subst (λ z. IsTrue (other z)) (eqb-true (y.0 / 2) x s.1) (shut.parent y.0 there (leb-true 4 y.0 s.0)))
    (λ mate. shut.mate y.0 x there
    (in-mates n y.0 x (IsAddress-splittable n y.0 (shut.splittable y.0 there))
    (IsIn-among x (mates_at (level_of y.0) y.0) mate)))
    (or_cases (nat_le 4 y.0 && nat_eq (y.0 / 2) x) (among (mates_at (level_of y.0) y.0) x) y.2) in
    ⊎_elim
    (λ (same : x ≡ a). subst (λ z. IsTrue (other z)) same new)
    (λ rest. linked-held n other (x ∷ known) xs shut
    (λ b j. ⊎_elim (λ (e : x ≡ b). subst (λ z. IsTrue (other z)) e new) (λ k. held b k) j)
    r.1 a rest)
    i

-- after is a closed set with before and t, and else only links, each a parent or mate of t or of an earlier one
abbrev pub is_forced : ℕ → List ℕ → ℕ → List ℕ → List ℕ → Bool
is_forced n before t links after =
    (is_grid_set n after && list_all (among after) (t ∷ before))
    && (list_all (λ a. among (t ∷ before) a || among links a) after && are_linked (t ∷ []) links)

-- a set that passes the test is what a split of t forces
pub forced : (n : ℕ) (before : List ℕ) (t : ℕ) (links after : List ℕ) → is_forced n before t links after ≡ true →
    IsForced n before t after
forced n before t links after h =
    let r = and_parts (is_grid_set n after && list_all (among after) (t ∷ before))
    (list_all (λ a. among (t ∷ before) a || among links a) after && are_linked (t ∷ []) links) h in
    let first = and_parts (is_grid_set n after) (list_all (among after) (t ∷ before)) r.0 in
    let second =
    and_parts (list_all (λ a. among (t ∷ before) a || among links a) after) (are_linked (t ∷ []) links) r.1 in
    let set = grid_set n after first.0 in
    let old : (a : ℕ) → IsIn a (t ∷ before) → IsTrue (with_triangle (among before) t a) = λ a i. ⊎_elim
    (λ (same : t ≡ a). subst (λ z. IsTrue (with_triangle (among before) t z)) same (with-new (among before) t))
    (λ rest. with-old (among before) t a (among-in a before rest))
    i in
    record {
      ascending = set.ascending;
      least = record {
        closed = set.closed;
        holds = λ a k. every-in (among after) (t ∷ before) first.1 a (⊎_elim
            (λ was. inr (IsIn-among a before was))
            (λ (same : t ≡ a). inl same)
            (with-cases (among before) t a k));
        least = λ other shut holds a k. ⊎_elim
            (λ was. holds a (old a (IsIn-among a (t ∷ before) was)))
            (λ link. linked-held n other (t ∷ []) links shut (λ b i. ⊎_elim
            (λ (same : t ≡ b). subst (λ z. IsTrue (other z)) same (holds t (with-new (among before) t)))
            (λ none. absurd none)
            i) second.1 a (IsIn-among a links link))
            (or_cases (among (t ∷ before) a) (among links a)
            (every-in (λ a. among (t ∷ before) a || among links a) after second.0 a (IsIn-among a after k)));
      };
    }

-- merges

-- the entries that are not in the diamond of d
abbrev pub without : ℕ → List ℕ → List ℕ
without d before = filter (λ b. not (among (diamond_at d) b)) before

-- they are the set from which the diamond of d was merged
pub without_is : (n : ℕ) (before : List ℕ) (d : ℕ) → IsAscending before → IsAddress n d →
    IsWithoutDiamond n before d (without d before)
without_is n before d ascending address = record {
  ascending = ascending-filter (λ b. not (among (diamond_at d) b)) before ascending;
  members = λ b. (
    (λ h. let r = among-filter (λ b. not (among (diamond_at d) b)) b before h in (
      r.0,
      λ i. both_ways (among (diamond_at d) b) (not-true (among (diamond_at d) b) r.1)
          (among-in b (diamond_at d) (diamond-in n d b address i)),
    )),
    (λ r. filter-among (λ b. not (among (diamond_at d) b)) b before r.0
        (not_from_false (among (diamond_at d) b) (false_from_ne_true (among (diamond_at d) b)
        (λ k. r.1 (in-diamond n d b address (IsIn-among b (diamond_at d) k)))))),
  );
}

-- loose members

-- the members whose diamond has no entry of chosen
abbrev pub loose_of_list : List ℕ → List ℕ → List ℕ
loose_of_list chosen members = filter (λ a. not (list_any (among chosen) (diamond_at a))) members

-- they are the members whose diamond holds no chosen triangle
pub loose_is : (n : ℕ) (ranking : List ℕ) (chosen : ℕ) (members : List ℕ) → IsGridSet n members →
    AreLoose n ranking chosen members (loose_of_list (take chosen ranking) members)
loose_is n ranking chosen members set = record {
  ascending = ascending-filter tight members set.ascending;
  rest = λ a. (
    (λ h.
        let r = among-filter tight a members h in (
          r.0,
          λ holds. both_ways (list_any (among (take chosen ranking)) (diamond_at a))
              (not-true (list_any (among (take chosen ranking)) (diamond_at a)) r.1)
              (list_any-in (among (take chosen ranking)) (diamond_at a) holds.triangle
              (diamond-in n a holds.triangle (address a r.0) holds.in_diamond) holds.is_chosen),
        )),
    (λ r. filter-among tight a members r.0
        (not_from_false (list_any (among (take chosen ranking)) (diamond_at a))
        (false_from_ne_true (list_any (among (take chosen ranking)) (diamond_at a)) (λ some.
        let b = Any-in (among (take chosen ranking)) (diamond_at a) some in
        r.1 record { triangle = b.0; in_diamond = in-diamond n a b.0 (address a r.0) b.1; is_chosen = b.2 })))),
  );
}
  where
    tight : ℕ → Bool
    tight = λ a. not (list_any (among (take chosen ranking)) (diamond_at a))

    address : (a : ℕ) → IsTrue (among members a) → IsAddress n a
    address a member = IsAddress-splittable n a (set.closed.splittable a member)

-- steps

-- f does not fit
pub does_not_fit : (n budget : ℕ) (priority : ℕ → ℕ) (before : List ℕ) (f : ℕ) (links after : List ℕ) →
    is_first_leaf n priority before f ≡ true → is_forced n before f links after ≡ true → budget < leaf_count n after →
    DoesNotFit n budget priority before f
does_not_fit n budget priority before f links after first force over =
    record {
      first = first_leaf n priority before f first;
      after = after;
      forced = forced n before f links after force;
      over = over;
    }

-- f is split
pub split_step : (n budget : ℕ) (priority : ℕ → ℕ) (before : List ℕ) (f : ℕ) (links after : List ℕ) →
    leaf_count n before ≤ budget →
    is_first_leaf n priority before f ≡ true → is_forced n before f links after ≡ true → leaf_count n after ≤ budget →
    (step : IsSplitStep n budget priority before after) × (step.leaf ≡ f)
split_step n budget priority before f links after within first force fits_in = (
  record {
    leaf = f;
    within = within;
    first = first_leaf n priority before f first;
    forced = forced n before f links after force;
    fits = fits_in;
  },
  refl,
)

-- the last diamond is merged
pub merge_step : (n budget : ℕ) (priority : ℕ → ℕ) (before after : List ℕ) (d : ℕ) → is_grid_set n before ≡ true →
    is_last_lead priority before d ≡ true →
    MustMerge n budget priority before d → without d before ≡ after →
    (step : IsMergeStep n budget priority before after) × (step.diamond ≡ d)
merge_step n budget priority before after d set last must gone =
    let s = grid_set n before set in
    let l = last_lead n priority before d s.closed last in (
      record {
        diamond = d;
        last = l;
        must = must;
        merged = subst (λ z. IsWithoutDiamond n before d z) gone (without_is n before d s.ascending
            (IsAddress-splittable n d (s.closed.splittable d l.lead.mergeable.member)));
      },
      refl,
    )

-- it makes room for f
pub room_for : (n budget : ℕ) (priority : ℕ → ℕ) (before : List ℕ) (d f : ℕ) (links after : List ℕ) →
    leaf_count n before ≤ budget →
    is_first_leaf n priority before f ≡ true → is_forced n before f links after ≡ true → budget < leaf_count n after →
    is_before priority f d ≡ true →
    MustMerge n budget priority before d
room_for n budget priority before d f links after within first force over later =
    makes_room f within (does_not_fit n budget priority before f links after first force over)
    (before-is priority f d later)

-- Lists of slots: what is among them, what holds of each, slots in arrays, and the addresses of listed slots.
use Rattle.std.proofs.Common.{◌≡◌, ℕ, inl, inr, true, false, eqb, nat_eq, List, [], ◌∷◌, map, reverse, refl, sym, ◌∙◌}
use Rattle.std.proofs.Common.{ap, ◌+◌, ◌-◌, ◌<◌, ◌≤◌, ◌||◌, ◌⊎◌, Bool, cond, ◌++◌, length, take, slice_index_or}
use Rattle.std.proofs.Common.{slice_set, ap₂, subst, arith, ⊎_elim, slice_index}
use Rattle.std.specs.List.{IsDistinct, AllByRecursion, list_any}
use Rattle.std.proofs.lemmas.Bool.{both_ways, false_from_ne_true, eqb-true, eq-eqb, cases_Bool, cases_lt, or_left}
use Rattle.std.proofs.lemmas.Bool.{or_right, or_cases, or_from, false≢true}
use Rattle.std.proofs.lemmas.Map.Keys.{IsDistinct-head, IsDistinct-tail, IsDistinct-cons, IsDistinct-IsPermutation}
use Rattle.std.proofs.lemmas.Map.Keys.{IsDistinct-push}
use Rattle.std.proofs.lemmas.List.Sorted.{IsPermutation-reverse, list_any-IsPermutation}
use Rattle.mesh_defs.specs.ClosedSet.{among}
use Rattle.mesh_defs.proofs.ListLemmas.{IsIn, IsIn-among, among-in}
use Rattle.mesh_defs.proofs.TestLemmas.{same_tests}
use Rattle.mesh_laws.specs.Slots.{address_at, IsLive, IsPool}
use Rattle.std.proofs.lemmas.Cmp.{nat_eq_equiv}
use Rattle.std.proofs.lemmas.List.{get_or_past, length_push, take_more, take_more_set, map-append, length-map}
use Rattle.std.proofs.lemmas.List.{length-take-le}
use Rattle.std.proofs.lemmas.List.Folds.{list_any-append}
use Rattle.std.proofs.lemmas.Map.Steps.{length-le_from_distinct_below}
use Rattle.bintree_addr.specs.declared.slot.Slot.{Slot}
use Rattle.roam_mesh.specs.Parts.{blank, IsSlotList}
use Rattle.roam_mesh.specs.declared.entry.Entry.{Entry}

-- ---- what is among a list

-- what is among the first of two lists is among both together
pub in_left : (a : ℕ) (xs ys : List ℕ) → among xs a ≡ true → among (xs ++ ys) a ≡ true
in_left a xs ys h = list_any-append (λ t. eqb t a) xs ys ∙ or_left (among xs a) (among ys a) h

-- what is among the second is
pub in_right : (a : ℕ) (xs ys : List ℕ) → among ys a ≡ true → among (xs ++ ys) a ≡ true
in_right a xs ys h = list_any-append (λ t. eqb t a) xs ys ∙ or_right (among xs a) (among ys a) h

-- what is among both together is among one of them
pub in_either : (a : ℕ) (xs ys : List ℕ) → among (xs ++ ys) a ≡ true → (among xs a ≡ true) ⊎ (among ys a ≡ true)
in_either a xs ys h = or_cases (among xs a) (among ys a) (sym (list_any-append (λ t. eqb t a) xs ys) ∙ h)

-- the first of a list is among it
pub in_first : (a x : ℕ) (xs : List ℕ) → x ≡ a → among (x ∷ xs) a ≡ true
in_first a x xs same = or_left (eqb x a) (among xs a) (eq-eqb x a same)

-- and so are all others
pub in_later : (a x : ℕ) (xs : List ℕ) → among xs a ≡ true → among (x ∷ xs) a ≡ true
in_later a x xs h = or_right (eqb x a) (among xs a) h

-- what is among a list is its first or a later one
pub in_cases : (a x : ℕ) (xs : List ℕ) → among (x ∷ xs) a ≡ true → (a ≡ x) ⊎ (among xs a ≡ true)
in_cases a x xs h =
    ⊎_elim (λ first. inl (sym (eqb-true x a first))) (λ rest. inr rest) (or_cases (eqb x a) (among xs a) h)

-- what is among a list that stands only where a test passes
pub in_choice : (a : ℕ) (b : Bool) (xs : List ℕ) → among (cond b xs []) a ≡ true → (b ≡ true) × (among xs a ≡ true)
in_choice a true xs h = (refl, h)
in_choice a false xs h = absurd (false≢true h)

-- and to it
pub choice_in : (a : ℕ) (b : Bool) (xs : List ℕ) → b ≡ true → among xs a ≡ true → among (cond b xs []) a ≡ true
choice_in a true xs is h = h
choice_in a false xs is h = absurd (false≢true is)

-- the two tests of membership agree
pub any-among : (s : ℕ) (slots : List ℕ) → list_any (eqb s) slots ≡ among slots s
any-among s [] = refl
any-among s (t ∷ slots) = ap₂ (λ (b c : Bool). b || c) (nat_eq_equiv.symm s t) (any-among s slots)

-- one more slot
pub among-push : (slots : List ℕ) (s r : ℕ) → among (slots ++ (s ∷ [])) r ≡ (among slots r || among (s ∷ []) r)
among-push slots s r = list_any-append (λ t. nat_eq t r) slots (s ∷ [])

-- a list of one slot
among_one : (s r : ℕ) → among (s ∷ []) r ≡ true → s ≡ r
among_one s r is = ⊎_elim
    (λ (same : eqb s r ≡ true). eqb-true s r same)
    (λ (other : eqb s r ≡ false). absurd (both_ways (among (s ∷ []) r) (ap (λ b. b || false) other) is))
    (cases_Bool (eqb s r))

-- the last of a list is in it
pub among_last : (rest : List ℕ) (s : ℕ) → among (rest ++ (s ∷ [])) s ≡ true
among_last rest s =
    among-push rest s s ∙ or_right (among rest s) (among (s ∷ []) s) (or_left (nat_eq s s) false (eq-eqb s s refl))

-- the first slot of a list is one of its slots
pub first_listed : (slots : List ℕ) (s : ℕ) → 1 ≤ length slots → slice_index slots 0 ≡ s → among slots s ≡ true
first_listed [] s some first = absurd (omega arith)
first_listed (x ∷ xs) s some first = in_first s x xs first

-- ---- what holds of each entry

-- what holds of each holds of all
pub all_of : (P : ℕ → Type 0) (xs : List ℕ) → ((r : ℕ) → among xs r ≡ true → P r) → AllByRecursion P xs
all_of P [] each = tt
all_of P (x ∷ xs) each = (each x (in_first x x xs refl), all_of P xs (λ r h. each r (in_later r x xs h)))

-- what holds of all holds of the last ones
pub all_after : (P : ℕ → Type 0) (xs ys : List ℕ) → AllByRecursion P (xs ++ ys) → AllByRecursion P ys
all_after P [] ys all = all
all_after P (x ∷ xs) ys all = all_after P xs ys all.1

-- what holds of a list holds of its prefix and of its last
all_front : (P : ℕ → Type 0) (xs : List ℕ) (y : ℕ) → AllByRecursion P (xs ++ (y ∷ [])) → AllByRecursion P xs × P y
all_front P [] y all = (tt, all.0)
all_front P (x ∷ xs) y all = let rest = all_front P xs y all.1 in ((all.0, rest.0), rest.1)

-- the prefix of a distinct list is distinct, and does not have the last
pub distinct_front : (rest : List ℕ) (s : ℕ) → IsDistinct nat_eq (rest ++ (s ∷ [])) →
    IsDistinct nat_eq rest × (among rest s ≡ false)
unfolding IsDistinct
distinct_front [] s distinct = (tt, refl)
distinct_front (x ∷ rest) s distinct =
    let own = all_front (λ y. eqb x y ≡ false) rest s distinct.0 in
    let others = distinct_front rest s distinct.1 in
    ((own.0, others.0), or_from (eqb x s) (among rest s) own.1 others.1)

-- ---- lists of the slots with a mark

-- what is listed is a slot
pub listed_below : (entries : List Entry) (mark : Entry → Bool) (slots : List ℕ) (s : ℕ) →
    IsSlotList entries mark slots → mark blank ≡ false → among slots s ≡ true → s < length entries
listed_below entries mark slots s listed none is = ⊎_elim
    (λ (below : s < length entries). below)
    (λ (past : length entries ≤ s).
    absurd (both_ways (mark blank) none (sym (ap mark (get_or_past entries s blank past)) ∙ listed.marked s ∙ is)))
    (cases_lt s (length entries))

-- so there is room for a slot that is not listed
pub distinct_room : (entries : List Entry) (mark : Entry → Bool) (slots : List ℕ) (s : ℕ) →
    IsSlotList entries mark slots → mark blank ≡ false →
    s < length entries → mark (slice_index_or entries s blank) ≡ false → length slots < length entries
distinct_room entries mark slots s listed none below unmarked =
    let new : list_any (eqb s) slots ≡ false = any-among s slots ∙ sym (listed.marked s) ∙ unmarked in
    let more = IsDistinct-push nat_eq_equiv slots s listed.distinct new in
    let most = length-le_from_distinct_below (slots ++ (s ∷ [])) (length entries) more
    (λ q is. either q (sym (any-among q (slots ++ (s ∷ []))) ∙ is)) in
    let long = length_push slots s in
    omega arith
  where
    either : (q : ℕ) → among (slots ++ (s ∷ [])) q ≡ true → q < length entries
    either q is = ⊎_elim
        (λ (old : among slots q ≡ true). listed_below entries mark slots q listed none old)
        (λ (other : among slots q ≡ false). own q
        (sym (ap (λ b. b || among (s ∷ []) q) other) ∙ sym (among-push slots s q) ∙ is))
        (cases_Bool (among slots q))
      where
        own : (q : ℕ) → among (s ∷ []) q ≡ true → q < length entries
        own q is = subst (λ z. z < length entries) (among_one s q is) below

-- ---- slots in the first places of an array

-- one more slot in an array
pub numbers_push : (items : List Slot) (count : ℕ) (s : Slot) → count < length items →
    map (λ t. t.0) (take (count + 1) (slice_set items count s)) ≡ map (λ t. t.0) (take count items) ++ (s.0 ∷ [])
numbers_push items count s below =
    ap (map (λ t. t.0)) (take_more_set items count s below) ∙ map-append (λ t. t.0) (take count items) (s ∷ [])

-- the last slot of an array
pub numbers_last : (items : List Slot) (count : ℕ) (s : Slot) → count < length items →
    s ≡ slice_index_or items count s →
    map (λ t. t.0) (take (count + 1) items) ≡ map (λ t. t.0) (take count items) ++ (s.0 ∷ [])
numbers_last items count s below is =
    ap (map (λ t. t.0)) (take_more items count s below ∙ ap (λ t. take count items ++ (t ∷ [])) (sym is))
    ∙ map-append (λ t. t.0) (take count items) (s ∷ [])

-- the last slot of an array, by how many there are
pub numbers_pop : (items : List Slot) (count : ℕ) (s : Slot) → 1 ≤ count → count ≤ length items →
    s ≡ slice_index_or items (count - 1) s →
    map (λ t. t.0) (take count items) ≡ map (λ t. t.0) (take (count - 1) items) ++ (s.0 ∷ [])
numbers_pop items count s some within is =
    let one : count - 1 + 1 ≡ count = omega arith in
    ap (λ k. map (λ t. t.0) (take k items)) (sym one) ∙ numbers_last items (count - 1) s (omega arith) is

-- how many there are
pub numbers_count : (items : List Slot) (count : ℕ) → count ≤ length items →
    length (map (λ t. t.0) (take count items)) ≡ count
numbers_count items count within = length-map (take count items) (λ t. t.0) ∙ length-take-le count items within

-- ---- the addresses of listed slots

-- an entry of a list of values is the value of an entry
map_in : (f : ℕ → ℕ) (xs : List ℕ) (a : ℕ) → IsIn a (map f xs) → (r : ℕ) × IsIn r xs × (f r ≡ a)
map_in f [] a h = absurd h
map_in f (x ∷ xs) a (inl own) = (x, inl refl, own)
map_in f (x ∷ xs) a (inr rest) =
    let found : (r : ℕ) × IsIn r xs × (f r ≡ a) = map_in f xs a rest in
    (found.0, inr found.1, found.2)

in_map : (f : ℕ → ℕ) (xs : List ℕ) (r : ℕ) → IsIn r xs → IsIn (f r) (map f xs)
in_map f [] r h = absurd h
in_map f (x ∷ xs) r (inl own) = inl (ap f own)
in_map f (x ∷ xs) r (inr rest) = inr (in_map f xs r rest)

-- values that differ are distinct

apart_map : (f : ℕ → ℕ) (x : ℕ) (xs : List ℕ) → AllByRecursion (λ y. eqb x y ≡ false) xs →
    ((j : ℕ) → IsIn j xs → f x ≡ f j → x ≡ j) →
    AllByRecursion (λ y. eqb (f x) y ≡ false) (map f xs)
apart_map f x [] apart one = tt
apart_map f x (y ∷ ys) apart one = (
  false_from_ne_true (eqb (f x) (f y))
      (λ same. both_ways (eqb x y) apart.0 (eq-eqb x y (one y (inl refl) (eqb-true (f x) (f y) same)))),
  apart_map f x ys apart.1 (λ j i. one j (inr i)),
)

distinct_map : (f : ℕ → ℕ) (xs : List ℕ) → IsDistinct eqb xs → ((i j : ℕ) → IsIn i xs → IsIn j xs → f i ≡ f j → i ≡ j) →
    IsDistinct eqb (map f xs)
unfolding IsDistinct
distinct_map f [] distinct one = tt
distinct_map f (x ∷ xs) distinct one = IsDistinct-cons eqb (f x) (map f xs)
    (apart_map f x xs (IsDistinct-head eqb x xs distinct) (λ j i. one x j (inl refl) (inr i)))
    (distinct_map f xs (IsDistinct-tail eqb x xs distinct) (λ i j p q. one i j (inr p) (inr q)))

-- the address of a listed slot is seen
pub seen_in : (pairs slots : List ℕ) (r : ℕ) → among slots r ≡ true →
    among (reverse (map (address_at pairs) slots)) (address_at pairs r) ≡ true
seen_in pairs slots r h =
    let a : ℕ = address_at pairs r in
    sym (list_any-IsPermutation (λ t. eqb t a) (map (address_at pairs) slots) (reverse (map (address_at pairs) slots))
    (IsPermutation-reverse (map (address_at pairs) slots)))
    ∙ among-in a (map (address_at pairs) slots) (in_map (address_at pairs) slots r (IsIn-among r slots h))

-- and what is seen is the address of a listed slot
pub in_seen : (pairs slots : List ℕ) (a : ℕ) → among (reverse (map (address_at pairs) slots)) a ≡ true →
    (r : ℕ) × (among slots r ≡ true) × (address_at pairs r ≡ a)
in_seen pairs slots a h =
    let listed : among (map (address_at pairs) slots) a ≡ true =
    list_any-IsPermutation (λ t. eqb t a) (map (address_at pairs) slots) (reverse (map (address_at pairs) slots))
    (IsPermutation-reverse (map (address_at pairs) slots)) ∙ h in
    let found = map_in (address_at pairs) slots a (IsIn-among a (map (address_at pairs) slots) listed) in
    (found.0, among-in found.0 slots found.1, found.2)

-- each once
pub seen_distinct : (n : ℕ) (pairs slots : List ℕ) → IsPool n pairs → IsDistinct nat_eq slots →
    ((r : ℕ) → among slots r ≡ true → IsLive pairs r) →
    IsDistinct nat_eq (reverse (map (address_at pairs) slots))
seen_distinct n pairs slots pool distinct live = IsDistinct-IsPermutation eqb
    (λ x y. same_tests (eqb x y) (eqb y x) (λ h. eq-eqb y x (sym (eqb-true x y h)))
    (λ h. eq-eqb x y (sym (eqb-true y x h))))
    (map (address_at pairs) slots) (reverse (map (address_at pairs) slots))
    (IsPermutation-reverse (map (address_at pairs) slots))
    (distinct_map (address_at pairs) slots distinct (λ i j p q same. pool.once i j (live i (among-in i slots p)) same))

-- What steps put into the log of a mesh.
use Rattle.std.proofs.Common.{◌≡◌, ℕ, ◌+◌, ◌*◌, ◌/◌, ◌<◌, ◌≤◌, ◌⊎◌, inl, inr, Bool, true, false, cond, nat_lt, List, []}
use Rattle.std.proofs.Common.{◌∷◌, ◌++◌, length, Option, None, Some, IsNone, IfSome, IsSomeAnd, refl, sym, ◌∙◌, ap}
use Rattle.std.proofs.Common.{subst, arith, ⊎_elim, length-append, append_assoc, slice_index, ◌≢◌}
use Rattle.std.proofs.lemmas.Bool.{cases_Bool, cases_eq, cases_lt, both_ways, cond-true, lt-ltb, ltb-true, and_parts}
use Rattle.std.proofs.lemmas.Bool.{false_from_ne_true, false≢true}
use Rattle.mesh_defs.specs.ClosedSet.{among}
use Rattle.bintree_addr.specs.declared.slot.Slot.{Slot}
use Rattle.mesh_laws.specs.Edge.{mate_of}
use Rattle.mesh_laws.specs.Slots.{address_at, has_children, split_set, diamond_size, IsLive, IsPool, IsMerge}
use Rattle.mesh_laws.proofs.ForcingLemmas.{with-old}
use Rattle.mesh_laws.proofs.SlotLemmas.{slot_of, set-has_children, has_children-set, parent_has_children, size_one}
use Rattle.mesh_laws.proofs.SlotLemmas.{size_two, among-split_list}
use Rattle.mesh_laws.proofs.MateLemmas.{mate_of-low}
use Rattle.triangle_pool.specs.Slots.{PoolState}
use Rattle.triangle_pool.specs.Answer.{AreChildren, IsOfPair, IsBorn}
use Rattle.triangle_pool.specs.declared.pool.Born.{Born}
use Rattle.force_split.specs.Chain.{IsChain, AreAnswers, IsBornOf, chain_size}
use Rattle.deferred_loop.specs.Seen.{PoolSet}
use Rattle.deferred_loop.specs.Log.{Log, IsListed, IsLogged}
use Rattle.roam_mesh.specs.Mesh.{pool_members, pool_set}
use Rattle.roam_mesh.specs.Splitting.{born_slots, IsChainSplit}
use Rattle.roam_mesh.specs.Log.{with_one, noted, noted_all, second_parent, parents_of, diamond_of, IsBornOfSplit}
use Rattle.roam_mesh.proofs.SlotListLemmas.{in_left, in_right, in_first, in_later, in_cases, choice_in, all_of}
use Rattle.roam_mesh.proofs.ChainSlotLemmas.{link_leaf}
use Rattle.roam_mesh.proofs.BornLemmas.{in_born, born_parent, born_either}

-- ---- one triangle more

-- what is listed stays
with_one-kept : (list : Option (List ℕ)) (room a b : ℕ) → IsListed list b → IsListed (with_one list room a) b
with_one-kept None room a b h = tt
with_one-kept (Some list) room a b h = by_test (nat_lt (length list) room)
  where
    by_test : (test : Bool) → IsListed (cond test (Some (list ++ (a ∷ []))) None) b
    by_test true = in_left b list (a ∷ []) h
    by_test false = tt

-- and it is listed
with_one-new : (list : Option (List ℕ)) (room a : ℕ) → IsListed (with_one list room a) a
with_one-new None room a = tt
with_one-new (Some list) room a = by_test (nat_lt (length list) room)
  where
    by_test : (test : Bool) → IsListed (cond test (Some (list ++ (a ∷ []))) None) a
    by_test true = in_right a list (a ∷ []) (in_first a a [] refl)
    by_test false = tt

-- the list is one longer
with_one-few : (list : Option (List ℕ)) (room a : ℕ) (now : List ℕ) → with_one list room a ≡ Some now →
    (was : List ℕ) × (list ≡ Some was) × (length now ≡ length was + 1)
with_one-few None room a now is = let none : ⊥ = cc in absurd none
with_one-few (Some list) room a now is = by_test (nat_lt (length list) room) is
  where
    by_test : (test : Bool) → cond test (Some (list ++ (a ∷ []))) None ≡ Some now →
        (was : List ℕ) × (Some list ≡ Some was) × (length now ≡ length was + 1)
    by_test true same =
        let lists : list ++ (a ∷ []) ≡ now = cc in
        (list, refl, ap length (sym lists) ∙ length-append list (a ∷ []))
    by_test false same = let none : ⊥ = cc in absurd none

-- and not lost where it has room
with_one-fits : (list : List ℕ) (room a : ℕ) → length list < room →
    with_one (Some list) room a ≡ Some (list ++ (a ∷ []))
with_one-fits list room a fits =
    cond-true (nat_lt (length list) room) (Some (list ++ (a ∷ []))) None (lt-ltb (length list) room fits)

-- ---- many

noted_all-kept : (log : Log) (xs : List ℕ) (b : ℕ) → IsListed log.changed b → IsListed (noted_all log xs).changed b
noted_all-kept log [] b h = h
noted_all-kept log (a ∷ xs) b h = noted_all-kept (noted log a) xs b (with_one-kept log.changed log.room a b h)

noted_all-new : (log : Log) (xs : List ℕ) (b : ℕ) → among xs b ≡ true → IsListed (noted_all log xs).changed b
noted_all-new log [] b h = absurd (false≢true h)
noted_all-new log (a ∷ xs) b h = ⊎_elim
    (λ own. noted_all-kept (noted log a) xs b
    (subst (λ z. IsListed (with_one log.changed log.room a) z) (sym own) (with_one-new log.changed log.room a)))
    (λ rest. noted_all-new (noted log a) xs b rest)
    (in_cases b a xs h)

noted_all-room : (log : Log) (xs : List ℕ) → (noted_all log xs).room ≡ log.room
noted_all-room log [] = refl
noted_all-room log (a ∷ xs) = noted_all-room (noted log a) xs

noted_all-few : (log : Log) (xs now : List ℕ) → (noted_all log xs).changed ≡ Some now →
    (was : List ℕ) × (log.changed ≡ Some was) × (length now ≡ length was + length xs)
noted_all-few log [] now is = (now, is, omega arith)
noted_all-few log (a ∷ xs) now is =
    let rest = noted_all-few (noted log a) xs now is in
    let first = with_one-few log.changed log.room a rest.0 rest.1 in
    let long = rest.2 in let one = first.2 in
    (first.0, first.1, omega arith)

noted_all-fits : (log : Log) (xs was : List ℕ) → log.changed ≡ Some was → length was + length xs ≤ log.room →
    (now : List ℕ) × ((noted_all log xs).changed ≡ Some now)
noted_all-fits log [] was is fits = (was, is)
noted_all-fits log (a ∷ xs) was is fits =
    let one : with_one log.changed log.room a ≡ Some (was ++ (a ∷ [])) =
    ap (λ z. with_one z log.room a) is ∙ with_one-fits was log.room a (omega arith) in
    noted_all-fits (noted log a) xs (was ++ (a ∷ [])) one (omega (arith, length-append was (a ∷ [])))

-- steps that change only listed triangles, and are counted by them, are logged by listing these
pub noted_logged : (before after : PoolSet) (log : Log) (xs : List ℕ) →
    ((a : ℕ) → (among after.members a ≡ among before.members a) ⊎ (among xs a ≡ true)) →
    after.splits + after.merges ≡ before.splits + before.merges + length xs →
    IsLogged before after log (noted_all log xs)
noted_logged before after log xs each counted = record {
  kept = λ a h. noted_all-kept log xs a h;
  listed = λ a. ⊎_elim
      (λ (same : among after.members a ≡ among before.members a). inl same)
      (λ (there : among xs a ≡ true). inr (noted_all-new log xs a there))
      (each a);
  room = noted_all-room log xs;
  rises = omega arith;
  few = λ list is.
      let first = noted_all-few log xs list is in
      let long = first.2 in (first.0, first.1, omega arith);
  fits = λ first is room. noted_all-fits log xs first is (omega arith);
}

-- ---- a split

parents-append : (pairs : List ℕ) (answers : List Born) (born : Born) →
    parents_of pairs (answers ++ (born ∷ []))
    ≡ parents_of pairs answers ++ ((address_at pairs born.first.0.0 / 2) ∷ (second_parent pairs born.second ++ []))
parents-append pairs [] born = refl
parents-append pairs (other ∷ answers) born =
    ap (λ z. (address_at pairs other.first.0.0 / 2) ∷ z)
    (ap (λ z. second_parent pairs other.second ++ z) (parents-append pairs answers born)
    ∙ sym (append_assoc (second_parent pairs other.second) (parents_of pairs answers)
    ((address_at pairs born.first.0.0 / 2) ∷ (second_parent pairs born.second ++ []))))

-- the parent of a slot of a pair of siblings is that of the first
sibling : (pairs : List ℕ) (a : ℕ) (pair : Slot × Slot) (r : ℕ) → AreChildren pairs a pair → IsOfPair pair r →
    address_at pairs pair.0.0 / 2 ≡ address_at pairs r / 2
sibling pairs a pair r are (inl left) = ap (λ z. address_at pairs z / 2) (sym left)
sibling pairs a pair r are (inr right) =
    let one : address_at pairs pair.0.0 ≡ 2 * a = are.0 in
    let two : address_at pairs r ≡ 2 * a + 1 = ap (address_at pairs) right ∙ are.1 in
    omega arith

second_in : (pairs : List ℕ) (m : ℕ) (second : Option (Slot × Slot)) (r : ℕ) →
    IfSome second (λ pair. (1 ≤ m) × AreChildren pairs m pair) →
    IsSomeAnd second (λ pair. IsOfPair pair r) →
    among (second_parent pairs second ++ []) (address_at pairs r / 2) ≡ true
second_in pairs m None r are h = absurd h
second_in pairs m (Some pair) r are h =
    in_first (address_at pairs r / 2) (address_at pairs pair.0.0 / 2) [] (sibling pairs m pair r are.1 h)

-- the parent of each slot that was given out is listed
parents_in : (old new chain : List ℕ) (answers : List Born) (r : ℕ) →
    AreAnswers old new chain answers → IsBornOf answers r →
    among (parents_of new answers) (address_at new r / 2) ≡ true
parents_in old new [] answers r are h = absurd (subst (λ z. IsBornOf z r) are h)
parents_in old new (c ∷ rest) answers r (before, born, same, are, answer) h =
    let p : ℕ = address_at new r / 2 in
    let own : List ℕ = (address_at new born.first.0.0 / 2) ∷ (second_parent new born.second ++ []) in
    subst (λ z. among (parents_of new z) p ≡ true) (sym same)
    (subst (λ z. among z p ≡ true) (sym (parents-append new before born)) (⊎_elim
    (λ (old_one : IsBornOf before r). in_left p (parents_of new before) own
    (parents_in old new rest before r are old_one))
    (λ (new_one : IsBorn born r). in_right p (parents_of new before) own (⊎_elim
    (λ (first : IsOfPair born.first r).
    in_first p (address_at new born.first.0.0 / 2) (second_parent new born.second ++ [])
    (sibling new (address_at old c) born.first r answer.first first))
    (λ (second : IsSomeAnd born.second (λ pair. IsOfPair pair r)).
    in_later p (address_at new born.first.0.0 / 2) (second_parent new born.second ++ [])
    (second_in new (mate_of (address_at old c)) born.second r answer.second second))
    new_one))
    (born_either before born r (subst (λ z. IsBornOf z r) same h))))

-- they are as many as a chain splits
second_size : (pairs : List ℕ) (a : ℕ) (second : Option (Slot × Slot)) →
    IfSome second (λ pair. (1 ≤ mate_of a) × AreChildren pairs (mate_of a) pair) →
    (IsNone second → mate_of a ≡ 0) → length (second_parent pairs second ++ []) + 1 ≡ diamond_size a
second_size pairs a None are alone = sym (size_one a (alone refl))
second_size pairs a (Some pair) are alone = sym (size_two a are.0)

parents_size : (old new chain : List ℕ) (answers : List Born) → AreAnswers old new chain answers →
    length (parents_of new answers) ≡ chain_size old chain
parents_size old new [] answers are = ap (λ z. length (parents_of new z)) are
parents_size old new (c ∷ rest) answers (before, born, same, are, answer) =
    let own : List ℕ = (address_at new born.first.0.0 / 2) ∷ (second_parent new born.second ++ []) in
    let list : length (parents_of new answers) ≡ length (parents_of new before) + length own =
    ap (λ z. length (parents_of new z)) same ∙ ap length (parents-append new before born)
    ∙ length-append (parents_of new before) own in
    let others = parents_size old new rest before are in
    let size = second_size new (address_at old c) born.second answer.second answer.alone in
    omega arith

-- so what a chain of splits gives out tells what it split
pub carried_born : (before after : PoolState) (chain : List ℕ) (answers : List Born) → IsChain before.pairs chain →
    IsChainSplit before after chain answers → IsBornOfSplit before after answers
carried_born before after chain answers linked carried = record {
  low = all_of (λ r. 4 ≤ address_at after.pairs r) (born_slots answers) (λ r h.
      let found = born_parent before.pairs after.pairs chain answers r carried.answered (in_born answers r h) in
      let live : 2 ≤ address_at before.pairs found.0 = (link_leaf before.pairs chain found.0 linked found.1).live in
      ⊎_elim
      (λ (own : address_at after.pairs r / 2 ≡ address_at before.pairs found.0).
      let e : 4 ≤ address_at after.pairs r = omega arith in
      e)
      (λ (mate : (1 ≤ mate_of (address_at before.pairs found.0))
      × (address_at after.pairs r / 2 ≡ mate_of (address_at before.pairs found.0))).
      let low = mate_of-low (address_at before.pairs found.0) live mate.0 in
      let half = mate.1 in
      let e : 4 ≤ address_at after.pairs r = omega arith in e)
      found.2);
  kept = λ a split. carried.set.holds a
      (with-old (split_set before.pairs) (address_at before.pairs (slice_index chain 0)) a split);
  new = λ a split.
      let up = set-has_children after.pairs a split in
      let low : 1 < a = ltb-true 1 a (and_parts (nat_lt 1 a) (among after.pairs a) split).0 in
      let half : (2 * a) / 2 ≡ a = omega arith in
      let slot =
      slot_of after.pairs (2 * a) (omega arith) (subst (λ z. has_children after.pairs z ≡ true) (sym half) up) in
      let at = slot.1 in
      let parent : address_at after.pairs slot.0 / 2 ≡ a = omega arith in
      ⊎_elim
      (λ (was : IsLive before.pairs slot.0).
      let stays = carried.kept slot.0 was in
      let same : address_at before.pairs slot.0 / 2 ≡ a = omega arith in
      inl (has_children-set before.pairs a (omega arith)
      (subst (λ z. has_children before.pairs z ≡ true) same (parent_has_children before.pairs slot.0 was))))
      (λ (born : IsBornOf answers slot.0).
      inr (subst (λ z. among (parents_of after.pairs answers) z ≡ true) parent
      (parents_in before.pairs after.pairs chain answers slot.0 carried.answered born)))
      (carried.live slot.0 (subst (λ z. 2 ≤ z) (sym at) (omega arith)));
  splits = carried.splits
      ∙ ap (λ z. before.splits + z) (sym (parents_size before.pairs after.pairs chain answers carried.answered));
  merges = carried.merges;
}

-- a triangle that is a member of one list of members just where it is of the other
same_members : (before after : PoolState) (xs : List ℕ) → IsPool before.n before.pairs → IsPool after.n after.pairs →
    ((a : ℕ) → (split_set after.pairs a ≡ split_set before.pairs a) ⊎ (among xs a ≡ true)) →
    (a : ℕ) → (among (pool_members after) a ≡ among (pool_members before) a) ⊎ (among xs a ≡ true)
same_members before after xs old new each a = ⊎_elim
    (λ (same : split_set after.pairs a ≡ split_set before.pairs a).
    inl (among-split_list after.n after.pairs a new ∙ same ∙ sym (among-split_list before.n before.pairs a old)))
    (λ (there : among xs a ≡ true). inr there)
    (each a)

-- a split is logged by what it split
pub split_logged : (before after : PoolState) (answers : List Born) (log : Log) → IsPool before.n before.pairs →
    IsPool after.n after.pairs → IsBornOfSplit before after answers →
    IsLogged (pool_set before) (pool_set after) log (noted_all log (parents_of after.pairs answers))
split_logged before after answers log old new is =
    let more = is.splits in let still = is.merges in
    noted_logged (pool_set before) (pool_set after) log (parents_of after.pairs answers)
    (same_members before after (parents_of after.pairs answers) old new (λ a. ⊎_elim
    (λ (now : split_set after.pairs a ≡ true). ⊎_elim
    (λ (was : split_set before.pairs a ≡ true). inl (now ∙ sym was))
    (λ (there : among (parents_of after.pairs answers) a ≡ true). inr there)
    (is.new a now))
    (λ (now : split_set after.pairs a ≡ false).
    inl (now ∙ sym (false_from_ne_true (split_set before.pairs a)
    (λ was. both_ways (split_set after.pairs a) now (is.kept a was)))))
    (cases_Bool (split_set after.pairs a))))
    (omega arith)

-- ---- a merge

diamond_length : (a : ℕ) → length (diamond_of a) ≡ diamond_size a
diamond_length a = by_test (nat_lt 0 (mate_of a))
  where
    by_test : (test : Bool) →
        length (cond test (mate_of a ∷ []) [] ++ (a ∷ [])) ≡ elim test as (λ _. ℕ) [ true ↦ 2 | false ↦ 1 ]
    by_test true = refl
    by_test false = refl

-- and a merge by its diamond
pub merge_logged : (before after : PoolState) (a : ℕ) (log : Log) → IsPool before.n before.pairs →
    IsPool after.n after.pairs →
    IsMerge before.pairs after.pairs a →
    after.splits ≡ before.splits → after.merges ≡ before.merges + diamond_size a →
    IsLogged (pool_set before) (pool_set after) log (noted_all log (diamond_of a))
merge_logged before after a log old new is splits merges =
    let size = diamond_length a in
    noted_logged (pool_set before) (pool_set after) log (diamond_of a)
    (same_members before after (diamond_of a) old new (λ p. ⊎_elim
    (λ (own : p ≡ a).
    inr (in_right p (cond (nat_lt 0 (mate_of a)) (mate_of a ∷ []) []) (a ∷ []) (in_first p a [] (sym own))))
    (λ (other : p ≢ a). ⊎_elim
    (λ (some : 0 < mate_of a). ⊎_elim
    (λ (mate : p ≡ mate_of a). inr (in_left p (cond (nat_lt 0 (mate_of a)) (mate_of a ∷ []) []) (a ∷ [])
    (choice_in p (nat_lt 0 (mate_of a)) (mate_of a ∷ []) (lt-ltb 0 (mate_of a) some)
    (in_first p (mate_of a) [] (sym mate)))))
    (λ (apart : p ≢ mate_of a). inl (is.others p other (λ _. apart)))
    (cases_eq p (mate_of a)))
    (λ (none : mate_of a ≤ 0). inl (is.others p other (λ some. absurd (let e : ⊥ = omega arith in e))))
    (cases_lt 0 (mate_of a)))
    (cases_eq p a)))
    (omega arith)

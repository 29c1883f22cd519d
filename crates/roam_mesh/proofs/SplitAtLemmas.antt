-- What the calls of a split pass on: slots that leave and slots that are listed, step by step, and all of it put
-- together.
use Rattle.std.proofs.Common.{◌≡◌, ℕ, length, slice_index, ◌/◌, ◌≤◌, ◌&&◌, Bool, true, false, cond, nat_lt, List, []}
use Rattle.std.proofs.Common.{◌∷◌, ◌++◌, sym, ◌∙◌, ap, subst, arith, ⊎_elim, append-nil}
use Rattle.std.specs.List.{filter, AllByRecursion}
use Rattle.std.proofs.lemmas.Bool.{true≢false, and_parts, and_from, ltb-true, lt-ltb, false_from_ne_true}
use Rattle.std.proofs.lemmas.List.Elements.{filter-append}
use Rattle.mesh_laws.specs.Edge.{mate_of}
use Rattle.mesh_laws.specs.Slots.{address_at, has_children, IsLive, split_set}
use Rattle.bintree_addr.specs.declared.slot.Slot.{Slot}
use Rattle.triangle_pool.specs.Answer.{numbers}
use Rattle.triangle_pool.specs.Slots.{PoolState}
use Rattle.triangle_pool.specs.declared.pool.Born.{Born}
use Rattle.force_split.specs.Chain.{IsChain, AreAnswers, IsGainOf, chain_size}
use Rattle.roam_mesh.specs.Mesh.{slot_of}
use Rattle.roam_mesh.specs.Parts.{PartsState, is_leaf_at, is_ready_at}
use Rattle.roam_mesh.specs.Change.{with_above, with_mate, with_chain, left, left_all, pushed_all, diamond_slots}
use Rattle.roam_mesh.specs.Splitting.{IsLeafMate, pair_slots, second_slots, born_slots, born_leaves, IsChainSplit}
use Rattle.roam_mesh.specs.Splitting.{IsSplitAt}
use Rattle.mesh_defs.specs.ClosedSet.{IsLeastClosed}
use Rattle.roam_mesh.proofs.BornLemmas.{in_born, born_parent}
use Rattle.roam_mesh.proofs.ChainSlotLemmas.{link_leaf}
use Rattle.roam_mesh.proofs.SlotListLemmas.{all_of, first_listed}
use Rattle.roam_mesh.proofs.PlaceLemmas.{one_slot}
use Rattle.roam_mesh.proofs.PlacedLemmas.{left_all-append, left_all-pool}
use Rattle.roam_mesh.proofs.FreshLemmas.{pushed_all-append, pushed_all-pool}
use Rattle.roam_mesh.proofs.RoleLemmas.{leaf_parts, leaf_from}
use Rattle.mesh_defs.specs.Greedy.{with_triangle}
use Rattle.roam_mesh.proofs.SplitRoleLemmas.{IsPoolSplit}
use Rattle.roam_mesh.proofs.SplitRepoolLemmas.{own_ready}

-- a test that fails adds nothing
none_added : (test : Bool) (xs ys : List ℕ) → test ≡ false → xs ≡ xs ++ cond test ys []
none_added true xs ys h = absurd (true≢false h)
none_added false xs ys h = sym (append-nil xs)

some_added : (test : Bool) (xs ys zs : List ℕ) → test ≡ true → ys ≡ zs → xs ++ ys ≡ xs ++ cond test zs []
some_added true xs ys zs h same = ap (λ z. xs ++ z) same
some_added false xs ys zs h same = absurd (true≢false (sym h))

-- the mate of a leaf that is no leaf has no part in its leaving
pub left_alone : (parts mid : PartsState) (s : ℕ) → mid ≡ left_all parts (with_above parts.pool.pairs s) →
    (1 ≤ mate_of (address_at parts.pool.pairs s) →
    has_children parts.pool.pairs (mate_of (address_at parts.pool.pairs s) / 2) ≡ false) →
    mid ≡ left_all parts (with_mate parts.pool.pairs s)
left_alone parts mid s is none =
    let mate = mate_of (address_at parts.pool.pairs s) in
    let test : (nat_lt 0 mate && has_children parts.pool.pairs (mate / 2)) ≡ false =
    false_from_ne_true (nat_lt 0 mate && has_children parts.pool.pairs (mate / 2)) (λ both.
    let each = and_parts (nat_lt 0 mate) (has_children parts.pool.pairs (mate / 2)) both in
    true≢false (sym each.1 ∙ none (ltb-true 0 mate each.0))) in
    is ∙ ap (left_all parts) (none_added (nat_lt 0 mate && has_children parts.pool.pairs (mate / 2))
    (with_above parts.pool.pairs s) (with_above parts.pool.pairs (slot_of parts.pool.pairs mate)) test)

-- and one that is a leaf leaves next
pub left_both : (parts mid end : PartsState) (s t : ℕ) → IsLeafMate parts s t →
    mid ≡ left_all parts (with_above parts.pool.pairs s) →
    end ≡ left_all mid (with_above mid.pool.pairs t) → end ≡ left_all parts (with_mate parts.pool.pairs s)
left_both parts mid end s t pair is then =
    let mate = mate_of (address_at parts.pool.pairs s) in
    let low : 2 ≤ mate = subst (λ z. 2 ≤ z) pair.mate (leaf_parts parts.pool.pairs t pair.leaf).live in
    let slot : slot_of parts.pool.pairs mate ≡ t =
    one_slot parts.pool.n parts.pool.pairs t mate pair.pool low pair.mate in
    let same : mid.pool ≡ parts.pool = ap (λ z. z.pool) is ∙ left_all-pool parts (with_above parts.pool.pairs s) in
    let test : (nat_lt 0 mate && has_children parts.pool.pairs (mate / 2)) ≡ true =
    and_from (nat_lt 0 mate) (has_children parts.pool.pairs (mate / 2)) (lt-ltb 0 mate pair.some) pair.above in
    then ∙ ap (λ (z : PoolState). left_all mid (with_above z.pairs t)) same
    ∙ ap (λ z. left_all z (with_above parts.pool.pairs t)) is
    ∙ sym (left_all-append parts (with_above parts.pool.pairs s) (with_above parts.pool.pairs t))
    ∙ ap (left_all parts) (some_added (nat_lt 0 mate && has_children parts.pool.pairs (mate / 2))
    (with_above parts.pool.pairs s) (with_above parts.pool.pairs t)
    (with_above parts.pool.pairs (slot_of parts.pool.pairs mate)) test (ap (with_above parts.pool.pairs) (sym slot)))

-- the leaf keeps its place where others left
pub leaf_left : (parts mid : PartsState) (s t : ℕ) → mid ≡ left_all parts (with_above parts.pool.pairs s) →
    is_leaf_at parts.pool.pairs t ≡ true → is_leaf_at mid.pool.pairs t ≡ true
leaf_left parts mid s t is leaf =
    subst (λ (z : PoolState). is_leaf_at z.pairs t ≡ true)
    (sym (ap (λ z. z.pool) is ∙ left_all-pool parts (with_above parts.pool.pairs s))) leaf

-- a chain leaves slot by slot
pub left_chain_step : (parts mid end : PartsState) (slots : List Slot) (first : Slot) (rest : List Slot) →
    slots ≡ first ∷ rest →
    mid ≡ left_all parts (with_mate parts.pool.pairs first.0) →
    end ≡ left_all mid (with_chain mid.pool.pairs (numbers rest)) →
    end ≡ left_all parts (with_chain parts.pool.pairs (numbers slots))
left_chain_step parts mid end slots first rest is now then =
    let pool : mid.pool ≡ parts.pool =
    ap (λ z. z.pool) now ∙ left_all-pool parts (with_mate parts.pool.pairs first.0) in
    then ∙ ap (λ (z : PoolState). left_all mid (with_chain z.pairs (numbers rest))) pool
    ∙ ap (λ z. left_all z (with_chain parts.pool.pairs (numbers rest))) now
    ∙ sym (left_all-append parts (with_mate parts.pool.pairs first.0) (with_chain parts.pool.pairs (numbers rest)))
    ∙ ap (λ (x : List Slot). left_all parts (with_chain parts.pool.pairs (numbers x))) (sym is)

-- and what is born is listed split by split
pub pushed_born_step : (parts one two end : PartsState) (answers : List Born) (born : Born) (rest : List Born) →
    answers ≡ born ∷ rest →
    one ≡ pushed_all parts (filter (is_leaf_at parts.pool.pairs) (pair_slots born.first)) →
    two ≡ pushed_all one (filter (is_leaf_at one.pool.pairs) (second_slots born.second)) →
    end ≡ pushed_all two (born_leaves two.pool.pairs rest) →
    end ≡ pushed_all parts (born_leaves parts.pool.pairs answers)
pushed_born_step parts one two end answers born rest is now next then =
    let test = is_leaf_at parts.pool.pairs in
    let first : one.pool ≡ parts.pool =
    ap (λ z. z.pool) now ∙ pushed_all-pool parts (filter test (pair_slots born.first)) in
    let second : two.pool ≡ parts.pool = ap (λ z. z.pool) next
    ∙ pushed_all-pool one (filter (is_leaf_at one.pool.pairs) (second_slots born.second)) ∙ first in
    let both : two ≡ pushed_all parts (filter test (pair_slots born.first ++ second_slots born.second)) =
    next ∙ ap (λ (z : PoolState). pushed_all one (filter (is_leaf_at z.pairs) (second_slots born.second))) first
    ∙ ap (λ z. pushed_all z (filter test (second_slots born.second))) now
    ∙ sym (pushed_all-append parts (filter test (pair_slots born.first)) (filter test (second_slots born.second)))
    ∙ ap (pushed_all parts) (sym (filter-append test (pair_slots born.first) (second_slots born.second))) in
    then ∙ ap (λ (z : PoolState). pushed_all two (born_leaves z.pairs rest)) second
    ∙ ap (λ z. pushed_all z (born_leaves parts.pool.pairs rest)) both
    ∙ sym (pushed_all-append parts (filter test (pair_slots born.first ++ second_slots born.second))
    (born_leaves parts.pool.pairs rest))
    ∙ ap (pushed_all parts)
    (sym (filter-append test (pair_slots born.first ++ second_slots born.second) (born_slots rest)))
    ∙ ap (λ (x : List Born). pushed_all parts (born_leaves parts.pool.pairs x)) (sym is)

-- the slots of a chain have leaves
pub chain_leaves : (pairs slots : List ℕ) → IsChain pairs slots → AllByRecursion (λ s. is_leaf_at pairs s ≡ true) slots
chain_leaves pairs slots chain =
    all_of (λ s. is_leaf_at pairs s ≡ true) slots (λ s h. leaf_from pairs s (link_leaf pairs slots s chain h))

-- what splits gave out is live
pub answers_live : (old new slots : List ℕ) (answers : List Born) → IsChain old slots →
    AreAnswers old new slots answers → AllByRecursion (λ r. IsLive new r) (born_slots answers)
answers_live old new slots answers chain are = all_of (λ r. IsLive new r) (born_slots answers) (λ r h.
    let found = born_parent old new slots answers r are (in_born answers r h) in
    let live : 2 ≤ address_at old found.0 = (link_leaf old slots found.0 chain found.1).live in
    ⊎_elim
    (λ (own : address_at new r / 2 ≡ address_at old found.0). let e : 2 ≤ address_at new r = omega arith in e)
    (λ (mate : (1 ≤ mate_of (address_at old found.0)) × (address_at new r / 2 ≡ mate_of (address_at old found.0))).
    let some = mate.0 in
    let half = mate.1 in
    let e : 2 ≤ address_at new r = omega arith in
    e)
    found.2)

-- what is planned for the leaf at slot s
pub record IsPlanned (pool : PoolState) (s : ℕ) (slots : List ℕ) (gain : ℕ) : Type 0 where
  pub first : slice_index slots 0 ≡ s
  pub linked : IsChain pool.pairs slots
  pub size : gain ≡ chain_size pool.pairs slots
  pub gains : IsGainOf pool.n pool.pairs (address_at pool.pairs s) gain

-- what the pool does after the chain has left is a split of the pool before
pub carried_parts : (parts mid : PartsState) (cut : PoolState) (slots : List ℕ) (answers : List Born) →
    mid ≡ left_all parts (with_chain parts.pool.pairs slots) →
    IsChainSplit mid.pool cut slots answers → IsChainSplit parts.pool cut slots answers
carried_parts parts mid cut slots answers is carried =
    subst (λ (z : PoolState). IsChainSplit z cut slots answers)
    (ap (λ z. z.pool) is ∙ left_all-pool parts (with_chain parts.pool.pairs slots)) carried

carried_split : (before cut : PoolState) (s : ℕ) (slots : List ℕ) (gain : ℕ) (answers : List Born) → 1 ≤ length slots →
    IsPlanned before s slots gain →
    is_leaf_at before.pairs s ≡ true → IsChainSplit before cut slots answers → IsPoolSplit before cut s slots answers
carried_split before cut s slots gain answers some planned leaf carried = record {
  pool = carried.old;
  valid = carried.valid;
  n = carried.n;
  leaf = leaf_parts before.pairs s leaf;
  listed = first_listed slots s some planned.first;
  linked = planned.linked;
  kept = carried.kept;
  live = carried.live;
  answered = carried.answered;
  set = subst (λ z. IsLeastClosed before.n (with_triangle (split_set before.pairs) (address_at before.pairs z))
      (split_set cut.pairs)) planned.first carried.set;
}

-- so the diamond of the leaf can be merged, also after the new leaves were listed
pub split_own_ready : (before cut : PoolState) (s : ℕ) (slots : List ℕ) (gain : ℕ) (answers : List Born) →
    1 ≤ length slots → IsPlanned before s slots gain →
    is_leaf_at before.pairs s ≡ true → IsChainSplit before cut slots answers → is_ready_at cut.pairs s ≡ true
split_own_ready before cut s slots gain answers some planned leaf carried =
    own_ready before cut s slots answers (carried_split before cut s slots gain answers some planned leaf carried)

-- and all together is the split
pub split_at_end : (parts mid cut listed end : PartsState) (s : ℕ) (slots : List ℕ) (gain : ℕ) (answers : List Born) →
    1 ≤ length slots → IsPlanned parts.pool s slots gain →
    is_leaf_at parts.pool.pairs s ≡ true → mid ≡ left_all parts (with_chain parts.pool.pairs slots) →
    IsChainSplit mid.pool cut.pool slots answers →
    cut ≡ record mid { pool = cut.pool } → listed ≡ pushed_all cut (born_leaves cut.pool.pairs answers) →
    end ≡ pushed_all listed (diamond_slots listed.pool.pairs s) →
    IsSplitAt parts end s
split_at_end parts mid cut listed end s slots gain answers some planned leaf left carried rest born diamond =
    let all = carried_parts parts mid cut.pool slots answers left carried in
    let split = carried_split parts.pool cut.pool s slots gain answers some planned leaf all in
    let pool : listed.pool ≡ cut.pool =
    ap (λ z. z.pool) born ∙ pushed_all-pool cut (born_leaves cut.pool.pairs answers) in
    let now : cut.pool ≡ end.pool =
    sym (ap (λ z. z.pool) diamond ∙ pushed_all-pool listed (diamond_slots listed.pool.pairs s) ∙ pool) in
    let cut_is : cut ≡ record (left_all parts (with_chain parts.pool.pairs slots)) { pool = cut.pool } =
    rest ∙ ap (λ (z : PartsState). record z { pool = cut.pool }) left in
    let final = carried_split parts.pool end.pool s slots gain answers some planned leaf
    (subst (λ (z : PoolState). IsChainSplit parts.pool z slots answers) now all) in
    let counts = subst (λ (z : PoolState). IsChainSplit parts.pool z slots answers) now all in
    record {
      chain = slots;
      answers = answers;
      some = some;
      first = planned.first;
      linked = planned.linked;
      n = final.n;
      most = counts.most;
      merges = counts.merges;
      splits = counts.splits;
      room = counts.room;
      set = final.set;
      kept = final.kept;
      live = final.live;
      answered = final.answered;
      valid = final.valid;
      state = subst (λ (z : PoolState). end
          ≡ pushed_all (pushed_all (record (left_all parts (with_chain parts.pool.pairs slots)) { pool = z })
          (born_leaves z.pairs answers)) (diamond_slots z.pairs s)) now
          (diamond ∙ ap (λ (z : PoolState). pushed_all listed (diamond_slots z.pairs s)) pool
          ∙ ap (λ z. pushed_all z (diamond_slots cut.pool.pairs s)) (born
          ∙ ap (λ z. pushed_all z (born_leaves cut.pool.pairs answers)) cut_is));
    }

-- The ranks that turned keys stand for, slot by slot and after a change.
use Rattle.std.specs.Ordering.{is_lt}
use Rattle.std.proofs.Common.{◌≡◌, false, ℕ, zero, suc, List, [], ◌∷◌, replicate, set, get_or, Option, Some, None}
use Rattle.std.proofs.Common.{option_map, refl, sym, ap, ◌∙◌}
use Rattle.std.specs.declared.cmp.Reverse.{Reverse}
use Rattle.std.proofs.lemmas.List.{map-set}
use Rattle.std.proofs.lemmas.Option.{same_Some}
use Rattle.bintree_addr.specs.declared.rank.Rank.{Rank}
use Rattle.bintree_addr.specs.declared.slot.Slot.{Slot}
use Rattle.bintree_addr.specs.RankOrder.{rank_cmp, ComesFirst}
use Rattle.slot_heap.specs.Keys.{key_of, IsEmpty, IsLeastKey}
use Rattle.merge_queue.specs.Last.{IsLastEntry}
use Rattle.merge_queue.specs.Turned.{ranks_of}

-- the rank of a key, if there is one
abbrev rank_of : Option (Reverse Rank) → Option Rank
rank_of = option_map (λ key. key.0)

-- the rank at a place is that of the key there
get_or-ranks_of : (keys : List (Option (Reverse Rank))) (i : ℕ) →
    get_or (ranks_of keys) i None ≡ rank_of (get_or keys i None)
get_or-ranks_of [] i = refl
get_or-ranks_of (k ∷ keys) zero = refl
get_or-ranks_of (k ∷ keys) (suc i) = get_or-ranks_of keys i

-- no keys are no ranks
pub ranks_of-replicate : (n : ℕ) → ranks_of (replicate n None) ≡ replicate n None
ranks_of-replicate zero = refl
ranks_of-replicate (suc n) = ap (λ ranks. None ∷ ranks) (ranks_of-replicate n)

-- a change of a key is one of a rank
pub ranks_of-set : (keys : List (Option (Reverse Rank))) (i : ℕ) (key : Option (Reverse Rank)) →
    ranks_of (set keys i key) ≡ set (ranks_of keys) i (rank_of key)
ranks_of-set keys i key = map-set rank_of keys i key

-- where there is no rank there is no key
pub rank_of-none : (key : Option (Reverse Rank)) → rank_of key ≡ None → key ≡ None
rank_of-none None e = refl
rank_of-none (Some k) e = cc

-- the key of a rank
pub rank_of-some : (key : Option (Reverse Rank)) (rank : Rank) → rank_of key ≡ Some rank →
    key ≡ Some (record { 0 = rank })
rank_of-some None rank e = cc
rank_of-some (Some k) rank e =
    let turned : Rank → Option (Reverse Rank) = λ r. Some (record { 0 = r }) in
    ap turned (same_Some k.0 rank e)

-- ranks are empty where the keys are
pub IsEmpty-ranks_of : (keys : List (Option (Reverse Rank))) → IsEmpty keys → IsEmpty (ranks_of keys)
IsEmpty-ranks_of keys empty slot = get_or-ranks_of keys slot.0 ∙ ap rank_of (empty slot)

pub IsEmpty-from_ranks_of : (keys : List (Option (Reverse Rank))) → IsEmpty (ranks_of keys) → IsEmpty keys
IsEmpty-from_ranks_of keys empty slot = rank_of-none (key_of keys slot) (sym (get_or-ranks_of keys slot.0) ∙ empty slot)

-- the least turned key is the last rank
pub IsLastRank-least : ((r s : Rank) → is_lt (rank_cmp r s) ≡ false → ¬ (ComesFirst r s)) →
    (keys : List (Option (Reverse Rank))) (slot : Slot) (key : Reverse Rank) →
    IsLeastKey (λ x y. rank_cmp y.0 x.0) keys slot key → IsLastEntry (ranks_of keys) slot key.0
IsLastRank-least not_before keys slot key least = (
  get_or-ranks_of keys slot.0 ∙ ap rank_of least.0,
  λ other it e. not_before key.0 it (least.1 other (record { 0 = it })
      (rank_of-some (key_of keys other) it (sym (get_or-ranks_of keys other.0) ∙ e))),
)

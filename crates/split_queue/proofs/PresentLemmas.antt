-- What the ranks of the heap say of the slots that are present.
use Rattle.std.proofs.Common.{◌≡◌, ℕ, zero, suc, Bool, true, false, List, length, replicate, get_or, set, Option, Some}
use Rattle.std.proofs.Common.{None, IsSome, true≢false, refl, sym, ap, subst, ◌∙◌}
use Rattle.std.specs.Ordering.{is_lt}
use Rattle.std.proofs.lemmas.Option.{none-some}
use Rattle.std.proofs.lemmas.Simd.{length-zip2}
use Rattle.bintree_addr.specs.declared.rank.Rank.{Rank}
use Rattle.bintree_addr.specs.declared.slot.Slot.{Slot}
use Rattle.bintree_addr.specs.RankOrder.{rank_cmp, ComesFirst}
use Rattle.slot_heap.specs.Keys.{key_of, IsLeastKey}
use Rattle.list_laws.proofs.ZipLemmas.{get_or-zip2_any, zip2-set_same}
use Rattle.split_queue.specs.First.{IsFirstEntry}
use Rattle.split_queue.specs.Present.{if_present, present_ranks}

-- none of no ranks is a rank
pub get_or-none : (n i : ℕ) → ◌≡◌ {A = Option Rank} (get_or (replicate n None) i None) None
get_or-none zero i = refl
get_or-none (suc n) zero = refl
get_or-none (suc n) (suc i) = get_or-none n i

-- no rank is no entry
if_present-none : (mark : Bool) → if_present mark None ≡ None
if_present-none true = refl
if_present-none false = refl

-- an entry is of a slot that is present
present-from_some : (mark : Bool) (rank : Option Rank) → IsSome (if_present mark rank) → mark ≡ true
present-from_some true rank some = refl
present-from_some false rank some = absurd (true≢false (sym some))

-- and has the rank that the heap has
rank-from_some : (mark : Bool) (rank : Option Rank) (it : Rank) → if_present mark rank ≡ Some it → rank ≡ Some it
rank-from_some true rank it e = e
rank-from_some false rank it e = absurd (none-some it e)

module _ (ranks : List (Option Rank)) (present : List Bool) (same : length present ≡ length ranks) where
  -- the entry of a slot
  pub present_ranks-at : (i : ℕ) →
      get_or (present_ranks ranks present) i None ≡ if_present (get_or present i false) (get_or ranks i None)
  present_ranks-at i = get_or-zip2_any if_present present ranks i false None same

  pub length-present_ranks : length (present_ranks ranks present) ≡ length ranks
  length-present_ranks = length-zip2 if_present present ranks same ∙ same

  -- a slot that is present has the rank that the heap has
  pub rank-present : (i : ℕ) → get_or present i false ≡ true →
      get_or (present_ranks ranks present) i None ≡ get_or ranks i None
  rank-present i is = present_ranks-at i ∙ ap (λ mark. if_present mark (get_or ranks i None)) is

  -- so does a slot with an entry
  pub rank-entry : (i : ℕ) → IsSome (get_or (present_ranks ranks present) i None) →
      get_or (present_ranks ranks present) i None ≡ get_or ranks i None
  rank-entry i some = rank-present i
      (present-from_some (get_or present i false) (get_or ranks i None) (subst IsSome (present_ranks-at i) some))

  -- where the heap has no rank, there is no entry
  pub no_entry : (slot : Slot) → key_of ranks slot ≡ None → key_of (present_ranks ranks present) slot ≡ None
  no_entry slot none =
      let mark = get_or present slot.0 false in
      present_ranks-at slot.0 ∙ ap (if_present mark) none ∙ if_present-none mark

  -- the rank of a slot that is not present goes
  pub present_ranks-stale : (i : ℕ) → get_or present i false ≡ false →
      present_ranks (set ranks i None) present ≡ present_ranks ranks present
  present_ranks-stale i is =
      let gone : if_present (get_or present i false) None ≡ if_present (get_or present i false) (get_or ranks i None) =
      ap (λ mark. if_present mark None) is ∙ sym (ap (λ mark. if_present mark (get_or ranks i None)) is) in
      zip2-set_same if_present present ranks i None false None gone

  -- a least key of the heap, of a slot that is present, is a first entry
  pub IsFirstEntry-least : ((r s : Rank) → is_lt (rank_cmp r s) ≡ false → ¬ (ComesFirst r s)) →
      (slot : Slot) (rank : Rank) → IsLeastKey rank_cmp ranks slot rank → get_or present slot.0 false ≡ true →
      IsFirstEntry (present_ranks ranks present) slot rank
  IsFirstEntry-least not_before slot rank least is = (
    rank-present slot.0 is ∙ least.0,
    λ other it e. not_before it rank (least.1 other it
        (rank-from_some (get_or present other.0 false) (key_of ranks other) it (sym (present_ranks-at other.0) ∙ e))),
  )

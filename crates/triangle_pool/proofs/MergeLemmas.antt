-- What a merge does, and what its answer and its readers say.
use Rattle.std.proofs.Common.{◌≡◌, ◌≢◌, ap, sym, ◌∙◌, ◌⊎◌, true, false, ℕ, ◌+◌, ◌*◌, ◌/◌, ◌^◌, ◌<◌, ◌≤◌, ◌++◌, refl}
use Rattle.std.proofs.Common.{arith, inl, inr, ⊎_elim, subst, List, [], ◌∷◌, length, get_or, set, get_or-set_other}
use Rattle.std.proofs.Common.{get_or-set_same}
use Rattle.std.proofs.lemmas.Bool.{cases_eq, cases_lt, true≢false}
use Rattle.std.proofs.lemmas.List.{get_or_past, get_or_default}
use Rattle.std.proofs.Math.ListN.{length-set}
use Rattle.mesh_laws.specs.Edge.{mate_of, owner}
use Rattle.mesh_laws.specs.Net.{nowhere}
use Rattle.mesh_laws.proofs.OwnerLemmas.{owner-split}
use Rattle.mesh_laws.proofs.MateLemmas.{mate_of-low, mate_of-other}
use Rattle.mesh_laws.specs.Slots.{address_at, has_children, IsLive, split_set, room_of, IsPool, HasTwoLeaves, IsMerge}
use Rattle.mesh_laws.specs.Slots.{diamond_size}
use Rattle.triangle_pool.specs.Slots.{FreeState}
use Rattle.triangle_pool.specs.Links.{HasPairs, AreChildrenAt, MayMerge}
use Rattle.mesh_laws.proofs.SlotLemmas.{has_children-removed, has_children_by, set_kept, set_false, pair_in, child_at}
use Rattle.mesh_laws.proofs.SlotLemmas.{member_mate, member_parent, pair_one, size_one, size_two}
use Rattle.triangle_pool.proofs.HalveLemmas.{address-old}
use Rattle.triangle_pool.proofs.JoinLemmas.{gone_low}
use Rattle.triangle_pool.proofs.PoolLemmas.{free_more, room-free}

-- ---- readers

-- the pair of the children of a triangle that is split
pub children_pair : (pairs : List ℕ) (a k : ℕ) → AreChildrenAt pairs a k →
    has_children pairs a ≡ true → get_or pairs k 0 ≡ a
children_pair pairs a k children is_split =
    ⊎_elim (λ none. absurd (true≢false (sym is_split ∙ none.1))) (λ some. some.1) children

-- the link to the children is nowhere just where the triangle is not split
pub children_none : (pairs : List ℕ) (a k : ℕ) → 1 ≤ a → AreChildrenAt pairs a k →
    (k ≡ nowhere → has_children pairs a ≡ false) × (has_children pairs a ≡ false → k ≡ nowhere)
children_none pairs a k low children = (
  (λ is. ⊎_elim (λ none. none.1) (λ some. absurd (some.0 is)) children),
  (λ leaf. ⊎_elim (λ none. none.0)
      (λ some. absurd (true≢false (sym (has_children_by pairs k a low some.1) ∙ leaf))) children),
)

-- a link to a live slot is no number beyond the slots
pub linked_small : (pairs : List ℕ) (link : ℕ) → length pairs < 2 ^ 31 → IsLive pairs link → link ≢ nowhere
linked_small pairs link short live is =
    let past : get_or pairs (link / 2) 0 ≡ 0 = get_or_past pairs (link / 2) 0 (omega arith) in omega arith

-- the link across the base of a triangle that is split is its mate's slot
pub partner_link : (n : ℕ) (pairs : List ℕ) (a link : ℕ) → IsPool n pairs → 2 ≤ a →
    has_children pairs a ≡ true → length pairs < 2 ^ 31 →
    ((mate_of a ≡ 0) × (link ≡ nowhere))
    ⊎ ((1 ≤ mate_of a) × (address_at pairs link ≡ owner (has_children pairs) (mate_of a))) →
    ((link ≡ nowhere → mate_of a ≡ 0) × (mate_of a ≡ 0 → link ≡ nowhere))
    × (link ≢ nowhere → address_at pairs link ≡ mate_of a)
partner_link n pairs a link pool low is_split short read = ⊎_elim
    (λ none. (((λ _. none.0), (λ _. none.1)), (λ given. absurd (given none.1))))
    (λ some.
    let up = member_parent n pairs (mate_of a) pool (mate_of-low a low some.0)
    (member_mate n pairs a pool low is_split some.0) in
    let at : address_at pairs link ≡ mate_of a = some.1 ∙ owner-split (has_children pairs) (mate_of a) up in
    let b = mate_of-low a low some.0 in (
      ((λ is. absurd (linked_small pairs link short (omega arith) is)), (λ zero_is. let y = some.0 in omega arith)),
      (λ _. at),
    )) read

-- a and its children, read from three nodes
pub two_leaves_by : (pairs : List ℕ) (a k l r : ℕ) → 2 ≤ a → AreChildrenAt pairs a k → k ≢ nowhere →
    AreChildrenAt pairs (2 * a) l → AreChildrenAt pairs (2 * a + 1) r →
    ((l ≡ nowhere) × (r ≡ nowhere) → HasTwoLeaves pairs a) × (HasTwoLeaves pairs a → (l ≡ nowhere) × (r ≡ nowhere))
two_leaves_by pairs a k l r low children given left right =
    let is_split : has_children pairs a ≡ true =
    ⊎_elim (λ none. absurd (given none.0)) (λ some. has_children_by pairs k a (omega arith) some.1) children in
    let at_l = children_none pairs (2 * a) l (omega arith) left in
    let at_r = children_none pairs (2 * a + 1) r (omega arith) right in
    ((λ h. record { split = is_split; left = at_l.0 h.0; right = at_r.0 h.1 }), (λ h. (at_l.1 h.left, at_r.1 h.right)))

-- ---- what is asked of a merge

-- a triangle at a live slot whose two children are leaves may be merged
pub may_merge_of : (pairs : List ℕ) (s k : ℕ) → IsLive pairs s → AreChildrenAt pairs (address_at pairs s) k →
    HasTwoLeaves pairs (address_at pairs s) → MayMerge pairs s k (address_at pairs s)
may_merge_of pairs s k live children two_leaves =
    record {
      address = refl;
      low = live;
      pair = children_pair pairs (address_at pairs s) k children two_leaves.split;
      whole_left = two_leaves.left;
      whole_right = two_leaves.right;
    }

-- the same of the triangle b, at the slot t
pub may_merge_mate : (pairs : List ℕ) (t j b : ℕ) → address_at pairs t ≡ b → 2 ≤ b →
    AreChildrenAt pairs (address_at pairs t) j → HasTwoLeaves pairs b → MayMerge pairs t j b
may_merge_mate pairs t j b at low children two_leaves =
    record {
      address = at;
      low = low;
      pair = children_pair pairs b j (subst (λ x. AreChildrenAt pairs x j) at children) two_leaves.split;
      whole_left = two_leaves.left;
      whole_right = two_leaves.right;
    }

-- ---- what a merge does

-- One pair is freed.
record IsFreed (before after : List ℕ) (a : ℕ) : Type 0 where
  removed : split_set after a ≡ false
  others : (p : ℕ) → p ≢ a → split_set after p ≡ split_set before p
  slots : (r : ℕ) → IsLive before r → address_at before r / 2 ≢ a → address_at after r ≡ address_at before r
  free : (r : ℕ) → IsLive before r → address_at before r / 2 ≡ a → address_at after r < 2
  empty : (r : ℕ) → address_at before r < 2 → address_at after r < 2

freed : (pairs : List ℕ) (k a : ℕ) → 2 ≤ a → get_or pairs k 0 ≡ a → ((i : ℕ) → get_or pairs i 0 ≡ a → i ≡ k) →
    IsFreed pairs (set pairs k 0) a
freed pairs k a low pair once =
    let within : k < length pairs = pair_in pairs k a low pair in
    record {
      removed = set_false (set pairs k 0) a (has_children-removed pairs k a within pair (omega arith) once);
      others = λ p other. set_kept pairs k a p within pair other;
      slots = λ r live away. address-old pairs k 0 r
          (λ here. away (let z : get_or pairs (r / 2) 0 ≡ a = ap (λ t. get_or pairs t 0) here ∙ pair in omega arith));
      free = λ r live under. gone_low pairs k r within (once (r / 2) (omega arith));
      empty = λ r gone. elim (cases_eq (r / 2) k) [
        | inl here ↦ gone_low pairs k r within here
        | inr apart ↦ let z = address-old pairs k 0 r apart in omega arith
      ];
    }

-- at the border, to free the pair of a's children is to merge a
pub IsMerge-alone : (n : ℕ) (pairs after : List ℕ) (s k a : ℕ) → IsPool n pairs → MayMerge pairs s k a → mate_of a ≡ 0 →
    after ≡ set pairs k 0 → IsMerge pairs after a
IsMerge-alone n pairs after s k a pool h none is =
    let one : IsFreed pairs (set pairs k 0) a =
    freed pairs k a h.low h.pair (λ i e. pair_one n pairs i k a pool (let low = h.low in omega arith) e h.pair) in
    subst (λ t. IsMerge pairs t a) (sym is) (record {
      removed = one.removed;
      mate = λ some. absurd (omega arith);
      others = λ p x y. one.others p x;
      slots = λ r live away. one.slots r live (λ e. away (inl e));
      free = λ r live under. ⊎_elim (λ e. one.free r live e) (λ v. absurd (let z = v.0 in omega arith)) under;
      empty = one.empty;
    })

second_once : (n : ℕ) (pairs : List ℕ) (s t k j a : ℕ) → IsPool n pairs → MayMerge pairs s k a → 1 ≤ mate_of a →
    MayMerge pairs t j (mate_of a) →
    (get_or (set pairs k 0) j 0 ≡ mate_of a) × ((i : ℕ) → get_or (set pairs k 0) i 0 ≡ mate_of a → i ≡ j)
second_once n pairs s t k j a pool h some g =
    let b = g.low in
    let other = mate_of-other a h.low some in
    let within : k < length pairs = pair_in pairs k a h.low h.pair in (
      get_or-set_other pairs k j 0 0 (λ e. other (sym g.pair ∙ ap (λ x. get_or pairs x 0) e ∙ h.pair)) ∙ g.pair,
      (λ i e. elim (cases_eq i k) [
        | inl same ↦ absurd (let z : get_or (set pairs k 0) i 0 ≡ 0 =
            ap (λ t. get_or (set pairs k 0) t 0) same ∙ get_or-set_same pairs k 0 0 within in omega arith)
        | inr apart ↦ pair_one n pairs i j (mate_of a) pool (omega arith)
            (sym (get_or-set_other pairs k i 0 0 apart) ∙ e) g.pair
      ]),
    )

-- in a diamond, to free the pairs of a's children and of its mate's is to merge a
pub IsMerge-both : (n : ℕ) (pairs after : List ℕ) (s t k j a : ℕ) → IsPool n pairs → MayMerge pairs s k a →
    1 ≤ mate_of a → MayMerge pairs t j (mate_of a) →
    after ≡ set (set pairs k 0) j 0 → IsMerge pairs after a
IsMerge-both n pairs after s t k j a pool h some g is =
    let other = mate_of-other a h.low some in
    let mid : List ℕ = set pairs k 0 in
    let one : IsFreed pairs mid a =
    freed pairs k a h.low h.pair (λ i e. pair_one n pairs i k a pool (let low = h.low in omega arith) e h.pair) in
    let second = second_once n pairs s t k j a pool h some g in
    let two : IsFreed mid (set mid j 0) (mate_of a) = freed mid j (mate_of a) g.low second.0 second.1 in
    let same : (r : ℕ) → IsLive pairs r → address_at pairs r / 2 ≢ a →
    (address_at mid r ≡ address_at pairs r) × IsLive mid r =
    λ r live away. let z = one.slots r live away in (z, omega arith) in
    subst (λ x. IsMerge pairs x a) (sym is) (record {
      removed = two.others a (λ e. other (sym e)) ∙ one.removed;
      mate = λ _. two.removed;
      others = λ p x y. two.others p (y some) ∙ one.others p x;
      slots = λ r live away.
          let first = same r live (λ e. away (inl e)) in
          two.slots r first.1 (λ e. away (inr (some, ap (λ t. t / 2) (sym first.0) ∙ e))) ∙ first.0;
      free = λ r live under. elim (cases_eq (address_at pairs r / 2) a) [
        | inl e ↦ two.empty r (one.free r live e)
        | inr away ↦ ⊎_elim (λ e. absurd (away e))
            (λ v. let first = same r live away in two.free r first.1 (ap (λ t. t / 2) first.0 ∙ v.1)) under
      ];
      empty = λ r gone. two.empty r (one.empty r gone);
    })

-- ---- free pairs

-- there is space for the pair k among those that were given back, and with it the free pairs are right again
pub pairs_back : (most : ℕ) (pairs : List ℕ) (free after : FreeState) (k a : ℕ) → HasPairs most pairs free → 2 ≤ a →
    get_or pairs k 0 ≡ a → (length free.returned < free.unused)
    × (after.returned ≡ free.returned ++ (k ∷ []) → after.unused ≡ free.unused → after.pairs ≡ free.pairs →
    HasPairs most (set pairs k 0) after)
pairs_back most pairs free after k a h low pair =
    let more = free_more pairs free after k h.vacancies (pair_in pairs k a low pair) (omega arith) in
    let count : length (set pairs k 0) ≡ length pairs = length-set pairs k 0 in let pair_count = h.pair_count in (
      more.0,
      (λ is same all. record {
        most_low = h.most_low;
        most_high = h.most_high;
        pair_count = omega arith;
        vacancies = more.1 is same all;
      }),
    )

-- the same of the pair j of the mate's children, after the pair k was given back
pub pairs_back_two : (n most : ℕ) (pairs : List ℕ) (free mid after : FreeState) (s t k j a : ℕ) →
    HasPairs most pairs free → IsPool n pairs → MayMerge pairs s k a → 1 ≤ mate_of a → MayMerge pairs t j (mate_of a) →
    mid.returned ≡ free.returned ++ (k ∷ []) → mid.unused ≡ free.unused → mid.pairs ≡ free.pairs →
    (length mid.returned < mid.unused)
    × (after.returned ≡ mid.returned ++ (j ∷ []) → after.unused ≡ mid.unused → after.pairs ≡ mid.pairs →
    HasPairs most (set (set pairs k 0) j 0) after)
pairs_back_two n most pairs free mid after s t k j a h pool c some g is same all =
    let one = (pairs_back most pairs free mid k a h c.low c.pair).1 is same all in
    let second = second_once n pairs s t k j a pool c some g in
    pairs_back most (set pairs k 0) mid after j (mate_of a) one g.low second.0

-- ---- sizes

-- ---- what is read at a slot

-- both children are leaves just where the nodes at their slots have no children
pub two_leaves_read : (pairs : List ℕ) (s k l r : ℕ) → IsLive pairs s → AreChildrenAt pairs (address_at pairs s) k →
    k ≢ nowhere → AreChildrenAt pairs (address_at pairs (2 * k)) l →
    AreChildrenAt pairs (address_at pairs (2 * k + 1)) r →
    ((l ≡ nowhere) × (r ≡ nowhere) → HasTwoLeaves pairs (address_at pairs s))
    × (HasTwoLeaves pairs (address_at pairs s) → (l ≡ nowhere) × (r ≡ nowhere))
two_leaves_read pairs s k l r live children given left right =
    let pair : get_or pairs k 0 ≡ address_at pairs s =
    ⊎_elim (λ none. absurd (given none.0)) (λ some. some.1) children in
    let at_l : address_at pairs (2 * k) ≡ 2 * address_at pairs s = let half : 2 * k / 2 ≡ k = omega arith in
    let z : get_or pairs (2 * k / 2) 0 ≡ address_at pairs s =
    ap (λ t. get_or pairs t 0) half ∙ pair in omega arith in
    let at_r : address_at pairs (2 * k + 1) ≡ 2 * address_at pairs s + 1 =
    child_at pairs k (address_at pairs s) 1 (omega arith) pair in
    two_leaves_by pairs (address_at pairs s) k l r live children given (subst (λ x. AreChildrenAt pairs x l) at_l left)
    (subst (λ x. AreChildrenAt pairs x r) at_r right)

-- a triangle that is no half of the square has its parent at the slot that is noted for its pair
pub parent_link : (pairs parents : List ℕ) (s link : ℕ) → IsLive pairs s →
    length parents ≡ length pairs → length pairs < 2 ^ 31 →
    ((k : ℕ) → 2 ≤ get_or pairs k 0 → address_at pairs (get_or parents k 0) ≡ get_or pairs k 0) →
    get_or pairs (s / 2) 0 ≢ 1 → link ≡ get_or parents (s / 2) link →
    ((link ≡ nowhere → address_at pairs s < 4) × (address_at pairs s < 4 → link ≡ nowhere))
    × (link ≢ nowhere → address_at pairs link ≡ address_at pairs s / 2)
parent_link pairs parents s link live count short upward deep read =
    let two : 2 ≤ get_or pairs (s / 2) 0 =
    ⊎_elim (λ low. absurd (deep (omega arith))) (λ high. high) (cases_lt (get_or pairs (s / 2) 0) 2) in
    let within : s / 2 < length pairs = ⊎_elim (λ w. w)
    (λ past. absurd (let z = get_or_past pairs (s / 2) 0 past in omega arith)) (cases_lt (s / 2) (length pairs)) in
    let is : link ≡ get_or parents (s / 2) 0 = read ∙ get_or_default parents (s / 2) link 0 (omega arith) in
    let at : address_at pairs link ≡ get_or pairs (s / 2) 0 = ap (address_at pairs) is ∙ upward (s / 2) two in
    (((λ none. absurd (linked_small pairs link short (omega arith) none)), (λ low. omega arith)), (λ _. omega arith))

-- where the link to the mate is not nowhere, there is a mate, and its slot is live
pub partner_live : (pairs : List ℕ) (s link : ℕ) → IsLive pairs s →
    (mate_of (address_at pairs s) ≡ 0 → link ≡ nowhere) →
    (link ≢ nowhere → address_at pairs link ≡ mate_of (address_at pairs s)) → link ≢ nowhere →
    (1 ≤ mate_of (address_at pairs s)) × IsLive pairs link
partner_live pairs s link live none some given =
    let mate : 1 ≤ mate_of (address_at pairs s) =
    ⊎_elim (λ z. absurd (given (none (omega arith)))) (λ h. h) (cases_lt (mate_of (address_at pairs s)) 1) in
    let b = mate_of-low (address_at pairs s) live mate in let at = some given in (mate, omega arith)

-- how the room grows
pub back_one : (pairs after : List ℕ) (s k a : ℕ) → MayMerge pairs s k a → mate_of a ≡ 0 → after ≡ set pairs k 0 →
    room_of after ≡ room_of pairs + diamond_size a
back_one pairs after s k a h none is =
    let low = h.low in let pair = h.pair in
    let one = room-free pairs k (pair_in pairs k a low pair) (omega arith) in
    let same : room_of after ≡ room_of (set pairs k 0) = ap room_of is in
    let size = size_one a none in omega arith

-- the same where the mate is merged too
pub back_two : (n : ℕ) (pairs after : List ℕ) (s t k j a : ℕ) → IsPool n pairs → MayMerge pairs s k a → 1 ≤ mate_of a →
    MayMerge pairs t j (mate_of a) → after ≡ set (set pairs k 0) j 0 →
    room_of after ≡ room_of pairs + diamond_size a
back_two n pairs after s t k j a pool h some g is =
    let low = h.low in let pair = h.pair in let b = g.low in
    let pair_j = (second_once n pairs s t k j a pool h some g).0 in
    let one = room-free pairs k (pair_in pairs k a low pair) (omega arith) in
    let two = room-free (set pairs k 0) j (pair_in (set pairs k 0) j (mate_of a) b pair_j) (omega arith) in
    let same : room_of after ≡ room_of (set (set pairs k 0) j 0) = ap room_of is in
    let size = size_two a some in omega arith

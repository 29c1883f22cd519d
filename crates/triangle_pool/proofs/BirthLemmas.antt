-- What the answer to a split says.
use Rattle.std.proofs.Common.{◌≡◌, ap, sym, ◌∙◌, ◌⊎◌, ℕ, ◌+◌, ◌*◌, ◌/◌, ◌%◌, ◌<◌, arith, inl, inr, ⊎_elim, subst, List}
use Rattle.std.proofs.Common.{length, get_or, set, get_or-set_other, None, Some}
use Rattle.std.proofs.lemmas.Bool.{cases_eq, cases_lt, true≢false}
use Rattle.std.proofs.Math.ListN.{length-set}
use Rattle.bintree_addr.specs.declared.slot.Slot.{Slot}
use Rattle.mesh_laws.specs.Edge.{mate_of}
use Rattle.mesh_laws.proofs.MateLemmas.{mate_of-low}
use Rattle.mesh_laws.specs.Slots.{address_at, IsLive, room_of, diamond_size}
use Rattle.triangle_pool.specs.Answer.{AreChildren, IsOfPair, IsBirth}
use Rattle.triangle_pool.specs.Links.{MaySplit, MaySplitMate}
use Rattle.triangle_pool.proofs.HalveLemmas.{address-old, address-new}
use Rattle.triangle_pool.proofs.PoolLemmas.{room-set}
use Rattle.mesh_laws.proofs.SlotLemmas.{size_one, size_two}

-- the slots of a pair that was given to a
children_at : (pairs : List ℕ) (k a : ℕ) (pair : Slot × Slot) → k < length pairs → pair.0.0 ≡ 2 * k →
    pair.1.0 ≡ 2 * k + 1 → AreChildren (set pairs k a) a pair
children_at pairs k a pair within left right = (
  let z = address-new pairs k a pair.0.0 within (let y : pair.0.0 / 2 ≡ k = omega arith in y) in omega arith,
  let z = address-new pairs k a pair.1.0 within (let y : pair.1.0 / 2 ≡ k = omega arith in y) in omega arith,
)

fresh : (pairs : List ℕ) (k a r : ℕ) (pair : Slot × Slot) → pair.0.0 ≡ 2 * k → pair.1.0 ≡ 2 * k + 1 →
    IsLive (set pairs k a) r → IsLive pairs r ⊎ IsOfPair pair r
fresh pairs k a r pair left right live = elim (cases_eq (r / 2) k) [
  | inl here ↦ inr (⊎_elim (λ even. inl (let z : r ≡ pair.0.0 = omega arith in z))
      (λ odd. inr (let z : r ≡ pair.1.0 = omega arith in z)) (cases_lt (r % 2) 1))
  | inr apart ↦ inl (let z = address-old pairs k a r apart in omega arith)
]

-- a split at the border gives out the two slots of the pair k, for the children of its triangle
pub birth_one : (n : ℕ) (pairs after : List ℕ) (s k : ℕ) (pair : Slot × Slot) →
    MaySplit n pairs s k (address_at pairs s) → mate_of (address_at pairs s) ≡ 0 →
    after ≡ set pairs k (address_at pairs s) → pair.0.0 ≡ 2 * k → pair.1.0 ≡ 2 * k + 1 →
    IsBirth pairs after (address_at pairs s) (record { first = pair; second = None })
birth_one n pairs after s k pair o none is left right =
    subst (λ t. IsBirth pairs t (address_at pairs s) (record { first = pair; second = None })) (sym is) (record {
      first = children_at pairs k (address_at pairs s) pair o.within left right;
      second = tt;
      alone = λ _. none;
      live = λ r live. elim (fresh pairs k
          (address_at pairs s) r pair left right live) [ inl old ↦ inl old | inr new ↦ inr (inl new) ];
    })

-- a split in a diamond gives out those of the pairs k and j, for the children of its triangle and of the mate
pub birth_two : (n : ℕ) (pairs after : List ℕ) (s t k j : ℕ) (pair other : Slot × Slot) →
    MaySplit n pairs s k (address_at pairs s) → MaySplitMate pairs t k j (address_at pairs s) →
    after ≡ set (set pairs k (address_at pairs s)) j (mate_of (address_at pairs s)) → pair.0.0 ≡ 2 * k →
    pair.1.0 ≡ 2 * k + 1 → other.0.0 ≡ 2 * j → other.1.0 ≡ 2 * j + 1 →
    IsBirth pairs after (address_at pairs s) (record { first = pair; second = Some other })
birth_two n pairs after s t k j pair other o two is left right other_left other_right =
    let a : ℕ = address_at pairs s in
    let mid : List ℕ = set pairs k a in
    let count : length mid ≡ length pairs = length-set pairs k a in
    let within : j < length mid = let w = two.within in omega arith in
    let first : AreChildren mid a pair = children_at pairs k a pair o.within left right in
    let low = o.low in let apart = two.apart in
    let old_left : address_at (set mid j (mate_of a)) pair.0.0 ≡ address_at mid pair.0.0 =
    address-old mid j (mate_of a) pair.0.0 (λ e. apart (omega arith)) in
    let old_right : address_at (set mid j (mate_of a)) pair.1.0 ≡ address_at mid pair.1.0 =
    address-old mid j (mate_of a) pair.1.0 (λ e. apart (omega arith)) in
    subst (λ x. IsBirth pairs x a (record { first = pair; second = Some other })) (sym is) (record {
      first = (old_left ∙ first.0, old_right ∙ first.1);
      second = (two.some, children_at mid j (mate_of a) other within other_left other_right);
      alone = λ none. absurd (true≢false none);
      live = λ r live. elim (fresh mid j (mate_of a) r other other_left other_right live) [
        | inl old ↦ elim (fresh pairs k a r pair left right old) [ inl older ↦ inl older | inr new ↦ inr (inl new) ]
        | inr new ↦ inr (inr new)
      ];
    })

-- how the room shrinks
pub room_one : (n : ℕ) (pairs after : List ℕ) (s k : ℕ) → MaySplit n pairs s k (address_at pairs s) →
    mate_of (address_at pairs s) ≡ 0 → after ≡ set pairs k (address_at pairs s) →
    room_of after + diamond_size (address_at pairs s) ≡ room_of pairs
room_one n pairs after s k o none is =
    let low = o.low in
    ap (λ t. room_of t + diamond_size (address_at pairs s)) is
    ∙ ap (λ t. room_of (set pairs k (address_at pairs s)) + t) (size_one (address_at pairs s) none)
    ∙ room-set pairs k (address_at pairs s) o.within o.free (omega arith)

-- the same where the mate is split too
pub room_two : (n : ℕ) (pairs after : List ℕ) (s t k j : ℕ) → MaySplit n pairs s k (address_at pairs s) →
    MaySplitMate pairs t k j (address_at pairs s) →
    after ≡ set (set pairs k (address_at pairs s)) j (mate_of (address_at pairs s)) →
    room_of after + diamond_size (address_at pairs s) ≡ room_of pairs
room_two n pairs after s t k j o two is =
    let a : ℕ = address_at pairs s in
    let mid : List ℕ = set pairs k a in
    let low = o.low in let some = two.some in let b = mate_of-low a low some in
    let count : length mid ≡ length pairs = length-set pairs k a in
    let within : j < length mid = let w = two.within in omega arith in
    let free : get_or mid j 0 ≡ 0 = get_or-set_other pairs k j a 0 two.apart ∙ two.free in
    let first = room-set pairs k a o.within o.free (omega arith) in
    let second = room-set mid j (mate_of a) within free (omega arith) in
    let same : room_of after ≡ room_of (set mid j (mate_of a)) = ap room_of is in
    let size = size_two a some in omega arith

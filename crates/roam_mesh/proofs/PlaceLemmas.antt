-- The slot of an address, the address of a slot, and what is kept of either.
use Rattle.std.proofs.Common.{◌≡◌, ℕ, ◌*◌, ◌/◌, ◌%◌, ◌<◌, ◌≤◌, true, cond, nat_eq, eqb, eq-eqb, List, length, get_or}
use Rattle.std.proofs.Common.{slice_index_or, slice_set, refl, sym, ◌∙◌, ap, subst, arith, inl, inr, set}
use Rattle.std.proofs.Common.{get_or-set_other, get_or-set_same}
use Rattle.std.specs.List.{position_or_len}
use Rattle.std.proofs.lemmas.Bool.{cases_eq, eqb-true, ne_eqb, false_from_ne_true}
use Rattle.std.proofs.lemmas.List.Sums.{position_or_len_is, passes_at_first}
use Rattle.mesh_laws.specs.Slots.{address_at, has_children, IsLive, IsPool}
use Rattle.mesh_laws.proofs.SlotLemmas.{live_within, pair_one, slot_of as pair_slot, member_parent, parent_has_children}
use Rattle.mesh_defs.proofs.TestLemmas.{same_tests}
use Rattle.roam_mesh.specs.Mesh.{slot_of}
use Rattle.roam_mesh.specs.Parts.{blank}
use Rattle.roam_mesh.specs.declared.entry.Entry.{Entry}

-- there is a place for a live slot
pub live_below : (pairs : List ℕ) (s : ℕ) → IsLive pairs s → s < 2 * length pairs
live_below pairs s live = let within = live_within pairs s live in omega arith

-- the slot of the address of a live slot is that slot
pub slot_of-at : (n : ℕ) (pairs : List ℕ) (s : ℕ) → IsPool n pairs → IsLive pairs s →
    slot_of pairs (address_at pairs s) ≡ s
slot_of-at n pairs s pool live =
    let within = live_within pairs s live in
    let half : address_at pairs s / 2 ≡ get_or pairs (s / 2) 0 = omega arith in
    let place : position_or_len (λ p. eqb p (address_at pairs s / 2)) pairs ≡ s / 2 =
    position_or_len_is (λ p. eqb p (address_at pairs s / 2)) pairs (s / 2) 0 (omega arith)
    (λ k less. false_from_ne_true (eqb (get_or pairs k 0) (address_at pairs s / 2)) (λ same.
    let one = pair_one n pairs k (s / 2) (get_or pairs (s / 2) 0) pool (omega arith)
    (eqb-true (get_or pairs k 0) (address_at pairs s / 2) same ∙ half) refl in
    omega arith))
    (λ _. eq-eqb (get_or pairs (s / 2) 0) (address_at pairs s / 2) (sym half)) in
    omega arith

-- so live slots with one address are one
pub one_slot : (n : ℕ) (pairs : List ℕ) (s a : ℕ) → IsPool n pairs → 2 ≤ a →
    address_at pairs s ≡ a → slot_of pairs a ≡ s
one_slot n pairs s a pool low at =
    subst (λ z. slot_of pairs z ≡ s) at (slot_of-at n pairs s pool (subst (λ z. 2 ≤ z) (sym at) low))

-- an address whose slot is live is that of the slot
pub at-slot_of : (pairs : List ℕ) (s a : ℕ) → IsLive pairs s → slot_of pairs a ≡ s → address_at pairs s ≡ a
at-slot_of pairs s a live at =
    let at_half : position_or_len (λ p. eqb p (a / 2)) pairs ≡ s / 2 = omega arith in
    let same_side : s % 2 ≡ a % 2 = omega arith in
    let within = live_within pairs s live in
    let passes : eqb (get_or pairs (position_or_len (λ p. eqb p (a / 2)) pairs) 0) (a / 2) ≡ true =
    passes_at_first (λ p. eqb p (a / 2)) pairs 0 (subst (λ z. z < length pairs) (sym at_half) within) in
    let parent : get_or pairs (s / 2) 0 ≡ a / 2 =
    ap (λ z. get_or pairs z 0) (sym at_half)
    ∙ eqb-true (get_or pairs (position_or_len (λ p. eqb p (a / 2)) pairs) 0) (a / 2) passes in
    omega arith

-- a triangle whose parent is split stands at its slot
pub address-slot_of : (n : ℕ) (pairs : List ℕ) (a : ℕ) → IsPool n pairs → 2 ≤ a → has_children pairs (a / 2) ≡ true →
    address_at pairs (slot_of pairs a) ≡ a
address-slot_of n pairs a pool low above =
    let found = pair_slot pairs a low above in
    ap (address_at pairs) (one_slot n pairs found.0 a pool low found.1) ∙ found.1

-- where the parent of a triangle is not live, the triangle is not
pub none_above : (n : ℕ) (pairs : List ℕ) (t s : ℕ) → IsPool n pairs → 4 ≤ t →
    ((q : ℕ) → IsLive pairs q → address_at pairs q ≡ t / 2 → ⊥) → IsLive pairs s → address_at pairs s ≡ t → ⊥
none_above n pairs t s pool big none live own =
    let above : has_children pairs (t / 2) ≡ true =
    subst (λ z. has_children pairs (z / 2) ≡ true) own (parent_has_children pairs s live) in
    let q = pair_slot pairs (t / 2) (omega arith) (member_parent n pairs (t / 2) pool (omega arith) above) in
    none q.0 (subst (λ z. 2 ≤ z) (sym q.1) (omega arith)) q.1

-- what is kept of slot r after what is kept of slot s was changed
pub entry_at-set : (entries : List Entry) (s : ℕ) (e : Entry) (r : ℕ) → s < length entries →
    slice_index_or (slice_set entries s e) r blank ≡ cond (nat_eq s r) e (slice_index_or entries r blank)
entry_at-set entries s e r below = elim (cases_eq s r) [
  | inl same ↦ ap (λ z. get_or (set entries s e) z blank) (sym same) ∙ get_or-set_same entries s e blank below
      ∙ sym (ap (λ b. cond b e (get_or entries r blank)) (eq-eqb s r same))
  | inr other ↦ get_or-set_other entries s r e blank (λ z. other (sym z))
      ∙ sym (ap (λ b. cond b e (get_or entries r blank)) (ne_eqb s r other))
]

-- and what is kept of an address
pub entry_of-set : (n : ℕ) (pairs : List ℕ) (entries : List Entry) (s : ℕ) (e : Entry) (a : ℕ) → IsPool n pairs →
    IsLive pairs s → s < length entries →
    slice_index_or (slice_set entries s e) (slot_of pairs a) blank
    ≡ cond (nat_eq (address_at pairs s) a) e (slice_index_or entries (slot_of pairs a) blank)
entry_of-set n pairs entries s e a pool live below =
    entry_at-set entries s e (slot_of pairs a) below ∙ ap (λ b. cond b e (get_or entries (slot_of pairs a) blank))
    (same_tests (nat_eq s (slot_of pairs a)) (nat_eq (address_at pairs s) a)
    (λ at. eq-eqb (address_at pairs s) a (at-slot_of pairs s a live (sym (eqb-true s (slot_of pairs a) at))))
    (λ own. eq-eqb s (slot_of pairs a) (sym (one_slot n pairs s a pool
    (subst (λ z. 2 ≤ z) (eqb-true (address_at pairs s) a own) live) (eqb-true (address_at pairs s) a own)))))

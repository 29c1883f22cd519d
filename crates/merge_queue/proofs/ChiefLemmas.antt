-- The chief of a diamond in a pool: all members have the same one, and one slot has it.
use Rattle.std.proofs.Common.{◌≡◌, ap, sym, ◌∙◌, true, ℕ, ◌≤◌, arith, inl, inr, List}
use Rattle.bintree_addr.specs.declared.slot.Slot.{Slot}
use Rattle.mesh_laws.specs.Diamond.{IsInDiamond}
use Rattle.mesh_laws.specs.Edge.{mate_of}
use Rattle.mesh_laws.specs.Slots.{address_at, has_children, IsLive, IsPool}
use Rattle.mesh_laws.proofs.MateLemmas.{mate_of-low}
use Rattle.mesh_laws.proofs.IsMateLemmas.{mate_of-IsMate}
use Rattle.mesh_laws.proofs.SlotLemmas.{has_children-set}
use Rattle.mesh_laws.specs.Chief.{chief_of}
use Rattle.mesh_laws.proofs.ChiefLemmas.{chief_of-low, chief_of-mate}

-- all members of a split diamond have the same chief
chief_of-same : (n : ℕ) (pairs : List ℕ) (a b : ℕ) → IsPool n pairs → 2 ≤ a → has_children pairs a ≡ true →
    IsInDiamond n a b → chief_of b ≡ chief_of a
chief_of-same n pairs a b pool low is_split (inl own) = ap chief_of own
chief_of-same n pairs a b pool low is_split (inr mate) =
    let fits = (pool.closed.splittable a (has_children-set pairs a low is_split)).coarse in
    let is : mate_of a ≡ b = mate_of-IsMate n a b low (omega arith) mate in
    let two = mate.address.low in
    ap chief_of (sym is) ∙ chief_of-mate a low (omega arith)

-- a mate's slot is live
pub mate_live : (pairs : List ℕ) (s t : ℕ) → IsLive pairs s → 1 ≤ mate_of (address_at pairs s) →
    address_at pairs t ≡ mate_of (address_at pairs s) → IsLive pairs t
mate_live pairs s t low some is = let high = mate_of-low (address_at pairs s) low some in omega arith

-- whatever slot has the chief of a member is the same slot
pub chief_same : (n : ℕ) (pairs : List ℕ) (s r : Slot) → IsPool n pairs → IsLive pairs s.0 →
    has_children pairs (address_at pairs s.0) ≡ true →
    address_at pairs r.0 ≡ chief_of (address_at pairs s.0) →
    (t u : Slot) → IsInDiamond n (address_at pairs s.0) (address_at pairs t.0) →
    address_at pairs u.0 ≡ chief_of (address_at pairs t.0) → u ≡ r
chief_same n pairs s r pool low is_split is t u member other =
    let a : ℕ = address_at pairs s.0 in
    let same : address_at pairs u.0 ≡ address_at pairs r.0 =
    other ∙ chief_of-same n pairs a (address_at pairs t.0) pool low is_split member ∙ sym is in
    let high = chief_of-low a low in
    let slot : ℕ → Slot = λ number. record { 0 = number } in
    sym (ap slot (pool.once r.0 u.0 (omega arith) (sym same)))

-- What the pool's calls answer.
use Rattle.std.specs.Prelude.{◌≡◌, ℕ, ◌+◌, ◌*◌, ◌≤◌, ◌⊎◌, List, [], ◌∷◌, map, nat_lt, true, false, IsNone, IfSome}
use Rattle.std.specs.Prelude.{IsSomeAnd}
use Rattle.bintree_addr.specs.declared.slot.Slot.{Slot}
use Rattle.mesh_defs.specs.declared.point.Point.{Point}
use Rattle.mesh_defs.specs.declared.point.Corners.{Corners}
use Rattle.mesh_defs.specs.Triangle.{corners_of}
use Rattle.mesh_laws.specs.Edge.{mate_of}
use Rattle.mesh_laws.specs.LeafAcross.{IsLeafAcross}
use Rattle.triangle_pool.specs.Slots.{PoolState}
use Rattle.triangle_pool.specs.declared.pool.Born.{Born}
use Rattle.mesh_laws.specs.Slots.{address_at, IsLive, split_set}

-- the triangle at a slot
abbrev pub triangle_at : PoolState → Slot → ℕ
triangle_at pool s = address_at pool.pairs s.0

-- its corners
abbrev pub slot_corners : PoolState → Slot → Corners
slot_corners pool s = corners_of pool.n (triangle_at pool s)

-- t has the leaf across the edge from p to q of the leaf at s
abbrev pub IsSlotAcross : PoolState → Slot → Point → Point → Slot → Type 0
IsSlotAcross pool s p q t = IsLeafAcross pool.n (split_set pool.pairs) (triangle_at pool s) p q (triangle_at pool t)

-- the numbers of slots
abbrev pub numbers : List Slot → List ℕ
numbers slots = map (λ s. s.0) slots

-- the slots are those of the left and the right child of a
abbrev pub AreChildren : List ℕ → ℕ → Slot × Slot → Type 0
AreChildren pairs a pair = (address_at pairs pair.0.0 ≡ 2 * a) × (address_at pairs pair.1.0 ≡ 2 * a + 1)

-- r is one of the two slots
abbrev pub IsOfPair : Slot × Slot → ℕ → Type 0
IsOfPair pair r = (r ≡ pair.0.0) ⊎ (r ≡ pair.1.0)

-- r is one of the slots that a split gave out
abbrev pub IsBorn : Born → ℕ → Type 0
IsBorn born r = IsOfPair born.first r ⊎ IsSomeAnd born.second (λ pair. IsOfPair pair r)

-- What the answer to a split of a says: the slots of its children, and those of its mate's children where it has a
-- mate. No other slot became live.
pub record IsBirth (before after : List ℕ) (a : ℕ) (born : Born) : Type 0 where
  pub first : AreChildren after a born.first
  pub second : IfSome born.second (λ pair. (1 ≤ mate_of a) × AreChildren after (mate_of a) pair)
  pub alone : IsNone born.second → mate_of a ≡ 0
  pub live : (r : ℕ) → IsLive after r → IsLive before r ⊎ IsBorn born r

-- the addresses of the children of a and of its mate
abbrev pub children_of : ℕ → List ℕ
children_of a = elim (nat_lt 0 (mate_of a)) as (λ _. List ℕ) [
  | true ↦ (2 * a) ∷ ((2 * a + 1) ∷ ((2 * mate_of a) ∷ ((2 * mate_of a + 1) ∷ [])))
  | false ↦ (2 * a) ∷ ((2 * a + 1) ∷ [])
]

-- Which triangle of a diamond has the better key, and which is to be asked next.
-- All of it is this project's own.
-- Words: is_sure, IsOfDiamond, IsBetterFirst, IsKnownRank, IsTurn, IsUnasked.
use Rattle.std.specs.Prelude.{◌≡◌, ◌≢◌, ℕ, ◌≤◌, ◌⊎◌, ◌↔◌, Bool, true, false, ◌||◌, cond, nat_eq, Option, IfSome, IsNone}
use Rattle.mesh_laws.specs.Edge.{mate_of}
use Rattle.mesh_laws.specs.Slots.{address_at}
use Rattle.mesh_laws.specs.Chief.{chief_of}
use Rattle.mesh_defs.specs.Ranking.{IsBefore}
use Rattle.mesh_laws.specs.Order.{IsNoLater}
use Rattle.bintree_addr.specs.declared.rank.Rank.{Rank}
use Rattle.bintree_addr.specs.declared.slot.Slot.{Slot}
use Rattle.roam_mesh.specs.Parts.{PartsState, entry_at, entry_of, is_ready_at, best_of, merging_key, worst_rank}
use Rattle.roam_mesh.specs.Parts.{diamond_rank}
use Rattle.roam_mesh.specs.declared.entry.Entry.{Entry}

-- the priority of an entry is known: it was told, or its bounds are equal
abbrev pub is_sure : Entry → Bool
is_sure e = e.known || nat_eq (cond e.stamped e.upper 0) (cond e.stamped e.lower 0)

-- the slot t has a triangle of the diamond of s
abbrev pub IsOfDiamond : PartsState → ℕ → ℕ → Type 0
IsOfDiamond parts s t =
    (address_at parts.pool.pairs t ≡ address_at parts.pool.pairs s)
    ⊎ ((1 ≤ mate_of (address_at parts.pool.pairs s))
    × (address_at parts.pool.pairs t ≡ mate_of (address_at parts.pool.pairs s)))

-- the slot of the triangle that the diamond's key names, and that of its mate
pub record IsBetterFirst (parts : PartsState) (s : ℕ) (pair : Slot × Option Slot) : Type 0 where
  pub key : worst_rank parts (address_at parts.pool.pairs pair.0.0)
      ≡ diamond_rank parts (chief_of (address_at parts.pool.pairs s))
  pub ready : is_ready_at parts.pool.pairs pair.0.0 ≡ true
  pub own : IsOfDiamond parts s pair.0.0
  pub alone : IsNone pair.1 ↔ mate_of (address_at parts.pool.pairs pair.0.0) ≡ 0
  pub other : IfSome pair.1 (λ m. (address_at parts.pool.pairs m.0 ≡ mate_of (address_at parts.pool.pairs pair.0.0))
      × (is_ready_at parts.pool.pairs m.0 ≡ true))

-- the triangle that the diamond's key names is sure, and no later than its mate by the best that this can be
pub record IsKnownRank (parts : PartsState) (s : ℕ) : Type 0 where
  pub own : is_sure (entry_of parts (diamond_rank parts (chief_of (address_at parts.pool.pairs s))).tri) ≡ true
  pub mate : 1 ≤ mate_of (diamond_rank parts (chief_of (address_at parts.pool.pairs s))).tri →
      IsNoLater (merging_key (entry_of parts (diamond_rank parts (chief_of (address_at parts.pool.pairs s))).tri))
      (diamond_rank parts (chief_of (address_at parts.pool.pairs s))).tri
      (best_of (entry_of parts (mate_of (diamond_rank parts (chief_of (address_at parts.pool.pairs s))).tri)))
      (mate_of (diamond_rank parts (chief_of (address_at parts.pool.pairs s))).tri)

-- the slot t has the triangle of this key, unless that is sure, or t comes first by the best that each can be
abbrev pub IsTurn : PartsState → Rank → ℕ → Type 0
IsTurn parts key t =
    address_at parts.pool.pairs t ≢ key.tri →
    (is_sure (entry_of parts key.tri) ≡ true)
    ⊎ IsBefore (best_of (entry_at parts t)) (address_at parts.pool.pairs t) (best_of (entry_of parts key.tri)) key.tri

-- the triangle to ask next of a diamond whose rank is not known: it is not sure itself
pub record IsUnasked (parts : PartsState) (s : ℕ) (t : Slot) : Type 0 where
  pub own : IsOfDiamond parts s t.0
  pub not_sure : is_sure (entry_at parts t.0) ≡ false
  pub undecided : IsKnownRank parts s → ⊥
  pub turn : IsTurn parts (diamond_rank parts (chief_of (address_at parts.pool.pairs s))) t.0

-- What an entry keeps that changes its role.
-- All of it is this project's own.
-- Words: CanTakeBack, IsKeptMate.
use Rattle.std.specs.Prelude.{◌≡◌, ℕ, ◌≤◌, true, false, List, [], ◌∷◌, ◌++◌}
use Rattle.mesh_laws.specs.Edge.{mate_of}
use Rattle.mesh_laws.specs.Slots.{address_at}
use Rattle.roam_mesh.specs.Mesh.{slot_of}
use Rattle.roam_mesh.specs.Parts.{PartsState, entry_at, is_leaf_at, IsNear, IsParts}
use Rattle.roam_mesh.specs.declared.entry.Entry.{Entry}

-- the slot s, the last fresh one, can have back what was kept of it
pub record CanTakeBack (parts : PartsState) (rest : List ℕ) (s : ℕ) (was : Entry) : Type 0 where
  pub parts_are : IsParts parts
  pub last : parts.fresh ≡ rest ++ (s ∷ [])
  pub near : IsNear was
  pub stale : was.fresh ≡ false
  pub listed : was.listed ≡ (entry_at parts s).listed
  pub known : was.known ≡ true → was.listed ≡ true

-- the mate of the leaf at slot s is a leaf, and this is kept of it
pub record IsKeptMate (parts : PartsState) (s : ℕ) (e : Entry) : Type 0 where
  pub some : 1 ≤ mate_of (address_at parts.pool.pairs s)
  pub leaf : is_leaf_at parts.pool.pairs (slot_of parts.pool.pairs (mate_of (address_at parts.pool.pairs s))) ≡ true
  pub own : e ≡ entry_at parts (slot_of parts.pool.pairs (mate_of (address_at parts.pool.pairs s)))

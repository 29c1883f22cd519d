-- What a merge does to the parts of a mesh.
-- All of it is this project's own.
-- Words: mate_slots, IsMergeAt.
use Rattle.std.specs.Prelude.{◌≡◌, ℕ, ◌+◌, List, [], ◌∷◌, ◌++◌, cond, nat_lt}
use Rattle.mesh_laws.specs.Edge.{mate_of}
use Rattle.mesh_laws.specs.Slots.{address_at, IsPool, IsMerge, room_of, diamond_size}
use Rattle.roam_mesh.specs.Mesh.{slot_of}
use Rattle.roam_mesh.specs.Parts.{PartsState}
use Rattle.roam_mesh.specs.Change.{above_slots, with_children, left_all, pushed_all}

-- the slot of a mate with the diamond above it, where there is a mate
abbrev pub mate_slots : List ℕ → ℕ → List ℕ
mate_slots pairs m = cond (nat_lt 0 m) (above_slots pairs (slot_of pairs m) ++ (slot_of pairs m ∷ [])) []

-- The diamond of slot s is merged: its children and it leave; the pool merges; the diamonds above it that can be merged
-- now are fresh, and so are its triangles, leaves now, the one of s last.
pub record IsMergeAt (before after : PartsState) (s : ℕ) : Type 0 where
  pub n : after.pool.n ≡ before.pool.n
  pub most : after.pool.most ≡ before.pool.most
  pub splits : after.pool.splits ≡ before.pool.splits
  pub merges : after.pool.merges ≡ before.pool.merges + diamond_size (address_at before.pool.pairs s)
  pub room : room_of after.pool.pairs ≡ room_of before.pool.pairs + diamond_size (address_at before.pool.pairs s)
  pub merge : IsMerge before.pool.pairs after.pool.pairs (address_at before.pool.pairs s)
  pub valid : IsPool after.pool.n after.pool.pairs
  pub state : after ≡ pushed_all
      (pushed_all (pushed_all (record (left_all before (with_children before.pool.pairs s)) { pool = after.pool })
      (above_slots after.pool.pairs s))
      (mate_slots after.pool.pairs (mate_of (address_at before.pool.pairs s))))
      (s ∷ [])

-- A mesh half way through a frame: its pool, what is kept of each slot, and what the three heaps hold.
-- All of it is this project's own.
-- Words: PartsState, parts_of, stamp_in, best_of, merging_key, deadline_of, blank, entry_at, entry_of, seen_parts,
-- QueuedState, mesh_of, is_leaf_at, is_bare, is_ready, is_ready_at, is_chief_at, is_entry_at, is_out, leaf_rank,
-- worst_rank, better_of, diamond_rank, IsSlotList, IsWhole, IsPlaced, IsNear, IsParts.
use Rattle.std.specs.Prelude.{◌≡◌, ℕ, ◌+◌, ◌*◌, ◌^◌, ◌≤◌, Bool, true, false, not, ◌&&◌, ◌||◌, cond, nat_eq, nat_le}
use Rattle.std.specs.Prelude.{nat_lt, List, length, map, take, reverse, Option, None, Some, slice_index, slice_index_or}
use Rattle.std.specs.List.{IsDistinct}
use Rattle.mesh_defs.specs.declared.counters.TheConstants.{LONGEST_WAY}
use Rattle.mesh_defs.specs.ClosedSet.{among}
use Rattle.mesh_laws.specs.Edge.{mate_of}
use Rattle.mesh_laws.specs.Slots.{address_at, has_children, IsPool}
use Rattle.triangle_pool.specs.Slots.{PoolState}
use Rattle.triangle_pool.specs.declared.pool.TheConstants.{MOST_LEAVES}
use Rattle.bintree_addr.specs.declared.rank.Rank.{Rank}
use Rattle.bintree_addr.specs.declared.slot.Slot.{Slot}
use Rattle.mesh_laws.specs.Stamps.{Stamp}
use Rattle.mesh_laws.specs.Chief.{chief_of}
use Rattle.deferred_loop.specs.Seen.{SeenMesh}
use Rattle.deferred_loop.specs.Log.{Log}
use Rattle.roam_mesh.specs.Mesh.{MeshState, slot_of, pool_set}
use Rattle.roam_mesh.specs.declared.entry.Entry.{Entry}

-- the pool; what is kept of each slot; the key that each slot has in the split queue, in the merge queue and among the
-- deadlines; the slots that were asked in this frame; and those that are fresh, the next one last
pub record PartsState : Type 0 where
  pub pool : PoolState
  pub entries : List Entry
  pub split : List (Option Rank)
  pub merge : List (Option Rank)
  pub due : List (Option ℕ)
  pub asked : List ℕ
  pub fresh : List ℕ

-- the same, where the two lists are the first entries of arrays
abbrev pub parts_of : PoolState → List Entry → List (Option Rank) → List (Option Rank) → List (Option ℕ) → List Slot →
    ℕ → List Slot → ℕ → PartsState
parts_of pool entries split merge due asked asked_count fresh fresh_count = record {
  pool = pool;
  entries = entries;
  split = split;
  merge = merge;
  due = due;
  asked = map (λ s. s.0) (take asked_count asked);
  fresh = map (λ s. s.0) (take fresh_count fresh);
}

-- the stamp of an entry
abbrev pub stamp_in : Entry → Option Stamp
stamp_in e =
    cond e.stamped (Some (record {
      odometer = e.odometer;
      slack = e.slack;
      upper = e.upper;
      lower = e.lower;
      expired = e.expired;
    })) None

-- its key in the split queue
abbrev pub best_of : Entry → ℕ
best_of e = cond e.known e.exact (cond e.stamped e.upper 0)

-- its key in the merge queue
abbrev pub merging_key : Entry → ℕ
merging_key e = cond e.known e.exact (cond e.stamped e.lower 0)

-- the odometer from which on it is due
abbrev pub deadline_of : Entry → ℕ
deadline_of e = cond (e.stamped && not e.expired) (e.odometer + e.slack + 1) 0

-- what is kept of a slot that has nothing
abbrev pub blank : Entry
blank = record {
  odometer = 0;
  slack = 0;
  upper = 0;
  lower = 0;
  exact = 0;
  stamped = false;
  expired = false;
  known = false;
  listed = false;
  fresh = false;
}

-- what is kept of a slot, and of an address
abbrev pub entry_at : PartsState → ℕ → Entry
entry_at parts s = slice_index_or parts.entries s blank

abbrev pub entry_of : PartsState → ℕ → Entry
entry_of parts a = entry_at parts (slot_of parts.pool.pairs a)

-- as the loop sees it
abbrev pub seen_parts : PartsState → SeenMesh
seen_parts parts = record {
  set = pool_set parts.pool;
  known = λ a. (entry_of parts a).known;
  exact = λ a. (entry_of parts a).exact;
  stamps = λ a. stamp_in (entry_of parts a);
  fresh = reverse (map (address_at parts.pool.pairs) parts.fresh);
}

-- the parts, and the log of the frame
pub record QueuedState : Type 0 where
  pub parts : PartsState
  pub log : Log

-- the mesh that parts with a log are, between frames
abbrev pub mesh_of : PartsState → Log → MeshState
mesh_of parts log = record { pool = parts.pool; stamps = map stamp_in parts.entries; log = log }

-- the slot has a leaf
abbrev pub is_leaf_at : List ℕ → ℕ → Bool
is_leaf_at pairs s = nat_le 2 (address_at pairs s) && not (has_children pairs (address_at pairs s))

-- a is split, and its children are leaves
abbrev pub is_bare : List ℕ → ℕ → Bool
is_bare pairs a = has_children pairs a && (not (has_children pairs (2 * a)) && not (has_children pairs (2 * a + 1)))

-- the diamond of a can be merged
abbrev pub is_ready : List ℕ → ℕ → Bool
is_ready pairs a = is_bare pairs a && (nat_eq (mate_of a) 0 || is_bare pairs (mate_of a))

-- the slot has a triangle of a diamond that can be merged
abbrev pub is_ready_at : List ℕ → ℕ → Bool
is_ready_at pairs s = nat_le 2 (address_at pairs s) && is_ready pairs (address_at pairs s)

-- and it is the one under which the diamond stands in the merge queue
abbrev pub is_chief_at : List ℕ → ℕ → Bool
is_chief_at pairs s = is_ready_at pairs s && nat_eq (chief_of (address_at pairs s)) (address_at pairs s)

-- the slot has an entry: a leaf, or a triangle of a diamond that can be merged
abbrev pub is_entry_at : List ℕ → ℕ → Bool
is_entry_at pairs s = is_leaf_at pairs s || is_ready_at pairs s

-- the slot is out of its place, or its mate's is
abbrev pub is_out : List ℕ → (ℕ → Bool) → ℕ → Bool
is_out pairs out s =
    out s || (nat_lt 0 (mate_of (address_at pairs s)) && out (slot_of pairs (mate_of (address_at pairs s))))

-- the key of a leaf
abbrev pub leaf_rank : PartsState → ℕ → Rank
leaf_rank parts s = record { p = best_of (entry_at parts s); tri = address_at parts.pool.pairs s }

-- an address with the worst that its priority can be
abbrev pub worst_rank : PartsState → ℕ → Rank
worst_rank parts a = record { p = merging_key (entry_of parts a); tri = a }

-- the better of two ranks
abbrev pub better_of : Rank → Rank → Rank
better_of r q = cond (nat_lt q.p r.p || (nat_eq r.p q.p && nat_le r.tri q.tri)) r q

-- the key of a diamond: the better one of its triangles
abbrev pub diamond_rank : PartsState → ℕ → Rank
diamond_rank parts a =
    cond (nat_eq (mate_of a) 0) (worst_rank parts a) (better_of (worst_rank parts a) (worst_rank parts (mate_of a)))

-- a list of slots, each once; they are those with a mark
pub record IsSlotList (entries : List Entry) (mark : Entry → Bool) (slots : List ℕ) : Type 0 where
  pub distinct : IsDistinct nat_eq slots
  pub marked : (s : ℕ) → mark (slice_index_or entries s blank) ≡ among slots s

-- There is a place for each slot, slots 0 and 1 have the halves of the square, and the marks say what is listed.
pub record IsWhole (parts : PartsState) : Type 0 where
  pub few : parts.pool.most ≤ MOST_LEAVES
  pub pairs : length parts.pool.pairs + 1 ≡ parts.pool.most
  pub root : slice_index parts.pool.pairs 0 ≡ 1
  pub entries : length parts.entries ≡ 2 * length parts.pool.pairs
  pub split : length parts.split ≡ 2 * length parts.pool.pairs
  pub merge : length parts.merge ≡ 2 * length parts.pool.pairs
  pub due : length parts.due ≡ 2 * length parts.pool.pairs
  pub asked : IsSlotList parts.entries (λ e. e.listed) parts.asked
  pub fresh : IsSlotList parts.entries (λ e. e.fresh) parts.fresh
  pub known : (s : ℕ) → (entry_at parts s).known ≡ true → (entry_at parts s).listed ≡ true

-- The heaps hold just what they must, but for the slots that are out of place: the leaves by the best that their
-- priorities can be, the diamonds that can be merged under their chiefs, the entries by their deadlines. Only entries
-- have a stamp or are known.
pub record IsPlaced (parts : PartsState) (out : ℕ → Bool) : Type 0 where
  pub split : (s : ℕ) → slice_index_or parts.split s None
      ≡ cond (is_leaf_at parts.pool.pairs s && not (out s)) (Some (leaf_rank parts s)) None
  pub merge : (s : ℕ) → slice_index_or parts.merge s None
      ≡ cond (is_chief_at parts.pool.pairs s && not (is_out parts.pool.pairs out s))
      (Some (diamond_rank parts (address_at parts.pool.pairs s))) None
  pub due : (s : ℕ) → slice_index_or parts.due s None
      ≡ cond (is_entry_at parts.pool.pairs s && not (out s)) (Some (deadline_of (entry_at parts s))) None
  pub stamped : (s : ℕ) → (entry_at parts s).stamped ≡ true → is_entry_at parts.pool.pairs s ≡ true
  pub known : (s : ℕ) → (entry_at parts s).known ≡ true → is_entry_at parts.pool.pairs s ≡ true

-- a stamp is small enough for a deadline
abbrev pub IsNear : Entry → Type 0
IsNear e = (e.odometer ≤ LONGEST_WAY) × (e.slack ≤ 2 ^ 32)

-- what holds between two calls of the loop: all entries are in their places but the fresh ones
pub record IsParts (parts : PartsState) : Type 0 where
  pub pool : IsPool parts.pool.n parts.pool.pairs
  pub near : (s : ℕ) → IsNear (entry_at parts s)
  pub placed : IsPlaced parts (among parts.fresh)
  pub entries : (s : ℕ) → among parts.fresh s ≡ true → is_entry_at parts.pool.pairs s ≡ true

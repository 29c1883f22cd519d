-- What each call does to the parts of a mesh, as functions.
-- All of it is this project's own.
-- Words: chief_slot, diamond_slots, child_slots, above_slots, with_above, with_mate, with_chain, with_children,
-- gone_entry, taken_out, left, left_all, pushed, pushed_all, rekeyed, is_mate_fresh, put_in, with_priority, rated,
-- read_entry, entered, seated, without_priority, forgotten, begun_at, expired_at.
use Rattle.std.specs.Prelude.{ℕ, ◌+◌, ◌*◌, ◌/◌, ◌&&◌, ◌||◌, Bool, true, false, cond, nat_le, nat_lt, List, [], ◌∷◌}
use Rattle.std.specs.Prelude.{◌++◌, None, Some, option_map, slice_index_or, slice_set}
use Rattle.mesh_laws.specs.Edge.{mate_of}
use Rattle.mesh_laws.specs.Slots.{address_at, has_children}
use Rattle.mesh_laws.specs.Chief.{chief_of}
use Rattle.deferred_loop.specs.declared.gauge.Reading.{Reading}
use Rattle.roam_mesh.specs.Mesh.{slot_of}
use Rattle.roam_mesh.specs.declared.entry.Entry.{Entry}
use Rattle.roam_mesh.specs.Parts.{PartsState, deadline_of, entry_at, is_leaf_at, is_ready, leaf_rank, diamond_rank}

-- the slot under which the diamond of a slot's triangle stands in the merge queue
abbrev pub chief_slot : List ℕ → ℕ → ℕ
chief_slot pairs s = slot_of pairs (chief_of (address_at pairs s))

-- the slots of a diamond, the other triangle's first
abbrev pub diamond_slots : List ℕ → ℕ → List ℕ
diamond_slots pairs s =
    cond (nat_lt 0 (mate_of (address_at pairs s))) (slot_of pairs (mate_of (address_at pairs s)) ∷ []) [] ++ (s ∷ [])

-- the slots of the children of a split triangle
abbrev pub child_slots : List ℕ → ℕ → List ℕ
child_slots pairs s = slot_of pairs (2 * address_at pairs s) ∷ (slot_of pairs (2 * address_at pairs s + 1) ∷ [])

-- the diamond above a leaf, where it can be merged
abbrev pub above_slots : List ℕ → ℕ → List ℕ
above_slots pairs s =
    cond (nat_le 4 (address_at pairs s) && is_ready pairs (address_at pairs s / 2))
    (diamond_slots pairs (slot_of pairs (address_at pairs s / 2))) []

-- a leaf, and that diamond
abbrev pub with_above : List ℕ → ℕ → List ℕ
with_above pairs s = s ∷ above_slots pairs s

-- and the same of its mate, where that is a leaf
abbrev pub with_mate : List ℕ → ℕ → List ℕ
with_mate pairs s = with_above pairs s
    ++ cond (nat_lt 0 (mate_of (address_at pairs s)) && has_children pairs (mate_of (address_at pairs s) / 2))
    (with_above pairs (slot_of pairs (mate_of (address_at pairs s)))) []

-- the entries that a chain of splits takes away
abbrev pub with_chain : List ℕ → List ℕ → List ℕ
with_chain pairs [] = []
with_chain pairs (s ∷ rest) = with_mate pairs s ++ with_chain pairs rest

-- the entries that a merge takes away: the children of a diamond, and the diamond
abbrev pub with_children : List ℕ → ℕ → List ℕ
with_children pairs s = (child_slots pairs s
    ++ cond (nat_lt 0 (mate_of (address_at pairs s)))
    (child_slots pairs (slot_of pairs (mate_of (address_at pairs s)))) []) ++ diamond_slots pairs s

-- an entry no longer: no stamp, and nothing known
abbrev pub gone_entry : Entry → Entry
gone_entry e = record e { stamped = false; known = false }

-- the slot's leaf or diamond is out of its queue, and the slot has no deadline
abbrev pub taken_out : PartsState → ℕ → PartsState
taken_out parts s = record parts {
  split = cond (is_leaf_at parts.pool.pairs s) (slice_set parts.split s None) parts.split;
  merge = cond (is_leaf_at parts.pool.pairs s) parts.merge (slice_set parts.merge (chief_slot parts.pool.pairs s) None);
  due = slice_set parts.due s None;
}

-- the slot is out of its place, and an entry no longer
abbrev pub left : PartsState → ℕ → PartsState
left parts s = record (taken_out parts s) { entries = slice_set parts.entries s (gone_entry (entry_at parts s)) }

abbrev pub left_all : PartsState → List ℕ → PartsState
left_all parts [] = parts
left_all parts (s ∷ more) = left_all (left parts s) more

-- the slot is listed as fresh
abbrev pub pushed : PartsState → ℕ → PartsState
pushed parts s = cond (entry_at parts s).fresh parts (record parts {
  entries = slice_set parts.entries s (record (entry_at parts s) { fresh = true });
  fresh = parts.fresh ++ (s ∷ []);
})

abbrev pub pushed_all : PartsState → List ℕ → PartsState
pushed_all parts [] = parts
pushed_all parts (s ∷ more) = pushed_all (pushed parts s) more

-- the slot's leaf or diamond has the key of what is kept
abbrev pub rekeyed : PartsState → ℕ → PartsState
rekeyed parts s = record parts {
  split = cond (is_leaf_at parts.pool.pairs s) (slice_set parts.split s (Some (leaf_rank parts s))) parts.split;
  merge = cond (is_leaf_at parts.pool.pairs s) parts.merge
      (slice_set parts.merge (chief_slot parts.pool.pairs s)
      (Some (diamond_rank parts (chief_of (address_at parts.pool.pairs s)))));
}

-- the mate of the slot's triangle is fresh
abbrev pub is_mate_fresh : PartsState → ℕ → Bool
is_mate_fresh parts s =
    nat_lt 0 (mate_of (address_at parts.pool.pairs s)) &&
    (entry_at parts (slot_of parts.pool.pairs (mate_of (address_at parts.pool.pairs s)))).fresh

-- the slot's leaf is in its place, or its diamond once nothing of it is fresh
abbrev pub put_in : PartsState → ℕ → PartsState
put_in parts s = cond (is_leaf_at parts.pool.pairs s || not_fresh parts s) (rekeyed parts s) parts
  where
    not_fresh : PartsState → ℕ → Bool
    not_fresh parts s = cond (is_mate_fresh parts s) false true

-- with a priority that was told
abbrev pub with_priority : Entry → ℕ → Entry
with_priority e p = record e { exact = p; known = true; listed = true }

abbrev pub rated : PartsState → ℕ → ℕ → PartsState
rated parts s p = rekeyed (record parts {
  entries = slice_set parts.entries s (with_priority (entry_at parts s) p);
  asked = cond (entry_at parts s).listed parts.asked (parts.asked ++ (s ∷ []));
}) s

-- with the stamp of a reading, and fresh no longer
abbrev pub read_entry : Entry → Reading → ℕ → Entry
read_entry e reading odometer = record e {
  stamped = true;
  expired = false;
  odometer = odometer;
  slack = reading.slack;
  upper = reading.hi.p;
  lower = reading.lo.p;
  fresh = false;
}

-- the slot s is the last fresh one, and rest are the others
abbrev pub entered : PartsState → List ℕ → ℕ → Reading → ℕ → PartsState
entered parts rest s reading odometer = put_in (record parts {
  entries = slice_set parts.entries s (read_entry (entry_at parts s) reading odometer);
  due = slice_set parts.due s (Some (odometer + reading.slack + 1));
  fresh = rest;
}) s

-- the slot s, the last fresh one, has what was kept of it, and rest are the others
abbrev pub seated : PartsState → List ℕ → ℕ → Entry → PartsState
seated parts rest s was = put_in (record parts {
  entries = slice_set parts.entries s was;
  due = slice_set parts.due s (Some (deadline_of was));
  fresh = rest;
}) s

-- what was told is forgotten
abbrev pub without_priority : Entry → Entry
without_priority e = record e { known = false; listed = false }

-- the slot s is the last that was asked, and rest are the others
abbrev pub forgotten : PartsState → List ℕ → ℕ → PartsState
forgotten parts rest s =
    cond (entry_at parts s).known (rekeyed (unasked_slot parts rest s) s) (unasked_slot parts rest s)
  where
    unasked_slot : PartsState → List ℕ → ℕ → PartsState
    unasked_slot parts rest s = record parts {
      entries = slice_set parts.entries s (without_priority (entry_at parts s));
      asked = rest;
    }

-- a slot that is due is out of its place, and fresh
abbrev pub begun_at : PartsState → ℕ → PartsState
begun_at parts s = pushed (taken_out parts s) s

-- what is kept of the slot is expired, and its deadline, where it has one, is 0
abbrev pub expired_at : PartsState → ℕ → PartsState
expired_at parts s = record parts {
  entries = slice_set parts.entries s (record (entry_at parts s) { expired = true });
  due = slice_set parts.due s (option_map (λ _. 0) (slice_index_or parts.due s None));
}

-- A sink of meshes in memory: what contracts see of it, and where a call of it fails.
-- This project's own words.
use Rattle.std.specs.Prelude.{ℕ, ◌-◌, Bool, false, List, ◌++◌, map, length, Option, Some, None, option_map}
use Rattle.std.specs.Prelude.{option_to_list, nat_lt, ◌==◌, ◌||◌, if◌then◌else◌}
use Rattle.std.specs.List.{list_any}
use Rattle.roam_edge.specs.Fault.{next_count, late_after}
use Rattle.roam_edge.specs.MeshSink.{WrittenMesh, begun, longer, closed}
use Rattle.roam_edge.specs.declared.mesh_call.MeshCall.{MeshCall}
use Rattle.roam_edge.specs.declared.mesh_call.MeshCall.TheVariants.{Begin, Write, Finish}

-- the finished meshes, the mesh under way, for how many more meshes and bytes there is room, the calls that are to
-- fail, how many calls of each kind and failures there were, and whether a call came after a failure
pub record KeptMeshes : Type 0 where
  pub done : List WrittenMesh
  pub current : Option WrittenMesh
  pub mesh_room : ℕ
  pub byte_room : ℕ
  pub fails : List MeshCall
  pub begins : ℕ
  pub writes : ℕ
  pub finishes : ℕ
  pub faults : ℕ
  pub late : Bool

-- the meshes in the order in which they were begun
abbrev pub all_meshes : KeptMeshes → List WrittenMesh
all_meshes kept = kept.done ++ option_to_list kept.current

-- one call is the other: of the same kind, with the same number
abbrev pub is_same : MeshCall → MeshCall → Bool
is_same (Begin a) (Begin b) = a == b
is_same (Write a) (Write b) = a == b
is_same (Finish a) (Finish b) = a == b
is_same _ _ = false

-- the list names this call
abbrev pub names : List MeshCall → MeshCall → Bool
names calls call = list_any (λ named. is_same named call) calls

-- the next beginning fails: it is named, or there is no room for a mesh
abbrev pub begin_fails : KeptMeshes → Bool
begin_fails kept = names kept.fails (Begin (next_count kept.begins)) || kept.mesh_room == 0

-- the sink after it: a failure is counted and adds nothing
abbrev pub after_begin : KeptMeshes → List ℕ → ℕ → KeptMeshes
after_begin kept name count =
    if begin_fails kept
    then record kept {
      begins = next_count kept.begins;
      faults = next_count kept.faults;
      late = late_after kept.late kept.faults;
    }
    else record kept {
      begins = next_count kept.begins;
      current = Some (begun name count);
      mesh_room = kept.mesh_room - 1;
      late = late_after kept.late kept.faults;
    }

-- the next write of this piece fails: it is named, or there is no room for the piece
abbrev pub write_fails : KeptMeshes → List ℕ → Bool
write_fails kept piece = names kept.fails (Write (next_count kept.writes)) || nat_lt kept.byte_room (length piece)

-- the sink after it: a failure is counted and adds nothing
abbrev pub after_write : KeptMeshes → List ℕ → KeptMeshes
after_write kept piece =
    if write_fails kept piece
    then record kept {
      writes = next_count kept.writes;
      faults = next_count kept.faults;
      late = late_after kept.late kept.faults;
    }
    else record kept {
      writes = next_count kept.writes;
      current = option_map (λ mesh. longer mesh piece) kept.current;
      byte_room = kept.byte_room - length piece;
      late = late_after kept.late kept.faults;
    }

-- the next finishing fails: it is named
abbrev pub finish_fails : KeptMeshes → Bool
finish_fails kept = names kept.fails (Finish (next_count kept.finishes))

-- the sink after it: a failure is counted and leaves the mesh under way
abbrev pub after_finish : KeptMeshes → KeptMeshes
after_finish kept =
    if finish_fails kept
    then record kept {
      finishes = next_count kept.finishes;
      faults = next_count kept.faults;
      late = late_after kept.late kept.faults;
    }
    else record kept {
      finishes = next_count kept.finishes;
      done = kept.done ++ map closed (option_to_list kept.current);
      current = None;
      late = late_after kept.late kept.faults;
    }

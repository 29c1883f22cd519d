-- How a sink of meshes in memory lays out its meshes: one after the other in one room of bytes.
use Rattle.std.specs.Prelude.{◌≡◌, ℕ, ◌≤◌, false, true, List, drop, slice_range, Option, Some, All}
use Rattle.roam_edge.specs.MeshSink.{WrittenMesh}
use Rattle.roam_edge.specs.declared.mesh_room.Heading.{Heading}
use Rattle.roam_edge.specs.declared.mesh_room.Placed.{Placed}

-- the mesh under way: its bytes are those of the room from its start on
abbrev pub mesh_from : List ℕ → Heading → WrittenMesh
mesh_from room heading =
    record { prefix = heading.prefix.bytes; number = heading.number; bytes = drop heading.start room; finished = false }

-- a finished mesh: its bytes are those of the room between its start and its end
abbrev pub mesh_at : List ℕ → Placed → WrittenMesh
mesh_at room placed =
    record {
      prefix = placed.heading.prefix.bytes;
      number = placed.heading.number;
      bytes = slice_range room placed.heading.start placed.end;
      finished = true;
    }

-- each finished mesh lies within the first `size` bytes
abbrev pub LieWithin : List Placed → ℕ → Type 0
LieWithin all size = All (λ placed. (placed.heading.start ≤ placed.end) × (placed.end ≤ size)) all

-- the mesh under way, if there is one, starts within the first `size` bytes
abbrev pub StartsWithin : Option Heading → ℕ → Type 0
StartsWithin current size = (heading : Heading) → current ≡ Some heading → heading.start ≤ size

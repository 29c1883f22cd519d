-- Calls that show the mesh in other ways: its vertices alone, its strip, and how far the surface is from it. As in
-- Calls, each refusal comes exactly where its cause holds, and after an answer other than Done all is as before.
-- All of it is this project's own.
-- Words: vertices_seen, positions_seen, strip_seen, ArePositionsTold, IsCompactTold, IsStripTold, IsDeviationTold.
use Rattle.std.specs.Prelude.{◌≡◌, ℕ, ◌*◌, ◌^◌, ◌<◌, ◌≤◌, ◌↔◌, ◌⊎◌, List, ◌++◌, length, take, drop}
use Rattle.std.specs.List.{flat_map}
use Rattle.mesh_defs.specs.declared.point.Point.{Point}
use Rattle.mesh_defs.specs.MeshText.{vertices_of}
use Rattle.fit_laws.specs.PlaneHeight.{deviation_of}
use Rattle.mesh_laws.specs.Strip.{strip_of}
use Rattle.obj_write.specs.Arrays.{positions_of, places_of}
use Rattle.mesh_arrays.specs.Indices.{indices_of}
use Rattle.frame_loop.specs.Engine.{EngineState, is_split, mesh_seen}
use Rattle.roam_embed.specs.Drawn.{drawn, corner_positions}
use Rattle.roam_embed.specs.declared.answer.Answer.{Answer}
use Rattle.roam_embed.specs.declared.answer.Answer.TheVariants.{Done, NoMemory, NoRoom}
use Rattle.roam_embed.specs.declared.notes.Deviation.{Deviation}

-- the vertices of the mesh, in the order of their numbers
abbrev pub vertices_seen : EngineState → List Point
vertices_seen e = vertices_of e.state.grid.n (mesh_seen e)

-- x, y and z of each of them
abbrev pub positions_seen : EngineState → List ℕ
positions_seen e = positions_of e.state.grid.n e.state.grid.heights e.state.view.spacing (mesh_seen e)

-- the triangles of the mesh in the order of its strip
abbrev pub strip_seen : EngineState → List ℕ
strip_seen e = strip_of e.state.grid.n (is_split e)

-- x, y and z of each vertex stand in the first places of an array, and how many vertices there are is told
pub record ArePositionsTold (e : EngineState) (array_before array : List ℕ) (count_before count : ℕ)
    (answer : Answer) : Type 0 where
  pub done : (answer ≡ Done) ↔ (3 * length (vertices_seen e) ≤ length array_before)
  pub no_room : (answer ≡ NoRoom) ↔ (length array_before < 3 * length (vertices_seen e))
  pub written : answer ≡ Done → array ≡ positions_seen e ++ drop (3 * length (vertices_seen e)) array_before
  pub counted : answer ≡ Done → count ≡ length (vertices_seen e)
  pub unwritten : (answer ≡ Done → ⊥) → array ≡ array_before
  pub uncounted : (answer ≡ Done → ⊥) → count ≡ count_before

-- The vertices of each triangle, by their numbers from 0, stand in the first places of an array, and how many triangles
-- there are is told. Read at these places, the positions of the vertices are those of the corners of each triangle in
-- turn.
pub record IsCompactTold (e : EngineState) (array_before array : List ℕ) (count_before count : ℕ)
    (answer : Answer) : Type 0 where
  pub done : (answer ≡ Done) ↔ (3 * length (mesh_seen e) ≤ length array_before)
  pub no_room : (answer ≡ NoRoom) ↔ (length array_before < 3 * length (mesh_seen e))
  pub written : answer ≡ Done →
      array ≡ places_of e.state.grid.n (mesh_seen e) ++ drop (3 * length (mesh_seen e)) array_before
  pub corners : answer ≡ Done → drawn (positions_seen e) (take (3 * length (mesh_seen e)) array)
      ≡ flat_map (corner_positions e.state.grid.n e.state.grid.heights e.state.view.spacing) (mesh_seen e)
  pub counted : answer ≡ Done → count ≡ length (mesh_seen e)
  pub unwritten : (answer ≡ Done → ⊥) → array ≡ array_before
  pub uncounted : (answer ≡ Done → ⊥) → count ≡ count_before

-- the indices of the mesh stand in the first places of an array in the order of its strip; whether there is memory for
-- it is open
pub record IsStripTold (e : EngineState) (array_before array : List ℕ) (count_before count : ℕ)
    (answer : Answer) : Type 0 where
  pub no_room : (answer ≡ NoRoom) ↔ (length array_before < 3 * length (mesh_seen e))
  pub others : ((answer ≡ Done) ⊎ (answer ≡ NoMemory)) ↔ (3 * length (mesh_seen e) ≤ length array_before)
  pub written : answer ≡ Done →
      array ≡ indices_of e.state.grid.n (strip_seen e) ++ drop (3 * length (mesh_seen e)) array_before
  pub counted : answer ≡ Done → count ≡ length (mesh_seen e)
  pub unwritten : (answer ≡ Done → ⊥) → array ≡ array_before
  pub uncounted : (answer ≡ Done → ⊥) → count ≡ count_before

-- the greatest distance between surface and mesh at a grid point is told
pub record IsDeviationTold (e : EngineState) (told : Deviation) (answer : Answer) : Type 0 where
  pub done : answer ≡ Done
  pub off : told.off ≡ deviation_of e.state.grid.n e.state.grid.heights (mesh_seen e)
  pub over : told.over ≡ 2 ^ e.state.grid.n

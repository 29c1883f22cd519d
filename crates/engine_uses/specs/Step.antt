-- A drawing buffer beside an engine: whether it shows the triangles of the engine's mesh.
-- All of it is this project's own.
-- Words: AreShown, IsInStep, IsBehind.
use Rattle.std.specs.Prelude.{◌≡◌, ℕ, ◌*◌, ◌^◌, ◌≤◌, min, List, map, IsPermutation}
use Rattle.draw_buffer.specs.Corners.{grid_indices, shown}
use Rattle.draw_buffer.specs.Buffer.{BufferState}
use Rattle.frame_loop.specs.Changes.{AreChangesOf}
use Rattle.frame_loop.specs.Engine.{EngineState, mesh_seen}

-- The buffer has these triangles of a grid, each as often, in some order; and what its vertex numbers show are their
-- corners.
pub record AreShown (n : ℕ) (triangles : List ℕ) (b : BufferState) : Type 0 where
  pub grid : b.n ≡ n
  pub places : IsPermutation triangles b.triangles
  pub corners : IsPermutation (map (grid_indices n) triangles) (map (shown b.points) b.corners)

-- The buffer shows the engine's mesh, and has room for each that the engine may come to.
pub record IsInStep (e : EngineState) (b : BufferState) : Type 0 where
  pub room : min e.most (2 * 4 ^ e.state.grid.n) ≤ b.most
  pub drawn : AreShown e.state.grid.n (mesh_seen e) b

-- The buffer shows a mesh from which the engine's differs by what the last frame took out and put in.
pub record IsBehind (e : EngineState) (b : BufferState) : Type 0 where
  pub before : List ℕ
  pub room : min e.most (2 * 4 ^ e.state.grid.n) ≤ b.most
  pub drawn : AreShown e.state.grid.n before b
  pub changed : AreChangesOf before (mesh_seen e) e.changes

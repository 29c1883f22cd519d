-- The frame of the state is a best mesh of it, and the state is as before.
use Rattle.std.proofs.Common.{subst}
use Rattle.mesh_defs.specs.State.{State, priority_in}
use Rattle.mesh_defs.specs.ClosedSet.{leaves_of, among}
use Rattle.mesh_defs.specs.BestMesh.{IsBestMesh}
use Rattle.frame_loop.specs.Mesh.{pool_members}
use Rattle.engine_uses.proofs.step.best_frame.Goals as goal

pub returns-clause-best : goal.returns-clause-best
returns-clause-best c =
    let done = c.frame-note.ensures.done in
    let pool = c.frame-note.new.self.mesh.pool in
    rw done.state (record {
      best = subst (λ (s : State). IsBestMesh s.grid.n s.budget (priority_in s)
          (leaves_of s.grid.n (among (pool_members pool)))) done.state c.frame-note.ensures.best;
      count = done.triangles;
      greatest = done.frame.greatest;
    })

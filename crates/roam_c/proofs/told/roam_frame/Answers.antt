use Rattle.std.proofs.Common.{◌≡◌, length, subst, arith}
use Rattle.std.proofs.lemmas.Grind.{common_steps}
use Rattle.mesh_defs.specs.State.{priority_in}
use Rattle.mesh_defs.specs.BestMesh.{IsBestMesh}
use Rattle.frame_loop.specs.Changes.{AreChangesOf}
use Rattle.frame_loop.specs.Engine.{EngineState, mesh_seen}
use Rattle.roam_embed.specs.declared.answer.Answer.TheVariants.{Done}
use Rattle.roam_c.proofs.told.roam_frame.Goals as goal

pub returns-in-Engine-clause-best : goal.returns-in-Engine-clause-best
returns-in-Engine-clause-best c = λ now is zero_is.
    let done : c.make_frame-answer.result ≡ Done = grind (arith, common_steps) in
    let same : c.make_frame-answer.new.engine ≡ now = first_of (cc, grind (arith, common_steps)) in
    subst (λ (e : EngineState). IsBestMesh e.state.grid.n e.state.budget (priority_in e.state) (mesh_seen e)) same
    (c.make_frame-answer.ensures.best done)

pub returns-in-Engine-clause-triangles : goal.returns-in-Engine-clause-triangles
returns-in-Engine-clause-triangles c = λ now is zero_is.
    let done : c.make_frame-answer.result ≡ Done = grind (arith, common_steps) in
    let same : c.make_frame-answer.new.engine ≡ now = first_of (cc, grind (arith, common_steps)) in
    subst (λ (e : EngineState). c.make_frame-answer.new.out.triangles ≡ length (mesh_seen e)) same
    (c.make_frame-answer.ensures.triangles done)

pub returns-in-Engine-clause-changes : goal.returns-in-Engine-clause-changes
returns-in-Engine-clause-changes c = λ was now was_is now_is zero_is.
    let done : c.make_frame-answer.result ≡ Done = grind (arith, common_steps) in
    let same : c.make_frame-answer.new.engine ≡ now = first_of (cc, grind (arith, common_steps)) in
    let began : c.in-Engine.engine ≡ was = first_of (cc, grind (arith, common_steps)) in
    subst (λ (e : EngineState). AreChangesOf (mesh_seen was) (mesh_seen e) e.changes) same
    (subst (λ (e : EngineState). AreChangesOf (mesh_seen e) (mesh_seen c.make_frame-answer.new.engine)
    c.make_frame-answer.new.engine.changes) began (c.make_frame-answer.ensures.changed done))

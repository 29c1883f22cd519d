-- The engine stands at the camera of the words, and its frame is that of the budget.
use Rattle.std.proofs.Common.{IfOk, ap, subst}
use Rattle.mesh_defs.specs.HeightField.{HeightField}
use Rattle.frame_loop.specs.Engine.{EngineState}
use Rattle.run_laws.specs.Certify.{IsMade}
use Rattle.run_words.specs.CertifyView.{making_seen}
use Rattle.run_engine.proofs.CertifyLemmas.{made-best, made-worst, same-grid}
use Rattle.run_engine.proofs.certify.certificate_by.Goals as goal

pub cert_of_frame-requires-clause-best : goal.cert_of_frame-requires-clause-best
cert_of_frame-requires-clause-best c =
    made-best (making_seen c.args.words.now) c.args.engine.now c.camera.new.self c.frame-note.new.self
    c.frame-note.result c.requires.start (ap (λ (e : EngineState). e.state) c.camera.ensures)
    c.frame-note.ensures.done (c.falling_laws.ensures _ _ _) c.requires.bounds.budget_low

pub cert_of_frame-requires-clause-worst : goal.cert_of_frame-requires-clause-worst
cert_of_frame-requires-clause-worst c =
    made-worst (making_seen c.args.words.now) c.args.engine.now c.camera.new.self c.frame-note.new.self
    c.frame-note.result c.requires.start (ap (λ (e : EngineState). e.state) c.camera.ensures)
    c.frame-note.ensures.done

pub returns : goal.returns
returns c =
    let made = making_seen c.args.words.now in
    subst (λ (w : HeightField). IfOk c.cert_of_frame.result (λ cert. IsMade made w cert))
    (same-grid made c.args.engine.now c.camera.new.self c.frame-note.new.self c.frame-note.result
    c.requires.start (ap (λ (e : EngineState). e.state) c.camera.ensures) c.frame-note.ensures.done)
    c.cert_of_frame.ensures

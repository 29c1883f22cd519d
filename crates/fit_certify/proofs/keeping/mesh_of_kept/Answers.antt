-- The leaves of what the points and the reasons make.
use Rattle.std.proofs.Common.{◌∙◌, ap}
use Rattle.std.proofs.lemmas.Result.{IfOk-weaker}
use Rattle.mesh_defs.specs.ClosedSet.{leaves_of}
use Rattle.mesh_laws.specs.Sweep.{is_flagged}
use Rattle.fit_certify.proofs.KeepingLemmas.{kept-listed}
use Rattle.fit_certify.proofs.keeping.mesh_of_kept.Goals as goal

pub returns-clause-mesh : goal.returns-clause-mesh
returns-clause-mesh c = IfOk-weaker c.leaves.result _ _
    (λ v listed points tolerance mesh inside sound.
    listed ∙ ap (λ k. leaves_of k (is_flagged c.replay_kept-bad.new.flags)) c.n-n.ensures.value
    ∙ kept-listed c.args.grid.now.n c.args.grid.now.heights points tolerance c.args.cert.now mesh
    (is_flagged c.replay_kept-bad.new.flags) c.replay_kept-bad.result inside sound
    c.replay_kept-bad.ensures.all c.replay_kept-bad.ensures.bad)
    c.leaves.ensures.listed

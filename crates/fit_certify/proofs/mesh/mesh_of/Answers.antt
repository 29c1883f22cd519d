-- The leaves of what the reasons make.
use Rattle.std.proofs.Common.{◌≡◌, Bool, false, List, sym, ◌∙◌, ap, subst}
use Rattle.std.proofs.lemmas.Result.{IfOk-weaker}
use Rattle.mesh_defs.specs.ClosedSet.{leaves_of}
use Rattle.mesh_laws.specs.Sweep.{is_flagged}
use Rattle.fit_certify.proofs.MeshLemmas.{mesh-listed}
use Rattle.fit_certify.proofs.mesh.mesh_of.Goals as goal

pub returns-clause-mesh : goal.returns-clause-mesh
returns-clause-mesh c = IfOk-weaker c.leaves.result _ _
    (λ v listed target mesh sound.
    listed ∙ ap (λ k. leaves_of k (is_flagged c.replay-bad.new.flags)) c.n-n.ensures.value
    ∙ mesh-listed c.args.grid.now.n c.args.grid.now.heights target c.args.cert.now mesh
    c.tolerance.result c.needed.result.now
    (is_flagged c.as_mut_slice-flags.result.now) (is_flagged c.replay-bad.new.flags) c.replay-bad.result sound
    c.tolerance.ensures c.needed.ensures.value
    (subst (λ (l : List Bool). (a : _) → is_flagged l a ≡ false) (sym c.as_mut_slice-flags.ensures.value)
    c.in_ok-flags.ensures.empty)
    c.replay-bad.ensures.all c.replay-bad.ensures.bad)
    c.leaves.ensures.listed

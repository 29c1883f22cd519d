use Rattle.std.proofs.Common.{ℕ, ◌≤◌, length, ◌∙◌, ap, arith}
use Rattle.std.proofs.lemmas.Result.{IfOk-weaker}
use Rattle.mesh_laws.proofs.FlagLemmas.{end-high}
use Rattle.run_certify.proofs.FitJudgingLemmas.{verdict-judged}
use Rattle.run_certify.proofs.fit_judging.judge_cert.Goals as goal

pub judge_mesh-requires-clause-few : goal.judge_mesh-requires-clause-few
judge_mesh-requires-clause-few g c =
    let n : ℕ = c.args.grid.now.n in
    let low : n ≤ 14 = omega (arith, c.n-level.ensures.high, c.n-level.ensures.value) in
    omega (arith, c.in-Ok.ensures.few, end-high n low, ap length c.deref.ensures.value)

pub returns-in-Ok-clause-ok : goal.returns-in-Ok-clause-ok
returns-in-Ok-clause-ok g c =
    let v = rw c.in-Ok-Certified.field-0-is at c.in-Ok-Certified.ensures in
    let sound = g.met.F.FitCheck.sound c.args.check.now c.args.grid.now c.args.cert.now _ _ v.0 v.1 in
    IfOk-weaker c.judge_mesh.result _ _
    (λ judgement is files told count.
    verdict-judged c.args.grid.now c.deref.result.now v.0 (c.deref.ensures.value ∙ c.in-Ok.ensures.mesh v.0 sound) count
    c.args.spacing _ _ (g.F.FitCheck.IsVerdict c.args.check.now c.args.grid.now c.args.cert.now) _ _ v.1
    (is files told count))
    c.judge_mesh.ensures.ok

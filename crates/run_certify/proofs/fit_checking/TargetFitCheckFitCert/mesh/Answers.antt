use Rattle.std.proofs.lemmas.Result.{IfOk-weaker}
use Rattle.run_certify.proofs.fit_checking.TargetFitCheckFitCert.mesh.Goals as goal

pub returns-clause-mesh : goal.returns-clause-mesh
returns-clause-mesh c =
    IfOk-weaker c.mesh_of.result _ _ (λ v is mesh sound. is c.args.self.now mesh sound) c.mesh_of.ensures.mesh

use Rattle.std.proofs.lemmas.Result.{IfOk-weaker}
use Rattle.run_certify.proofs.kept_checking.KeptTargetFitCheckKeptCert.mesh.Goals as goal

pub returns-clause-mesh : goal.returns-clause-mesh
returns-clause-mesh c =
    IfOk-weaker c.mesh_of_kept.result _ _
    (λ v is mesh sound. is c.args.self.now.points.now c.args.self.now.tolerance mesh c.requires.of_grid sound)
    c.mesh_of_kept.ensures.mesh

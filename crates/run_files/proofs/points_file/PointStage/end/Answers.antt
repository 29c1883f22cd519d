use Rattle.std.proofs.Common.{◌≢◌, [], Err, ap, arith}
use Rattle.std.proofs.lemmas.Grind.{common_steps}
use Rattle.std.proofs.lemmas.Result.{err_from_is_err_and}
use Rattle.run_files.specs.PointStage.{point_place}
use Rattle.run_files.proofs.PointStageLemmas.{ends-line, ends-refused}
use Rattle.run_files.proofs.points_file.PointStage.end.Goals as goal

pub returns-in_err-take_line-clause-refusal : goal.returns-in_err-take_line-clause-refusal
returns-in_err-take_line-clause-refusal c read come why e =
    let p = err_from_is_err_and c.from_residual.result c.from_residual.ensures.1 in
    let some : c.args.self.part.items ≢ [] = grind (arith, common_steps) in
    ends-refused c.args.self.n read (point_place c.args.self) come why some
    (c.in_err-take_line.ensures.refusal why (ap Err cc))

pub returns-clause-ok : goal.returns-clause-ok
returns-clause-ok c read come =
    let some : c.args.self.part.items ≢ [] = grind (arith, common_steps) in
    ends-line c.args.self.n read (point_place c.args.self) come _ some c.in_ok-take_line.ensures.ok

use Rattle.std.proofs.Common.{◌∙◌, sym, ap}
use Rattle.obj_write.specs.LineView.{mesh_seen, planes_in}
use Rattle.obj_write.proofs.LineLemmas.{face-text-any, none-there}
use Rattle.obj_write.proofs.lines.put_group.Goals as goal

pub returns-in_default-clause-before : goal.returns-in_default-clause-before
returns-in_default-clause-before g c i =
    face-text-any (mesh_seen c.args.view.now) i c.args.before _ (ap planes_in c.in_default.is)

pub returns-then-len-eq0-clause-before : goal.returns-then-len-eq0-clause-before
returns-then-len-eq0-clause-before g c i =
    face-text-any (mesh_seen c.args.view.now) i c.args.before _
    (ap planes_in c.in-Some.is ∙ none-there c.in-Some.marking.planes.now (sym c.len.ensures.value ∙ c.if-len-eq0.true))

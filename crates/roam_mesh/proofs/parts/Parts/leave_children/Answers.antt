use Rattle.std.proofs.Common.{ap}
use Rattle.roam_mesh.proofs.MergeAtLemmas.{children_left}
use Rattle.roam_mesh.proofs.parts.Parts.leave_children.Goals as goal

pub returns-in-Some : goal.returns-in-Some
returns-in-Some c =
    children_left c.args.self.now c.leave.new.self c.leave-in-Some.new.self c.self.inside.pool c.args.s.0
    c.in-Some.left.0 c.in-Some.right.0
    (ap (λ p. p.pool) c.self.view_is) c.n-n.ensures.valid c.requires.ready c.in-Some.ensures.some.0
    c.in-Some.ensures.some.1 c.leave.ensures c.leave-in-Some.ensures

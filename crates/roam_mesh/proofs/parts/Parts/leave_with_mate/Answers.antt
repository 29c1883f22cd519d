use Rattle.std.proofs.Common.{refl}
use Rattle.roam_mesh.proofs.SplitAtLemmas.{left_alone, left_both, leaf_left}
use Rattle.roam_mesh.proofs.parts.Parts.leave_with_mate.Goals as goal

pub leave_with_above-requires-in-Some : goal.leave_with_above-requires-in-Some
leave_with_above-requires-in-Some c = record {
  leaf = leaf_left c.args.self.now c.leave_with_above.new.self c.args.s.0 c.in-Some.mate.0 c.leave_with_above.ensures
      c.in-Some.ensures.some.leaf;
}

pub returns-in-Some : goal.returns-in-Some
returns-in-Some c =
    left_both c.args.self.now c.leave_with_above.new.self c.leave_with_above-in-Some.new.self c.args.s.0
    c.in-Some.mate.0 c.in-Some.ensures.some c.leave_with_above.ensures c.leave_with_above-in-Some.ensures

pub returns-in_default : goal.returns-in_default
returns-in_default c =
    left_alone c.args.self.now c.leave_with_above.new.self c.args.s.0 c.leave_with_above.ensures
    (c.in_default.ensures.none refl)

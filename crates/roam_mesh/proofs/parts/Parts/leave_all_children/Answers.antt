use Rattle.std.proofs.Common.{◌≡◌, true, sym, subst}
use Rattle.roam_mesh.specs.Parts.{PartsState, is_ready_at}
use Rattle.roam_mesh.proofs.MergeAtLemmas.{both_left}
use Rattle.roam_mesh.proofs.parts.Parts.leave_all_children.Goals as goal

pub leave_children-requires-in-Some : goal.leave_children-requires-in-Some
leave_children-requires-in-Some c =
    record {
      ready = subst (λ (z : PartsState). is_ready_at z.pool.pairs c.in-Some.mate.0 ≡ true)
          (sym c.leave_children.ensures) c.in-Some.ensures.ready;
    }

pub returns-in-Some : goal.returns-in-Some
returns-in-Some c =
    both_left c.args.self.now c.leave_children.new.self c.leave_children-in-Some.new.self c.args.s.0 c.in-Some.mate.0
    c.in-Some.ensures.some c.in-Some.ensures.slot
    c.leave_children.ensures c.leave_children-in-Some.ensures

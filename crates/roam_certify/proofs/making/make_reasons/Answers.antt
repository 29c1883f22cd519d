-- A queue that was gone through has all reasons, or it is full.
use Rattle.std.proofs.Common.{◌+◌, ◌-◌, ◌*◌, ◌^◌, inl, inr, ⊎_elim, arith}
use Rattle.mesh_laws.proofs.SweepLemmas.{splittable-lt}
use Rattle.roam_certify.specs.declared.making.Wants.{Wants}
use Rattle.roam_certify.proofs.MakingLemmas.{all-queue, wanted-grown}
use Rattle.roam_certify.proofs.making.make_reasons.Goals as goal

pub returns-clause-enough : goal.returns-clause-enough
returns-clause-enough c =
    let w : Wants = record { n = c.args.n; limit = c.args.budget - 1; scene = c.args.scene; worst = c.args.worst } in
    let before = c.push_wants.new.self.reasons.items in
    let after = c.follow.new.self.reasons.items in
    ⊎_elim (λ full. inl (omega arith)) (λ all. inr all)
    (all-queue w after
    (wanted-grown w (2 ^ (2 * w.n + 1)) before after c.in_ok-follow.ensures.grown c.in_ok-push_wants.ensures.wanted)
    c.in_ok-follow.ensures.queue (splittable-lt w.n))

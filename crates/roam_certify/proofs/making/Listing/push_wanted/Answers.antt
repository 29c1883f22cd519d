-- A triangle of at least the worst is wanted; where its parent is not, it is not either.
use Rattle.std.proofs.Common.{◌/◌, ◌≤◌, sym, ◌∙◌, subst, arith}
use Rattle.std.proofs.lemmas.Bool.{false≢true}
use Rattle.mesh_defs.specs.Triangle.{IsAddress}
use Rattle.mesh_laws.proofs.DescentLemmas.{IsAddress-splittable}
use Rattle.mesh_laws.proofs.SweepLemmas.{splittable-lt}
use Rattle.certificate_laws.specs.declared.reason.Kind.TheVariants.{Want}
use Rattle.mesh_defs.specs.State.{priority_seen}
use Rattle.roam_certify.specs.declared.making.Wants.{Wants}
use Rattle.roam_certify.proofs.MakingLemmas.{pushed-list, pushed-grown, pushed-named}
use Rattle.roam_certify.proofs.making.Listing.push_wanted.Goals as goal

pub push_new-requires : goal.push_new-requires
push_new-requires c = record {
  room = omega (arith, splittable-lt c.args.wants.now.n c.args.t c.requires.splittable, c.requires.listed.room);
}

pub returns-then-not-may_be_wanted-clause-wanted : goal.returns-then-not-may_be_wanted-clause-wanted
returns-then-not-may_be_wanted-clause-wanted c less high =
    let w : Wants = c.args.wants.now in
    let none = c.may_be_wanted.ensures.value.0 c.if-not-may_be_wanted.true in
    let big : 4 ≤ c.args.t = none.0 in
    let address : IsAddress w.scene.now.grid.n c.args.t =
    subst (λ k. IsAddress k c.args.t) (sym c.requires.listed.grid)
    (IsAddress-splittable w.n c.args.t c.requires.splittable) in
    let falls : priority_seen w.scene.now c.args.t ≤ priority_seen w.scene.now (c.args.t / 2) =
    (c.falling_laws.ensures _ _ _).child c.args.t address big in
    let named = c.requires.before less (c.args.t / 2) (omega arith) (omega arith) (omega arith) in
    absurd (false≢true (sym none.1 ∙ c.requires.listed.same (c.args.t / 2) ∙ named))

pub returns-clause-listed : goal.returns-clause-listed
returns-clause-listed c =
    let w : Wants = c.args.wants.now in
    let high : w.worst ≤ c.priority-priority.result = c.if-priority-wants.false in
    pushed-list w Want c.args.t c.args.self.now c.push_new.new.self c.requires.listed c.requires.splittable
    (subst (λ k. w.worst ≤ k) c.priority-priority.ensures.value high) c.in_ok-push_new.ensures.pushed

pub returns-clause-grown : goal.returns-clause-grown
returns-clause-grown c =
    pushed-grown c.args.wants.now Want c.args.t c.args.self.now c.push_new.new.self c.in_ok-push_new.ensures.pushed

pub returns-clause-wanted : goal.returns-clause-wanted
returns-clause-wanted c less high =
    pushed-named c.args.wants.now Want c.args.t c.args.self.now c.push_new.new.self c.requires.listed
    c.in_ok-push_new.ensures.pushed less

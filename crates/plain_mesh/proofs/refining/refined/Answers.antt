-- One entry after the other: the closure of a prefix, until one is over the budget.
use Rattle.std.proofs.Common.{◌≡◌, ℕ, ◌≤◌, List, length, Some, false, is_some, ap, subst, sym, ◌∙◌, arith}
use Rattle.std.proofs.lemmas.Option.{MatchOption-at_some}
use Rattle.mesh_defs.specs.ClosedSet.{leaves_of, among}
use Rattle.mesh_defs.specs.GridSet.{GridSet}
use Rattle.mesh_laws.proofs.ClosureLemmas.{leaves_of-none}
use Rattle.plain_mesh.specs.Ranks.{ranked_triangles}
use Rattle.plain_mesh.specs.Stop.{IsOver, IsStop}
use Rattle.plain_mesh.proofs.PrefixLemmas.{closure-nothing, closure-forced, IsStop-over}
use Rattle.plain_mesh.proofs.refining.refined.Goals as goal

pub loop-entry-init : goal.loop-entry-init
loop-entry-init c =
    let two : length (leaves_of c.args.n (among c.base-split.result.members)) ≡ 2 =
    leaves_of-none c.args.n (among c.base-split.result.members)
    (λ a. ap (λ (l : List ℕ). among l a) c.base-split.ensures.empty) in
    record {
      same_grid = c.base-split.ensures.n;
      closure = closure-nothing c.args.n
          (ranked_triangles c.args.ranking.now) c.base-split.result.members c.base-split.ensures.empty;
      fits = let low = c.requires.budget in omega arith;
    }

pub returns-in-Some-clause-stop : goal.returns-in-Some-clause-stop
returns-in-Some-clause-stop c =
    let split = c.loop-entry.split in
    let held : c.admit.new.split ≡ split =
    MatchOption-at_some Unit (λ need. c.admit.new.split ≡ split) c.in-Some.need c.in-Some.is
    c.in_ok-need.ensures.same in
    let over : IsOver split.n c.args.budget split.members c.entry-item.result.tri c.in-Some.need =
    MatchOption-at_some Unit (λ need. IsOver split.n c.args.budget split.members c.entry-item.result.tri need)
    c.in-Some.need c.in-Some.is
    c.in_ok-need.ensures.over in
    subst (λ (s : GridSet). IsStop c.args.n c.args.budget c.args.ranking.now s.members c.entry-item.result.p
    (Some record { tri = c.entry-item.result.tri; need = c.in-Some.need })) (sym held)
    (IsStop-over c.args.n split.n c.args.budget c.args.ranking.now c.loop-entry.entry-index c.entry-item.result
    c.in-Some.need split.members
    c.loop-entry.invariant.same_grid c.loop-entry-test.true c.entry-item.is c.loop-entry.invariant.closure
    c.loop-entry.invariant.fits over)

pub loop-entry-preserved : goal.loop-entry-preserved
loop-entry-preserved c =
    let split = c.loop-entry.split in
    let none : is_some c.in_ok-need.field-0 ≡ false = ap is_some c.in_default.is in
    record {
      same_grid = c.in_ok-need.ensures.n ∙ c.loop-entry.invariant.same_grid;
      closure =
          closure-forced c.args.n split.n c.args.ranking.now c.loop-entry.entry-index c.entry-item.result split.members
          c.admit.new.split.members c.loop-entry.invariant.same_grid c.loop-entry-test.true c.entry-item.is
          c.loop-entry.invariant.closure
          (c.in_ok-need.ensures.split none);
      fits = subst (λ k. length (leaves_of k (among c.admit.new.split.members)) ≤ c.args.budget)
          c.loop-entry.invariant.same_grid
          (c.in_ok-need.ensures.fits none);
    }

-- The beginning is a least settled set, and the end is that of the loop.
use Rattle.std.proofs.Common.{ℕ, IsTrue, List, take, sym, ◌∙◌, subst, ap, arith}
use Rattle.mesh_defs.specs.ClosedSet.{among}
use Rattle.mesh_laws.specs.Sweep.{is_flagged}
use Rattle.mesh_laws.proofs.SweepLemmas.{splittable-lt}
use Rattle.fit_laws.specs.Error.{error_of}
use Rattle.fit_mesh.specs.Log.{HasLog}
use Rattle.fit_mesh.proofs.GrownLemmas.{start-needed, start-best, end-found, end-worst}
use Rattle.fit_mesh.proofs.grow.grow.Goals as goal

pub fill-requires-clause-grown : goal.fill-requires-clause-grown
fill-requires-clause-grown c =
    subst (λ (l : List ℕ). HasLog c.args.grid.now.n c.start.new.flags l) (sym c.deref.ensures.value) c.start.ensures.grown

pub greatest_waiting-first-requires-clause-grown : goal.greatest_waiting-first-requires-clause-grown
greatest_waiting-first-requires-clause-grown c =
    subst (λ (l : List ℕ). HasLog c.args.grid.now.n c.start.new.flags l) (sym c.deref-2.ensures.value)
    c.start.ensures.grown

pub refine-growth-requires-clause-needed : goal.refine-growth-requires-clause-needed
refine-growth-requires-clause-needed c =
    let n : ℕ = c.args.grid.now.n in
    let from = c.start.ensures.fit in
    start-needed n (error_of n c.args.grid.now.heights) from.0 c.start.new.flags c.start.new.log.items
    c.start.ensures.grown from.2 c.greatest_waiting-first.result c.greatest_waiting-first.ensures.value

pub refine-growth-requires-clause-best : goal.refine-growth-requires-clause-best
refine-growth-requires-clause-best c =
    let n : ℕ = c.args.grid.now.n in
    let from = c.start.ensures.fit in
    start-best n (error_of n c.args.grid.now.heights) from.0 c.start.new.flags c.start.new.log.items
    c.start.ensures.grown from.2 c.args.tolerance c.args.budget c.greatest_waiting-first.result from.1
    c.greatest_waiting-first.ensures.value c.start.ensures.few

pub set_back-requires-clause-addresses : goal.set_back-requires-clause-addresses
set_back-requires-clause-addresses c a h =
    let grown = c.refine-growth.ensures.grown in
    let listed = subst (λ (l : List ℕ). IsTrue (among l a)) c.deref-3.ensures.value h in
    let lt = splittable-lt c.args.grid.now.n a (grown.closed.splittable a (grown.logged.same a ∙ listed)) in
    let room = grown.room in omega arith

pub returns-clause-found : goal.returns-clause-found
returns-clause-found c =
    let n : ℕ = c.args.grid.now.n in
    let growth = c.refine-growth.result in
    end-found n (error_of n c.args.grid.now.heights) c.args.tolerance c.args.budget growth.low
    c.refine-growth.new.log.items growth.mark
    c.set_back.new.flags (is_flagged c.refine-growth.new.flags) c.refine-growth.ensures.best
    (λ a. c.set_back.ensures.same a ∙ ap (λ (l : List ℕ). among (take growth.mark l) a) c.deref-3.ensures.value)
    c.refine-growth.ensures.end

pub returns-clause-worst : goal.returns-clause-worst
returns-clause-worst c =
    let n : ℕ = c.args.grid.now.n in
    let growth = c.refine-growth.result in
    end-worst n (error_of n c.args.grid.now.heights) c.args.tolerance c.args.budget growth.low
    c.refine-growth.new.log.items growth.mark c.set_back.new.flags c.refine-growth.ensures.best
    (λ a. c.set_back.ensures.same a ∙ ap (λ (l : List ℕ). among (take growth.mark l) a) c.deref-3.ensures.value)

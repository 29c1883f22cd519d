-- What is worse than the tolerance can be split.
use Rattle.std.proofs.Common.{ℕ, sym, subst, arith}
use Rattle.bintree_laws.proofs.LevelLemmas.{level-le}
use Rattle.mesh_defs.specs.Triangle.{IsSplittable}
use Rattle.mesh_defs.specs.ClosedSet.{IsLeastClosed}
use Rattle.mesh_defs.specs.Greedy.{with_triangle}
use Rattle.mesh_laws.specs.Sweep.{is_flagged}
use Rattle.fit_mesh.specs.Limit.{error_within}
use Rattle.fit_mesh.proofs.LimitLemmas.{limit-finest}
use Rattle.fit_laws.proofs.FitLemmas.{splittable-error}
use Rattle.fit_mesh.proofs.SettleLemmas.{ask-least}
use Rattle.fit_mesh.proofs.settle.ask.Goals as goal

pub is_over-requires-clause-level : goal.is_over-requires-clause-level
is_over-requires-clause-level c = level-le c.args.grid.now.n c.args.t c.requires.address

pub force-requires-clause-splittable : goal.force-requires-clause-splittable
force-requires-clause-splittable c =
    let n : ℕ = c.args.grid.now.n in
    let above = c.is_over.ensures.0 c.if-is_over.true in
    subst (λ k. IsSplittable k c.args.t) (sym c.n.ensures.value)
    (splittable-error n (error_within n c.args.grid.now.heights c.args.limit)
    (limit-finest n c.args.grid.now.heights c.args.limit) c.args.t c.requires.address (omega arith))

pub returns-then-is_over-clause-least : goal.returns-then-is_over-clause-least
returns-then-is_over-clause-least c other closed inside asked =
    ask-least c.args.grid.now.n (is_flagged c.args.flags.now) (is_flagged c.force.new.flags) c.args.t
    (subst (λ k. IsLeastClosed k (with_triangle (is_flagged c.args.flags.now) c.args.t) (is_flagged c.force.new.flags))
    c.n.ensures.value c.force.ensures.least) other closed inside (asked (c.is_over.ensures.0 c.if-is_over.true))

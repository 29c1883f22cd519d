use Rattle.std.proofs.Common.{◌≡◌, ℕ, All, take, arith, subst}
use Rattle.std.proofs.lemmas.List.{take_all}
use Rattle.std.proofs.lemmas.List.Elements.{All-more}
use Rattle.mesh_defs.specs.Triangle.{IsSplittable}
use Rattle.frame_loop.proofs.patch.are_mendable.Goals as goal

pub loop-t-preserved : goal.loop-t-preserved
loop-t-preserved c =
    let t : ℕ = c.t-item.result in
    let splittable : IsSplittable c.args.n t = record { low = omega arith; coarse = omega arith } in
    All-more (IsSplittable c.args.n) c.args.changed.now c.loop-t.t-index t c.loop-t-test.true c.loop-t.invariant
    (subst (IsSplittable c.args.n) c.t-item.is splittable)

pub returns-clause-splittable : goal.returns-clause-splittable
returns-clause-splittable c all =
    let whole : take c.loop-t.t-index c.args.changed.now ≡ c.args.changed.now =
    take_all c.loop-t.t-index c.args.changed.now (omega arith) in
    subst (All (IsSplittable c.args.n)) whole c.loop-t.invariant

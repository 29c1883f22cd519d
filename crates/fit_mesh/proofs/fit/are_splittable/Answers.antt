-- One triangle more; and at the end all.
use Rattle.std.proofs.Common.{◌≡◌, ℕ, take, refl, arith, subst}
use Rattle.std.specs.Prelude.{All}
use Rattle.std.proofs.lemmas.List.{take_all}
use Rattle.std.proofs.lemmas.List.Elements.{All-more}
use Rattle.mesh_defs.specs.Triangle.{IsSplittable}
use Rattle.fit_mesh.proofs.fit.are_splittable.Goals as goal

pub loop-t-preserved : goal.loop-t-preserved
loop-t-preserved c =
    let t : ℕ = c.t-item.result in
    let splittable : IsSplittable c.args.n t = record { low = omega arith; coarse = omega arith } in
    All-more (IsSplittable c.args.n) c.args.triangles.now c.loop-t.t-index t c.loop-t-test.true c.loop-t.invariant
    (subst (IsSplittable c.args.n) c.t-item.is splittable)

pub returns : goal.returns
returns c =
    let whole : take c.loop-t.t-index c.args.triangles.now ≡ c.args.triangles.now =
    take_all c.loop-t.t-index c.args.triangles.now (omega arith) in (
      λ is. subst (All (IsSplittable c.args.n)) whole c.loop-t.invariant,
      λ all. refl,
    )

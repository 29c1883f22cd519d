use Rattle.std.proofs.Common.{IsSome, sym, arith, rules}
use Rattle.std.proofs.lemmas.List.{take_all}
use Rattle.std.proofs.lemmas.List.Elements.{All-more, All-same}
use Rattle.cull_marks.specs.Plane.{IsPlane}
use Rattle.roam_embed.specs.declared.notes.PlaneNumbers.{PlaneNumbers}
use Rattle.roam_embed.specs.Looking.{plane_of}
use Rattle.roam_embed.proofs.looking.are_planes.Goals as goal

pub loop-p-preserved : goal.loop-p-preserved
loop-p-preserved c =
    let some : IsSome c.plane.result = search rules in
    All-more (λ (p : PlaneNumbers). IsPlane (plane_of p)) c.args.planes.now c.loop-p.p-index _ c.loop-p-test.true
    c.loop-p.invariant (c.plane.ensures.valid.0 some)

pub returns-clause-all : goal.returns-clause-all
returns-clause-all c =
    λ _. All-same (λ (p : PlaneNumbers). IsPlane (plane_of p)) c.args.planes.now _
    (sym (take_all c.loop-p.p-index c.args.planes.now (omega arith))) c.loop-p.invariant

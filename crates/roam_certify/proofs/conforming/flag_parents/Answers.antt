-- One entry a turn.
use Rattle.std.proofs.Common.{◌*◌, ◌∙◌, arith}
use Rattle.std.proofs.lemmas.List.Elements.{All-contains}
use Rattle.mesh_defs.specs.Triangle.{IsAddress}
use Rattle.bintree_laws.proofs.LevelLemmas.{pow_after}
use Rattle.mesh_defs.proofs.ListLemmas.{Contains-in}
use Rattle.mesh_laws.specs.Sweep.{is_flagged}
use Rattle.roam_certify.proofs.ClimbLemmas.{entry-in, entered-step}
use Rattle.roam_certify.proofs.conforming.flag_parents.Goals as goal

pub flag_parent-requires : goal.flag_parent-requires
flag_parent-requires c =
    let address : IsAddress c.args.n c.index-triangles-index.result =
    All-contains (IsAddress c.args.n) c.args.triangles.now c.index-triangles-index.result c.requires.addresses
    (Contains-in c.index-triangles-index.result c.args.triangles.now
    (entry-in c.args.triangles.now c.loop-index.index c.index-triangles-index.result c.loop-index-test.true
    c.index-triangles-index.is)) in
    let high = address.high in let twice = pow_after (2 * c.args.n) in
    let kept = c.loop-index.invariant.room in let room = c.requires.room in
    record { room = omega arith }

pub loop-index-preserved : goal.loop-index-preserved
loop-index-preserved c = record {
  room = c.flag_parent.ensures.room ∙ c.loop-index.invariant.room;
  entered = entered-step c.args.triangles.now c.loop-index.index c.index-triangles-index.result c.loop-index-test.true
      c.index-triangles-index.is
      c.args.n (is_flagged c.loop-index.flags) (is_flagged c.flag_parent.new.flags) c.requires.addresses
      c.loop-index.invariant.entered c.flag_parent.ensures.marked;
}

-- One more place.
use Rattle.std.proofs.Common.{arith}
use Rattle.mosaic_rounds.specs.Place.{centre_place}
use Rattle.roam_embed.proofs.MosaicLemmas.{written_centre}
use Rattle.roam_embed.proofs.mosaic.write_centres.Goals as goal

pub loop-k-preserved : goal.loop-k-preserved
loop-k-preserved c =
    let room = c.requires.room in
    let less = c.loop-k-test.true in
    written_centre (centre_place c.args.n) c.args.triangles.now c.args.out.now c.loop-k.out c.loop-k.k
    c.index-triangles-k.result c.place_of_centre.result less (omega arith) c.loop-k.invariant c.index-triangles-k.is
    c.place_of_centre.ensures.value

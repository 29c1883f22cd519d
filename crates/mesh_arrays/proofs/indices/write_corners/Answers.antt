use Rattle.mesh_arrays.proofs.IndexLemmas.{written_three}
use Rattle.mesh_arrays.proofs.indices.write_corners.Goals as goal

pub returns : goal.returns
returns c =
    let three =
    written_three c.args.out.now c.args.at c.place.result c.place-2.result c.place-3.result c.requires.room in
    cc

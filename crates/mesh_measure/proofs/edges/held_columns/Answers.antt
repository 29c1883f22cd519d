use Rattle.mesh_measure.proofs.EdgeLemmas.{columns-held}
use Rattle.mesh_measure.proofs.edges.held_columns.Goals as goal

pub returns : goal.returns
returns c =
    columns-held c.args.corners c.args.y c.args.columns c.left_of-left.result c.left_of-base.result c.left_of.result
    c.left_of-left.ensures c.left_of-base.ensures c.left_of.ensures

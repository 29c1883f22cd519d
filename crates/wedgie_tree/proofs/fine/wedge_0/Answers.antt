use Rattle.wedgie_tree.proofs.AreaLemmas.{address_laws}
use Rattle.wedgie_tree.proofs.FineLemmas.{AreWithin-at}
use Rattle.wedgie_tree.proofs.fine.wedge_0.Goals as goal

pub height_in-apex-requires : goal.height_in-apex-requires
height_in-apex-requires c =
    (AreWithin-at address_laws c.args.grid.now c.args.tri c.args.places c.points-valid.ensures.valid c.requires.at).apex

pub height_in-v0-requires : goal.height_in-v0-requires
height_in-v0-requires c =
    (AreWithin-at address_laws c.args.grid.now c.args.tri c.args.places c.points-valid.ensures.valid c.requires.at).v0

pub height_in-v1-requires : goal.height_in-v1-requires
height_in-v1-requires c =
    (AreWithin-at address_laws c.args.grid.now c.args.tri c.args.places c.points-valid.ensures.valid c.requires.at).v1

use Rattle.std.proofs.Common.{◌≡◌, ◌+◌, ◌*◌, ◌/◌, length, slice_index, ◌∙◌, arith}
use Rattle.mesh_defs.specs.Thickness.{apart}
use Rattle.wedgie_tree.proofs.AreaLemmas.{address_laws}
use Rattle.wedgie_tree.proofs.FineLemmas.{AreWithin, AreWithin-at, deviation-at}
use Rattle.wedgie_tree.proofs.fine.deviation_at.Goals as goal

pub overflow_add-places : goal.overflow_add-places
overflow_add-places c =
    let w : AreWithin c.args.places (length c.args.grid.now.heights) =
    AreWithin-at address_laws c.args.grid.now c.args.tri c.args.places c.points-few.ensures.valid c.requires.at in
    omega (arith, w.v0, w.v1, c.points-few.ensures.valid.count, c.points-few.ensures.value, c.points-few.ensures.high)

pub height_in-requires : goal.height_in-requires
height_in-requires c =
    let w : AreWithin c.args.places (length c.args.grid.now.heights) =
    AreWithin-at address_laws c.args.grid.now c.args.tri c.args.places c.points-few.ensures.valid c.requires.at in
    omega (arith, w.v0, w.v1)

pub height_in-requires-2 : goal.height_in-requires-2
height_in-requires-2 c =
    (AreWithin-at address_laws c.args.grid.now c.args.tri c.args.places c.points-few.ensures.valid c.requires.at).v0

pub height_in-requires-3 : goal.height_in-requires-3
height_in-requires-3 c =
    (AreWithin-at address_laws c.args.grid.now c.args.tri c.args.places c.points-few.ensures.valid c.requires.at).v1

pub returns : goal.returns
returns c =
    let by_places : c.abs_diff.result
    ≡ apart (2 * slice_index c.args.grid.now.heights ((c.args.places.v0 + c.args.places.v1) / 2))
    (slice_index c.args.grid.now.heights c.args.places.v0 + slice_index c.args.grid.now.heights c.args.places.v1) =
    omega arith in
    by_places ∙ deviation-at address_laws c.args.grid.now.n c.args.grid.now.heights c.args.tri c.args.places
    c.requires.splittable c.requires.at

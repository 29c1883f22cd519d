use Rattle.std.proofs.lemmas.Grind.{common_steps}
use Rattle.std.proofs.Common.{◌≡◌, ◌+◌, ◌*◌, ◌≤◌, max, arith}
use Rattle.mesh_defs.specs.Thickness.{thickness_of, deviation}
use Rattle.mesh_defs.specs.Triangle.{corners_of}
use Rattle.wedgie_tree.proofs.PlaceLemmas.{IsWithin-of}
use Rattle.wedgie_tree.proofs.table.joined.Goals as goal

pub deviation_of-requires : goal.deviation_of-requires
deviation_of-requires c = record {
  within = IsWithin-of c.corner_laws.ensures.within c.args.grid.now.n c.args.tri c.args.corners c.requires.of_tri;
}

pub overflow_add-result : goal.overflow_add-result
overflow_add-result c =
    let own : c.deviation_of.result ≡ deviation c.args.grid.now.n c.args.grid.now.heights
    (corners_of c.args.grid.now.n c.args.tri) = rw (← c.requires.of_tri) c.deviation_of.ensures in
    let all : thickness_of c.args.grid.now.n c.args.grid.now.heights c.args.tri ≡ max
    (thickness_of c.args.grid.now.n c.args.grid.now.heights (2 * c.args.tri))
    (thickness_of c.args.grid.now.n c.args.grid.now.heights (2 * c.args.tri + 1)) + deviation c.args.grid.now.n
    c.args.grid.now.heights (corners_of c.args.grid.now.n c.args.tri) =
    c.wedge_laws.ensures.thickness c.args.grid.now.n c.args.grid.now.heights c.args.tri
    (record { low = omega arith; coarse = c.requires.splittable }) in
    let small : thickness_of c.args.grid.now.n c.args.grid.now.heights c.args.tri
    ≤ 262140 * c.args.grid.now.n =
    c.wedge_laws.ensures.bounded c.args.grid.now c.args.tri c.maxval-bounded.ensures.valid in
    omega (arith, c.maxval-bounded.ensures.valid.n_high, c.requires.of_left.thickness, c.requires.of_right.thickness)

pub returns : goal.returns
returns c = grind (arith, common_steps)

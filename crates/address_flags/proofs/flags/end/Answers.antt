-- A grid has splittable triangles, and fewer than 2 ^ 29.
use Rattle.std.proofs.Common.{arith}
use Rattle.mesh_laws.proofs.FlagLemmas.{end-low, end-high}
use Rattle.address_flags.proofs.flags.end.Goals as goal

pub returns-clause-low : goal.returns-clause-low
returns-clause-low c =
    let high = c.requires.in_grid.1 in
    let least = end-low c.args.n c.requires.in_grid.0 in
    let most = end-high c.args.n high in
    omega arith

pub returns-clause-high : goal.returns-clause-high
returns-clause-high c =
    let high = c.requires.in_grid.1 in
    let most = end-high c.args.n high in
    omega arith

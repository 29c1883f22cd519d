-- The way down ends where the point is the midpoint.
use Rattle.std.proofs.Common.{◌≡◌, ℕ, ◌*◌, ◌%◌, ◌^◌, subst, arith}
use Rattle.std.proofs.lemmas.Bool.{both_ways}
use Rattle.mesh_defs.specs.Triangle.{IsSplittable}
use Rattle.bintree_laws.proofs.CornerLemmas.{side_small}
use Rattle.mesh_laws.specs.Vertex.{is_mesh_vertex}
use Rattle.mesh_laws.specs.Ancestors.{ancestors_of}
use Rattle.address_flags.specs.Weighted.{IsWeighted}
use Rattle.address_flags.proofs.WeightedLemmas.{weighted-splittable, weighted-centre}
use Rattle.address_flags.proofs.VertexLemmas.{centre-above}
use Rattle.address_flags.proofs.centre.centred_at.Goals as goal

pub half_around-place-requires-clause-small : goal.half_around-place-requires-clause-small
half_around-place-requires-clause-small c = let small = side_small c.args.n c.requires.in_grid.1 in omega arith

pub loop-place-init : goal.loop-place-init
loop-place-init c =
    let n : ℕ = c.args.n in
    let small = side_small n c.requires.in_grid.1 in
    let side : 1 * 2 ^ n % 4294967296 ≡ 2 ^ n = omega arith in
    subst (λ k. IsWeighted n k c.args.point c.half_around-place.result) side
    (c.half_around-place.ensures n side (λ corner.
    both_ways c.is_square_corner.result c.if-is_square_corner.false (c.is_square_corner.ensures.1 corner)))

pub child-place-requires-clause-coarse : goal.child-place-requires-clause-coarse
child-place-requires-clause-coarse c =
    let n : ℕ = c.args.n in
    let most = c.requires.in_grid.1 in
    let splittable : IsSplittable n c.loop-place.place.triangle =
    weighted-splittable n (2 ^ n) c.args.point c.loop-place.place c.loop-place.invariant in
    let coarse = splittable.coarse in
    omega arith

pub child-place-requires-clause-small : goal.child-place-requires-clause-small
child-place-requires-clause-small c =
    let small = side_small c.args.n c.requires.in_grid.1 in
    let sum = c.loop-place.invariant.sum in
    omega arith

pub loop-place-smaller : goal.loop-place-smaller
loop-place-smaller c =
    let n : ℕ = c.args.n in
    let splittable : IsSplittable n c.loop-place.place.triangle =
    weighted-splittable n (2 ^ n) c.args.point c.loop-place.place c.loop-place.invariant in
    let coarse = splittable.coarse in
    let deeper = c.child-place.ensures.level in
    omega arith

pub loop-place-preserved : goal.loop-place-preserved
loop-place-preserved c =
    c.child-place.ensures.weighted c.args.n (2 ^ c.args.n) c.args.point c.loop-place.invariant
    (λ centred. both_ways c.is_centre.result c.loop-place-test.true (c.is_centre.ensures.1 centred))

pub returns-clause-splittable : goal.returns-clause-splittable
returns-clause-splittable c =
    weighted-splittable c.args.n (2 ^ c.args.n) c.args.point c.loop-place.place c.loop-place.invariant

pub returns-clause-centre : goal.returns-clause-centre
returns-clause-centre c =
    weighted-centre c.args.n (2 ^ c.args.n) c.args.point c.loop-place.place c.loop-place.invariant
    (c.is_centre.ensures.0 c.loop-place-test.false)

pub returns-clause-vertex : goal.returns-clause-vertex
returns-clause-vertex c triangles conforming =
    let n : ℕ = c.args.n in
    subst (λ p. is_mesh_vertex n triangles p ≡ ancestors_of triangles c.loop-place.place.triangle)
    (returns-clause-centre c)
    (centre-above n triangles c.loop-place.place.triangle conforming (returns-clause-splittable c))

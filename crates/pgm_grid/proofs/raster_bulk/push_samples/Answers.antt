use Rattle.std.proofs.Common.{◌≡◌, ◌+◌, ◌++◌, ◌≤◌, ◌<◌, length, take, arith, refl, All, slice_get, IsSomeAnd}
use Rattle.pgm_grid.proofs.RasterLemmas.{pushed, refused}
use Rattle.pgm_grid.proofs.raster_bulk.push_samples.Goals as goal

pub returns-in-None-clause-ok : goal.returns-in-None-clause-ok
returns-in-None-clause-ok c =
    let fits : All (λ h. h ≤ c.args.limits.maxval) c.args.samples.now = c.in-None.ensures.none.0 refl in
    let items : c.extend_from_slice.new.self.items ≡ c.args.heights.now.items ++ c.args.samples.now =
    grind (arith, c.extend_from_slice.ensures.items, c.unwrap.ensures) in
    pushed c.args.limits c.args.heights.now.items c.args.samples.now c.extend_from_slice.new.self.items fits items

pub returns-in-Some-clause-err : goal.returns-in-Some-clause-err
returns-in-Some-clause-err c =
    let before : All (λ h. h ≤ c.args.limits.maxval) (take c.in-Some.i c.args.samples.now) = c.in-Some.ensures.before in
    let above : IsSomeAnd (slice_get c.args.samples.now c.in-Some.i) (λ h. c.args.limits.maxval < h) =
    c.in-Some.ensures.above in
    let place : c.len.result + c.in-Some.i ≡ length c.args.heights.now.items + c.in-Some.i = omega arith in
    refused c.args.limits c.args.heights.now.items c.args.samples.now c.in-Some.i
    (c.len.result + c.in-Some.i) before above place

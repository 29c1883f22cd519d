-- What was found is a mesh within the error.
use Rattle.std.proofs.Common.{rules, ◌≡◌, ℕ, List, subst, arith}
use Rattle.std.proofs.lemmas.Grind.{common_steps}
use Rattle.tin_mesh.specs.Tin.{IsMeasured, heights_at}
use Rattle.tin_mesh.proofs.judging.judged.Goals as goal

pub returns : goal.returns
returns c =
    let points = c.args.found.points.items in
    let corners = c.args.found.corners.items in
    let across = c.args.found.across.items in
    let deviation = c.in-Some-measured.deviation in
    let heights : c.in-Some.heights.items ≡ heights_at c.args.grid.now points = search rules in
    let told : IsMeasured c.args.grid.now points c.in-Some.heights.items corners across deviation = search rules in
    let measured = subst (λ (hs : List ℕ). IsMeasured c.args.grid.now points hs corners across deviation) heights told in
    record {
      across = across;
      measured = measured;
      threes = grind (arith, common_steps);
      placed = search rules;
      few = grind (arith, common_steps);
      within = (c.is_within.ensures.each _ _ _ _ _ _ measured.deviation).0 (search rules);
    }

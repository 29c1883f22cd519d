use Rattle.std.proofs.Common.{ℕ, List, length, ap, arith}
use Rattle.mesh_compare.proofs.comparing.compare_heights.Goals as goal

pub compare_lines-requires-clause-few : goal.compare_lines-requires-clause-few
compare_lines-requires-clause-few g c =
    let leaves = ap (λ (l : List ℕ). length l) c.of_heights.ensures.leaves in
    let numbers = ap (λ (l : List ℕ). length l) c.of_heights.ensures.numbers in
    omega (arith, leaves, numbers, c.new-lines.ensures.most, c.requires.few, c.in-Ok.ensures.few, c.number.ensures.places)

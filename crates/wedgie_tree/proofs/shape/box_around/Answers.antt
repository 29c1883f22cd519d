use Rattle.std.proofs.Common.{◌*◌, ◌≤◌, arith}
use Rattle.std.proofs.Math.Nat.{mul-le-mul_left}
use Rattle.wedgie_tree.proofs.BoxLemmas.{ends-ordered}
use Rattle.wedgie_tree.proofs.shape.box_around.Goals as goal

pub invariant_of-result : goal.invariant_of-result
invariant_of-result c =
    let x : c.args.spacing * c.least.result ≤ c.args.spacing * c.greatest.result = mul-le-mul_left c.args.spacing
    (omega (arith, c.least.ensures, c.greatest.ensures)) in
    let y : c.args.spacing * c.least-2.result ≤ c.args.spacing * c.greatest-2.result = mul-le-mul_left c.args.spacing
    (omega (arith, c.least-2.ensures, c.greatest-2.ensures)) in
    record {
      x_ordered = ends-ordered c.from.result c.from-2.result _ _ c.from.ensures c.from-2.ensures
          c.from.type_inv c.from-2.type_inv x;
      y_ordered = ends-ordered c.from-3.result c.from-4.result _ _ c.from-3.ensures c.from-4.ensures
          c.from-3.type_inv c.from-4.type_inv y;
      z_ordered = ends-ordered c.from-5.result c.from-6.result _ _ c.from-5.ensures c.from-6.ensures c.from-5.type_inv
          c.from-6.type_inv c.requires.ordered;
    }

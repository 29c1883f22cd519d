-- The priorities of all splittable addresses are computed.
use Rattle.std.proofs.Common.{refl, inr, lit≤, lit<}
use Rattle.laws_tests.specs.declared.worked_numbers.TheConstants.{RANKING}
use Rattle.mesh_defs.specs.Triangle.{level_of, corners_of}
use Rattle.mesh_defs.specs.Thickness.{thickness_of}
use Rattle.mesh_defs.specs.BoundingBox.{points_of, low_of, high_of, box_of, root_of, distance_of}
use Rattle.mesh_defs.specs.View.{mark_of}
use Rattle.mesh_defs.specs.Priority.{priority_of}
use Rattle.laws_tests.proofs.RankingExamples.{ranking-list}
use Rattle.laws_tests.proofs.worked_numbers.equal_priorities_rank_by_address.Goals as goal

pub returns : goal.returns
unfolding level_of corners_of thickness_of points_of low_of high_of box_of root_of distance_of mark_of priority_of
returns c = record {
  ranking = ranking-list 2 _ RANKING (lit≤ tt) (
    (inr (refl, lit< tt), (inr (refl, lit< tt), (inr (refl, lit< tt), tt))),
    ((inr (refl, lit< tt), (inr (refl, lit< tt), tt)), ((inr (refl, lit< tt), tt), (tt, tt))),
  ) (
    (record { low = lit≤ tt; coarse = lit< tt }, lit< tt),
    (
      (record { low = lit≤ tt; coarse = lit< tt }, lit< tt),
      (
        (record { low = lit≤ tt; coarse = lit< tt }, lit< tt),
        ((record { low = lit≤ tt; coarse = lit< tt }, lit< tt), tt),
      ),
    ),
  )
      ((0, lit< tt, refl), ((1, lit< tt, refl), ((2, lit< tt, refl), ((3, lit< tt, refl), tt))))
      refl;
}

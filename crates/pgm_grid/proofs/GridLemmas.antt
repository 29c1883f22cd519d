-- The numbers of points of grids.
use Rattle.std.proofs.Common.{◌≡◌, ℕ, ◌≤◌, true, leb, refl, arith, leb-true}
use Rattle.std.proofs.lemmas.Bool.{agree_below, agree_below_at}
use Rattle.pgm_grid.specs.PgmText.{point_count}

points_test : agree_below (λ k. leb (point_count k) 268468225) (λ _. true) 15 ≡ true
points_test = refl

-- no grid has more points
pub points_small : (n : ℕ) → n ≤ 14 → point_count n ≤ 268468225
points_small n high =
    leb-true _ 268468225
    (agree_below_at (λ k. leb (point_count k) 268468225) (λ _. true) 15 n points_test (omega (arith, high)))

file_points_test : agree_below (λ k. leb (point_count k) 4198401) (λ _. true) 12 ≡ true
file_points_test = refl

-- and none of a file more than this
pub file_points_small : (n : ℕ) → n ≤ 11 → point_count n ≤ 4198401
file_points_small n high =
    leb-true _ 4198401
    (agree_below_at (λ k. leb (point_count k) 4198401) (λ _. true) 12 n file_points_test (omega (arith, high)))

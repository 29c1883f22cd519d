-- The rows are as many as the grid's steps, at most 2 ^ 14.
use Rattle.std.proofs.Common.{rules, ◌≡◌, ℕ, ◌≤◌, ◌^◌, arith}
use Rattle.std.proofs.Math.Pow.{pow_mono}
use Rattle.tin_mesh.proofs.judging.measured.Goals as goal

few : (n rows : ℕ) → rows ≡ 2 ^ n → n ≤ 14 → rows ≤ 16384
few n rows is high = let le : 2 ^ n ≤ 2 ^ 14 = pow_mono high in omega (arith, is, le)

pub first_fault-requires-clause-reach : goal.first_fault-requires-clause-reach
first_fault-requires-clause-reach c = few _ _ c.requires.rows c.n-level.ensures.valid.n_high

pub first_fault-requires-clause-height : goal.first_fault-requires-clause-height
first_fault-requires-clause-height c = few _ _ c.requires.rows c.n-level.ensures.valid.n_high

pub greatest_deviation-requires-clause-right : goal.greatest_deviation-requires-clause-right
greatest_deviation-requires-clause-right c = few _ _ c.requires.rows c.n-level.ensures.valid.n_high

pub greatest_deviation-requires-clause-top : goal.greatest_deviation-requires-clause-top
greatest_deviation-requires-clause-top c = few _ _ c.requires.rows c.n-level.ensures.valid.n_high

pub greatest_deviation-requires-clause-corner : goal.greatest_deviation-requires-clause-corner
greatest_deviation-requires-clause-corner c = (c.first_fault.ensures.none.0 (search rules)).corner

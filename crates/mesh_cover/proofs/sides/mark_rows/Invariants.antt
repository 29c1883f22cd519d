use Rattle.std.proofs.Common.{◌≡◌, ℕ, ◌<◌, ◌≤◌, ◌⊎◌, true, false, Bool}
use Rattle.mesh_cover.specs.Conforming.{is_marked}
use Rattle.mesh_cover.proofs.sides.mark_rows.Given as goal

-- the rows before y are marked, which were not, and the others are as they were
pub record IsMarked (low high y : ℕ) (before after : ℕ → Bool) : Type 0 where
  pub fresh : (k : ℕ) → low ≤ k → k < y → before k ≡ false
  pub marked : (k : ℕ) → low ≤ k → k < y → after k ≡ true
  pub kept : (k : ℕ) → (k < low) ⊎ (y ≤ k) → after k ≡ before k

abbrev pub invariant-loop-y : goal.invariant-loop-y
invariant-loop-y l = IsMarked l.low l.high l.y (is_marked l.fn.rows) (is_marked l.rows)

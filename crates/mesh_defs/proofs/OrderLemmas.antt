-- The order of ranks.
use Rattle.std.proofs.Common.{ℕ, inl, inr, arith}
use Rattle.mesh_defs.specs.Ranking.{RanksBefore}

-- no two triangles rank before each other
pub not_both_before : (priority : ℕ → ℕ) (a b : ℕ) → RanksBefore priority a b → RanksBefore priority b a → ⊥
not_both_before priority a b (inl h) (inl k) = omega arith
not_both_before priority a b (inl h) (inr k) = omega arith
not_both_before priority a b (inr h) (inl k) = omega arith
not_both_before priority a b (inr h) (inr k) = omega arith

-- The words of `certify` in the words of a run, and what the code knows of their numbers.
-- Words: making_seen, checking_seen, AreInBounds.
use Rattle.std.specs.Prelude.{ℕ, ◌≤◌}
use Rattle.wedgie_tree.specs.declared.wedges.TheConstants.{GREATEST_SPACING}
use Rattle.run_words.specs.Words.{Making, Checking, least_budget, greatest_budget}
use Rattle.run_words.specs.declared.certify_words.MakeWords.{MakeWords}
use Rattle.run_words.specs.declared.certify_words.CheckWords.{CheckWords}

-- what a certificate is made for
abbrev pub making_seen : MakeWords → Making
making_seen w = record { camera = w.camera; budget = w.budget; spacing = w.spacing }

-- what a mesh is checked by
abbrev pub checking_seen : CheckWords → Checking
checking_seen w = record { mesh = w.mesh.now; certificate = w.certificate.now; budget = w.budget; spacing = w.spacing }

-- a budget and a spacing lie within their bounds
pub record AreInBounds (budget spacing : ℕ) : Type 0 where
  pub budget_low : least_budget ≤ budget
  pub budget_high : budget ≤ greatest_budget
  pub spacing_low : 1 ≤ spacing
  pub spacing_high : spacing ≤ GREATEST_SPACING

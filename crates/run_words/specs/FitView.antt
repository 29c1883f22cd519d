-- The words of `fit` in the words of a run, and what the code knows of their numbers.
-- Words: goal_seen, IsGoal, fitting_seen, IsFitting, keeping_seen, IsKeeping, fit_making_seen, fit_checking_seen,
-- AreFitBounds, kept_making_seen, kept_checking_seen, AreKeptBounds.
use Rattle.std.specs.Prelude.{ℕ, ◌≤◌}
use Rattle.wedgie_tree.specs.declared.wedges.TheConstants.{GREATEST_SPACING}
use Rattle.run_words.specs.Words.{Fitting, Keeping, FitMaking, FitChecking, KeptMaking, KeptChecking, least_budget}
use Rattle.run_words.specs.Words.{greatest_budget, greatest_error}
use Rattle.run_words.specs.Words as words
use Rattle.run_words.specs.declared.fit_words.FitWords.{FitWords}
use Rattle.run_words.specs.declared.fit_words.KeepWords.{KeepWords}
use Rattle.run_words.specs.declared.fit_words.Goal.{Goal}
use Rattle.run_words.specs.declared.fit_words.Goal.TheVariants.{AtError, InBudget}
use Rattle.run_words.specs.declared.certify_words.FitMakeWords.{FitMakeWords}
use Rattle.run_words.specs.declared.certify_words.FitCheckWords.{FitCheckWords}
use Rattle.run_words.specs.declared.kept_words.KeptMakeWords.{KeptMakeWords}
use Rattle.run_words.specs.declared.kept_words.KeptCheckWords.{KeptCheckWords}
use Rattle.run_words.specs.ShowView.{IsPrefixLength}

-- what a mesh is fitted to
abbrev pub goal_seen : Goal → words.Goal
goal_seen (AtError thousandths) = words.AtError thousandths
goal_seen (InBudget budget) = words.InBudget budget

-- the error or the budget lies within its bounds
abbrev pub IsGoal : Goal → Type 0
IsGoal (AtError thousandths) = thousandths ≤ greatest_error
IsGoal (InBudget budget) = (least_budget ≤ budget) × (budget ≤ greatest_budget)

-- how a mesh is fitted
abbrev pub fitting_seen : FitWords → Fitting
fitting_seen w = record { prefix = w.prefix.now; goal = goal_seen w.goal; spacing = w.spacing }

-- the prefix has an accepted length, and the numbers lie within their bounds
pub record IsFitting (w : FitWords) : Type 0 where
  pub shown : IsPrefixLength w.prefix.now
  pub bound : IsGoal w.goal
  pub spacing_low : 1 ≤ w.spacing
  pub spacing_high : w.spacing ≤ GREATEST_SPACING

-- how a mesh is fitted that keeps points
abbrev pub keeping_seen : KeepWords → Keeping
keeping_seen w = record {
  prefix = w.prefix.now;
  thousandths = w.thousandths;
  spacing = w.spacing;
  points = w.points.now;
}

-- the prefix has an accepted length, and the numbers lie within their bounds
pub record IsKeeping (w : KeepWords) : Type 0 where
  pub shown : IsPrefixLength w.prefix.now
  pub bound : w.thousandths ≤ greatest_error
  pub spacing_low : 1 ≤ w.spacing
  pub spacing_high : w.spacing ≤ GREATEST_SPACING

-- what a certificate of a fitted mesh is made for
abbrev pub fit_making_seen : FitMakeWords → FitMaking
fit_making_seen w = record { goal = goal_seen w.goal; spacing = w.spacing }

-- what a fitted mesh is checked by
abbrev pub fit_checking_seen : FitCheckWords → FitChecking
fit_checking_seen w = record {
  mesh = w.mesh.now;
  certificate = w.certificate.now;
  goal = goal_seen w.goal;
  spacing = w.spacing;
}

-- the numbers of such words lie within their bounds
pub record AreFitBounds (goal : Goal) (spacing : ℕ) : Type 0 where
  pub bound : IsGoal goal
  pub spacing_low : 1 ≤ spacing
  pub spacing_high : spacing ≤ GREATEST_SPACING

-- what a certificate of a fitted mesh that keeps points is made for
abbrev pub kept_making_seen : KeptMakeWords → KeptMaking
kept_making_seen w = record { thousandths = w.thousandths; spacing = w.spacing; points = w.points.now }

-- what such a mesh is checked by
abbrev pub kept_checking_seen : KeptCheckWords → KeptChecking
kept_checking_seen w = record {
  mesh = w.mesh.now;
  certificate = w.certificate.now;
  thousandths = w.thousandths;
  spacing = w.spacing;
  points = w.points.now;
}

-- the numbers of such words lie within their bounds
pub record AreKeptBounds (thousandths spacing : ℕ) : Type 0 where
  pub bound : thousandths ≤ greatest_error
  pub spacing_low : 1 ≤ spacing
  pub spacing_high : spacing ≤ GREATEST_SPACING

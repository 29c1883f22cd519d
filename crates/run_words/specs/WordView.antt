-- The commands of the code in the words of a run, and what the code knows of them.
-- Words: show_for, IsMeshing, scripted_seen, command_seen, IsFrameCommand, IsCommandInBounds.
use Rattle.std.specs.Prelude.{◌≤◌}
use Rattle.mesh_defs.specs.declared.level.TheConstants.{GREATEST_FILE_LEVEL}
use Rattle.wedgie_tree.specs.declared.wedges.TheConstants.{GREATEST_SPACING}
use Rattle.run_words.specs.declared.words.FrameWords.{FrameWords}
use Rattle.run_words.specs.declared.words.Command.{Command}
use Rattle.run_words.specs.declared.words.Command.TheVariants.{Frames, Info, Try, Make, Check, Fit, Keep, MakeFit}
use Rattle.run_words.specs.declared.words.Command.TheVariants.{CheckFit, MakeKept, CheckKept}
use Rattle.run_words.specs.declared.showing.Meshing.{Meshing}
use Rattle.run_words.specs.declared.showing.Meshing.TheVariants.{ByEngine, ByTolerance}
use Rattle.run_words.specs.ShowView.{IsPrefixLength, show_seen, IsShowing}
use Rattle.run_words.specs.CertifyView.{making_seen, checking_seen, AreInBounds}
use Rattle.run_words.specs.FitView.{fitting_seen, IsFitting, keeping_seen, IsKeeping, fit_making_seen}
use Rattle.run_words.specs.FitView.{fit_checking_seen, AreFitBounds, kept_making_seen, kept_checking_seen}
use Rattle.run_words.specs.FitView.{AreKeptBounds}
use Rattle.run_words.specs.Words as words

-- how frames are shown
abbrev pub show_for : Meshing → words.Show
show_for (ByEngine showing) = show_seen showing
show_for (ByTolerance prefix tolerance) = words.as_least prefix.now tolerance

-- the prefix, where there is one, has an accepted length
abbrev pub IsMeshing : Meshing → Type 0
IsMeshing (ByEngine showing) = IsShowing showing
IsMeshing (ByTolerance prefix tolerance) = IsPrefixLength prefix.now

-- the frames of a script
abbrev pub scripted_seen : FrameWords → words.Scripted
scripted_seen c = record {
  script = c.script.now;
  budget = c.budget;
  spacing = c.spacing;
  show = show_for c.meshing;
}

abbrev pub command_seen : Command → words.Command
command_seen (Frames command) = words.OnGrid command.grid.now (words.Frames (scripted_seen command))
command_seen (Info grid) = words.OnGrid grid.now words.Facts
command_seen (Try n seed) = words.Generated n seed
command_seen (Make w) = words.OnGrid w.grid.now (words.Make (making_seen w))
command_seen (Check w) = words.OnGrid w.grid.now (words.Check (checking_seen w))
command_seen (Fit w) = words.OnGrid w.grid.now (words.Fit (fitting_seen w))
command_seen (Keep w) = words.OnGrid w.grid.now (words.Keep (keeping_seen w))
command_seen (MakeFit w) = words.OnGrid w.grid.now (words.MakeFit (fit_making_seen w))
command_seen (CheckFit w) = words.OnGrid w.grid.now (words.CheckFit (fit_checking_seen w))
command_seen (MakeKept w) = words.OnGrid w.grid.now (words.MakeKept (kept_making_seen w))
command_seen (CheckKept w) = words.OnGrid w.grid.now (words.CheckKept (kept_checking_seen w))

-- budget and spacing lie within their bounds, and the prefix, where there is one, has an accepted length
pub record IsFrameCommand (command : FrameWords) : Type 0 where
  pub shown : IsMeshing command.meshing
  pub budget_low : words.least_budget ≤ command.budget
  pub budget_high : command.budget ≤ words.greatest_budget
  pub spacing_low : 1 ≤ command.spacing
  pub spacing_high : command.spacing ≤ GREATEST_SPACING

-- a command lies within its bounds: of frames its words, of `try` its level, of `certify` its numbers, of `fit` its
-- words
abbrev pub IsCommandInBounds : Command → Type 0
IsCommandInBounds (Frames command) = IsFrameCommand command
IsCommandInBounds (Info grid) = Unit {0}
IsCommandInBounds (Try n seed) = (1 ≤ n) × (n ≤ GREATEST_FILE_LEVEL)
IsCommandInBounds (Make w) = AreInBounds w.budget w.spacing
IsCommandInBounds (Check w) = AreInBounds w.budget w.spacing
IsCommandInBounds (Fit w) = IsFitting w
IsCommandInBounds (Keep w) = IsKeeping w
IsCommandInBounds (MakeFit w) = AreFitBounds w.goal w.spacing
IsCommandInBounds (CheckFit w) = AreFitBounds w.goal w.spacing
IsCommandInBounds (MakeKept w) = AreKeptBounds w.thousandths w.spacing
IsCommandInBounds (CheckKept w) = AreKeptBounds w.thousandths w.spacing

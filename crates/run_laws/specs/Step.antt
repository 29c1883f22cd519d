-- How far a script was carried out, and what its next bytes do: the words of the calls within a run.
-- Words: Place, HasCome, Refuses, Cuts.
use Rattle.std.specs.Prelude.{◌≡◌, ℕ, List, [], ◌++◌, None, IsSome}
use Rattle.run_laws.specs.Walk.{Walk, walk_of, AreWhole, HasBegun}
use Rattle.run_words.specs.Words.{Show}
use Rattle.run_laws.specs.Picture.{Picture, ArePictures}
use Rattle.run_laws.specs.Act.{Sinks, Stands, IsCutShort}
use Rattle.run_laws.specs.Outcome.{Outcome, shown_acts, stop_acts, IsFramesOutcome}

-- how far a script was carried out: its walk, the pictures of its frames, and the bytes of the line that has begun
pub record Place : Type 0 where
  pub walk : Walk
  pub pictures : List Picture
  pub begun : List ℕ

-- The place was reached by these bytes of a script: its whole lines are accepted, what their frames do stands,
-- and no byte of the line that has begun is refused.
pub record HasCome (before now : Sinks) (show : Show) (start : Walk) (read : List ℕ) (here : Place) : Type 0 where
  pub lines : List ℕ
  pub cut : read ≡ lines ++ here.begun
  pub whole : AreWhole lines
  pub walked : walk_of start lines ≡ here.walk
  pub accepted : here.walk.stop ≡ None
  pub undecided : HasBegun here.walk.lines here.begun
  pub shown : ArePictures show [] here.walk.frames here.pictures
  pub stands : Stands before now (shown_acts show 1 here.pictures)

-- a line that was read is refused, whatever follows, and all that the script does stands
pub record Refuses (before now : Sinks) (show : Show) (start : Walk) (read : List ℕ) : Type 0 where
  pub walk : Walk
  pub pictures : List Picture
  pub settled : (more : List ℕ) → walk_of start (read ++ more) ≡ walk
  pub refused : IsSome walk.stop
  pub shown : ArePictures show [] walk.frames pictures
  pub stands : Stands before now (shown_acts show 1 pictures ++ stop_acts walk.stop)

-- what the script does, whatever follows, was cut short: so its later frames need their pictures, though they
-- were never made
pub record Cuts (before now : Sinks) (show : Show) (files : ℕ) (start : Walk) (read : List ℕ) : Type 0 where
  pub short : (more : List ℕ) →
      (end : Outcome) × IsFramesOutcome show files (walk_of start (read ++ more)) end × IsCutShort before now end.acts

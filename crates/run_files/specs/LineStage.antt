-- How far a file of lines was read. This project's own words.
-- Words: IsStage, refuses, LinesHaveRead.
use Rattle.std.specs.Prelude.{◌≡◌, ℕ, ◌-◌, ◌^◌, ◌<◌, ◌≤◌, List, length, Option}
use Rattle.roam_script.specs.declared.limits.TheConstants.{MOST_LINE_BYTES}
use Rattle.run_laws.specs.CertFile.{FilePlace, HaveCome}
use Rattle.run_files.specs.declared.cert_file.CertStop.{CertStop}
use Rattle.run_files.specs.declared.cert_file.CertStop.TheVariants.{BadLine}

-- the reader goes on, the lines are as many as it counts, and 32 bits number the next one too; the line that has begun
-- has no more bytes than one may have
pub record IsStage (goes : Type 0) (count lines : ℕ) (begun : List ℕ) : Type 0 where
  pub goes_on : goes
  pub counted : lines ≡ count
  pub few : lines < 2 ^ 32 - 1
  pub short : length begun ≤ MOST_LINE_BYTES

-- the answer that tells a line that is refused
abbrev pub refuses : ℕ → CertStop
refuses line = BadLine line

-- so much of a file was read, and no line of it was refused
abbrev pub LinesHaveRead : {S : Type 0} → (S → List ℕ → Option S) → S → List ℕ → Type 0
LinesHaveRead {S = S} step start read = (here : FilePlace S) × HaveCome step start read here

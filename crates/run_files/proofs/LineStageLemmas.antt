-- A file of lines that is read from a shelf, byte by byte and piece by piece.
use Rattle.std.proofs.Common.{◌≡◌, ℕ, List, [], Option}
use Rattle.run_laws.proofs.CertFileLemmas.{place, come-begin}
use Rattle.run_files.specs.LineStage.{refuses, LinesHaveRead}

-- refusals of one kind name one line
pub one-line : (i j : ℕ) → refuses i ≡ refuses j → i ≡ j
one-line i j e = cc

-- of nothing that was read a line is refused
pub nothing-refused : {S : Type 0} (step : S → List ℕ → Option S) (start : S) → LinesHaveRead step start []
nothing-refused step start = (place start 0 [], come-begin step start)

-- What the exit status of the program says. This project's own.
-- Words: IsExit.
use Rattle.std.specs.Prelude.{◌≡◌, ◌⊎◌, ℕ, List}
use Rattle.run_laws.specs.declared.status.Status.{Status}
use Rattle.run_laws.specs.declared.status.Status.TheVariants.{NoMemory}
use Rattle.run_laws.specs.Status.{exit_status}

-- The exit status is that of a run: `ran words status` says that a run of these words ended so. Or the words could not
-- be had, and it is that of NoMemory where memory was the cause, else 8.
abbrev pub IsExit : (List (List ℕ) → Status → Type 0) → ℕ → Type 0
IsExit ran code = ((words : List (List ℕ)) × (status : Status) × ran words status × (code ≡ exit_status status))
    ⊎ (code ≡ exit_status NoMemory) ⊎ (code ≡ 8)

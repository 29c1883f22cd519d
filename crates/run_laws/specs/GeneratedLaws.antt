-- The law of generated runs over the lower levels. This project's own words.
-- Words: HasRoomForAll, unblocked_end, LowLevelsAreUnblocked.
use Rattle.std.specs.Prelude.{◌≡◌, ℕ, ◌*◌, ◌^◌, ◌≤◌, List, [], ◌∷◌, ◌++◌, Some, codes}
use Rattle.mesh_defs.specs.State.{State}
use Rattle.roam_edge.specs.Shelf.{NamedFile}
use Rattle.run_laws.specs.declared.status.Status.TheVariants.{Done}
use Rattle.run_words.specs.Words.{Generated, command_of}
use Rattle.run_laws.specs.Act.{ReportText}
use Rattle.run_laws.specs.Outcome.{Outcome, IsOutcome}

-- the budget in force has room for all finest triangles of the grid
abbrev pub HasRoomForAll : State → Type 0
HasRoomForAll state = 2 * 4 ^ state.grid.n ≤ state.budget

-- what a line of sums ends with where no priority is left above 0, and nothing blocks
abbrev pub unblocked_end : List ℕ
unblocked_end = codes " worst 0 blocked 0\n"

-- Up to level 6 the budget of a generated run has room for all finest triangles: so, whatever the seed, the run ends
-- with Done, its one act is the line of its sums, and the line ends so.
abbrev pub LowLevelsAreUnblocked : Type 0
LowLevelsAreUnblocked = (words : List (List ℕ)) (files : List NamedFile) (n seed : ℕ) (end : Outcome)
    → command_of words ≡ Some (Generated n seed) → n ≤ 6 → IsOutcome (command_of words) files end
    → (end.status ≡ Done) × (begun : List ℕ) × (end.acts ≡ ReportText (begun ++ unblocked_end) ∷ [])

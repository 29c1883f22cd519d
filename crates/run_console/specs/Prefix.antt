-- What the names of the meshes begin with that a command writes. This project's own.
-- Words: work_prefix, command_prefix.
use Rattle.std.specs.Prelude.{ℕ, List, Option, Some, None}
use Rattle.run_words.specs.Words.{Command, OnGrid, Generated, prefix_of}
use Rattle.run_words.specs.Jobs.{Work, OfFrames, OfMesh, job_row}

-- the prefix of the meshes that are made; None where none is
abbrev pub work_prefix : Work → Option (List ℕ)
work_prefix (OfFrames show) = prefix_of show
work_prefix (OfMesh prefix) = Some prefix
work_prefix _ = None

-- the prefix of the meshes of a command; None of one that writes no mesh, and where there is no command
abbrev pub command_prefix : Option Command → Option (List ℕ)
command_prefix None = None
command_prefix (Some (OnGrid grid job)) = work_prefix (job_row job).work
command_prefix (Some (Generated n seed)) = None

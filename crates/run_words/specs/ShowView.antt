-- How frames are shown, in the words of a run.
-- Words: IsPrefixLength, show_seen, IsShowing.
use Rattle.std.specs.Prelude.{ℕ, ◌<◌, ◌≤◌, List, length}
use Rattle.roam_edge.specs.declared.mesh_sink.TheConstants.{LONGEST_PREFIX}
use Rattle.run_words.specs.Words.{Show, as_meshes, as_strips, as_measures}
use Rattle.run_words.specs.declared.showing.Showing.{Showing}
use Rattle.run_words.specs.declared.showing.Showing.TheVariants.{Meshes, Strips, Measures}

-- a prefix has at least 1 byte, and no more than a mesh sink takes
abbrev pub IsPrefixLength : List ℕ → Type 0
IsPrefixLength prefix = (0 < length prefix) × (length prefix ≤ LONGEST_PREFIX)

-- the same in the words of a run
abbrev pub show_seen : Showing → Show
show_seen (Meshes prefix) = as_meshes prefix.now
show_seen (Strips prefix) = as_strips prefix.now
show_seen Measures = as_measures

-- the prefix, where there is one, has an accepted length
abbrev pub IsShowing : Showing → Type 0
IsShowing (Meshes prefix) = IsPrefixLength prefix.now
IsShowing (Strips prefix) = IsPrefixLength prefix.now
IsShowing Measures = Unit {0}

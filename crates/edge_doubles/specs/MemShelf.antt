-- A shelf in memory: what contracts see of it, and where a call of it fails.
-- This project's own words.
use Rattle.std.specs.Prelude.{ℕ, Bool, true, false, List, [], ◌∷◌, length, drop, not, ◌==◌, ◌||◌, if◌then◌else◌}
use Rattle.std.specs.Prelude.{bytes_eq}
use Rattle.std.specs.List.{list_any}
use Rattle.roam_edge.specs.Fault.{next_count, late_after}
use Rattle.roam_edge.specs.Shelf.{NamedFile, bytes_of}
use Rattle.edge_doubles.specs.declared.shelf_call.ShelfCall.{ShelfCall}
use Rattle.edge_doubles.specs.declared.shelf_call.ShelfCall.TheVariants.{Open, Read}

-- the files, the unread bytes of the file chosen last, whether nothing is left to read, the calls that are to fail, how
-- many calls of each kind and failures there were, and whether a call came after a failure
pub record KeptFiles : Type 0 where
  pub files : List NamedFile
  pub unread : List ℕ
  pub ended : Bool
  pub fails : List ShelfCall
  pub opens : ℕ
  pub reads : ℕ
  pub faults : ℕ
  pub late : Bool

-- one call is the other: of the same kind, with the same number
abbrev pub is_same_call : ShelfCall → ShelfCall → Bool
is_same_call (Open a) (Open b) = a == b
is_same_call (Read a) (Read b) = a == b
is_same_call _ _ = false

-- the list names this call
abbrev pub names_call : List ShelfCall → ShelfCall → Bool
names_call calls call = list_any (λ named. is_same_call named call) calls

-- a file has this name
abbrev pub has_name : List NamedFile → List ℕ → Bool
has_name [] name = false
has_name (file ∷ files) name = if bytes_eq file.name name then true else has_name files name

-- the next opening by this name fails: it is named, or no file has the name
abbrev pub open_fails : KeptFiles → List ℕ → Bool
open_fails kept name = names_call kept.fails (Open (next_count kept.opens)) || not (has_name kept.files name)

-- the shelf after it: a failure is counted, and leaves nothing to read
abbrev pub after_open : KeptFiles → List ℕ → KeptFiles
after_open kept name =
    if open_fails kept name
    then record kept {
      opens = next_count kept.opens;
      unread = [];
      ended = true;
      faults = next_count kept.faults;
      late = late_after kept.late kept.faults;
    }
    else record kept {
      opens = next_count kept.opens;
      unread = bytes_of kept.files name;
      ended = false;
      late = late_after kept.late kept.faults;
    }

-- the next read fails: it is named
abbrev pub read_fails : KeptFiles → Bool
read_fails kept = names_call kept.fails (Read (next_count kept.reads))

-- the shelf after a read into so many places: a failure is counted and takes nothing
abbrev pub after_read : KeptFiles → ℕ → KeptFiles
after_read kept size =
    if read_fails kept
    then record kept {
      reads = next_count kept.reads;
      faults = next_count kept.faults;
      late = late_after kept.late kept.faults;
    }
    else record kept {
      reads = next_count kept.reads;
      unread = drop size kept.unread;
      ended = length kept.unread == 0;
      late = late_after kept.late kept.faults;
    }

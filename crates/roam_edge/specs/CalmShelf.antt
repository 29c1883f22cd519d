-- A shelf of borrowed files that never fails: what contracts see of it. This project's own words.
use Rattle.std.specs.Prelude.{ℕ, Bool, List}
use Rattle.roam_edge.specs.Shelf.{NamedFile}
use Rattle.roam_edge.specs.declared.calm_shelf.CalmFile.{CalmFile}

-- the files, the unread bytes of the file chosen last, how often a file was opened, and whether nothing is left to read
pub record CalmFiles : Type 0 where
  pub files : List NamedFile
  pub unread : List ℕ
  pub opens : ℕ
  pub ended : Bool

-- a borrowed file, as a name and its bytes
abbrev pub calm_file : CalmFile → NamedFile
calm_file file = record { name = file.name.now; bytes = file.bytes.now }

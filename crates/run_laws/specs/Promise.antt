-- What a run of `roam` promises, by its status.
-- Words: ShelfState, shelf_state, shelf_tells, AreFiles, is_complete, ends_script, EndsAs, EndsRight, HasEnded,
-- may_end, OpensForStatus, IsUndecided, ScriptHasRead, CheckHasRead, FitCheckHasRead, KeptCheckHasRead, JobHasRead,
-- HasRead, FileReadFault, CommandReadFault, LeavesAtReadFault, HasReadHeader, JobHasCome, CommandNoMemory,
-- LeavesAtNoMemory, IsAcceptedCheck, IsAcceptedFitCheck, IsAcceptedKeptCheck, IsAcceptedJob, IsAccepted, leaves_engine.
use Rattle.std.specs.Prelude.{◌≡◌, ◌≢◌, ⊤, ℕ, zero, suc, ◌+◌, ◌<◌, ◌≤◌, Bool, true, false, ◌&&◌, ◌||◌, nat_lt, IsTrue}
use Rattle.std.specs.Prelude.{List, [], ◌++◌, length, Option, Some, None, Ok, Err, slice_get}
use Rattle.mesh_defs.specs.declared.point.Point.{Point}
use Rattle.mesh_defs.specs.HeightField.{HeightField, IsHeightField}
use Rattle.roam_edge.specs.Shelf.{NamedFile, bytes_of}
use Rattle.roam_edge.specs.Told.{IsPrefix}
use Rattle.roam_edge.specs.declared.shelf.Shelf as reading
use Rattle.pgm_grid.specs.declared.accepted_header.Header.{Header}
use Rattle.pgm_grid.specs.declared.fault.PgmFault.{PgmFault}
use Rattle.pgm_grid.specs.PgmText.{IsFileText, HasHeader}
use Rattle.pgm_grid.specs.Progress.{grid_of}
use Rattle.mesh_defs.specs.State.{text_in}
use Rattle.cert_text.specs.Certificate.{Certificate}
use Rattle.certificate_laws.specs.FitCertificate.{FitCertificate}
use Rattle.certificate_laws.specs.Keeping.{KeptCertificate}
use Rattle.run_laws.specs.declared.status.Status.{Status}
use Rattle.run_laws.specs.declared.status.Status.TheVariants.{Done, NoMemory, Usage, GridRefused, ScriptRefused}
use Rattle.run_laws.specs.declared.status.Status.TheVariants.{ReadFault, WriteFault, Rejected}
use Rattle.run_laws.specs.Walk.{AreWhole, HasBegun}
use Rattle.run_words.specs.Words.{Scripted, Checking, Job, Frames, Check, Keep, FitChecking, CheckFit, KeptChecking}
use Rattle.run_words.specs.Words.{MakeKept, CheckKept, Command, OnGrid, Generated}
use Rattle.run_words.specs.Jobs.{names_of}
use Rattle.run_words.specs.Words.{is_of_engine, command_of}
use Rattle.run_words.specs.Jobs.{most_open, file_count, has_script, has_points, is_check}
use Rattle.run_laws.specs.CertFile.{cert_in, CertHasRead, fit_cert_in, FitCertHasRead, kept_cert_in, KeptCertHasRead}
use Rattle.run_laws.specs.PointFile.{points_in, PointsHaveRead}
use Rattle.run_laws.specs.Certify.{checks_at, IsFaultless, IsFitFaultless, IsKeptFaultless}
use Rattle.run_laws.specs.Fit.{fit_text}
use Rattle.run_laws.specs.Picture.{Picture, ArePictures}
use Rattle.run_laws.specs.Act.{Act, Sinks, Stands, IsCutShort}
use Rattle.run_laws.specs.Outcome.{Outcome, shown_acts, script_walk, IsOutcome}

-- what a shelf tells at one moment: its files, what is unread of the file that was opened last, how often files were
-- opened, and whether the end of the last one was read; so too where no file is open, as after an opening that failed
pub record ShelfState : Type 0 where
  pub files : Option (List NamedFile)
  pub rest : Option (List ℕ)
  pub opens : ℕ
  pub ended : Bool

abbrev pub shelf_state : Option (List NamedFile) → Option (List ℕ) → ℕ → Bool → ShelfState
shelf_state all unread count at_end = record { files = all; rest = unread; opens = count; ended = at_end }

-- what this shelf tells
abbrev pub shelf_tells : {F : Type 0} → reading.Ghosts F → F → ShelfState
shelf_tells f shelf = record {
  files = f.files shelf;
  rest = f.rest shelf;
  opens = f.opens shelf;
  ended = f.ended shelf;
}

-- these are the files that the shelf tells; words that name no file have an outcome over any
abbrev pub AreFiles : Option (List NamedFile) → Option Command → List NamedFile → Type 0
AreFiles told command files = 0 < file_count command → told ≡ Some files

-- the run came to its end or to a refusal, and nothing outside failed
abbrev pub is_complete : Status → Bool
is_complete Done = true
is_complete NoMemory = false
is_complete Usage = true
is_complete GridRefused = true
is_complete ScriptRefused = true
is_complete ReadFault = false
is_complete WriteFault = false
is_complete Rejected = true

-- all lines of a script were carried out, or of a file of points read, up to its end or its refusal
abbrev pub ends_script : Status → Bool
ends_script Done = true
ends_script ScriptRefused = true
ends_script _ = false

-- The files of the outcome were opened. A complete run did all of the outcome and has its status; where a
-- write failed, what was owed was cut short.
pub record EndsAs (before now : Sinks) (old new : ShelfState) (end : Outcome) (status : Status) : Type 0 where
  pub opened : new.opens ≡ old.opens + end.opened
  pub complete : IsTrue (is_complete status) → Stands before now end.acts × (status ≡ end.status)
  pub cut_short : status ≡ WriteFault → IsCutShort before now end.acts

-- Unless memory ran out or a read failed, the run ends as an outcome of its words and files.
pub record EndsRight (before now : Sinks) (old new : ShelfState) (words : List (List ℕ)) (files : List NamedFile)
    (status : Status) : Type 0 where
  pub ends : status ≢ NoMemory → status ≢ ReadFault →
      (end : Outcome) × IsOutcome (command_of words) files end × EndsAs before now old new end status

-- the end of the file was read: nothing is unread where the shelf tells its files, and nothing where it tells what is
-- unread
pub record HasEnded (now : ShelfState) : Type 0 where
  pub at_end : now.ended ≡ true
  pub nothing_left : (all : List NamedFile) → now.files ≡ Some all → now.rest ≡ Some []
  pub nothing_unread : (unread : List ℕ) → now.rest ≡ Some unread → unread ≡ []

-- the words allow this status: Usage is for words that are no command, a refusal for a command that reads what
-- is refused, of a line for one that reads a script or points, a failed read for one that reads a file, a rejection for
-- a check
abbrev pub may_end : Option Command → Status → Bool
may_end None Usage = true
may_end None _ = false
may_end (Some command) Usage = false
may_end (Some command) GridRefused = nat_lt 0 (length (names_of command))
may_end (Some command) ReadFault = nat_lt 0 (length (names_of command))
may_end (Some command) ScriptRefused = has_script command || has_points command
may_end (Some command) Rejected = is_check command
may_end (Some command) _ = true

-- How often a file was opened, an opening that failed included, where the words name so many: each once where the run
-- was done, the grid and behind it the script or the points where a line of these is refused, the grid alone where that
-- is refused, none for words that are no command, and else at most each once. At least one was opened where a read
-- failed, and where a write failed if the words name any; at least two where a check rejects.
pub record OpensForStatus (before now files : ℕ) (status : Status) : Type 0 where
  pub done : status ≡ Done → now ≡ before + files
  pub script_refused : status ≡ ScriptRefused → now ≡ before + 2
  pub grid_refused : status ≡ GridRefused → now ≡ before + 1
  pub usage : status ≡ Usage → now ≡ before
  pub read_fault : status ≡ ReadFault → before + 1 ≤ now
  pub write_fault : status ≡ WriteFault → 0 < files → before + 1 ≤ now
  pub rejected : status ≡ Rejected → before + 2 ≤ now
  pub least : before ≤ now
  pub most : now ≤ before + files

-- whatever follows these first bytes of a grid, none of its refusals is settled: so a further read may be begun
abbrev pub IsUndecided : List ℕ → Type 0
IsUndecided read = (fault : PgmFault) → ((more : List ℕ) → grid_of (read ++ more) ≡ Err fault) → ⊥

-- So much of a script was read, and no line that was read is refused: its whole lines were carried out, and
-- these acts are those of their frames.
pub record ScriptHasRead (s : Scripted) (grid : HeightField) (read : List ℕ) (acts : List Act) : Type 0 where
  pub lines : List ℕ
  pub begun : List ℕ
  pub pictures : List Picture
  pub cut : read ≡ lines ++ begun
  pub whole : AreWhole lines
  pub accepted : (script_walk s grid lines).stop ≡ None
  pub undecided : HasBegun (script_walk s grid lines).lines begun
  pub shown : ArePictures s.show [] (script_walk s grid lines).frames pictures
  pub done : acts ≡ shown_acts s.show 1 pictures

-- So much of a file of a check at this place, counted from 0, was read: of the certificate, and none of its lines is
-- refused; or of the mesh, and it is what the text of the triangles of a certificate without a fault begins with.
abbrev pub CheckHasRead : Checking → HeightField → List NamedFile → ℕ → List ℕ → Type 0
CheckHasRead c grid files zero read = CertHasRead grid.n read
CheckHasRead c grid files (suc k) read =
    (cert : Certificate) × (cert_in grid.n (bytes_of files c.certificate) ≡ Ok cert) × IsFaultless c grid cert
    × IsPrefix read (text_in (checks_at c grid cert.camera) cert.leaves)

-- the same of a check of a fitted mesh
abbrev pub FitCheckHasRead : FitChecking → HeightField → List NamedFile → ℕ → List ℕ → Type 0
FitCheckHasRead c grid files zero read = FitCertHasRead grid.n read
FitCheckHasRead c grid files (suc k) read =
    (cert : FitCertificate) × (triangles : List ℕ) × (fit_cert_in grid.n (bytes_of files c.certificate) ≡ Ok cert)
    × IsFitFaultless c grid cert triangles × IsPrefix read (fit_text c.spacing grid triangles)

-- and of a check of a mesh that keeps points, which are read before the certificate
abbrev pub KeptCheckHasRead : KeptChecking → HeightField → List NamedFile → ℕ → List ℕ → Type 0
KeptCheckHasRead c grid files zero read = PointsHaveRead grid.n read
KeptCheckHasRead c grid files (suc zero) read =
    ((points : List Point) × (points_in grid.n (bytes_of files c.points) ≡ Ok points)) × KeptCertHasRead grid.n read
KeptCheckHasRead c grid files (suc (suc k)) read =
    (points : List Point) × (cert : KeptCertificate) × (triangles : List ℕ)
    × (points_in grid.n (bytes_of files c.points) ≡ Ok points)
    × (kept_cert_in grid.n (bytes_of files c.certificate) ≡ Ok cert)
    × IsKeptFaultless c points grid cert triangles × IsPrefix read (fit_text c.spacing grid triangles)

-- so much of the job's file at this place, counted from 0, was read, and these acts were done
abbrev pub JobHasRead : Job → HeightField → List NamedFile → ℕ → List ℕ → List Act → Type 0
JobHasRead (Frames s) grid files k read acts = ScriptHasRead s grid read acts
JobHasRead (Check c) grid files k read acts = CheckHasRead c grid files k read × (acts ≡ [])
JobHasRead (Keep p) grid files k read acts = PointsHaveRead grid.n read × (acts ≡ [])
JobHasRead (CheckFit c) grid files k read acts = FitCheckHasRead c grid files k read × (acts ≡ [])
JobHasRead (MakeKept m) grid files k read acts = PointsHaveRead grid.n read × (acts ≡ [])
JobHasRead (CheckKept c) grid files k read acts = KeptCheckHasRead c grid files k read × (acts ≡ [])
JobHasRead job grid files k read acts = ⊥

-- Of the command's file at this place, counted from 0, these bytes were read, and no refusal was met; these
-- acts are what the run has done by then.
abbrev pub HasRead : Command → List NamedFile → ℕ → List ℕ → List Act → Type 0
HasRead (OnGrid name job) files zero read acts = IsUndecided read × (acts ≡ [])
HasRead (OnGrid name job) files (suc k) read acts =
    (grid : HeightField) × (grid_of (bytes_of files name) ≡ Ok grid) × JobHasRead job grid files k read acts
HasRead (Generated n seed) files k read acts = ⊥

-- A read of the command's file at this place failed, or its opening. If its opening failed none of it was read, and the
-- shelf tells that nothing is left to read. What the run has done by then stands, and nothing else.
pub record FileReadFault (before now : Sinks) (new : ShelfState) (command : Command)
    (files : List NamedFile) (k : ℕ) : Type 0 where
  pub name : List ℕ
  pub read : List ℕ
  pub unread : List ℕ
  pub acts : List Act
  pub named : slice_get (names_of command) k ≡ Some name
  pub cut : bytes_of files name ≡ read ++ unread
  pub not_opened : new.ended ≡ true → read ≡ []
  pub left : new.ended ≡ false → new.rest ≡ Some unread
  pub has_read : HasRead command files k read acts
  pub stands : Stands before now acts

-- A read failed, at one of the command's files, counted from 0. Unless it was a script, which is file 1 of a command
-- with one, nothing was done, whether the shelf tells its files or not.
pub record CommandReadFault (before now : Sinks) (old new : ShelfState) (command : Command) : Type 0 where
  pub file : ℕ
  pub opened : new.opens ≡ old.opens + (file + 1)
  pub before_script : (IsTrue (has_script command) → file ≡ 0) → Stands before now []
  pub at_file : (files : List NamedFile) → old.files ≡ Some files → FileReadFault before now new command files file

-- so of the command that the words are
pub record LeavesAtReadFault (before now : Sinks) (old new : ShelfState) (words : List (List ℕ)) : Type 0 where
  pub command : Command
  pub is_command : command_of words ≡ Some command
  pub leaves : CommandReadFault before now old new command

-- the bytes have a whole accepted header, which was read
abbrev pub HasReadHeader : List ℕ → Option (List ℕ) → Type 0
HasReadHeader bytes rest =
    (header : Header) × (at : ℕ) × (behind : List ℕ) × HasHeader bytes header at behind
    × ((unread : List ℕ) → rest ≡ Some unread → (read : List ℕ) × (behind ≡ read ++ unread))

-- What a job has accepted behind its grid when memory runs out with so many files opened, two or more. A check opens
-- its mesh only once the certificate has no fault, and no memory is taken while points are read.
abbrev pub JobHasCome : Job → HeightField → List NamedFile → ℕ → Type 0
JobHasCome (Check c) grid files opened = 3 ≤ opened → (cert : Certificate)
    × (cert_in grid.n (bytes_of files c.certificate) ≡ Ok cert) × IsFaultless c grid cert
JobHasCome (CheckFit c) grid files opened = 3 ≤ opened → (cert : FitCertificate) × (triangles : List ℕ)
    × (fit_cert_in grid.n (bytes_of files c.certificate) ≡ Ok cert) × IsFitFaultless c grid cert triangles
JobHasCome (MakeKept m) grid files opened =
    (points : List Point) × (points_in grid.n (bytes_of files m.points) ≡ Ok points)
JobHasCome (CheckKept c) grid files opened =
    (points : List Point) × (points_in grid.n (bytes_of files c.points) ≡ Ok points)
    × (4 ≤ opened → (cert : KeptCertificate) × (triangles : List ℕ)
    × (kept_cert_in grid.n (bytes_of files c.certificate) ≡ Ok cert)
    × IsKeptFaultless c points grid cert triangles)
JobHasCome job grid files opened = ⊤

-- Memory ran out. Nothing was written, and no script was opened, nor points that a mesh is fitted to; if the command
-- names a grid, a whole accepted header of it was read; and a later file was opened only after accepted ones. Where
-- this holds nothing forbids the status.
pub record CommandNoMemory (before now : Sinks) (old new : ShelfState) (command : Command) : Type 0 where
  pub opened : ℕ
  pub count : new.opens ≡ old.opens + opened
  pub least : 0 < file_count (Some command) → 1 ≤ opened
  pub most : opened ≤ most_open command
  pub stands : Stands before now []
  pub header : (name : List ℕ) (job : Job) (files : List NamedFile) → command ≡ OnGrid name job → old.files ≡ Some files
      → opened ≡ 1 → HasReadHeader (bytes_of files name) new.rest
  pub in_order : (name : List ℕ) (job : Job) (files : List NamedFile) → command ≡ OnGrid name job
      → old.files ≡ Some files → 2 ≤ opened
      → (grid : HeightField) × (grid_of (bytes_of files name) ≡ Ok grid) × JobHasCome job grid files opened

-- so only for words of a command
pub record LeavesAtNoMemory (before now : Sinks) (old new : ShelfState) (words : List (List ℕ)) : Type 0 where
  pub command : Command
  pub is_command : command_of words ≡ Some command
  pub leaves : CommandNoMemory before now old new command

-- what a check reads is accepted: a certificate without a fault, and the text of its triangles
abbrev pub IsAcceptedCheck : Checking → HeightField → List NamedFile → Type 0
IsAcceptedCheck c grid files =
    (cert : Certificate) × (cert_in grid.n (bytes_of files c.certificate) ≡ Ok cert) × IsFaultless c grid cert
    × (bytes_of files c.mesh ≡ text_in (checks_at c grid cert.camera) cert.leaves)

-- the same of a check of a fitted mesh
abbrev pub IsAcceptedFitCheck : FitChecking → HeightField → List NamedFile → Type 0
IsAcceptedFitCheck c grid files =
    (cert : FitCertificate) × (triangles : List ℕ) × (fit_cert_in grid.n (bytes_of files c.certificate) ≡ Ok cert)
    × IsFitFaultless c grid cert triangles × (bytes_of files c.mesh ≡ fit_text c.spacing grid triangles)

-- and of a check of a mesh that keeps points: each line of these too
abbrev pub IsAcceptedKeptCheck : KeptChecking → HeightField → List NamedFile → Type 0
IsAcceptedKeptCheck c grid files =
    (points : List Point) × (cert : KeptCertificate) × (triangles : List ℕ)
    × (points_in grid.n (bytes_of files c.points) ≡ Ok points)
    × (kept_cert_in grid.n (bytes_of files c.certificate) ≡ Ok cert)
    × IsKeptFaultless c points grid cert triangles × (bytes_of files c.mesh ≡ fit_text c.spacing grid triangles)

-- what a job reads is accepted: each line of its script or of its points, or the certificate and the mesh of a check
abbrev pub IsAcceptedJob : Job → HeightField → List NamedFile → Type 0
IsAcceptedJob (Frames s) grid files = (script_walk s grid (bytes_of files s.script)).stop ≡ None
IsAcceptedJob (Check c) grid files = IsAcceptedCheck c grid files
IsAcceptedJob (Keep k) grid files =
    (points : List Point) × (points_in grid.n (bytes_of files k.points) ≡ Ok points)
IsAcceptedJob (CheckFit c) grid files = IsAcceptedFitCheck c grid files
IsAcceptedJob (MakeKept m) grid files =
    (points : List Point) × (points_in grid.n (bytes_of files m.points) ≡ Ok points)
IsAcceptedJob (CheckKept c) grid files = IsAcceptedKeptCheck c grid files
IsAcceptedJob job grid files = ⊤

-- the words are a command, and what it reads is accepted: the file of its grid is a text of one, and what its job reads
-- is accepted; a generated run reads nothing
abbrev pub IsAccepted : Option Command → List NamedFile → Type 0
IsAccepted None files = ⊥
IsAccepted (Some (OnGrid name job)) files =
    (grid : HeightField) × IsHeightField grid × IsFileText grid (bytes_of files name) × IsAcceptedJob job grid files
IsAccepted (Some (Generated n seed)) files = ⊤

-- an engine is left where it made the frames, and the script came to its end or to a line that is refused
abbrev pub leaves_engine : Option Command → Status → Bool
leaves_engine (Some (OnGrid name (Frames s))) status = is_of_engine s.show && ends_script status
leaves_engine (Some (OnGrid name job)) status = false
leaves_engine (Some (Generated n seed)) status = ends_script status
leaves_engine None status = false

-- What a job makes and which files it reads, a row a job; and what follows of a command. This project's own.
-- Words: Work, File, file, JobRow, does, job_row, file_names, names_of, file_count, is_role_script, is_role_points,
-- is_first, has_script, has_points, checks, is_check, open_for, most_open, is_text, is_of_text, IsNoCertificate,
-- MakesNoCertificate.
use Rattle.std.specs.Prelude.{⊤, ℕ, suc, Bool, true, false, List, [], ◌∷◌, length, Option, Some, None}
use Rattle.run_words.specs.declared.role.Role.{Role}
use Rattle.run_words.specs.declared.role.Role.TheVariants as roles
use Rattle.run_words.specs.Words.{Show, Job, Frames, Facts, Make, Check, Fit, Keep, MakeFit, CheckFit, MakeKept}
use Rattle.run_words.specs.Words.{CheckKept, Command, OnGrid, Generated}

-- what is made: the meshes of frames, shown so; one mesh, whose name begins so; a line on the grid; a certificate; or a
-- check of a mesh by one
pub data Work : Type 0 where
  OfFrames : (show : Show) → Work
  OfMesh : (prefix : List ℕ) → Work
  OfFacts : Work
  OfCertificate : Work
  OfCheck : Work

-- a file that is read after the grid: what it is, and its name
pub record File : Type 0 where
  pub role : Role
  pub name : List ℕ

-- what a job makes, and the files that it reads after the grid, in the order in which they are opened
pub record JobRow : Type 0 where
  pub work : Work
  pub files : List File

abbrev pub file : Role → List ℕ → File
file what called = record { role = what; name = called }

abbrev pub does : Work → List File → JobRow
does makes reads = record { work = makes; files = reads }

-- a row for each job
abbrev pub job_row : Job → JobRow
job_row (Frames s) = does (OfFrames s.show) (file roles.Script s.script ∷ [])
job_row Facts = does OfFacts []
job_row (Make m) = does OfCertificate []
job_row (Check c) = does OfCheck (file roles.Certificate c.certificate ∷ (file roles.Mesh c.mesh ∷ []))
job_row (Fit f) = does (OfMesh f.prefix) []
job_row (Keep k) = does (OfMesh k.prefix) (file roles.Points k.points ∷ [])
job_row (MakeFit m) = does OfCertificate []
job_row (CheckFit c) = does OfCheck (file roles.Certificate c.certificate ∷ (file roles.Mesh c.mesh ∷ []))
job_row (MakeKept m) = does OfCertificate (file roles.Points m.points ∷ [])
job_row (CheckKept c) =
    does OfCheck (file roles.Points c.points
    ∷ (file roles.Certificate c.certificate ∷ (file roles.Mesh c.mesh ∷ [])))

-- the names of these files
abbrev pub file_names : List File → List (List ℕ)
file_names [] = []
file_names (f ∷ files) = f.name ∷ file_names files

-- the names of a command's files; the grid comes first
abbrev pub names_of : Command → List (List ℕ)
names_of (OnGrid grid job) = grid ∷ file_names (job_row job).files
names_of (Generated n seed) = []

-- how many files the words name, where they are a command
abbrev pub file_count : Option Command → ℕ
file_count None = 0
file_count (Some command) = length (names_of command)

-- the file is a script
abbrev pub is_role_script : Role → Bool
is_role_script roles.Script = true
is_role_script _ = false

-- the file has the points that a mesh keeps
abbrev pub is_role_points : Role → Bool
is_role_points roles.Points = true
is_role_points _ = false

-- so of the first of these files
abbrev pub is_first : (Role → Bool) → List File → Bool
is_first is [] = false
is_first is (f ∷ files) = is f.role

abbrev pub has_script : Command → Bool
has_script (OnGrid grid job) = is_first is_role_script (job_row job).files
has_script (Generated n seed) = false

abbrev pub has_points : Command → Bool
has_points (OnGrid grid job) = is_first is_role_points (job_row job).files
has_points (Generated n seed) = false

-- the work is a check of a mesh
abbrev pub checks : Work → Bool
checks OfCheck = true
checks _ = false

abbrev pub is_check : Command → Bool
is_check (OnGrid grid job) = checks (job_row job).work
is_check (Generated n seed) = false

-- how many files are open at most when memory runs out: the grid alone, but where a certificate is made or checked, which
-- takes memory behind each of its files too
abbrev pub open_for : Work → List File → ℕ
open_for OfCertificate files = suc (length (file_names files))
open_for OfCheck files = suc (length (file_names files))
open_for _ files = 1

abbrev pub most_open : Command → ℕ
most_open (OnGrid name job) = open_for (job_row job).work (job_row job).files
most_open (Generated n seed) = 0

-- the words ask neither for frames nor for a mesh: they write one text at most
abbrev pub is_text : Work → Bool
is_text (OfFrames show) = false
is_text (OfMesh prefix) = false
is_text _ = true

abbrev pub is_of_text : Option Command → Bool
is_of_text None = true
is_of_text (Some (OnGrid name job)) = is_text (job_row job).work
is_of_text (Some (Generated n seed)) = true

-- the work is no certificate
abbrev pub IsNoCertificate : Work → Type 0
IsNoCertificate OfCertificate = ⊥
IsNoCertificate _ = ⊤

-- The words are none of `certify make` and `certify make-fit`: of the certificates that may be made any is right, and
-- every other command, and words that are none, have one outcome alone.
abbrev pub MakesNoCertificate : Option Command → Type 0
MakesNoCertificate None = ⊤
MakesNoCertificate (Some (OnGrid grid job)) = IsNoCertificate (job_row job).work
MakesNoCertificate (Some (Generated n seed)) = ⊤

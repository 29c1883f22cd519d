-- Laws of walks, pictures and outcomes.
-- Words: WalksGoOn, PicturesGoOn, FramesExistFrom, FramesExist, RunsAreUnique, SetsStayClosed, LevelsAreInRange,
-- BudgetsAreTwo, AreStates, KeepsStates, OutcomesAreUnique, OutcomesExist, AcceptedIsDone, EnginesAreUnique,
-- PicturesAreCertified, HeadlineFollows, CertifiedFollows, FitCertifiedFollows, KeptCertifiedFollows,
-- TolerancesAreExact, FitsAreBest, FittedFollows, KeptAreBest, KeptFollows, MadeIsAccepted, FitMadeIsAccepted,
-- KeptMadeIsAccepted, FitIsReadBack, KeptIsReadBack, TurnsAreCounted.
use Rattle.std.specs.Prelude.{◌≡◌, ⊤, ℕ, ◌*◌, ◌^◌, ◌≤◌, ◌↔◌, Bool, IsTrue, IsSome, is_some, List, [], ◌∷◌, ◌++◌, All}
use Rattle.std.specs.Prelude.{Option, Some, Ok}
use Rattle.mesh_defs.specs.declared.point.Point.{Point}
use Rattle.mesh_defs.specs.HeightField.{HeightField, IsHeightField}
use Rattle.bintree_laws.specs.Corners.{IsInSquare}
use Rattle.mesh_defs.specs.State.{State, priority_in, text_in}
use Rattle.mesh_defs.specs.ClosedSet.{IsClosed, among}
use Rattle.mesh_defs.specs.GridSet.{IsGridSet}
use Rattle.mesh_defs.specs.declared.level.TheConstants.{GREATEST_LEVEL, GREATEST_FILE_LEVEL}
use Rattle.mesh_laws.specs.Frame.{IsFrame}
use Rattle.mesh_laws.specs.Steps.{IsFrameRun}
use Rattle.mesh_laws.specs.Strip.{strip_of}
use Rattle.mesh_laws.specs.Turn.{HasTurns}
use Rattle.pgm_grid.specs.Progress.{grid_of}
use Rattle.bintree_addr.specs.declared.blocked.Blocked.{Blocked}
use Rattle.roam_edge.specs.MeshSink.{WrittenMesh}
use Rattle.roam_edge.specs.Shelf.{NamedFile, bytes_of}
use Rattle.roam_script.specs.declared.limits.Limits.{Limits}
use Rattle.roam_script.specs.declared.line.Line.TheVariants.{Budget}
use Rattle.roam_script.specs.LineText.{line_in}
use Rattle.run_laws.specs.declared.status.Status.{Status}
use Rattle.run_laws.specs.declared.status.Status.TheVariants.{Done, NoMemory, ReadFault}
use Rattle.run_laws.specs.Walk.{Walk, walk_of, AreWhole}
use Rattle.obj_write.specs.Written.{Grows}
use Rattle.cert_text.specs.Certificate.{Certificate}
use Rattle.cert_text.specs.CertText.{cert_text}
use Rattle.certificate_laws.specs.FitCertificate.{FitCertificate}
use Rattle.cert_text.specs.FitCertText.{fit_cert_text}
use Rattle.cert_text.specs.FitLaws.{IsFitCertificateOf}
use Rattle.cert_text.specs.KeptCert.{kept_cert_text}
use Rattle.cert_text.specs.KeptLaws.{IsKeptCertificateOf}
use Rattle.certificate_laws.specs.Keeping.{KeptCertificate}
use Rattle.run_laws.specs.CertFile.{fit_cert_in, kept_cert_in}
use Rattle.run_words.specs.Words.{Show, Scripted, Making, Checking, Goal, Fitting, Keeping, FitChecking, Frames}
use Rattle.run_words.specs.Words.{Make, Check, FitMaking, Fit, Keep, MakeFit, CheckFit, KeptMaking, KeptChecking}
use Rattle.run_words.specs.Words.{MakeKept, CheckKept, OnGrid, prefix_of, command_of}
use Rattle.run_laws.specs.Certify.{makes_at, IsMade, IsFitMade, IsKeptMade}
use Rattle.run_laws.specs.Act.{Sinks}
use Rattle.run_laws.specs.Picture.{Picture, ArePictures, IsCertified, last_members}
use Rattle.run_laws.specs.Turns.{left_turns, right_turns}
use Rattle.run_laws.specs.Outcome.{Outcome, IsOutcome}
use Rattle.run_words.specs.Jobs.{MakesNoCertificate}
use Rattle.run_laws.specs.Promise.{ShelfState, EndsRight, LeavesAtReadFault, LeavesAtNoMemory, IsAcceptedCheck}
use Rattle.run_laws.specs.Promise.{IsAcceptedFitCheck, IsAcceptedKeptCheck, IsAccepted}
use Rattle.run_laws.specs.Headline.{IsRunOf, KeepsGoodMeshes, IsCertifiedMesh, IsCertifiedFit, KeepsFitMesh}
use Rattle.run_laws.specs.Headline.{IsCertifiedKept, KeepsKeptMesh}
use Rattle.run_laws.specs.PointFile.{points_in}
use Rattle.run_laws.specs.Fit.{tolerance_of, IsFitFor, IsFitted, IsBestFit, IsKeptFor, IsKept, IsFewestKeeping, fit_text}

-- a walk over whole lines goes on with what follows them
abbrev pub WalksGoOn : Type 0
WalksGoOn =
    (walk : Walk) (lines more : List ℕ) → AreWhole lines →
    walk_of walk (lines ++ more) ≡ walk_of (walk_of walk lines) more

-- pictures go on from the last set
abbrev pub PicturesGoOn : Type 0
PicturesGoOn =
    (show : Show) (before : List ℕ) (ss ts : List State) (ps qs : List Picture) → ArePictures show before ss ps
    → ArePictures show (last_members before ps) ts qs → ArePictures show before (ss ++ ts) (ps ++ qs)

-- From each closed set the steps of a frame lead to the frame of a state with a budget of at least so many triangles.
abbrev pub FramesExistFrom : ℕ → Type 0
FramesExistFrom least = (state : State) (before : List ℕ) → IsGridSet state.grid.n before → least ≤ state.budget
    → (members : List ℕ) × (worst : ℕ) × (blocked : Option Blocked) × (splits : ℕ) × (merges : ℕ)
    × IsGridSet state.grid.n members
    × IsFrame state.grid.n state.budget (priority_in state) (among members) worst blocked
    × IsFrameRun state.grid.n state.budget (priority_in state) before members splits merges

-- each budget of at least 2 has one: the mesh of the two base triangles is the smallest
abbrev pub FramesExist : Type 0
FramesExist = FramesExistFrom 2

-- the steps of a frame end at one set, with one pair of counts
abbrev pub RunsAreUnique : Type 0
RunsAreUnique = (n budget : ℕ) (priority : ℕ → ℕ) (start last other : List ℕ) (added removed more less : ℕ)
    → IsFrameRun n budget priority start last added removed → IsFrameRun n budget priority start other more less
    → (last ≡ other) × (added ≡ more) × (removed ≡ less)

-- the steps of a frame lead from a closed set to a closed set
abbrev pub SetsStayClosed : Type 0
SetsStayClosed = (n budget : ℕ) (priority : ℕ → ℕ) (before after : List ℕ) (splits merges : ℕ) → IsGridSet n before
    → IsFrameRun n budget priority before after splits merges → IsGridSet n after

-- a grid that is read has a side of 3 to 2049
abbrev pub LevelsAreInRange : Type 0
LevelsAreInRange =
    (grid : HeightField) (bytes : List ℕ) → grid_of bytes ≡ Ok grid → (1 ≤ grid.n) × (grid.n ≤ GREATEST_FILE_LEVEL)

-- an accepted line sets no budget below 2
abbrev pub BudgetsAreTwo : Type 0
BudgetsAreTwo = (limits : Limits) (bytes : List ℕ) (most : ℕ) → line_in limits bytes ≡ Ok (Budget most) → 2 ≤ most

-- each state is of a grid with this n, and has a budget of at least 2
abbrev pub AreStates : ℕ → List State → Type 0
AreStates n [] = ⊤
AreStates n (state ∷ states) = (state.grid.n ≡ n) × (2 ≤ state.budget) × AreStates n states

-- the state has this level and a budget of at least 2, and so have those at the frame lines
pub record KeepsStates (n : ℕ) (walk : Walk) : Type 0 where
  pub level : walk.state.grid.n ≡ n
  pub low : 2 ≤ walk.state.budget
  pub frames : AreStates n walk.frames

-- words and files have one outcome
abbrev pub OutcomesAreUnique : Type 0
OutcomesAreUnique =
    (words : List (List ℕ)) (files : List NamedFile) (end other : Outcome) → MakesNoCertificate (command_of words)
    → IsOutcome (command_of words) files end → IsOutcome (command_of words) files other → end ≡ other

-- words and files have an outcome
abbrev pub OutcomesExist : Type 0
OutcomesExist =
    (words : List (List ℕ)) (files : List NamedFile) → (end : Outcome) × IsOutcome (command_of words) files end

-- what is accepted ends with Done
abbrev pub AcceptedIsDone : Type 0
AcceptedIsDone =
    (words : List (List ℕ)) (files : List NamedFile) (end : Outcome) → IsAccepted (command_of words) files →
    IsOutcome (command_of words) files end → end.status ≡ Done

-- the outcomes of words and files leave one engine, where there are several too
abbrev pub EnginesAreUnique : Type 0
EnginesAreUnique =
    (words : List (List ℕ)) (files : List NamedFile) (end other : Outcome) → IsOutcome (command_of words) files end →
    IsOutcome (command_of words) files other
    → end.engine ≡ other.engine

-- what an engine's frames tell of blocking is a certificate
abbrev pub PicturesAreCertified : Type 0
PicturesAreCertified = (words : List (List ℕ)) (files : List NamedFile) (end : Outcome) → IsTrue (is_some end.engine)
    → IsOutcome (command_of words) files end → All IsCertified end.pictures

-- the turns of a strip are as many as the tests of turns count
abbrev pub TurnsAreCounted : Type 0
TurnsAreCounted = (n lefts rights : ℕ) (has : ℕ → Bool) → IsClosed n has → HasTurns n (strip_of n has) lefts rights
    → (left_turns n (strip_of n has) ≡ lefts) × (right_turns n (strip_of n has) ≡ rights)

-- the headline: whatever the status, from what stands after each, each finished mesh is a best mesh of the state
-- at its frame line
abbrev pub HeadlineFollows : Type 0
HeadlineFollows =
    (words : List (List ℕ)) (files : List NamedFile) (s : Scripted) (grid : HeightField) (before now : Sinks)
    (old new : ShelfState) (all : List WrittenMesh) (status : Status)
    → IsRunOf words files (Frames s) grid → IsSome (prefix_of s.show) → old.files ≡ Some files →
    before.meshes ≡ Some all → EndsRight before now old new words files status
    → (status ≡ ReadFault → LeavesAtReadFault before now old new words) →
    (status ≡ NoMemory → LeavesAtNoMemory before now old new words)
    → KeepsGoodMeshes s grid (bytes_of files s.script) all now.meshes status

-- where a check is done, the report got a line by which its mesh is certified
abbrev pub CertifiedFollows : Type 0
CertifiedFollows =
    (words : List (List ℕ)) (files : List NamedFile) (c : Checking) (grid : HeightField) (before now : Sinks)
    (old new : ShelfState) (status : Status)
    → IsRunOf words files (Check c) grid → EndsRight before now old new words files status → status ≡ Done
    → (line : List ℕ) × Grows before.report now.report line × IsCertifiedMesh c grid (bytes_of files c.mesh) line

-- the same of a check of a fitted mesh
abbrev pub FitCertifiedFollows : Type 0
FitCertifiedFollows =
    (words : List (List ℕ)) (files : List NamedFile) (c : FitChecking) (grid : HeightField) (before now : Sinks)
    (old new : ShelfState) (status : Status)
    → IsRunOf words files (CheckFit c) grid → EndsRight before now old new words files status → status ≡ Done
    → (line : List ℕ) × Grows before.report now.report line × IsCertifiedFit c grid (bytes_of files c.mesh) line

-- the same of one that keeps points, whose file is then a text of points
abbrev pub KeptCertifiedFollows : Type 0
KeptCertifiedFollows =
    (words : List (List ℕ)) (files : List NamedFile) (c : KeptChecking) (grid : HeightField) (before now : Sinks)
    (old new : ShelfState) (status : Status)
    → IsRunOf words files (CheckKept c) grid → EndsRight before now old new words files status → status ≡ Done
    → (points : List Point) × (points_in grid.n (bytes_of files c.points) ≡ Ok points) × (line : List ℕ)
    × Grows before.report now.report line × IsCertifiedKept c points grid (bytes_of files c.mesh) line

-- the text of a certificate of a fitted mesh, of no more than a reader takes, is read back as it
abbrev pub FitIsReadBack : Type 0
FitIsReadBack =
    (n : ℕ) (cert : FitCertificate) → IsFitCertificateOf n cert → fit_cert_in n (fit_cert_text cert) ≡ Ok cert

-- so is that of one with points
abbrev pub KeptIsReadBack : Type 0
KeptIsReadBack =
    (n : ℕ) (cert : KeptCertificate) → IsKeptCertificateOf n cert → kept_cert_in n (kept_cert_text cert) ≡ Ok cert

-- an error is within the tolerance exactly where it is at most so many thousandths
abbrev pub TolerancesAreExact : Type 0
TolerancesAreExact =
    (n thousandths error : ℕ) → (error ≤ tolerance_of n thousandths) ↔ (1000 * error ≤ thousandths * 2 ^ n)

-- a mesh that is fitted is a best one, in the words of distances from the surface
abbrev pub FitsAreBest : Type 0
FitsAreBest =
    (goal : Goal) (grid : HeightField) (triangles : List ℕ) → IsFitFor goal grid triangles →
    IsBestFit goal grid triangles

-- the headline of a fit: whatever the status, from what stands after each, the mesh is a best one if it is finished
abbrev pub FittedFollows : Type 0
FittedFollows =
    (words : List (List ℕ)) (files : List NamedFile) (f : Fitting) (grid : HeightField) (before now : Sinks)
    (old new : ShelfState) (all : List WrittenMesh) (status : Status)
    → IsRunOf words files (Fit f) grid → before.meshes ≡ Some all → EndsRight before now old new words files status
    → (status ≡ ReadFault → LeavesAtReadFault before now old new words) →
    (status ≡ NoMemory → LeavesAtNoMemory before now old new words)
    → KeepsFitMesh f grid before now all status

-- a mesh that keeps points of the grid has the fewest triangles of those that have these points as vertices
abbrev pub KeptAreBest : Type 0
KeptAreBest =
    (thousandths : ℕ) (points : List Point) (grid : HeightField) (triangles : List ℕ)
    → All (λ p. IsInSquare (2 ^ grid.n) p) points → IsKeptFor thousandths points grid triangles →
    IsFewestKeeping thousandths points grid triangles

-- the headline of a fit that keeps points, whose file is a text of these points
abbrev pub KeptFollows : Type 0
KeptFollows =
    (words : List (List ℕ)) (files : List NamedFile) (k : Keeping) (grid : HeightField) (points : List Point)
    (before now : Sinks) (old new : ShelfState) (all : List WrittenMesh) (status : Status)
    → IsRunOf words files (Keep k) grid → points_in grid.n (bytes_of files k.points) ≡ Ok points
    → before.meshes ≡ Some all → EndsRight before now old new words files status
    → (status ≡ ReadFault → LeavesAtReadFault before now old new words) →
    (status ≡ NoMemory → LeavesAtNoMemory before now old new words)
    → KeepsKeptMesh k points grid before now all status

-- What `certify make` writes for a grid `certify check` accepts over it, at the same budget and spacing and with the
-- mesh that it is of.
abbrev pub MadeIsAccepted : Type 0
MadeIsAccepted =
    (words : List (List ℕ)) (name : List ℕ) (m : Making) (grid : HeightField) (cert : Certificate) (c : Checking)
    (files : List NamedFile)
    → command_of words ≡ Some (OnGrid name (Make m)) → (1 ≤ grid.n) × (grid.n ≤ GREATEST_LEVEL) → IsMade m grid cert →
    c.budget ≡ m.budget → c.spacing ≡ m.spacing
    → bytes_of files c.certificate ≡ cert_text cert → bytes_of files c.mesh ≡ text_in (makes_at m grid) cert.leaves →
    IsAcceptedCheck c grid files

-- What `certify make-fit` writes for a grid `certify check-fit` accepts over it, for the same error or budget and with
-- the mesh that `fit` writes for it, at any spacing.
abbrev pub FitMadeIsAccepted : Type 0
FitMadeIsAccepted =
    (words : List (List ℕ)) (name : List ℕ) (m : FitMaking) (grid : HeightField) (cert : FitCertificate)
    (c : FitChecking) (files : List NamedFile) (triangles : List ℕ)
    → command_of words ≡ Some (OnGrid name (MakeFit m)) → IsHeightField grid → grid.n ≤ GREATEST_FILE_LEVEL →
    IsFitMade m grid cert → c.goal ≡ m.goal → IsFitted m.goal grid triangles
    → bytes_of files c.certificate ≡ fit_cert_text cert → bytes_of files c.mesh ≡ fit_text c.spacing grid triangles →
    IsAcceptedFitCheck c grid files

-- What `certify make-fit` writes for a grid and points `certify check-fit` accepts over them, for the same error, with
-- the mesh that `fit` writes for it and the points, at any spacing, and with any file of these points.
abbrev pub KeptMadeIsAccepted : Type 0
KeptMadeIsAccepted =
    (words : List (List ℕ)) (name : List ℕ) (m : KeptMaking) (grid : HeightField) (points : List Point)
    (cert : KeptCertificate) (c : KeptChecking) (files : List NamedFile) (triangles : List ℕ)
    → command_of words ≡ Some (OnGrid name (MakeKept m)) → IsHeightField grid → grid.n ≤ GREATEST_FILE_LEVEL →
    IsKeptMade m points grid cert → c.thousandths ≡ m.thousandths → IsKept m.thousandths points grid triangles
    → points_in grid.n (bytes_of files c.points) ≡ Ok points → bytes_of files c.certificate ≡ kept_cert_text cert
    → bytes_of files c.mesh ≡ fit_text c.spacing grid triangles → IsAcceptedKeptCheck c grid files

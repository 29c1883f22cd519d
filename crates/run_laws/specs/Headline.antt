-- The headline: each frame's mesh is a best mesh within the budget in force, whatever the mesh before; or the least
-- mesh of a tolerance. A mesh that is fitted is a best one for its error or its budget, and for the points that it
-- keeps.
-- Words: IsGoodMesh, IsGoodStrip, IsGoodOrder, IsGoodFrame, AreGoodFrames, IsRunOf, KeepsGoodMeshes,
-- IsCertifiedMesh, IsCertifiedAs, IsCertifiedFit, IsCertifiedKept, IsOneMeshOf, KeepsOneMesh, KeepsFitMesh, KeepsKeptMesh.
use Rattle.std.specs.Prelude.{◌≡◌, ⊤, ℕ, ◌+◌, ◌≤◌, Bool, true, IsTrue, List, [], ◌∷◌, ◌++◌, length, count_by, nat_eq}
use Rattle.std.specs.Prelude.{All, Contains, Option, Some}
use Rattle.mesh_defs.specs.declared.point.Point.{Point}
use Rattle.mesh_defs.specs.HeightField.{HeightField, IsHeightField}
use Rattle.mesh_defs.specs.BestMesh.{IsBestMesh}
use Rattle.mesh_defs.specs.BoundingBox.{CameraAt}
use Rattle.mesh_defs.specs.ClosedSet.{leaves_of}
use Rattle.mesh_defs.specs.Priority.{worst_of}
use Rattle.mesh_defs.specs.State.{State, priority_in, text_in}
use Rattle.mesh_defs.specs.Tiling.{IsConforming}
use Rattle.roam_edge.specs.MeshSink.{WrittenMesh}
use Rattle.roam_edge.specs.Shelf.{NamedFile, bytes_of}
use Rattle.pgm_grid.specs.PgmText.{IsFileText}
use Rattle.run_laws.specs.declared.status.Status.{Status}
use Rattle.run_laws.specs.declared.status.Status.TheVariants.{Done}
use Rattle.mesh_laws.specs.Ancestors.{AreLeaves}
use Rattle.mesh_laws.specs.Strip.{strip_of, IsRing}
use Rattle.mesh_laws.specs.Least.{IsLeastMesh}
use Rattle.fit_laws.specs.PlaneHeight.{deviation_of}
use Rattle.run_words.specs.Words.{Criterion, OfBudget, OfTolerance, TriangleOrder, DepthFirst, AlongStrip, Show}
use Rattle.run_words.specs.Words.{Scripted, Checking, Fitting, Keeping, FitChecking, KeptChecking, Job, OnGrid}
use Rattle.run_words.specs.Words.{prefix_of, command_of}
use Rattle.run_laws.specs.ReportText.{certified_line, fit_line, certified_fit_line}
use Rattle.run_laws.specs.Certify.{checks_at}
use Rattle.run_laws.specs.Fit.{IsFitFor, IsBestFit, IsKeptFor, IsFewestKeeping, fit_text}
use Rattle.run_laws.specs.Act.{Sinks}
use Rattle.obj_write.specs.Written.{mesh_with, Grows}
use Rattle.run_laws.specs.Outcome.{script_walk}
use Rattle.run_laws.specs.Promise.{ends_script}

-- The list is the mesh of this criterion: a best mesh within the budget in force, or the least mesh for a tolerance:
-- none of its triangles is worse, and every such mesh refines it.
abbrev pub IsGoodMesh : Criterion → State → List ℕ → Type 0
IsGoodMesh OfBudget state triangles = IsBestMesh state.grid.n state.budget (priority_in state) triangles
IsGoodMesh (OfTolerance tolerance) state triangles = IsLeastMesh state.grid.n tolerance (priority_in state) triangles

-- The list is the strip of such a mesh: its triangles, each once, in an order in which each two neighbours share a
-- whole edge, and so do the last and the first.
pub record IsGoodStrip (criterion : Criterion) (state : State) (order : List ℕ) : Type 0 where
  pub has : ℕ → Bool
  pub mesh : IsGoodMesh criterion state (leaves_of state.grid.n has)
  pub strip : order ≡ strip_of state.grid.n has
  pub leaves : AreLeaves state.grid.n has order
  pub once : (a : ℕ) → Contains order a → count_by (λ t. nat_eq t a) order ≡ 1
  pub ring : IsRing state.grid.n order

-- the list is such a mesh, or its strip
abbrev pub IsGoodOrder : TriangleOrder → Criterion → State → List ℕ → Type 0
IsGoodOrder DepthFirst criterion state order = IsGoodMesh criterion state order
IsGoodOrder AlongStrip criterion state order = IsGoodStrip criterion state order

-- The mesh has this number and the prefix of the words, and its bytes are the text of what is shown of this state: of
-- the mesh of the criterion, its triangles in the order.
pub record IsGoodFrame (show : Show) (number : ℕ) (state : State) (mesh : WrittenMesh) : Type 0 where
  pub named : prefix_of show ≡ Some mesh.prefix
  pub numbered : mesh.number ≡ number
  pub text : (order : List ℕ) × IsGoodOrder show.order show.criterion state order × (mesh.bytes ≡ text_in state order)

-- The meshes are those of the first of the states, in order, numbered from this number on, and each that is
-- finished is good. There is no mesh without a state.
abbrev pub AreGoodFrames : Show → ℕ → List State → List WrittenMesh → Type 0
AreGoodFrames show number states [] = ⊤
AreGoodFrames show number [] (mesh ∷ meshes) = ⊥
AreGoodFrames show number (state ∷ states) (mesh ∷ meshes) =
    (mesh.finished ≡ true → IsGoodFrame show number state mesh) × AreGoodFrames show (number + 1) states meshes

-- The words are a command with this job over a grid; the file of its grid is a text of this grid.
pub record IsRunOf (words : List (List ℕ)) (files : List NamedFile) (job : Job) (grid : HeightField) : Type 0 where
  pub grid_name : List ℕ
  pub is_command : command_of words ≡ Some (OnGrid grid_name job)
  pub valid : IsHeightField grid
  pub file_text : IsFileText grid (bytes_of files grid_name)

-- The meshes that were there stay, and behind them came those of the first frame lines, in order. Each that is finished
-- is right for the state at its line. Where the script was carried out to its end or its refusal there is one for each
-- frame line, all finished.
pub record KeepsGoodMeshes (s : Scripted) (grid : HeightField) (script : List ℕ) (before : List WrittenMesh)
    (now : Option (List WrittenMesh)) (status : Status) : Type 0 where
  pub added : List WrittenMesh
  pub behind : now ≡ Some (before ++ added)
  pub frames : AreGoodFrames s.show 1 (script_walk s grid script).frames added
  pub all_frames : IsTrue (ends_script status) → length added ≡ length (script_walk s grid script).frames
  pub all_finished : IsTrue (ends_script status) → All (λ (mesh : WrittenMesh). mesh.finished ≡ true) added

-- A mesh was certified by this line of the report, whoever made it: its bytes are the text of a conforming list of at
-- most as many triangles as the budget, at the camera that the line names no such list has a lower worst, and the line
-- tells the number of triangles and their worst.
pub record IsCertifiedMesh (c : Checking) (grid : HeightField) (mesh line : List ℕ) : Type 0 where
  pub camera : CameraAt
  pub triangles : List ℕ
  pub text : mesh ≡ text_in (checks_at c grid camera) triangles
  pub conforming : IsConforming grid.n triangles
  pub within : length triangles ≤ c.budget
  pub optimal : (others : List ℕ) → IsConforming grid.n others → length others ≤ c.budget
      → worst_of (priority_in (checks_at c grid camera)) triangles
      ≤ worst_of (priority_in (checks_at c grid camera)) others
  pub told : line ≡ certified_line camera (length triangles)
      (worst_of (priority_in (checks_at c grid camera)) triangles)

-- A fitted mesh was certified by this line of the report: its bytes are the text of a list that is a best one, whoever
-- made it, and the line tells the number of triangles and how far the surface is from them.
pub record IsCertifiedAs (spacing : ℕ) (grid : HeightField) (is_best is_fit : List ℕ → Type 0)
    (mesh line : List ℕ) : Type 0 where
  pub triangles : List ℕ
  pub text : mesh ≡ fit_text spacing grid triangles
  pub best : is_best triangles
  pub fit : is_fit triangles
  pub told : line ≡ certified_fit_line grid.n (length triangles) (deviation_of grid.n grid.heights triangles)

-- so of the words: a best one for their error or their budget
abbrev pub IsCertifiedFit : FitChecking → HeightField → List ℕ → List ℕ → Type 0
IsCertifiedFit c grid mesh line =
    IsCertifiedAs c.spacing grid (IsBestFit c.goal grid) (IsFitFor c.goal grid) mesh line

-- and of words that keep these points: the fewest triangles for their error that have the points as vertices
abbrev pub IsCertifiedKept : KeptChecking → List Point → HeightField → List ℕ → List ℕ → Type 0
IsCertifiedKept c points grid mesh line =
    IsCertifiedAs c.spacing grid (IsFewestKeeping c.thousandths points grid) (IsKeptFor c.thousandths points grid) mesh
    line

-- The mesh has the number 1 and this prefix, and its bytes are the text of a list that is a best one.
pub record IsOneMeshOf (begin : List ℕ) (spacing : ℕ) (grid : HeightField) (is_best is_fit : List ℕ → Type 0)
    (mesh : WrittenMesh) : Type 0 where
  pub triangles : List ℕ
  pub best : is_best triangles
  pub fit : is_fit triangles
  pub is_mesh : mesh ≡ mesh_with begin 1 (fit_text spacing grid triangles) true

-- The meshes that were there stay, and behind them came one at most, which is a best one if it is finished. Where the
-- run is done it came, and the report got its line: how many triangles and vertices it has, and how far the surface is
-- from it.
pub record KeepsOneMesh (begin : List ℕ) (spacing : ℕ) (grid : HeightField) (is_best is_fit : List ℕ → Type 0)
    (before now : Sinks) (all : List WrittenMesh) (status : Status) : Type 0 where
  pub added : List WrittenMesh
  pub behind : now.meshes ≡ Some (all ++ added)
  pub one : length added ≤ 1
  pub fits : All (λ (mesh : WrittenMesh). mesh.finished ≡ true → IsOneMeshOf begin spacing grid is_best is_fit mesh)
      added
  pub done : status ≡ Done → (triangles : List ℕ) × is_best triangles
      × (added ≡ mesh_with begin 1 (fit_text spacing grid triangles) true ∷ [])
      × Grows before.report now.report (fit_line grid triangles)

-- so of the words: a best mesh for their error or their budget
abbrev pub KeepsFitMesh : Fitting → HeightField → Sinks → Sinks → List WrittenMesh → Status → Type 0
KeepsFitMesh f grid before now all status =
    KeepsOneMesh f.prefix f.spacing grid (IsBestFit f.goal grid) (IsFitFor f.goal grid) before now all status

-- and of words that keep these points: the fewest triangles for their error that have the points as vertices
abbrev pub KeepsKeptMesh : Keeping → List Point → HeightField → Sinks → Sinks → List WrittenMesh → Status → Type 0
KeepsKeptMesh k points grid before now all status =
    KeepsOneMesh k.prefix k.spacing grid (IsFewestKeeping k.thousandths points grid)
    (IsKeptFor k.thousandths points grid) before now all status

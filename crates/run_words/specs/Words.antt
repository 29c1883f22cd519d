-- The words of a command line that are a command. This project's own.
-- Words: Criterion, TriangleOrder, Output, Show, as_meshes, as_strips, as_least, as_measures, as_sums, Scripted,
-- Making, Checking, Goal, Fitting, Keeping, fitting_of, FitMaking, FitChecking, KeptMaking, KeptChecking, Job,
-- Command, is_of_engine, prefix_of, is_prefix, within, number_word, least_budget, greatest_budget, greatest_tolerance, greatest_error,
-- greatest_spacing, greatest_level, greatest_seed, greatest_coordinate, is_coordinate, budget_word, spacing_word,
-- tolerance_word, error_word, in_reach, coordinate_word, Found, nothing, fill, State, state, chosen, next, is_fit,
-- may_stand, step, walk, start, first_needed, first_wanted, fit_job, make_fit_job, check_fit_job, frames_job, made_of,
-- command_at, command_of, BeginsCommand, BeginsNoCommand.
use Rattle.std.specs.Prelude.{◌≡◌, ℕ, ◌^◌, Bool, true, false, ◌&&◌, nat_le, if◌then◌else◌, IsTrue, List, [], ◌∷◌}
use Rattle.std.specs.Prelude.{◌++◌, length, Option, Some, None, is_some, is_none, codes, bytes_eq, ℤ, pos, unsigned_abs}
use Rattle.std.specs.Prelude.{unwrap_or}
use Rattle.std.specs.Option.{option_map}
use Rattle.mesh_defs.specs.BoundingBox.{CameraAt}
use Rattle.roam_edge.specs.declared.mesh_sink.TheConstants.{LONGEST_PREFIX}
use Rattle.text_laws.specs.Numbers.{number_in, signed_in}
use Rattle.roam_num.specs.Places.{thousandths_in}
use Rattle.run_words.specs.declared.table.Wanted.{Wanted}
use Rattle.run_words.specs.declared.table.Wanted.TheVariants as want
use Rattle.run_words.specs.declared.table.Kind.{Kind}
use Rattle.run_words.specs.declared.table.Kind.TheVariants as kinds
use Rattle.run_words.specs.Table.{Row, commands, tasks, goals, row_of}

-- which mesh a frame has: the best one of the budget in force, or the least one of a tolerance
pub data Criterion : Type 0 where
  OfBudget : Criterion
  OfTolerance : (tolerance : ℕ) → Criterion

-- the order in which a mesh has its triangles: depth first, or that of a strip
pub data TriangleOrder : Type 0 where
  DepthFirst : TriangleOrder
  AlongStrip : TriangleOrder

-- what is told of frames: of each its mesh, whose name begins with this prefix, and a line; of each a line on how far
-- its mesh is from the surface; or of all together their sums, of a run that is generated from this level and seed
pub data Output : Type 0 where
  Meshes : (prefix : List ℕ) → Output
  Measures : Output
  Sums : (n seed : ℕ) → Output

-- how frames are shown: which mesh each has, the order of its triangles, and what is told
pub record Show : Type 0 where
  pub criterion : Criterion
  pub order : TriangleOrder
  pub output : Output

-- as the meshes of a budget, depth first
abbrev pub as_meshes : List ℕ → Show
as_meshes begin = record { criterion = OfBudget; order = DepthFirst; output = Meshes begin }

-- as their strips
abbrev pub as_strips : List ℕ → Show
as_strips begin = record { criterion = OfBudget; order = AlongStrip; output = Meshes begin }

-- as the least meshes of a tolerance, depth first
abbrev pub as_least : List ℕ → ℕ → Show
as_least begin tolerance = record { criterion = OfTolerance tolerance; order = DepthFirst; output = Meshes begin }

-- by how far the meshes of a budget are from the surface
abbrev pub as_measures : Show
as_measures = record { criterion = OfBudget; order = DepthFirst; output = Measures }

-- by the sums of the meshes of a budget, in a generated run
abbrev pub as_sums : ℕ → ℕ → Show
as_sums n seed = record { criterion = OfBudget; order = DepthFirst; output = Sums n seed }

-- the frames of a script: its name, the greatest budget, how many world units a grid step has, and how
-- they are shown
pub record Scripted : Type 0 where
  pub script : List ℕ
  pub budget : ℕ
  pub spacing : ℕ
  pub show : Show

-- a certificate is made: where the mesh is seen from, its budget, and how many world units a grid step has
pub record Making : Type 0 where
  pub camera : CameraAt
  pub budget : ℕ
  pub spacing : ℕ

-- a mesh is checked by a certificate: the names of both files, the budget of the mesh, and how many world units a grid
-- step has
pub record Checking : Type 0 where
  pub mesh : List ℕ
  pub certificate : List ℕ
  pub budget : ℕ
  pub spacing : ℕ

-- what a mesh is fitted to: an error of at most so many thousandths of a unit of height, or a budget of triangles
pub data Goal : Type 0 where
  AtError : (thousandths : ℕ) → Goal
  InBudget : (budget : ℕ) → Goal

-- a mesh is fitted: what its name begins with, what it is fitted to, and how many world units a grid step has
pub record Fitting : Type 0 where
  pub prefix : List ℕ
  pub goal : Goal
  pub spacing : ℕ

-- a mesh is fitted that keeps points: what its name begins with, the error of at most so many thousandths of a unit of
-- height, how many world units a grid step has, and the name of the file with the points
pub record Keeping : Type 0 where
  pub prefix : List ℕ
  pub thousandths : ℕ
  pub spacing : ℕ
  pub points : List ℕ

-- the same without its points
abbrev pub fitting_of : Keeping → Fitting
fitting_of k = record { prefix = k.prefix; goal = AtError k.thousandths; spacing = k.spacing }

-- a certificate of a fitted mesh is made: what the mesh is fitted to, and how many world units a grid step has
pub record FitMaking : Type 0 where
  pub goal : Goal
  pub spacing : ℕ

-- a fitted mesh is checked by a certificate: the names of both files, what it is fitted to, and how many world units a
-- grid step has
pub record FitChecking : Type 0 where
  pub mesh : List ℕ
  pub certificate : List ℕ
  pub goal : Goal
  pub spacing : ℕ

-- a certificate of a fitted mesh that keeps points is made: the error of at most so many thousandths of a unit of
-- height, how many world units a grid step has, and the name of the file with the points
pub record KeptMaking : Type 0 where
  pub thousandths : ℕ
  pub spacing : ℕ
  pub points : List ℕ

-- a fitted mesh that keeps points is checked by a certificate: the names of both files, the error, how many world units
-- a grid step has, and the name of the file with the points
pub record KeptChecking : Type 0 where
  pub mesh : List ℕ
  pub certificate : List ℕ
  pub thousandths : ℕ
  pub spacing : ℕ
  pub points : List ℕ

-- what is done with a grid: the frames of a script, a line of facts, a certificate, a check of a mesh by one, a mesh
-- that is fitted to it, one that keeps points too, a certificate of a fitted mesh, a check of such a mesh by one, or
-- the same two of a mesh that keeps points
pub data Job : Type 0 where
  Frames : (scripted : Scripted) → Job
  Facts : Job
  Make : (making : Making) → Job
  Check : (checking : Checking) → Job
  Fit : (fitting : Fitting) → Job
  Keep : (keeping : Keeping) → Job
  MakeFit : (making : FitMaking) → Job
  CheckFit : (checking : FitChecking) → Job
  MakeKept : (making : KeptMaking) → Job
  CheckKept : (checking : KeptChecking) → Job

-- a command: a job on the grid of this name; or a generated run
pub data Command : Type 0 where
  OnGrid : (grid : List ℕ) (job : Job) → Command
  Generated : (n seed : ℕ) → Command

-- an engine makes the frames that are shown so: those of a budget; the meshes of a tolerance are made without one
abbrev pub is_of_engine : Show → Bool
is_of_engine show = elim show.criterion as (λ _. Bool) [ OfBudget ↦ true | OfTolerance tolerance ↦ false ]

-- what the names of meshes begin with, where meshes are told
abbrev pub prefix_of : Show → Option (List ℕ)
prefix_of show =
    elim show.output as (λ _. Option (List ℕ)) [ Meshes prefix ↦ Some prefix | Measures ↦ None | Sums n seed ↦ None ]

-- a prefix has at least 1 byte, and no more than a mesh sink takes
abbrev pub is_prefix : List ℕ → Bool
is_prefix prefix = nat_le 1 (length prefix) && nat_le (length prefix) LONGEST_PREFIX

-- a number, if it lies within these bounds
abbrev pub within : ℕ → ℕ → Option ℕ → Option ℕ
within low high None = None
within low high (Some number) = if nat_le low number && nat_le number high then Some number else None

-- the number of a word of 1 to 19 digits, if it lies within these bounds
abbrev pub number_word : ℕ → ℕ → List ℕ → Option ℕ
number_word low high word = within low high (number_in 19 word)

-- the bounds of a budget, in triangles
abbrev pub least_budget : ℕ
least_budget = 2

abbrev pub greatest_budget : ℕ
greatest_budget = 1048576

-- the greatest tolerance, as a priority
abbrev pub greatest_tolerance : ℕ
greatest_tolerance = 999999999999

-- the greatest error, in thousandths of a unit of height: 65535.999
abbrev pub greatest_error : ℕ
greatest_error = 65535999

-- the greatest spacing, in world units a grid step
abbrev pub greatest_spacing : ℕ
greatest_spacing = 1024

-- the greatest level of a grid, and the greatest seed
abbrev pub greatest_level : ℕ
greatest_level = 11

abbrev pub greatest_seed : ℕ
greatest_seed = 4294967295

-- the greatest size of a coordinate of a camera, in world units
abbrev pub greatest_coordinate : ℕ
greatest_coordinate = 2 ^ 30

abbrev pub is_coordinate : ℤ → Bool
is_coordinate v = nat_le (unsigned_abs v) greatest_coordinate

abbrev pub budget_word : List ℕ → Option ℕ
budget_word = number_word least_budget greatest_budget

abbrev pub spacing_word : List ℕ → Option ℕ
spacing_word = number_word 1 greatest_spacing

abbrev pub tolerance_word : List ℕ → Option ℕ
tolerance_word = number_word 0 greatest_tolerance

-- the thousandths of a word of 1 to 16 digits, or of these, a point and 1 to 3 digits, if they lie within their bound
abbrev pub error_word : List ℕ → Option ℕ
error_word word = within 0 greatest_error (thousandths_in word)

-- a number, if it may be a coordinate of a camera
abbrev pub in_reach : Option ℤ → Option ℤ
in_reach None = None
in_reach (Some v) = if is_coordinate v then Some v else None

-- the number of a word of an optional `-` and 1 to 18 digits, if it is at most 2 ^ 30 in size
abbrev pub coordinate_word : List ℕ → Option ℤ
coordinate_word word = in_reach (signed_in word)

-- What is read of the words of a command: which command it is, and what stands in each kind of place.
pub record Found : Type 0 where
  pub kind : Kind
  pub grid : List ℕ
  pub script : List ℕ
  pub prefix : List ℕ
  pub mesh : List ℕ
  pub certificate : List ℕ
  pub points : Option (List ℕ)
  pub camera : CameraAt
  pub level : ℕ
  pub seed : ℕ
  pub budget : ℕ
  pub tolerance : ℕ
  pub thousandths : ℕ
  pub goal : Goal
  pub spacing : ℕ

-- before the first word: a value within its bounds for each place that a command may lack
abbrev pub nothing : Found
nothing = record {
  kind = kinds.Info;
  grid = [];
  script = [];
  prefix = codes "o";
  mesh = [];
  certificate = [];
  points = None;
  camera = record { x = pos 0; y = pos 0; z = pos 0 };
  level = 1;
  seed = 0;
  budget = least_budget;
  tolerance = 0;
  thousandths = 0;
  goal = AtError 0;
  spacing = 1;
}

-- what is found with this word in a place; None of a word that does not fit it, and of one that names a row
abbrev pub fill : Wanted → List ℕ → Found → Option Found
fill want.Grid word f = Some (record f { grid = word })
fill want.Script word f = Some (record f { script = word })
fill want.Mesh word f = Some (record f { mesh = word })
fill want.Certificate word f = Some (record f { certificate = word })
fill want.Points word f = Some (record f { points = Some word })
fill want.Prefix word f = if is_prefix word then Some (record f { prefix = word }) else None
fill want.X word f = option_map (λ v. record f { camera = record { x = v; y = f.camera.y; z = f.camera.z } })
    (coordinate_word word)
fill want.Y word f = option_map (λ v. record f { camera = record { x = f.camera.x; y = v; z = f.camera.z } })
    (coordinate_word word)
fill want.Z word f = option_map (λ v. record f { camera = record { x = f.camera.x; y = f.camera.y; z = v } })
    (coordinate_word word)
fill want.Level word f = option_map (λ k. record f { level = k }) (number_word 1 greatest_level word)
fill want.Seed word f = option_map (λ k. record f { seed = k }) (number_word 0 greatest_seed word)
fill want.Budget word f = option_map (λ k. record f { budget = k; goal = InBudget k }) (budget_word word)
fill want.Error word f = option_map (λ k. record f { thousandths = k; goal = AtError k }) (error_word word)
fill want.Tolerance word f = option_map (λ k. record f { tolerance = k }) (tolerance_word word)
fill want.Spacing word f = option_map (λ k. record f { spacing = k }) (spacing_word word)
fill want.Keep word f = if bytes_eq word (codes "keep") then Some f else None
fill _ word f = None

-- behind some words of a command: what was found in them, and what is still wanted
pub record State : Type 0 where
  pub found : Found
  pub stage : List Wanted

abbrev pub state : Found → List Wanted → State
state f places = record { found = f; stage = places }

-- behind the word that names this row
abbrev pub chosen : Found → Option Row → Option State
chosen f None = None
chosen f (Some r) = Some (state (record f { kind = unwrap_or r.kind f.kind }) r.behind)

-- behind a word where this is wanted, and the rest behind it; None of a word that does not fit
abbrev pub next : Wanted → List Wanted → List ℕ → Found → Option State
next want.Command rest word f = chosen f (row_of commands word)
next want.Task rest word f = chosen f (row_of tasks word)
next want.Goal rest word f = chosen f (row_of goals word)
next place rest word f = option_map (λ g. state g rest) (fill place word f)

-- a word may stand where this is wanted
abbrev pub is_fit : Wanted → List ℕ → Bool
is_fit place word = is_some (next place [] word nothing)

-- a word may stand where this is wanted, if a word is wanted there
abbrev pub may_stand : Option Wanted → List ℕ → Bool
may_stand None word = false
may_stand (Some place) word = is_fit place word

-- behind one word more; None once a word was wrong
abbrev pub step : Option State → List ℕ → Option State
step None word = None
step (Some s) word = elim s.stage as (λ _. Option State) [ [] ↦ None | place ∷ rest ↦ next place rest word s.found ]

abbrev pub walk : Option State → List (List ℕ) → Option State
walk s [] = s
walk s (word ∷ words) = walk (step s word) words

-- before the first word
abbrev pub start : Option State
start = Some (state nothing (want.Command ∷ []))

-- what has to stand next; None where the command is whole, though it may go on: points may be kept or not
abbrev pub first_needed : List Wanted → Option Wanted
first_needed [] = None
first_needed (want.Keep ∷ rest) = None
first_needed (place ∷ rest) = Some place

-- what is wanted next; None where nothing may follow
abbrev pub first_wanted : List Wanted → Option Wanted
first_wanted [] = None
first_wanted (place ∷ rest) = Some place

-- a mesh is fitted, or a certificate of one is made, or checked; where points are kept, they are read too
abbrev pub fit_job : Found → Option (List ℕ) → Job
fit_job f None = Fit (record { prefix = f.prefix; goal = f.goal; spacing = f.spacing })
fit_job f (Some p) =
    Keep (record { prefix = f.prefix; thousandths = f.thousandths; spacing = f.spacing; points = p })

abbrev pub make_fit_job : Found → Option (List ℕ) → Job
make_fit_job f None = MakeFit (record { goal = f.goal; spacing = f.spacing })
make_fit_job f (Some p) = MakeKept (record { thousandths = f.thousandths; spacing = f.spacing; points = p })

abbrev pub check_fit_job : Found → Option (List ℕ) → Job
check_fit_job f None =
    CheckFit (record { mesh = f.mesh; certificate = f.certificate; goal = f.goal; spacing = f.spacing })
check_fit_job f (Some p) = CheckKept (record {
  mesh = f.mesh;
  certificate = f.certificate;
  thousandths = f.thousandths;
  spacing = f.spacing;
  points = p;
})

-- the frames of a script within a budget, shown so
abbrev pub frames_job : Found → ℕ → Show → Job
frames_job f most shown = Frames (record { script = f.script; budget = most; spacing = f.spacing; show = shown })

-- The command that is found; the meshes of a tolerance have no budget, so a script may set any.
abbrev pub made_of : Kind → Found → Command
made_of kinds.Mesh f = OnGrid f.grid (frames_job f f.budget (as_meshes f.prefix))
made_of kinds.Strip f = OnGrid f.grid (frames_job f f.budget (as_strips f.prefix))
made_of kinds.Least f = OnGrid f.grid (frames_job f greatest_budget (as_least f.prefix f.tolerance))
made_of kinds.Measure f = OnGrid f.grid (frames_job f f.budget as_measures)
made_of kinds.Make f = OnGrid f.grid (Make (record { camera = f.camera; budget = f.budget; spacing = f.spacing }))
made_of kinds.Check f = OnGrid f.grid (Check (record {
  mesh = f.mesh;
  certificate = f.certificate;
  budget = f.budget;
  spacing = f.spacing;
}))
made_of kinds.MakeFit f = OnGrid f.grid (make_fit_job f f.points)
made_of kinds.CheckFit f = OnGrid f.grid (check_fit_job f f.points)
made_of kinds.Fit f = OnGrid f.grid (fit_job f f.points)
made_of kinds.Info f = OnGrid f.grid Facts
made_of kinds.Try f = Generated f.level f.seed

-- the command behind its last word; None where a word was wrong, or one has to follow
abbrev pub command_at : Option State → Option Command
command_at None = None
command_at (Some s) = if is_none (first_needed s.stage) then Some (made_of s.found.kind s.found) else None

-- The command that the words are, None of other words: the one that the table has of them, word by word.
abbrev pub command_of : List (List ℕ) → Option Command
command_of words = command_at (walk start words)

-- these words begin a command: with some words behind them they are one
abbrev pub BeginsCommand : List (List ℕ) → Type 0
BeginsCommand words = (behind : List (List ℕ)) × IsTrue (is_some (command_of (words ++ behind)))

-- whatever stands behind these words, they are no command
abbrev pub BeginsNoCommand : List (List ℕ) → Type 0
BeginsNoCommand words = (behind : List (List ℕ)) → command_of (words ++ behind) ≡ None

-- Outcomes: there is one, it exists, what is accepted ends with Done, and its pictures are certified.
use Rattle.std.proofs.Common.{◌≡◌, ℕ, ◌≤◌, ◌&&◌, Bool, true, false, nat_le, if◌then◌else◌, IsTrue, is_some, is_none}
use Rattle.std.proofs.Common.{List, [], ◌∷◌, All, Option, Some, None, IfSome, Result, Ok, Err, refl, sym, ◌∙◌, ap}
use Rattle.std.proofs.Common.{subst, arith, codes, bytes_eq, length, ◌^◌, ℤ}
use Rattle.std.specs.Prelude.{unsigned_abs}
use Rattle.std.specs.List.{AllByRecursion}
use Rattle.std.specs.Option.{option_map}
use Rattle.std.proofs.lemmas.List.Elements.{All-from_recursion}
use Rattle.std.proofs.lemmas.Bool.{leb-true}
use Rattle.mesh_defs.specs.declared.point.Point.{Point}
use Rattle.mesh_defs.specs.HeightField.{HeightField}
use Rattle.mesh_defs.specs.State.{State, start_state}
use Rattle.roam_edge.specs.Shelf.{NamedFile, bytes_of}
use Rattle.text_laws.specs.Numbers.{number_in, signed_in}
use Rattle.roam_num.specs.Places.{thousandths_in}
use Rattle.pgm_grid.specs.declared.fault.PgmFault.{PgmFault}
use Rattle.pgm_grid.specs.Progress.{grid_of}
use Rattle.pgm_grid.specs.Laws.{TextsAreRead}
use Rattle.cert_text.specs.Certificate.{Certificate}
use Rattle.roam_gen.specs.Generated.{made_grid, made_lines}
use Rattle.run_laws.specs.declared.status.Status.TheVariants.{Done, Usage, GridRefused}
use Rattle.run_laws.specs.Walk.{Refusal, Walk, start_walk}
use Rattle.run_words.specs.declared.table.Wanted.{Wanted}
use Rattle.run_words.specs.declared.table.Wanted.TheVariants as want
use Rattle.run_words.specs.declared.table.Kind.{Kind}
use Rattle.run_words.specs.declared.table.Kind.TheVariants as kinds
use Rattle.run_words.specs.Table.{Row, commands, tasks, goals, row_of}
use Rattle.run_words.specs.Words.{Show, as_sums, is_of_engine, Scripted, Making, Job, Frames, Facts, Make, Check, Fit}
use Rattle.run_words.specs.Words.{Keep, MakeFit, CheckFit, MakeKept, CheckKept, Command, OnGrid, Generated}
use Rattle.run_words.specs.Words.{greatest_level, greatest_seed, greatest_tolerance, greatest_error, greatest_spacing}
use Rattle.run_words.specs.Words.{least_budget, greatest_budget, within, number_word, budget_word, spacing_word}
use Rattle.run_words.specs.Words.{tolerance_word, error_word, is_prefix, is_coordinate, in_reach, coordinate_word}
use Rattle.run_words.specs.Words.{Found, fill, State as Reading, state, chosen, step, walk, start, first_needed}
use Rattle.run_words.specs.Words.{fit_job, make_fit_job, check_fit_job, made_of, command_at, command_of}
use Rattle.run_laws.specs.CertFile.{cert_in}
use Rattle.run_laws.specs.PointFile.{points_in}
use Rattle.run_laws.specs.Picture.{Picture, ArePictures, IsCertified}
use Rattle.run_laws.specs.ReportText.{info_line, grid_refusal}
use Rattle.run_laws.specs.Outcome.{Outcome, plain_outcome, text_outcome, stop_status, engine_end, engine_for}
use Rattle.run_laws.specs.Outcome.{frames_outcome, script_walk, made_budget, made_spacing, made_walk}
use Rattle.run_words.specs.Jobs.{MakesNoCertificate}
use Rattle.run_laws.specs.Outcome.{IsFramesOutcome, IsCheckOutcome, IsJobOutcome, IsKeepOutcome, IsKeptMakeOutcome}
use Rattle.run_laws.specs.Outcome.{IsGridOutcome, IsOutcome}
use Rattle.run_laws.specs.Promise.{IsAcceptedJob, IsAccepted}
use Rattle.run_laws.specs.Laws.{FramesExist, RunsAreUnique, LevelsAreInRange, AreStates, BudgetsAreTwo}
use Rattle.run_laws.proofs.PictureLemmas.{FramesAreUnique, SetsAreLists, ArePictures-unique, pictures_of, no-members}
use Rattle.run_laws.proofs.CertifyLemmas.{IsOneText, make-text, check-text, check-unique, check-exists, check-done}
use Rattle.run_laws.proofs.CertifyLemmas.{CertificatesExist, make-exists}
use Rattle.run_laws.proofs.FitLemmas.{IsGoalOfWords, fit-unique, fit-exists}
use Rattle.run_laws.proofs.KeepLemmas.{keep-unique, keep-exists, keep-done, keep-plain}
use Rattle.run_laws.proofs.FitCertifyLemmas.{fit_make-text, fit_check-text, fit_check-unique, fit_check-exists}
use Rattle.run_laws.proofs.FitCertifyLemmas.{fit_check-done, fit_make-exists}
use Rattle.run_laws.proofs.KeptCertifyLemmas.{kept_make-text, kept_make-exists, kept_make-done, kept_check-text}
use Rattle.run_laws.proofs.KeptCertifyLemmas.{kept_check-unique, kept_check-exists, kept_check-done}
use Rattle.run_laws.proofs.WalkLemmas.{walk_of-states, made-states, along-stop}

-- what is accepted ends with Done

status-of : (end made : Outcome) → end ≡ made → end.status ≡ made.status
status-of end made e = ap (λ (o : Outcome). o.status) e

job-done : (job : Job) (grid : HeightField) (files : List NamedFile) (end : Outcome) → IsAcceptedJob job grid files →
    IsJobOutcome job grid files end → end.status ≡ Done
job-done (Frames s) grid files end good is = status-of end _ is.2 ∙ ap stop_status good
job-done Facts grid files end good is = status-of end _ is
job-done (Make m) grid files end good is = status-of end _ is.2
job-done (Check c) grid files end good is =
    let P : Result Certificate ℕ → Type 0 = λ r. IsCheckOutcome c grid r (bytes_of files c.mesh) end in
    check-done c grid good.0 (bytes_of files c.mesh) end good.2 good.3 (subst P good.1 is)
job-done (Fit f) grid files end good is = status-of end _ is.2
job-done (Keep k) grid files end good is =
    let P : Result (List Point) Refusal → Type 0 = λ r. IsKeepOutcome k grid r end in
    keep-done k grid good.0 end (subst P good.1 is)
job-done (MakeFit m) grid files end good is = status-of end _ is.2
job-done (CheckFit c) grid files end good is = fit_check-done c grid files end good is
job-done (MakeKept m) grid files end good is =
    let P : Result (List Point) Refusal → Type 0 = λ r. IsKeptMakeOutcome m grid r end in
    kept_make-done m grid good.0 end (subst P good.1 is)
job-done (CheckKept c) grid files end good is = kept_check-done c grid files end good is

said-done : TextsAreRead → (said : Option Command) (files : List NamedFile) (end : Outcome) →
    IsAccepted said files → IsOutcome said files end → end.status ≡ Done
said-done read None files end good is = absurd good
said-done read (Some (OnGrid name job)) files end good is =
    let P : Result HeightField PgmFault → Type 0 = λ r. IsGridOutcome job r files end in
    job-done job good.0 files end good.3 (subst P (read good.0 (bytes_of files name) good.1 good.2) is)
said-done read (Some (Generated n seed)) files end good is =
    status-of end _ is.2 ∙ ap stop_status (along-stop
    (start_walk made_budget (start_state (made_grid n seed) made_spacing made_budget)) (made_lines n seed))

-- each outcome of words and files that are accepted ends with Done
pub outcome-done : TextsAreRead → (words : List (List ℕ)) (files : List NamedFile) (end : Outcome) →
    IsAccepted (command_of words) files → IsOutcome (command_of words) files end → end.status ≡ Done
outcome-done read words = said-done read (command_of words)

-- there is one outcome

-- a walk has one outcome alone
pub frames_outcome-unique : FramesAreUnique → SetsAreLists → RunsAreUnique →
    (show : Show) (files : ℕ) (walk : Walk) (end other : Outcome)
    → IsFramesOutcome show files walk end → IsFramesOutcome show files walk other → end ≡ other
frames_outcome-unique one lists runs show files walk end other f g =
    f.2 ∙ (ap (λ (ps : List Picture). frames_outcome show files walk ps)
    (ArePictures-unique one lists runs show [] walk.frames f.0 g.0 f.1 g.1) ∙ sym g.2)

abbrev free-job : Job → Type 0
free-job job = MakesNoCertificate (Some (OnGrid [] job))

job-unique : FramesAreUnique → SetsAreLists → RunsAreUnique →
    (job : Job) (r : Result HeightField PgmFault) (files : List NamedFile) (end other : Outcome)
    → free-job job → IsGridOutcome job r files end → IsGridOutcome job r files other → end ≡ other
job-unique one lists runs (Frames s) (Ok grid) files end other free f g =
    frames_outcome-unique one lists runs s.show 2 (script_walk s grid (bytes_of files s.script)) end other f g
job-unique one lists runs Facts (Ok grid) files end other free f g = f ∙ sym g
job-unique one lists runs (Make m) (Ok grid) files end other free f g = absurd free
job-unique one lists runs (Check c) (Ok grid) files end other free f g =
    check-unique c grid (cert_in grid.n (bytes_of files c.certificate)) (bytes_of files c.mesh) end other f g
job-unique one lists runs (Fit job) (Ok grid) files end other free f g = fit-unique job grid files end other f g
job-unique one lists runs (Keep k) (Ok grid) files end other free f g =
    keep-unique k grid (points_in grid.n (bytes_of files k.points)) end other f g
job-unique one lists runs (MakeFit m) (Ok grid) files end other free f g = absurd free
job-unique one lists runs (CheckFit c) (Ok grid) files end other free f g =
    fit_check-unique c grid files end other f g
job-unique one lists runs (MakeKept m) (Ok grid) files end other free f g = absurd free
job-unique one lists runs (CheckKept c) (Ok grid) files end other free f g =
    kept_check-unique c grid files end other f g
job-unique one lists runs job (Err fault) files end other free f g = f ∙ sym g

words-unique : FramesAreUnique → SetsAreLists → RunsAreUnique →
    (command : Option Command) (files : List NamedFile) (end other : Outcome)
    → MakesNoCertificate command → IsOutcome command files end → IsOutcome command files other → end ≡ other
words-unique one lists runs None files end other free f g = f ∙ sym g
words-unique one lists runs (Some (OnGrid name job)) files end other free f g =
    job-unique one lists runs job (grid_of (bytes_of files name)) files end other free f g
words-unique one lists runs (Some (Generated n seed)) files end other free f g =
    frames_outcome-unique one lists runs (as_sums n seed) 0 (made_walk n seed) end other f g

-- words that make no certificate have one outcome alone over the same files
pub outcome-unique : FramesAreUnique → SetsAreLists → RunsAreUnique →
    (words : List (List ℕ)) (files : List NamedFile) (end other : Outcome) → MakesNoCertificate (command_of words)
    → IsOutcome (command_of words) files end → IsOutcome (command_of words) files other → end ≡ other
outcome-unique one lists runs words files end other free f g =
    words-unique one lists runs (command_of words) files end other free f g

-- and one engine, where there are several outcomes too

engine-of : (end other : Outcome) → end ≡ other → end.engine ≡ other.engine
engine-of end other same = ap (λ (o : Outcome). o.engine) same

job-engine : FramesAreUnique → SetsAreLists → RunsAreUnique →
    (job : Job) (r : Result HeightField PgmFault) (files : List NamedFile) (end other : Outcome)
    → IsGridOutcome job r files end → IsGridOutcome job r files other → end.engine ≡ other.engine
job-engine one lists runs (Frames s) r files end other f g =
    engine-of end other (job-unique one lists runs (Frames s) r files end other tt f g)
job-engine one lists runs Facts r files end other f g =
    engine-of end other (job-unique one lists runs Facts r files end other tt f g)
job-engine one lists runs (Make m) (Ok grid) files end other f g = engine-of end _ f.2 ∙ sym (engine-of other _ g.2)
job-engine one lists runs (Make m) (Err fault) files end other f g = engine-of end other (f ∙ sym g)
job-engine one lists runs (Check c) r files end other f g =
    engine-of end other (job-unique one lists runs (Check c) r files end other tt f g)
job-engine one lists runs (Fit job) r files end other f g =
    engine-of end other (job-unique one lists runs (Fit job) r files end other tt f g)
job-engine one lists runs (Keep k) r files end other f g =
    engine-of end other (job-unique one lists runs (Keep k) r files end other tt f g)
job-engine one lists runs (MakeFit m) (Ok grid) files end other f g = engine-of end _ f.2 ∙ sym (engine-of other _ g.2)
job-engine one lists runs (MakeFit m) (Err fault) files end other f g = engine-of end other (f ∙ sym g)
job-engine one lists runs (CheckFit c) r files end other f g =
    engine-of end other (job-unique one lists runs (CheckFit c) r files end other tt f g)
job-engine one lists runs (MakeKept m) (Ok grid) files end other f g =
    let answer : Result (List Point) Refusal = points_in grid.n (bytes_of files m.points) in
    engine-of end _ (kept_make-text m grid answer end f).3
    ∙ sym (engine-of other _ (kept_make-text m grid answer other g).3)
job-engine one lists runs (MakeKept m) (Err fault) files end other f g = engine-of end other (f ∙ sym g)
job-engine one lists runs (CheckKept c) r files end other f g =
    engine-of end other (job-unique one lists runs (CheckKept c) r files end other tt f g)

words-engine : FramesAreUnique → SetsAreLists → RunsAreUnique →
    (command : Option Command) (files : List NamedFile) (end other : Outcome)
    → IsOutcome command files end → IsOutcome command files other → end.engine ≡ other.engine
words-engine one lists runs None files end other f g = engine-of end other (f ∙ sym g)
words-engine one lists runs (Some (OnGrid name job)) files end other f g =
    job-engine one lists runs job (grid_of (bytes_of files name)) files end other f g
words-engine one lists runs (Some (Generated n seed)) files end other f g =
    engine-of end other (words-unique one lists runs (Some (Generated n seed)) files end other tt f g)

-- all outcomes of the same words and files leave the same engine
pub outcome-engine : FramesAreUnique → SetsAreLists → RunsAreUnique →
    (words : List (List ℕ)) (files : List NamedFile) (end other : Outcome)
    → IsOutcome (command_of words) files end → IsOutcome (command_of words) files other → end.engine ≡ other.engine
outcome-engine one lists runs words files end other f g =
    words-engine one lists runs (command_of words) files end other f g

-- the budget of a command is at least 2, and a generated grid has a level

-- a certificate is made for a budget within its bounds, and for a camera within its reach
pub record IsWithinReach (m : Making) : Type 0 where
  pub low : least_budget ≤ m.budget
  pub high : m.budget ≤ greatest_budget
  pub x_near : unsigned_abs m.camera.x ≤ 2 ^ 30
  pub y_near : unsigned_abs m.camera.y ≤ 2 ^ 30
  pub z_near : unsigned_abs m.camera.z ≤ 2 ^ 30

-- of a job, that a budget is at least 2
abbrev pub HasBudget : Job → Type 0
HasBudget (Frames s) = 2 ≤ s.budget
HasBudget (Make m) = IsWithinReach m
HasBudget (Fit f) = IsGoalOfWords f.goal
HasBudget (MakeFit m) = IsGoalOfWords m.goal
HasBudget (MakeKept m) = m.thousandths ≤ greatest_error
HasBudget job = Unit {0}

abbrev CommandHasBudget : Command → Type 0
CommandHasBudget (OnGrid name job) = HasBudget job
CommandHasBudget (Generated n seed) = (1 ≤ n) × (n ≤ 11)

-- so of what is read of words
abbrev IsInBounds : Found → Type 0
IsInBounds f = ((1 ≤ f.level) × (f.level ≤ 11)) × ((least_budget ≤ f.budget) × (f.budget ≤ greatest_budget))
    × (f.thousandths ≤ greatest_error) × IsGoalOfWords f.goal
    × ((unsigned_abs f.camera.x ≤ 2 ^ 30) × (unsigned_abs f.camera.y ≤ 2 ^ 30) × (unsigned_abs f.camera.z ≤ 2 ^ 30))

made-budget : (kind : Kind) (f : Found) → IsInBounds f → CommandHasBudget (made_of kind f)
made-budget kinds.Mesh f b = b.1.0
made-budget kinds.Strip f b = b.1.0
made-budget kinds.Least f b = omega arith
made-budget kinds.Measure f b = b.1.0
made-budget kinds.Make f b =
    record { low = b.1.0; high = b.1.1; x_near = b.4.0; y_near = b.4.1; z_near = b.4.2 }
made-budget kinds.Check f b = tt
made-budget kinds.MakeFit f b = by-points f.points
  where
    by-points : (p : Option (List ℕ)) → HasBudget (make_fit_job f p)
    by-points None = b.3
    by-points (Some p) = b.2
made-budget kinds.CheckFit f b = by-points f.points
  where
    by-points : (p : Option (List ℕ)) → HasBudget (check_fit_job f p)
    by-points None = tt
    by-points (Some p) = tt
made-budget kinds.Fit f b = by-points f.points
  where
    by-points : (p : Option (List ℕ)) → HasBudget (fit_job f p)
    by-points None = b.3
    by-points (Some p) = tt
made-budget kinds.Info f b = tt
made-budget kinds.Try f b = b.0

-- a value that is let through has what its test says
if-both : {A : Type 0} (P : A → Type 0) (s t : Bool) (a : A) → (s ≡ true → t ≡ true → P a) →
    IfSome (if s && t then Some a else None) P
if-both P true true a p = p refl refl
if-both P true false a p = tt
if-both P false t a p = tt

within-some : (low high : ℕ) (from : Option ℕ) → IfSome (within low high from) (λ k. (low ≤ k) × (k ≤ high))
within-some low high None = tt
within-some low high (Some k) =
    if-both (λ k. (low ≤ k) × (k ≤ high)) (nat_le low k) (nat_le k high) k
    (λ s t. (leb-true low k s, leb-true k high t))

reach-some : (from : Option ℤ) → IfSome (in_reach from) (λ v. unsigned_abs v ≤ 2 ^ 30)
reach-some None = tt
reach-some (Some v) = let-through (is_coordinate v) refl
  where
    let-through : (t : Bool) → is_coordinate v ≡ t → IfSome (if t then Some v else None) (λ v. unsigned_abs v ≤ 2 ^ 30)
    let-through true e = leb-true (unsigned_abs v) (2 ^ 30) e
    let-through false e = tt

if-mapped : {A B : Type 0} (P : A → Type 0) (Q : B → Type 0) (f : A → B) → ((a : A) → P a → Q (f a)) → (o : Option A)
    → IfSome o P → IfSome (option_map f o) Q
if-mapped P Q f kept (Some a) p = kept a p
if-mapped P Q f kept None p = tt

if-test : {A : Type 0} (P : A → Type 0) (t : Bool) (a : A) → P a → IfSome (if t then Some a else None) P
if-test P true a p = p
if-test P false a p = tt

-- each word keeps them
fill-bounds : (place : Wanted) (word : List ℕ) (f : Found) → IsInBounds f → IfSome (fill place word f) IsInBounds
fill-bounds want.Prefix word f b = if-test IsInBounds (is_prefix word) (record f { prefix = word }) b
fill-bounds want.Keep word f b = if-test IsInBounds (bytes_eq word (codes "keep")) f b
fill-bounds want.X word f b =
    if-mapped (λ v. unsigned_abs v ≤ 2 ^ 30) IsInBounds _
    (λ v r. (b.0, b.1, b.2, b.3, (r, b.4.1, b.4.2))) (coordinate_word word) (reach-some (signed_in word))
fill-bounds want.Y word f b =
    if-mapped (λ v. unsigned_abs v ≤ 2 ^ 30) IsInBounds _
    (λ v r. (b.0, b.1, b.2, b.3, (b.4.0, r, b.4.2))) (coordinate_word word) (reach-some (signed_in word))
fill-bounds want.Z word f b =
    if-mapped (λ v. unsigned_abs v ≤ 2 ^ 30) IsInBounds _
    (λ v r. (b.0, b.1, b.2, b.3, (b.4.0, b.4.1, r))) (coordinate_word word) (reach-some (signed_in word))
fill-bounds want.Level word f b =
    if-mapped (λ k. (1 ≤ k) × (k ≤ greatest_level)) IsInBounds _
    (λ k r. (r, b.1, b.2, b.3, b.4)) (number_word 1 greatest_level word)
    (within-some 1 greatest_level (number_in 19 word))
fill-bounds want.Seed word f b =
    if-mapped (λ k. (0 ≤ k) × (k ≤ greatest_seed)) IsInBounds _
    (λ k r. b) (number_word 0 greatest_seed word) (within-some 0 greatest_seed (number_in 19 word))
fill-bounds want.Budget word f b =
    if-mapped (λ k. (least_budget ≤ k) × (k ≤ greatest_budget)) IsInBounds _
    (λ k r. (b.0, r, b.2, r.0, b.4)) (budget_word word) (within-some least_budget greatest_budget (number_in 19 word))
fill-bounds want.Error word f b =
    if-mapped (λ k. (0 ≤ k) × (k ≤ greatest_error)) IsInBounds _
    (λ k r. (b.0, b.1, r.1, r.1, b.4)) (error_word word) (within-some 0 greatest_error (thousandths_in word))
fill-bounds want.Tolerance word f b =
    if-mapped (λ k. (0 ≤ k) × (k ≤ greatest_tolerance)) IsInBounds _
    (λ k r. b) (tolerance_word word) (within-some 0 greatest_tolerance (number_in 19 word))
fill-bounds want.Spacing word f b =
    if-mapped (λ k. (1 ≤ k) × (k ≤ greatest_spacing)) IsInBounds _
    (λ k r. b) (spacing_word word) (within-some 1 greatest_spacing (number_in 19 word))
fill-bounds want.Command word f b = tt
fill-bounds want.Task word f b = tt
fill-bounds want.Goal word f b = tt
fill-bounds place word f b = b

abbrev IsReadingInBounds : Reading → Type 0
IsReadingInBounds s = IsInBounds s.found

chosen-bounds : (f : Found) (r : Option Row) → IsInBounds f → IfSome (chosen f r) IsReadingInBounds
chosen-bounds f None b = tt
chosen-bounds f (Some r) b = b

place-bounds : (place : Wanted) (rest : List Wanted) (word : List ℕ) (f : Found) → IsInBounds f →
    IfSome (option_map (λ g. state g rest) (fill place word f)) IsReadingInBounds
place-bounds place rest word f b =
    if-mapped IsInBounds IsReadingInBounds (λ g. state g rest) (λ g r. r) (fill place word f)
    (fill-bounds place word f b)

step-bounds : (f : Found) (stage : List Wanted) (word : List ℕ) → IsInBounds f →
    IfSome (step (Some (state f stage)) word) IsReadingInBounds
step-bounds f [] word b = tt
step-bounds f (want.Command ∷ rest) word b = chosen-bounds f (row_of commands word) b
step-bounds f (want.Task ∷ rest) word b = chosen-bounds f (row_of tasks word) b
step-bounds f (want.Goal ∷ rest) word b = chosen-bounds f (row_of goals word) b
step-bounds f (place ∷ rest) word b = place-bounds place rest word f b

walk-bounds : (s : Option Reading) (words : List (List ℕ)) → IfSome s IsReadingInBounds →
    IfSome (walk s words) IsReadingInBounds
walk-bounds s [] b = b
walk-bounds None (word ∷ words) b = walk-bounds None words tt
walk-bounds (Some s) (word ∷ words) b =
    walk-bounds (step (Some s) word) words (step-bounds s.found s.stage word b)

at-budget : (s : Option Reading) → IfSome s IsReadingInBounds → IfSome (command_at s) CommandHasBudget
at-budget None b = tt
at-budget (Some s) b =
    if-test CommandHasBudget (is_none (first_needed s.stage)) (made_of s.found.kind s.found)
    (made-budget s.found.kind s.found b)

words-budget : (words : List (List ℕ)) (command : Command) → command_of words ≡ Some command → CommandHasBudget command
words-budget words command is =
    let low : (least_budget ≤ 2) × (2 ≤ greatest_budget) = (omega arith, omega arith) in
    let P : Option Command → Type 0 = λ c. IfSome c CommandHasBudget in
    subst P is (at-budget (walk start words) (walk-bounds start words
    ((omega arith, omega arith), low, omega arith, omega arith, (omega arith, omega arith, omega arith))))

-- the budget of a job of words is at least 2
pub command-budget : (words : List (List ℕ)) (name : List ℕ) (job : Job) →
    command_of words ≡ Some (OnGrid name job) → HasBudget job
command-budget words name job is = words-budget words (OnGrid name job) is

-- the walk of a script from a budget of at least 2

-- each state at a frame line of a script has the level of the grid and a budget of at least 2
pub script-states : BudgetsAreTwo → (s : Scripted) (grid : HeightField) (script : List ℕ) → 2 ≤ s.budget →
    AreStates grid.n (script_walk s grid script).frames
script-states two s grid script low =
    (walk_of-states two grid.n (start_walk s.budget (start_state grid s.spacing s.budget)) script
    (record { level = refl; low = low; frames = tt })).frames

-- a generated script has 105 lines
pub made_lines-count : (n seed : ℕ) → length (made_lines n seed) ≡ 105
unfolding made_lines
made_lines-count n seed = refl

-- the level of a generated grid
pub made_grid-level : (n seed : ℕ) → (made_grid n seed).n ≡ n
unfolding made_grid
made_grid-level n seed = refl

-- and its maxval
pub made_grid-maxval : (n seed : ℕ) → (made_grid n seed).maxval ≡ 65535
unfolding made_grid
made_grid-maxval n seed = refl

-- the walk of a generated run
made_walk-states : (n seed : ℕ) → AreStates (made_grid n seed).n (made_walk n seed).frames
made_walk-states n seed =
    let grid : HeightField = made_grid n seed in
    (made-states grid.n n seed (start_walk made_budget (start_state grid made_spacing made_budget))
    (record { level = refl; low = omega arith; frames = tt })).frames

-- an outcome exists

-- a script over a grid of a level from 1 to 14 has an outcome, from a budget of at least 2
pub script_outcome-exists : BudgetsAreTwo → FramesExist → (s : Scripted) (grid : HeightField) (script : List ℕ) →
    2 ≤ s.budget → (1 ≤ grid.n) × (grid.n ≤ 14)
    → (end : Outcome) × IsFramesOutcome s.show 2 (script_walk s grid script) end
script_outcome-exists two frames s grid script low range =
    let ps = pictures_of frames s.show grid.n [] (script_walk s grid script).frames (no-members grid.n range)
    (script-states two s grid script low) in
    (frames_outcome s.show 2 (script_walk s grid script) ps.0, (ps.0, ps.1, refl))

-- and so has a generated run of such a level
pub made_outcome-exists : FramesExist → (n seed : ℕ) → (1 ≤ n) × (n ≤ 11)
    → (end : Outcome) × IsFramesOutcome (as_sums n seed) 0 (made_walk n seed) end
made_outcome-exists frames n seed range =
    let P : ℕ → Type 0 = λ k. (1 ≤ k) × (k ≤ 14) in
    let grid : HeightField = made_grid n seed in
    let ps = pictures_of frames (as_sums n seed) grid.n [] (made_walk n seed).frames
    (no-members grid.n (subst P (sym (made_grid-level n seed)) (range.0, omega (arith, range.1)))) (made_walk-states n seed) in
    (frames_outcome (as_sums n seed) 0 (made_walk n seed) ps.0, (ps.0, ps.1, refl))

job-exists : BudgetsAreTwo → FramesExist → CertificatesExist →
    (job : Job) (r : Result HeightField PgmFault) (files : List NamedFile) → HasBudget job
    → ((grid : HeightField) → r ≡ Ok grid → (1 ≤ grid.n) × (grid.n ≤ 14)) →
    (end : Outcome) × IsGridOutcome job r files end
job-exists two frames made (Frames s) (Ok grid) files low range =
    script_outcome-exists two frames s grid (bytes_of files s.script) low (range grid refl)
job-exists two frames made Facts (Ok grid) files low range = (text_outcome (info_line grid) Done 1, refl)
job-exists two frames made (Make m) (Ok grid) files low range = make-exists made m grid files (range grid refl) low.low
job-exists two frames made (Check c) (Ok grid) files low range =
    check-exists c grid (cert_in grid.n (bytes_of files c.certificate)) (bytes_of files c.mesh)
job-exists two frames made (Fit f) (Ok grid) files low range = fit-exists f grid files low
job-exists two frames made (Keep k) (Ok grid) files low range =
    keep-exists k grid (points_in grid.n (bytes_of files k.points))
job-exists two frames made (MakeFit m) (Ok grid) files low range = fit_make-exists m grid files low
job-exists two frames made (CheckFit c) (Ok grid) files low range = fit_check-exists c grid files
job-exists two frames made (MakeKept m) (Ok grid) files low range =
    kept_make-exists m grid (points_in grid.n (bytes_of files m.points))
job-exists two frames made (CheckKept c) (Ok grid) files low range = kept_check-exists c grid files
job-exists two frames made job (Err fault) files low range = (text_outcome (grid_refusal fault) GridRefused 1, refl)

words-exist : BudgetsAreTwo → FramesExist → CertificatesExist → LevelsAreInRange →
    (command : Option Command) (files : List NamedFile)
    → ((c : Command) → command ≡ Some c → CommandHasBudget c) → (end : Outcome) × IsOutcome command files end
words-exist two frames made levels None files low = (plain_outcome [] Usage 0, refl)
words-exist two frames made levels (Some (OnGrid name job)) files low =
    job-exists two frames made job (grid_of (bytes_of files name)) files (low (OnGrid name job) refl)
    (λ grid is. let level = levels grid (bytes_of files name) is in (level.0, omega (arith, level.1)))
words-exist two frames made levels (Some (Generated n seed)) files low =
    made_outcome-exists frames n seed (low (Generated n seed) refl)

-- words and files have an outcome
pub outcome-exists : BudgetsAreTwo → FramesExist → CertificatesExist → LevelsAreInRange →
    (words : List (List ℕ)) (files : List NamedFile) → (end : Outcome) × IsOutcome (command_of words) files end
outcome-exists two frames made levels words files =
    words-exist two frames made levels (command_of words) files (λ c is. words-budget words c is)

-- what an outcome's pictures tell is certified

-- each picture of states with a budget of at least 2 is certified, where an engine makes the frames
abbrev pub MeshesAreCertified : Type 0
MeshesAreCertified =
    (show : Show) (before : List ℕ) (n : ℕ) (states : List State) (ps : List Picture) →
    IsTrue (is_of_engine show) → AreStates n states
    → ArePictures show before states ps → AllByRecursion IsCertified ps

-- an engine is left only where one makes the frames
engine-made : (show : Show) (walk : Walk) (ps : List Picture) → IsTrue (is_some (engine_for show walk ps)) →
    IsTrue (is_of_engine show)
engine-made show walk ps some = tested (is_of_engine show) some
  where
    tested : (makes : Bool) → IsTrue (is_some (if makes then Some (engine_end walk ps) else None)) → IsTrue makes
    tested true some = refl
    tested false some = some

shown-certified : MeshesAreCertified →
    (show : Show) (n files : ℕ) (walk : Walk) (end : Outcome) → AreStates n walk.frames
    → IsTrue (is_some end.engine) → IsFramesOutcome show files walk end → AllByRecursion IsCertified end.pictures
shown-certified one show n files walk end low some is =
    let P : Outcome → Type 0 = λ o. AllByRecursion IsCertified o.pictures in
    let Q : Outcome → Type 0 = λ o. IsTrue (is_some o.engine) in
    subst P (sym is.2) (one show [] n walk.frames is.0 (engine-made show walk is.0 (subst Q is.2 some)) low is.1)

-- one text has no pictures
text-certified : (end : Outcome) → IsOneText end → AllByRecursion IsCertified end.pictures
text-certified end is = let P : Outcome → Type 0 = λ o. AllByRecursion IsCertified o.pictures in subst P (sym is.3) tt

refused-text : (fault : PgmFault) (end : Outcome) →
    end ≡ text_outcome (grid_refusal fault) GridRefused 1 → IsOneText end
refused-text fault end is = (grid_refusal fault, GridRefused, 1, is)

job-certified : BudgetsAreTwo → MeshesAreCertified →
    (job : Job) (r : Result HeightField PgmFault) (files : List NamedFile) (end : Outcome) → HasBudget job
    → IsTrue (is_some end.engine) → IsGridOutcome job r files end → AllByRecursion IsCertified end.pictures
job-certified two one (Frames s) (Ok grid) files end low some is =
    shown-certified one s.show grid.n 2 (script_walk s grid (bytes_of files s.script)) end
    (script-states two s grid (bytes_of files s.script) low) some is
job-certified two one Facts (Ok grid) files end low some is = text-certified end (info_line grid, Done, 1, is)
job-certified two one (Make m) (Ok grid) files end low some is = text-certified end (make-text m grid files end is)
job-certified two one (Check c) (Ok grid) files end low some is =
    text-certified end
    (check-text c grid (cert_in grid.n (bytes_of files c.certificate)) (bytes_of files c.mesh) end is)
job-certified two one (Fit f) (Ok grid) files end low some is =
    let P : Outcome → Type 0 = λ o. AllByRecursion IsCertified o.pictures in
    subst P (sym is.2) tt
job-certified two one (Keep k) (Ok grid) files end low some is =
    let P : List Picture → Type 0 = λ ps. AllByRecursion IsCertified ps in
    subst P (sym (keep-plain k grid (points_in grid.n (bytes_of files k.points)) end is)) tt
job-certified two one (MakeFit m) (Ok grid) files end low some is =
    text-certified end (fit_make-text m grid files end is)
job-certified two one (CheckFit c) (Ok grid) files end low some is =
    text-certified end (fit_check-text c grid files end is)
job-certified two one (MakeKept m) (Ok grid) files end low some is =
    text-certified end (kept_make-text m grid (points_in grid.n (bytes_of files m.points)) end is)
job-certified two one (CheckKept c) (Ok grid) files end low some is =
    text-certified end (kept_check-text c grid files end is)
job-certified two one job (Err fault) files end low some is = text-certified end (refused-text fault end is)

words-certified : BudgetsAreTwo → MeshesAreCertified →
    (command : Option Command) (files : List NamedFile) (end : Outcome) →
    ((c : Command) → command ≡ Some c → CommandHasBudget c)
    → IsTrue (is_some end.engine) → IsOutcome command files end → AllByRecursion IsCertified end.pictures
words-certified two one None files end low some is =
    let P : Outcome → Type 0 = λ o. AllByRecursion IsCertified o.pictures in subst P (sym is) tt
words-certified two one (Some (OnGrid name job)) files end low some is =
    job-certified two one job (grid_of (bytes_of files name)) files end (low (OnGrid name job) refl) some is
words-certified two one (Some (Generated n seed)) files end low some is =
    shown-certified one (as_sums n seed) (made_grid n seed).n 0 (made_walk n seed) end (made_walk-states n seed) some is

-- where an outcome leaves an engine, what its pictures tell of blocking is a certificate
pub outcome-certified : BudgetsAreTwo → MeshesAreCertified →
    (words : List (List ℕ)) (files : List NamedFile) (end : Outcome)
    → IsTrue (is_some end.engine) → IsOutcome (command_of words) files end → All IsCertified end.pictures
outcome-certified two one words files end some is =
    All-from_recursion IsCertified end.pictures
    (words-certified two one (command_of words) files end (λ c e. words-budget words c e) some is)

-- Pictures: there is one of a state, it is a best mesh, and what it tells of blocking is a certificate.
use Rattle.std.proofs.Common.{◌≡◌, ℕ, ◌<◌, ◌≤◌, ◌↔◌, Bool, true, false, IsTrue, List, [], ◌∷◌, All, Option, None}
use Rattle.std.proofs.Common.{IsNone, IfSome, Contains, refl, sym, ◌∙◌, ap, subst, arith}
use Rattle.std.specs.List.{AllByRecursion}
use Rattle.std.proofs.lemmas.List.Elements.{recursion_from_All, All-from_recursion}
use Rattle.std.proofs.lemmas.Option.{IfSome_then}
use Rattle.mesh_defs.specs.ClosedSet.{among, leaves_of}
use Rattle.mesh_defs.specs.GridSet.{IsAscending, IsGridSet}
use Rattle.mesh_defs.specs.BestMesh.{IsBestMesh}
use Rattle.mesh_defs.specs.Priority.{priority_of, worst_of}
use Rattle.mesh_defs.specs.State.{State, priority_in}
use Rattle.mesh_defs.specs.View.{View}
use Rattle.bintree_addr.specs.declared.blocked.Blocked.{Blocked}
use Rattle.mesh_defs.specs.Falling.{IsFalling}
use Rattle.mesh_laws.specs.Frame.{IsFrame}
use Rattle.mesh_laws.specs.Steps.{IsFrameRun}
use Rattle.mesh_laws.proofs.ClosureLemmas.{nothing_closed, IsLeastClosed-unique, IsLeastClosed-same}
use Rattle.mesh_laws.proofs.SetListLemmas.{list_of, ascending-list_of, among-list_of}
use Rattle.mesh_laws.specs.Least.{is_worse, IsLeastMesh}
use Rattle.mesh_laws.proofs.LeastLemmas.{least_found, least_list-mesh}
use Rattle.run_words.specs.Words.{Criterion, OfBudget, OfTolerance, TriangleOrder, Output, Show, is_of_engine}
use Rattle.run_laws.specs.Picture.{Picture, IsLeastFrame, IsFrameFor, IsChangeFor, IsPicture, ArePictures, last_members}
use Rattle.run_laws.specs.Picture.{IsCertified}
use Rattle.run_laws.specs.Laws.{FramesExist, RunsAreUnique, SetsStayClosed, AreStates}

abbrev made : State → List ℕ → ℕ → Option Blocked → ℕ → ℕ → Picture
made s l w b i j = record { state = s; members = l; worst = w; blocked = b; splits = i; merges = j }

-- a way to show frames
abbrev pub show_of : Criterion → TriangleOrder → Output → Show
show_of criterion order output = record { criterion = criterion; order = order; output = output }

-- an engine makes the frames of a budget alone
pub of-budget : (show : Show) → IsTrue (is_of_engine show) → show.criterion ≡ OfBudget
of-budget show engine = by_parts show.criterion show.order show.output engine
  where
    by_parts : (criterion : Criterion) (order : TriangleOrder) (output : Output) →
        IsTrue (is_of_engine (show_of criterion order output))
        → criterion ≡ OfBudget
    by_parts OfBudget order output engine = refl
    by_parts (OfTolerance tolerance) order output engine = absurd (no-engine engine)
      where
        no-engine : false ≡ true → ⊥
        no-engine e = cc

-- the counts are determined
IsChangeFor-unique : RunsAreUnique → (criterion : Criterion) (state : State) (before after : List ℕ) (i j k l : ℕ)
    → IsChangeFor criterion state before after i k → IsChangeFor criterion state before after j l → (i ≡ j) × (k ≡ l)
IsChangeFor-unique runs OfBudget state before after i j k l f g =
    let same = runs state.grid.n state.budget (priority_in state) before after after i k j l f g in
    (same.1, same.2)
IsChangeFor-unique runs (OfTolerance tolerance) state before after i j k l f g =
    (f.no_splits ∙ sym g.no_splits, f.no_merges ∙ sym g.no_merges)

-- The frame of a budget is one set, with one worst and one blocking triangle.
abbrev pub FramesAreUnique : Type 0
FramesAreUnique =
    (n budget : ℕ) (priority : ℕ → ℕ) (has instead : ℕ → Bool) (worst other : ℕ) (blocked blocks : Option Blocked)
    → IsFrame n budget priority has worst blocked → IsFrame n budget priority instead other blocks
    → ((a : ℕ) → has a ≡ instead a) × (worst ≡ other) × (blocked ≡ blocks)

-- An ascending list is determined by its members.
abbrev pub SetsAreLists : Type 0
SetsAreLists = (xs ys : List ℕ) → IsAscending xs → IsAscending ys → ((a : ℕ) → among xs a ≡ among ys a) → xs ≡ ys

-- the frame that an engine shows is that of the budget in force
is-frame : (show : Show) (state : State) (members : List ℕ) (worst : ℕ) (blocked : Option Blocked) →
    IsTrue (is_of_engine show)
    → IsFrameFor show.criterion state members worst blocked
    → IsFrame state.grid.n state.budget (priority_in state) (among members) worst blocked
is-frame show state members worst blocked engine frame =
    let P : Criterion → Type 0 = λ c. IsFrameFor c state members worst blocked in
    subst P (of-budget show engine) frame

-- the frame of a budget is determined
budget_frame-unique : FramesAreUnique → SetsAreLists →
    (n budget : ℕ) (priority : ℕ → ℕ) (xs ys : List ℕ) (worst other : ℕ)
    (blocked instead : Option Blocked) → IsAscending xs → IsAscending ys
    → IsFrame n budget priority (among xs) worst blocked → IsFrame n budget priority (among ys) other instead
    → (xs ≡ ys) × (worst ≡ other) × (blocked ≡ instead)
budget_frame-unique one lists n budget priority xs ys worst other blocked instead up goes f g =
    let same = one n budget priority (among xs) (among ys) worst other blocked instead f g in
    (lists xs ys up goes same.0, same.1, same.2)

-- so is that of a tolerance
least_frame-unique : SetsAreLists →
    (n tolerance : ℕ) (priority : ℕ → ℕ) (xs ys : List ℕ) (worst other : ℕ) (blocked instead : Option Blocked)
    → IsAscending xs → IsAscending ys → IsLeastFrame n tolerance priority (among xs) worst blocked →
    IsLeastFrame n tolerance priority (among ys) other instead
    → (xs ≡ ys) × (worst ≡ other) × (blocked ≡ instead)
least_frame-unique lists n tolerance priority xs ys worst other blocked instead up goes f g =
    let same : xs ≡ ys = lists xs ys up goes
    (IsLeastClosed-unique n (is_worse n tolerance priority) (among xs) (among ys) f.closure g.closure) in (
      same,
      f.greatest ∙ (ap (λ (l : List ℕ). worst_of priority (leaves_of n (among l))) same ∙ sym g.greatest),
      f.unblocked ∙ sym g.unblocked,
    )

-- the frame that is shown is determined
IsFrameFor-unique : FramesAreUnique → SetsAreLists →
    (criterion : Criterion) (state : State) (xs ys : List ℕ) (worst other : ℕ)
    (blocked instead : Option Blocked) → IsAscending xs → IsAscending ys
    → IsFrameFor criterion state xs worst blocked → IsFrameFor criterion state ys other instead
    → (xs ≡ ys) × (worst ≡ other) × (blocked ≡ instead)
IsFrameFor-unique one lists OfBudget state xs ys worst other blocked instead up goes f g =
    budget_frame-unique one lists state.grid.n state.budget
    (priority_in state) xs ys worst other blocked instead up goes f g
IsFrameFor-unique one lists (OfTolerance tolerance) state xs ys worst other blocked instead up goes f g =
    least_frame-unique lists state.grid.n tolerance (priority_in state) xs ys worst other blocked instead up goes f g

-- a picture is determined by its state and the set before
IsPicture-unique : FramesAreUnique → SetsAreLists → RunsAreUnique →
    (show : Show) (before : List ℕ) (state : State) (p q : Picture)
    → IsPicture show before state p → IsPicture show before state q → p ≡ q
IsPicture-unique one lists runs show before state p q f g =
    let same = IsFrameFor-unique one lists show.criterion state p.members q.members p.worst q.worst p.blocked q.blocked
    f.ascending g.ascending f.frame g.frame in
    let members : p.members ≡ q.members = same.0 in
    let counts = IsChangeFor-unique runs show.criterion state before q.members p.splits q.splits p.merges q.merges
    (subst (λ (l : List ℕ). IsChangeFor show.criterion state before l p.splits p.merges) members f.change) g.change in
    ap (λ (s : State). made s p.members p.worst p.blocked p.splits p.merges) (f.of_state ∙ sym g.of_state)
    ∙ (ap (λ (l : List ℕ). made q.state l p.worst p.blocked p.splits p.merges) members
    ∙ (ap (λ (w : ℕ). made q.state q.members w p.blocked p.splits p.merges) same.1
    ∙ (ap (λ (b : Option Blocked). made q.state q.members q.worst b p.splits p.merges) same.2
    ∙ (ap (λ (i : ℕ). made q.state q.members q.worst q.blocked i p.merges) counts.0
    ∙ ap (λ (j : ℕ). made q.state q.members q.worst q.blocked q.splits j) counts.1))))

-- the pictures of states are determined
pub ArePictures-unique : FramesAreUnique → SetsAreLists → RunsAreUnique →
    (show : Show) (before : List ℕ) (states : List State) (ps qs : List Picture)
    → ArePictures show before states ps → ArePictures show before states qs → ps ≡ qs
ArePictures-unique one lists runs show before [] [] [] f g = refl
ArePictures-unique one lists runs show before [] [] (q ∷ qs) f g = absurd g
ArePictures-unique one lists runs show before [] (p ∷ ps) qs f g = absurd f
ArePictures-unique one lists runs show before (s ∷ states) [] qs f g = absurd f
ArePictures-unique one lists runs show before (s ∷ states) (p ∷ ps) [] f g = absurd g
ArePictures-unique one lists runs show before (s ∷ states) (p ∷ ps) (q ∷ qs) f g =
    let same : p ≡ q = IsPicture-unique one lists runs show before s p q f.0 g.0 in
    let behind : ArePictures show p.members states qs =
    subst (λ (l : List ℕ). ArePictures show l states qs) (ap (λ (r : Picture). r.members) (sym same)) g.1 in
    ap (λ (r : Picture). r ∷ ps) same
    ∙ ap (λ (rs : List Picture). q ∷ rs) (ArePictures-unique one lists runs show p.members states ps qs f.1 behind)

-- there is a picture, and its set is closed
abbrev HasPicture : Show → List ℕ → State → Type 0
HasPicture show before state = (p : Picture) × IsPicture show before state p × IsGridSet state.grid.n p.members

-- the frame to which the steps from a set lead is the frame of a picture
made-picture : FramesExist → (show : Show) (before : List ℕ) (state : State) →
    IsGridSet state.grid.n before → 2 ≤ state.budget
    → ((members : List ℕ) (worst : ℕ) (blocked : Option Blocked) (splits merges : ℕ) → IsAscending members
    → IsFrame state.grid.n state.budget (priority_in state) (among members) worst blocked
    → IsFrameRun state.grid.n state.budget (priority_in state) before members splits merges
    → IsPicture show before state (made state members worst blocked splits merges))
    → HasPicture show before state
made-picture frames show before state set low is =
    let f = frames state before set low in
    (made state f.0 f.1 f.2 f.3 f.4, is f.0 f.1 f.2 f.3 f.4 f.5.ascending f.6 f.7, f.5)

-- the least closed set of all that is worse than a tolerance is that of a picture
least-picture : (tolerance : ℕ) (order : TriangleOrder) (output : Output) (before : List ℕ) (state : State) →
    IsGridSet state.grid.n before
    → HasPicture (show_of (OfTolerance tolerance) order output) before state
least-picture tolerance order output before state set =
    let n : ℕ = state.grid.n in
    let priority : ℕ → ℕ = priority_in state in
    let found = least_found n tolerance priority in
    let members : List ℕ = list_of n found.0 in
    let least = IsLeastClosed-same n (is_worse n tolerance priority) found.0 (among members)
    (among-list_of n found.0 found.1.closed) found.1 in
    let worst : ℕ = worst_of priority (leaves_of n (among members)) in
    let up : IsAscending members = ascending-list_of n found.0 in (
      made state members worst None 0 0,
      record {
        of_state = refl;
        ascending = up;
        frame = record { closure = least; greatest = refl; unblocked = refl };
        change = record { no_splits = refl; no_merges = refl };
      },
      record { n_low = set.n_low; n_high = set.n_high; ascending = up; closed = least.closed },
    )

-- a state with a budget of at least 2 has a picture, from any closed set on
has-picture : FramesExist → (show : Show) (before : List ℕ) (state : State) →
    IsGridSet state.grid.n before → 2 ≤ state.budget
    → HasPicture show before state
has-picture frames show before state set low = by_parts show.criterion show.order show.output
  where
    by_parts : (criterion : Criterion) (order : TriangleOrder) (output : Output) →
        HasPicture (show_of criterion order output) before state
    by_parts OfBudget order output =
        made-picture frames (show_of OfBudget order output) before state set low
        (λ l w b i j up f run. record { of_state = refl; ascending = up; frame = f; change = run })
    by_parts (OfTolerance tolerance) order output = least-picture tolerance order output before state set

-- so have states, from any closed set on
pub pictures_of : FramesExist → (show : Show) (n : ℕ) (before : List ℕ) (states : List State)
    → IsGridSet n before → AreStates n states → (pictures : List Picture) × ArePictures show before states pictures
pictures_of frames show n before [] set low = ([], tt)
pictures_of frames show n before (state ∷ states) set low =
    let P : ℕ → Type 0 = λ k. IsGridSet k before in
    let f = has-picture frames show before state (subst P (sym low.0) set) low.1 in
    let Q : ℕ → Type 0 = λ k. IsGridSet k f.0.members in
    let rest = pictures_of frames show n f.0.members states (subst Q low.0 f.2) low.2 in
    (f.0 ∷ rest.0, (f.1, rest.1))

-- a picture's set is closed where the set before it is
closed-picture : SetsStayClosed → (criterion : Criterion) (before : List ℕ) (state : State) (p : Picture) →
    IsGridSet state.grid.n before
    → IsAscending p.members → IsFrameFor criterion state p.members p.worst p.blocked
    → IsChangeFor criterion state before p.members p.splits p.merges
    → IsGridSet state.grid.n p.members
closed-picture stays OfBudget before state p set up frame run =
    stays state.grid.n state.budget (priority_in state) before p.members p.splits p.merges set run
closed-picture stays (OfTolerance tolerance) before state p set up frame none =
    record { n_low = set.n_low; n_high = set.n_high; ascending = up; closed = frame.closure.closed }

-- a picture's set is closed where the set before it is
pub picture-set : SetsStayClosed →
    (show : Show) (n : ℕ) (before : List ℕ) (state : State) (p : Picture) → state.grid.n ≡ n
    → IsGridSet n before → IsPicture show before state p → IsGridSet n p.members
picture-set stays show n before state p level set f =
    let P : ℕ → Type 0 = λ k. IsGridSet k before in
    let Q : ℕ → Type 0 = λ k. IsGridSet k p.members in
    subst Q level
    (closed-picture stays show.criterion before state p (subst P (sym level) set) f.ascending f.frame f.change)

-- so is the set of the last one
pub last_members-set : SetsStayClosed →
    (show : Show) (n : ℕ) (before : List ℕ) (states : List State) (ps : List Picture)
    → IsGridSet n before → AreStates n states → ArePictures show before states ps → IsGridSet n (last_members before ps)
last_members-set stays show n before [] [] set are f = set
last_members-set stays show n before [] (p ∷ ps) set are f = absurd f
last_members-set stays show n before (s ∷ states) [] set are f = absurd f
last_members-set stays show n before (s ∷ states) (p ∷ ps) set are f =
    last_members-set stays show n p.members states ps (picture-set stays show n before s p are.0 set f.0) are.2 f.1

-- the set of the two base triangles' mesh is closed
pub no-members : (n : ℕ) → (1 ≤ n) × (n ≤ 14) → IsGridSet n []
no-members n range = record {
  n_low = range.0;
  n_high = range.1;
  ascending = tt;
  closed = nothing_closed n;
}

-- the worst of a list is 0 exactly where each priority in it is
worst-zero : (priority : ℕ → ℕ) (triangles : List ℕ) → AllByRecursion (λ a. priority a ≡ 0) triangles →
    worst_of priority triangles ≡ 0
worst-zero priority [] none = refl
worst-zero priority (a ∷ triangles) none = omega (arith, none.0, worst-zero priority triangles none.1)

zero-worst : (priority : ℕ → ℕ) (triangles : List ℕ) → worst_of priority triangles ≡ 0 →
    AllByRecursion (λ a. priority a ≡ 0) triangles
zero-worst priority [] none = tt
zero-worst priority (a ∷ triangles) none =
    let rest : worst_of priority triangles ≡ 0 = omega (arith, none) in
    (omega (arith, none), zero-worst priority triangles rest)

-- the frame of a budget is a best mesh of its state
abbrev pub BudgetFramesAreBest : Type 0
BudgetFramesAreBest = (state : State) (members : List ℕ) (worst : ℕ) (blocked : Option Blocked) → 2 ≤ state.budget
    → IsFrame state.grid.n state.budget (priority_in state) (among members) worst blocked
    → IsBestMesh state.grid.n state.budget (priority_in state) (leaves_of state.grid.n (among members))

module _ (falling : (n : ℕ) (heights : List ℕ) (view : View) → IsFalling n (priority_of n heights view)) where
  -- the frame's mesh is a best mesh of the state
  pub frame-best : ((n budget : ℕ) (priority : ℕ → ℕ) (has : ℕ → Bool) (worst : ℕ) (blocked : Option Blocked) →
      IsFrame n budget priority has worst blocked → IsFalling n priority → 2 ≤ budget →
      IsBestMesh n budget priority (leaves_of n has))
      → BudgetFramesAreBest
  frame-best best state members worst blocked low f =
      best state.grid.n state.budget (priority_in state) (among members) worst blocked f
      (falling state.grid.n state.grid.heights state.view) low

  -- the frame of a tolerance is the least mesh of the state
  pub frame-least : (tolerance : ℕ) (state : State) (members : List ℕ) (worst : ℕ) (blocked : Option Blocked)
      → IsLeastFrame state.grid.n tolerance (priority_in state) (among members) worst blocked
      → IsLeastMesh state.grid.n tolerance (priority_in state) (leaves_of state.grid.n (among members))
  frame-least tolerance state members worst blocked f =
      least_list-mesh state.grid.n tolerance (priority_in state) (leaves_of state.grid.n (among members))
      (falling state.grid.n state.grid.heights state.view)
      (record { has = among members; closure = f.closure; leaves = refl })

  module _ (unblocked : (n budget : ℕ) (priority : ℕ → ℕ) (has : ℕ → Bool) (worst : ℕ) (blocked : Option Blocked) →
      IsFrame n budget priority has worst blocked → IsFalling n priority → 2 ≤ budget →
      (IsNone blocked ↔ All (λ a. priority a ≡ 0) (leaves_of n has)))
      (blocking : (n budget : ℕ) (priority : ℕ → ℕ) (has : ℕ → Bool) (worst : ℕ) (blocked : Option Blocked) →
      IsFrame n budget priority has worst blocked → IsFalling n priority → 2 ≤ budget →
      IfSome blocked (λ b. (budget < b.need) × (priority b.tri ≡ worst) × Contains (leaves_of n has) b.tri)) where
    -- what blocks in a frame's picture is a certificate
    frame-certified : (state : State) (members : List ℕ) (worst : ℕ) (blocked : Option Blocked) (i j : ℕ) →
        2 ≤ state.budget
        → IsFrame state.grid.n state.budget (priority_in state) (among members) worst blocked →
        IsCertified (made state members worst blocked i j)
    frame-certified state members worst blocked i j low f =
        let n : ℕ = state.grid.n in
        let priority : ℕ → ℕ = priority_in state in
        let triangles : List ℕ = leaves_of n (among members) in
        let fall : IsFalling n priority = falling n state.grid.heights state.view in
        let none = unblocked n state.budget priority (among members) worst blocked f fall low in
        let some = blocking n state.budget priority (among members) worst blocked f fall low in
        record {
          unblocked = (
            (λ e. f.greatest
                ∙ worst-zero priority triangles (recursion_from_All (λ a. priority a ≡ 0) triangles (none.0 e))),
            (λ e. none.1 (All-from_recursion (λ a. priority a ≡ 0) triangles
                (zero-worst priority triangles (sym f.greatest ∙ e)))),
          );
          leaf = IfSome_then blocked some (λ b is. is.2);
          worst = IfSome_then blocked some (λ b is. is.1);
          need = IfSome_then blocked some (λ b is. is.0);
        }

    -- so is what each picture of states with a budget of at least 2 tells, where an engine makes the frames
    pub pictures-certified : (show : Show) (before : List ℕ) (n : ℕ) (states : List State) (ps : List Picture) →
        IsTrue (is_of_engine show) → AreStates n states
        → ArePictures show before states ps → AllByRecursion IsCertified ps
    pictures-certified show before n [] [] engine low f = tt
    pictures-certified show before n [] (p ∷ ps) engine low f = absurd f
    pictures-certified show before n (s ∷ states) [] engine low f = absurd f
    pictures-certified show before n (s ∷ states) (p ∷ ps) engine low f =
        let P : State → Type 0 = λ t. IsCertified (made t p.members p.worst p.blocked p.splits p.merges) in (
          subst P (sym f.0.of_state) (frame-certified s p.members p.worst p.blocked p.splits p.merges low.1
              (is-frame show s p.members p.worst p.blocked engine f.0.frame)),
          pictures-certified show p.members n states ps engine low.2 f.1,
        )

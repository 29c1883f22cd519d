-- What a frame shows: the mesh of a state, what blocks a finer one, and what changed since the frame before.
-- Source: the greedy algorithm of Duchaineau et al., "ROAMing Terrain", IEEE Visualization 1997; the rest is
-- this project's own.
-- Words: Picture, triangles_of, strip_triangles, shown_triangles, mark_count, IsLeastFrame, IsFrameFor, IsNotCounted,
-- IsChangeFor, IsPicture, ArePictures, last_members, IsCertified.
use Rattle.std.specs.Prelude.{◌≡◌, ℕ, ◌<◌, ◌↔◌, ⊤, Bool, List, [], ◌∷◌, count_by, Option, None, IsNone, IfSome}
use Rattle.std.specs.Prelude.{Contains}
use Rattle.mesh_defs.specs.declared.mark.Mark.{Mark}
use Rattle.mesh_defs.specs.ClosedSet.{IsLeastClosed, leaves_of, among}
use Rattle.mesh_defs.specs.Priority.{worst_of}
use Rattle.mesh_defs.specs.MeshText.{triangle_mark, is_same_mark}
use Rattle.mesh_defs.specs.State.{State, priority_in}
use Rattle.bintree_addr.specs.declared.blocked.Blocked.{Blocked}
use Rattle.mesh_defs.specs.GridSet.{IsAscending}
use Rattle.mesh_laws.specs.Frame.{IsFrame}
use Rattle.mesh_laws.specs.Steps.{IsFrameRun}
use Rattle.mesh_laws.specs.Strip.{strip_of}
use Rattle.mesh_laws.specs.Least.{is_worse}
use Rattle.run_words.specs.Words.{Criterion, OfBudget, OfTolerance, DepthFirst, AlongStrip, Show}

-- what it shows; the triangles that are split, in ascending order; the greatest priority among the leaves; the
-- triangle that blocks, with its need, if there is one; and how many splits and merges led there
pub record Picture : Type 0 where
  pub state : State
  pub members : List ℕ
  pub worst : ℕ
  pub blocked : Option Blocked
  pub splits : ℕ
  pub merges : ℕ

-- the mesh: the leaves of the set, depth first
abbrev pub triangles_of : Picture → List ℕ
triangles_of picture = leaves_of picture.state.grid.n (among picture.members)

-- the same triangles in the order of their strip
abbrev pub strip_triangles : Picture → List ℕ
strip_triangles picture = strip_of picture.state.grid.n (among picture.members)

-- the triangles in the order in which the mesh of a frame that is shown so has them
abbrev pub shown_triangles : Show → Picture → List ℕ
shown_triangles show picture =
    elim show.order as (λ _. List ℕ) [ DepthFirst ↦ triangles_of picture | AlongStrip ↦ strip_triangles picture ]

-- how many of the triangles have this mark
abbrev pub mark_count : State → Mark → List ℕ → ℕ
mark_count state mark triangles =
    count_by (λ a. is_same_mark mark
    (triangle_mark state.grid.n state.grid.heights state.view.spacing state.view.planes a)) triangles

-- The frame of a tolerance, without a budget: the set is the least closed set of all triangles that are worse than the
-- tolerance, worst is the greatest priority of its leaves, and nothing blocks.
pub record IsLeastFrame (n tolerance : ℕ) (priority : ℕ → ℕ) (has : ℕ → Bool) (worst : ℕ)
    (blocked : Option Blocked) : Type 0 where
  pub closure : IsLeastClosed n (is_worse n tolerance priority) has
  pub greatest : worst ≡ worst_of priority (leaves_of n has)
  pub unblocked : blocked ≡ None

-- the frame of this criterion: that of the budget in force, or that of a tolerance
abbrev pub IsFrameFor : Criterion → State → List ℕ → ℕ → Option Blocked → Type 0
IsFrameFor OfBudget state members worst blocked =
    IsFrame state.grid.n state.budget (priority_in state) (among members) worst blocked
IsFrameFor (OfTolerance tolerance) state members worst blocked =
    IsLeastFrame state.grid.n tolerance (priority_in state) (among members) worst blocked

-- no change is counted
pub record IsNotCounted (splits merges : ℕ) : Type 0 where
  pub no_splits : splits ≡ 0
  pub no_merges : merges ≡ 0

-- The change that is counted by this criterion: the triangles that the frame's steps split and merge, from the set of
-- the frame before. The mesh of a tolerance is made without steps.
abbrev pub IsChangeFor : Criterion → State → List ℕ → List ℕ → ℕ → ℕ → Type 0
IsChangeFor OfBudget state before after splits merges =
    IsFrameRun state.grid.n state.budget (priority_in state) before after splits merges
IsChangeFor (OfTolerance tolerance) state before after splits merges = IsNotCounted splits merges

-- The picture of a state, where the frame before has split these triangles. There is one alone.
pub record IsPicture (show : Show) (before : List ℕ) (state : State) (picture : Picture) : Type 0 where
  pub of_state : picture.state ≡ state
  pub ascending : IsAscending picture.members
  pub frame : IsFrameFor show.criterion state picture.members picture.worst picture.blocked
  pub change : IsChangeFor show.criterion state before picture.members picture.splits picture.merges

-- The pictures of the states, each from the set of the one before it.
abbrev pub ArePictures : Show → List ℕ → List State → List Picture → Type 0
ArePictures show before [] [] = ⊤
ArePictures show before (state ∷ states) (picture ∷ pictures) =
    IsPicture show before state picture × ArePictures show picture.members states pictures
ArePictures show before _ _ = ⊥

-- the set of the last picture, or this one where there is none
abbrev pub last_members : List ℕ → List Picture → List ℕ
last_members before [] = before
last_members before (picture ∷ pictures) = last_members picture.members pictures

-- What a picture tells of blocking is a certificate: it tells of a triangle unless no priority is above 0;
-- that one is a leaf, its priority is the worst, and with it the mesh would need more than the budget.
pub record IsCertified (picture : Picture) : Type 0 where
  pub unblocked : IsNone picture.blocked ↔ (picture.worst ≡ 0)
  pub leaf : IfSome picture.blocked (λ b. Contains (triangles_of picture) b.tri)
  pub worst : IfSome picture.blocked (λ b. priority_in picture.state b.tri ≡ picture.worst)
  pub need : IfSome picture.blocked (λ b. picture.state.budget < b.need)

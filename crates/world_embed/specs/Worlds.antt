-- What the calls on a world of pages do, and when each answer comes. Where several causes hold, the answer is the one
-- with the least number, and out of memory comes last; after an answer other than Done all is as before, but that the
-- page of a world that was not made for lack of memory is gone.
-- All of it is this project's own.
-- Words: IsTerrainOf, IsWorldAnswer, IsWorldOpened, IsKeptPage, IsWorldCameraMoved, AreWorldPlanesPut,
-- IsWorldThresholdPut, IsWorldBudgetPut, world_note_of, IsWorldFrameMade, IsLoadAnswer, IsPageLoaded, CanUnload,
-- IsUnloadAnswer, IsPageUnloaded.
use Rattle.std.specs.Prelude.{◌≡◌, ◌≢◌, ℕ, ◌+◌, ◌-◌, ◌<◌, ◌≤◌, ◌↔◌, ◌⊎◌, true, false, List, length, All}
use Rattle.std.specs.Prelude.{Option, None, Some, is_some, Contains, IsTrue}
use Rattle.mesh_defs.specs.declared.level.TheConstants.{GREATEST_LEVEL}
use Rattle.mesh_defs.specs.declared.counters.TheConstants.{LONGEST_WAY}
use Rattle.mesh_defs.specs.declared.point.Point.{Point}
use Rattle.mesh_defs.specs.HeightField.{HeightField}
use Rattle.mesh_defs.specs.BoundingBox.{CameraAt}
use Rattle.mesh_defs.specs.Triangle.{corners_of}
use Rattle.mesh_defs.specs.View.{start_view}
use Rattle.mesh_defs.specs.State.{move_length}
use Rattle.cull_marks.specs.Plane.{IsPlane}
use Rattle.view_priority.specs.Camera.{IsCamera}
use Rattle.view_priority.specs.Bounds.{viewed_from}
use Rattle.mesh_laws.specs.Slots.{split_set}
use Rattle.mesh_defs.specs.BestMesh.{IsBestMesh}
use Rattle.mesh_laws.specs.Vertex.{is_mesh_vertex}
use Rattle.bintree_laws.specs.Areas.{overlaps}
use Rattle.page_laws.specs.Pages.{IsLoadedPoint, page_area}
use Rattle.view_mesh.specs.Expiry.{IsExpired}
use Rattle.page_store.specs.Store.{Store, page_at, grid_at, pages_of, height_in}
use Rattle.page_store.specs.Change.{AreOthersSame}
use Rattle.page_store.specs.Load.{CanLoad}
use Rattle.page_store.specs.Unload.{IsFree}
use Rattle.world_loop.specs.Draws.{AreInReach}
use Rattle.world_loop.specs.World.{WorldState, loaded_of, priority_in, mesh_seen, next_pace, next_way, IsWorn, IsFrameDone}
use Rattle.world_loop.specs.declared.world.TheConstants.{FIRST_PACE}
use Rattle.world_loop.specs.Turn.{is_turned}
use Rattle.world_loop.specs.declared.note.WorldNote.{WorldNote}
use Rattle.roam_embed.specs.declared.answer.Answer.{Answer}
use Rattle.roam_embed.specs.declared.answer.Answer.TheVariants.{Done, NoMemory, BadBudget, BadCamera, BadPlane}
use Rattle.roam_embed.specs.declared.answer.Answer.TheVariants.{TooManyPlanes, Worn, BadPage, NotThere}
use Rattle.roam_embed.specs.declared.notes.PlaneNumbers.{PlaneNumbers}
use Rattle.world_embed.specs.declared.notes.WorldFrame.{WorldFrame}
use Rattle.roam_embed.specs.declared.view.TheConstants.{MOST_PLANES}
use Rattle.roam_embed.specs.Looking.{plane_of, planes_of}
use Rattle.roam_embed.specs.Told.{blocked_of}
use Rattle.roam_embed.specs.Calls.{IsOpenAnswerOf}

-- a terrain of side 2 ^ large has pages of side 2 ^ n
pub record IsTerrainOf (n large : ℕ) : Type 0 where
  pub fits : n ≤ large
  pub high : large ≤ GREATEST_LEVEL

-- of a page with this n for a whole terrain, a budget and a spacing: which of them is refused, and whether the rest is up
-- to memory
abbrev pub IsWorldAnswer : ℕ → ℕ → ℕ → ℕ → Answer → Type 0
IsWorldAnswer n large = IsOpenAnswerOf (IsTerrainOf n large)

-- a world in which this page is loaded alone: seen from (0, 0, 0), no plane, the two halves of the square
pub record IsWorldOpened (page : HeightField) (exponent triangles spacing : ℕ) (w : WorldState) : Type 0 where
  pub large : w.store.large ≡ exponent
  pub n : w.store.n ≡ page.n
  pub root : grid_at w.store (exponent - page.n) (record { x = 0; y = 0 }) ≡ Some page
  pub others : (q : ℕ) (t : Point) → q ≢ exponent - page.n → grid_at w.store q t ≡ None
  pub view : w.view ≡ start_view spacing
  pub budget : w.budget ≡ triangles
  pub most : w.most ≡ triangles
  pub base : (a : ℕ) → split_set w.mesh.pool.pairs a ≡ false
  pub odometer : w.odometer ≡ 0
  pub pace : w.pace ≡ FIRST_PACE
  pub way : w.way ≡ FIRST_PACE

-- a page that was refused is there still, but where memory ran out
pub record IsKeptPage (page : HeightField) (after : Option HeightField) (answer : Answer) : Type 0 where
  pub gone : (answer ≡ NoMemory) ↔ (after ≡ None)
  pub kept : answer ≢ NoMemory → after ≡ Some page

-- The camera is put to a place. Where its way since the odometer was last 0 would be too long to be told, it is 0 again
-- and all stamps are expired. The pace only decides how often triangles are evaluated.
pub record IsWorldCameraMoved (before after : WorldState) (place : CameraAt) (answer : Answer) : Type 0 where
  pub done : (answer ≡ Done) ↔ IsCamera place
  pub bad_camera : (answer ≡ BadCamera) ↔ (IsCamera place → ⊥)
  pub moved : answer ≡ Done → after ≡ record before {
    view = viewed_from place before.view;
    mesh = after.mesh;
    odometer = after.odometer;
    pace = next_pace before.pace before.way (move_length before.view.camera place);
    way = next_way before.way (move_length before.view.camera place);
  }
  pub near : answer ≡ Done → before.odometer + move_length before.view.camera place ≤ LONGEST_WAY →
      (after.mesh ≡ before.mesh) × (after.odometer ≡ before.odometer + move_length before.view.camera place)
  pub far : answer ≡ Done → LONGEST_WAY < before.odometer + move_length before.view.camera place →
      IsExpired before.mesh after.mesh (λ a. true) × (after.odometer ≡ 0)
  pub kept : (answer ≡ Done → ⊥) → after ≡ before

-- just these planes are in force, and the stamps of what they turn are expired
pub record AreWorldPlanesPut (before after : WorldState) (planes : List PlaneNumbers) (answer : Answer) : Type 0 where
  pub done : (answer ≡ Done) ↔ (All (λ p. IsPlane (plane_of p)) planes × (length planes ≤ MOST_PLANES))
  pub bad_plane : (answer ≡ BadPlane) ↔ (All (λ p. IsPlane (plane_of p)) planes → ⊥)
  pub too_many : (answer ≡ TooManyPlanes) ↔ (All (λ p. IsPlane (plane_of p)) planes × (MOST_PLANES < length planes))
  pub put : answer ≡ Done → after ≡ record before {
    view = record before.view { planes = planes_of planes };
    mesh = after.mesh;
  }
  pub expired : answer ≡ Done → IsExpired before.mesh after.mesh (is_turned (loaded_of before) (planes_of planes))
  pub kept : (answer ≡ Done → ⊥) → after ≡ before

-- the threshold is replaced, and all stamps are expired; nothing changes where it is in force
pub record IsWorldThresholdPut (before after : WorldState) (ratio : ℕ) (answer : Answer) : Type 0 where
  pub done : answer ≡ Done
  pub put : after ≡ record before { view = record before.view { threshold = ratio }; mesh = after.mesh }
  pub same : ratio ≡ before.view.threshold → after ≡ before
  pub expired : (ratio ≡ before.view.threshold → ⊥) → IsExpired before.mesh after.mesh (λ a. true)

-- the budget is replaced
pub record IsWorldBudgetPut (before after : WorldState) (triangles : ℕ) (answer : Answer) : Type 0 where
  pub done : (answer ≡ Done) ↔ ((2 ≤ triangles) × (triangles ≤ before.most))
  pub bad_budget : (answer ≡ BadBudget) ↔ ((triangles < 2) ⊎ (before.most < triangles))
  pub put : answer ≡ Done → after ≡ record before { budget = triangles }
  pub kept : (answer ≡ Done → ⊥) → after ≡ before

-- the note of a frame that is told by numbers alone
abbrev pub world_note_of : WorldFrame → WorldNote
world_note_of f = record {
  triangles = f.triangles;
  steps = record { splits = f.splits; merges = f.merges; worst = f.worst; blocked = blocked_of f.blocking f.need };
  evaluations = f.evaluations;
}

-- The mesh is the best one of what is loaded and seen, and what is told of it. Each of its vertices is a point of a
-- loaded page, and each of its triangles has a page, so that draws can be had.
pub record IsWorldFrameMade (before after : WorldState) (told_before told : WorldFrame) (answer : Answer) : Type 0 where
  pub done : (answer ≡ Done) ↔ (IsWorn before → ⊥)
  pub worn : (answer ≡ Worn) ↔ IsWorn before
  pub made : answer ≡ Done → IsFrameDone before after (world_note_of told)
  pub best : answer ≡ Done → IsBestMesh after.store.large after.budget (priority_in after) (mesh_seen after)
  pub triangles : answer ≡ Done → told.triangles ≡ length (mesh_seen after)
  pub unblocked : answer ≡ Done → ((told.blocking ≡ 0) ↔ All (λ a. priority_in after a ≡ 0) (mesh_seen after))
  pub certificate : answer ≡ Done → told.blocking ≢ 0 → (after.budget < told.need)
      × (priority_in after told.blocking ≡ told.worst) × Contains (mesh_seen after) told.blocking
  pub unneeded : answer ≡ Done → told.blocking ≡ 0 → told.need ≡ 0
  pub spare : answer ≡ Done → told.spare ≡ 0
  pub vertices : answer ≡ Done → (p : Point) → IsTrue (is_mesh_vertex after.store.large (mesh_seen after) p) →
      IsLoadedPoint (pages_of after.store) p
  pub reach : answer ≡ Done → AreInReach after.store (mesh_seen after)
  pub kept : (answer ≡ Done → ⊥) → after ≡ before
  pub untold : (answer ≡ Done → ⊥) → told ≡ told_before

-- of a page with these heights: whether it is refused in a square of a resolution
pub record IsLoadAnswer (s : Store) (q : ℕ) (t : Point) (page : HeightField) (answer : Answer) : Type 0 where
  pub done : (answer ≡ Done) ↔ CanLoad s q t page
  pub bad_page : (answer ≡ BadPage) ↔ (CanLoad s q t page → ⊥)

-- A page has come into a square of a resolution. Heights of points that were loaded stay, and just the stamps of the
-- triangles whose bounding rectangle meets the square are expired.
pub record IsPageLoaded (before after : WorldState) (q : ℕ) (t : Point) (page : HeightField) : Type 0 where
  pub loaded : grid_at after.store q t ≡ Some page
  pub others : AreOthersSame before.store after.store q t
  pub heights : (p : Point) → IsLoadedPoint (pages_of before.store) p →
      height_in after.store p ≡ height_in before.store p
  pub rest : after ≡ record before { store = after.store; mesh = after.mesh }
  pub expired : IsExpired before.mesh after.mesh
      (λ a. overlaps (corners_of before.store.large a) (page_area (pages_of before.store) q t))

-- a page is loaded there that is not the coarsest, and that no finer one needs
pub record CanUnload (s : Store) (q : ℕ) (t : Point) : Type 0 where
  pub loaded : IsTrue (is_some (page_at s q t))
  pub fine : s.n + q < s.large
  pub free : IsFree s q t

-- whether the page of a square can go
pub record IsUnloadAnswer (s : Store) (q : ℕ) (t : Point) (answer : Answer) : Type 0 where
  pub done : (answer ≡ Done) ↔ CanUnload s q t
  pub not_there : (answer ≡ NotThere) ↔ (page_at s q t ≡ None)
  pub bad_page : (answer ≡ BadPage) ↔ (IsTrue (is_some (page_at s q t)) × (CanUnload s q t → ⊥))

-- The page of a square has gone. Heights of points that are loaded still stay, and the same stamps are expired.
pub record IsPageUnloaded (before after : WorldState) (q : ℕ) (t : Point) (page : HeightField) : Type 0 where
  pub taken : grid_at before.store q t ≡ Some page
  pub gone : grid_at after.store q t ≡ None
  pub others : AreOthersSame before.store after.store q t
  pub heights : (p : Point) → IsLoadedPoint (pages_of after.store) p →
      height_in after.store p ≡ height_in before.store p
  pub rest : after ≡ record before { store = after.store; mesh = after.mesh }
  pub expired : IsExpired before.mesh after.mesh
      (λ a. overlaps (corners_of before.store.large a) (page_area (pages_of before.store) q t))

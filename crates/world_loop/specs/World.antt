-- A world between two calls: what is loaded of a terrain, a view of it, and the mesh that follows the view.
-- All of it is this project's own.
-- Words: WorldState, world_of, loaded_of, sight_of, IsSeenSame, loaded_above, AreAllLoaded, priority_in, is_split, mesh_seen,
-- next_pace, next_way, IsWorld, IsWorn, IsFrameDone, IsStill, IsKept.
use Rattle.std.specs.Prelude.{◌≡◌, ◌⊎◌, ℕ, ◌*◌, ◌^◌, ◌≤◌, min, nat_eq, cond, Bool, IsTrue, List, length}
use Rattle.std.specs.Prelude.{Option, Some}
use Rattle.mesh_defs.specs.declared.counters.TheConstants.{CHANGES_AT_FRAME, LONGEST_WAY}
use Rattle.mesh_defs.specs.declared.point.Point.{Point}
use Rattle.mesh_defs.specs.BoundingBox.{CameraAt}
use Rattle.mesh_defs.specs.ClosedSet.{leaves_of, among}
use Rattle.mesh_defs.specs.View.{View}
use Rattle.mesh_laws.specs.Slots.{split_set}
use Rattle.wedgie_tree.specs.declared.wedges.TheConstants.{GREATEST_SPACING}
use Rattle.triangle_pool.specs.declared.pool.TheConstants.{MOST_LEAVES}
use Rattle.roam_mesh.specs.Mesh.{MeshState, pool_members}
use Rattle.mosaic_laws.specs.Tile.{IsTile}
use Rattle.page_laws.specs.Pages.{Pages, cuts_to}
use Rattle.page_store.specs.Store.{Store}
use Rattle.page_priority.specs.Loaded.{LoadedState, loaded_priority, loaded_readings, loaded_from}
use Rattle.page_priority.specs.Scene.{loaded_in}
use Rattle.view_mesh.specs.Sight.{Sight, AreBracketed}
use Rattle.view_mesh.specs.Advance.{IsAdvanced}
use Rattle.world_loop.specs.declared.note.WorldNote.{WorldNote}

-- the pages, the view and the budget in force; the greatest budget; the mesh; the way that the camera has gone; its pace,
-- the shorter one of its last two ways; and the last one
pub record WorldState : Type 0 where
  pub store : Store
  pub view : View
  pub budget : ℕ
  pub most : ℕ
  pub mesh : MeshState
  pub odometer : ℕ
  pub pace : ℕ
  pub way : ℕ

-- a world, of the values that it is made of
abbrev pub world_of : Store → View → ℕ → ℕ → MeshState → ℕ → ℕ → ℕ → WorldState
world_of store view budget most mesh odometer pace way = record {
  store = store;
  view = view;
  budget = budget;
  most = most;
  mesh = mesh;
  odometer = odometer;
  pace = pace;
  way = way;
}

-- what a mesh follows over it, with readings for a camera of this pace
abbrev pub sight_of : ℕ → LoadedState → Sight
sight_of pace s = record {
  n = s.pages.large;
  camera = s.view.camera;
  from = λ to. loaded_priority (loaded_from to s);
  readings = loaded_readings pace s;
}

-- the triangle has the same priority in both from every place
abbrev pub IsSeenSame : LoadedState → LoadedState → ℕ → Type 0
IsSeenSame before after a = (to : CameraAt) → loaded_priority (loaded_from to after) a ≡ loaded_priority (loaded_from to before) a

-- the same with this threshold in force
abbrev pub loaded_above : ℕ → LoadedState → LoadedState
loaded_above threshold s = record s { view = record s.view { threshold = threshold } }

-- all pages of the finest resolution are loaded
abbrev pub AreAllLoaded : Pages → Type 0
AreAllLoaded w = (t : Point) → IsTile (2 ^ cuts_to w 0) (2 ^ cuts_to w 0) t → IsTrue (w.loaded 0 t)

-- what is loaded, as it is viewed
abbrev pub loaded_of : WorldState → LoadedState
loaded_of w = loaded_in (record { store = w.store; view = w.view })

-- the priority of a triangle: 0 where it is not open, so that its parts have no height
abbrev pub priority_in : WorldState → ℕ → ℕ
priority_in w = loaded_priority (loaded_of w)

-- whether a triangle was made and split in the mesh
abbrev pub is_split : WorldState → ℕ → Bool
is_split w = among (pool_members w.mesh.pool)

-- the triangles of the mesh, depth first
abbrev pub mesh_seen : WorldState → List ℕ
mesh_seen w = leaves_of w.store.large (is_split w)

-- the pace of a camera that goes so far, where it goes at all
abbrev pub next_pace : ℕ → ℕ → ℕ → ℕ
next_pace pace way length = cond (nat_eq length 0) pace (min length way)

-- and its last way
abbrev pub next_way : ℕ → ℕ → ℕ
next_way way length = cond (nat_eq length 0) way length

-- What holds of every world: its budgets, and that its stamps bracket the priorities.
pub record IsWorld (w : WorldState) : Type 0 where
  pub n : w.mesh.pool.n ≡ w.store.large
  pub most_low : 2 ≤ w.most
  pub most_high : w.most ≤ MOST_LEAVES
  pub room : w.mesh.pool.most ≡ min w.most (2 * 4 ^ w.store.large)
  pub budget_low : 2 ≤ w.budget
  pub budget_high : w.budget ≤ w.most
  pub spacing_low : 1 ≤ w.view.spacing
  pub spacing_high : w.view.spacing ≤ GREATEST_SPACING
  pub far : w.odometer ≤ LONGEST_WAY
  pub kept : AreBracketed (sight_of w.pace (loaded_of w)) w.odometer w.mesh

-- the mesh has split or merged as many triangles as its counters can tell
abbrev pub IsWorn : WorldState → Type 0
IsWorn w = (CHANGES_AT_FRAME ≤ w.mesh.pool.splits) ⊎ (CHANGES_AT_FRAME ≤ w.mesh.pool.merges)

-- What a frame does: the mesh is that of what is loaded, and the note tells of it.
pub record IsFrameDone (before after : WorldState) (note : WorldNote) : Type 0 where
  pub store : after.store ≡ before.store
  pub view : after.view ≡ before.view
  pub budget : after.budget ≡ before.budget
  pub most : after.most ≡ before.most
  pub odometer : after.odometer ≡ before.odometer
  pub pace : after.pace ≡ before.pace
  pub way : after.way ≡ before.way
  pub mesh : IsAdvanced (sight_of before.pace (loaded_of before)) before.budget before.odometer before.mesh after.mesh note.steps
      0 note.evaluations
  pub triangles : note.triangles ≡ length (mesh_seen after)

-- A frame from here does nothing, and this is what it tells.
abbrev pub IsStill : WorldState → WorldNote → Type 0
IsStill w note = IsFrameDone w w note

-- What holds of a world with its list of leaves, which has room for those of the mesh, and what a frame would tell, if it
-- would do nothing.
abbrev pub IsKept : WorldState → List ℕ → ℕ → Option WorldNote → Type 0
IsKept w leaves most still = IsWorld w × (leaves ≡ leaves_of w.store.large (split_set w.mesh.pool.pairs))
    × (most ≡ w.mesh.pool.most) × ((note : WorldNote) → still ≡ Some note → IsStill w note)

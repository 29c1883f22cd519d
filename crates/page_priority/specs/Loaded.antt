-- What is loaded of a terrain with a view of it: priorities, and what a reading tells of them while the camera moves.
-- Source: Duchaineau et al., "ROAMing Terrain", IEEE Visualization 1997, the parts on priority queues and on deferred
-- priority lists; that what is not open has priority 0 is this project's own.
-- Words: LoadedState, is_open, loaded_wedge, loaded_box, loaded_mark, loaded_distance, loaded_priority_at,
-- loaded_priority, loaded_priorities, halvings, slack_at, loaded_readings, loaded_from, loaded_within.
use Rattle.std.specs.Prelude.{ℕ, ◌+◌, ◌-◌, ◌/◌, ◌^◌, min, max, Bool, cond, List}
use Rattle.std.specs.Int.{w64, leading_zeros}
use Rattle.mesh_defs.specs.declared.mark.Mark.{Mark}
use Rattle.mesh_defs.specs.declared.point.Point.{Point}
use Rattle.mesh_defs.specs.BoundingBox.{BoundingBox, CameraAt, distance_of}
use Rattle.mesh_defs.specs.View.{View, ViewPlane, mark_of}
use Rattle.mesh_laws.specs.Stamps.{Readings}
use Rattle.deferred_loop.specs.Choice.{Priorities}
use Rattle.view_priority.specs.Bounds.{box_priority_at, viewed_from}
use Rattle.page_laws.specs.declared.wedge.KnownWedge.{KnownWedge}
use Rattle.page_laws.specs.Opened.{with_known_mate, opened}
use Rattle.page_laws.specs.Pages.{Pages, is_known}
use Rattle.page_laws.specs.Loaded.{known_wedge, known_box, known_priority}
use Rattle.page_priority.specs.declared.reach.TheConstants.{LONGEST_SLACK}

-- the pages of a terrain, the heights that the loaded ones have, and the view
pub record LoadedState : Type 0 where
  pub pages : Pages
  pub height : Point → ℕ
  pub view : View

-- a mesh may split the triangle, since it is known and has no mate or a known one
abbrev pub is_open : LoadedState → ℕ → Bool
is_open s = with_known_mate (is_known s.pages)

-- the wedge of a triangle over what is loaded
abbrev pub loaded_wedge : LoadedState → ℕ → KnownWedge
loaded_wedge s = known_wedge s.pages.large s.height (is_known s.pages)

-- its box, in world units
abbrev pub loaded_box : LoadedState → ℕ → BoundingBox
loaded_box s = known_box s.pages.large s.height (is_known s.pages) s.view.spacing

-- how that lies to these planes
abbrev pub loaded_mark : LoadedState → List ViewPlane → ℕ → Mark
loaded_mark s planes a = mark_of planes (loaded_box s a)

-- how far the camera is from it
abbrev pub loaded_distance : LoadedState → ℕ → ℕ
loaded_distance s a = distance_of (loaded_box s a) s.view.camera

-- the priority of a triangle if its box were this far from the camera, all else being as it is; 0 if it is not open
abbrev pub loaded_priority_at : LoadedState → ℕ → ℕ → ℕ
loaded_priority_at s a distance =
    cond (is_open s a) (box_priority_at s.view (loaded_box s a) (loaded_wedge s a).thickness distance) 0

-- the priority of a triangle over what is loaded, or 0 if it is not open
abbrev pub loaded_priority : LoadedState → ℕ → ℕ
loaded_priority s = opened (is_open s) (known_priority s.pages.large s.height (is_known s.pages) s.view)

-- what a gauge tells
abbrev pub loaded_priorities : LoadedState → Priorities
loaded_priorities s = record { n = s.pages.large; of = loaded_priority s }

-- how often a distance is halved to be a slack, for a camera of this pace: half as often as the pace is doubled to be
-- about as long as the distance, but at least three times and at most eight
abbrev pub halvings : ℕ → ℕ → ℕ
halvings pace distance = min (max ((leading_zeros w64 pace + 1 - leading_zeros w64 distance) / 2) 3) 8

-- the slack of a reading: about the geometric mean of pace and distance
abbrev pub slack_at : ℕ → ℕ → ℕ
slack_at pace distance = distance / 2 ^ halvings pace distance

-- and its readings, for a camera of this pace: the bounds are the priorities at the ends of the slack; what is not open
-- has priority 0 from each place
abbrev pub loaded_readings : ℕ → LoadedState → Readings
loaded_readings pace s = record {
  slack = λ a. cond (is_open s a) (slack_at pace (loaded_distance s a)) LONGEST_SLACK;
  upper = λ a. loaded_priority_at s a (loaded_distance s a - slack_at pace (loaded_distance s a));
  lower = λ a. loaded_priority_at s a (loaded_distance s a + slack_at pace (loaded_distance s a));
}

-- the same, viewed from another place
abbrev pub loaded_from : CameraAt → LoadedState → LoadedState
loaded_from to s = record s { view = viewed_from to s.view }

-- the same with these planes in force, and no others
abbrev pub loaded_within : List ViewPlane → LoadedState → LoadedState
loaded_within planes s = record s { view = record s.view { planes = planes } }

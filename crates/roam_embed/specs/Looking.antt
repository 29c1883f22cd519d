-- A whole set of planes put in force at once. This project's own.
-- Words: plane_of, planes_of, ArePlanesPut.
use Rattle.std.specs.Prelude.{◌≡◌, ◌<◌, ◌≤◌, ◌↔◌, List, map, length, All}
use Rattle.mesh_defs.specs.View.{ViewPlane}
use Rattle.cull_marks.specs.Plane.{IsPlane}
use Rattle.mesh_defs.specs.State.{scene_of}
use Rattle.frame_loop.specs.Turn.{with_planes, is_turned}
use Rattle.frame_loop.specs.Engine.{EngineState, IsExpired}
use Rattle.roam_embed.specs.declared.answer.Answer.{Answer}
use Rattle.roam_embed.specs.declared.answer.Answer.TheVariants.{Done, BadPlane, TooManyPlanes}
use Rattle.roam_embed.specs.declared.notes.PlaneNumbers.{PlaneNumbers}
use Rattle.roam_embed.specs.declared.view.TheConstants.{MOST_PLANES}

-- the plane of these numbers
abbrev pub plane_of : PlaneNumbers → ViewPlane
plane_of p = record { a = p.a; b = p.b; c = p.c; d = p.d }

-- those of a list
abbrev pub planes_of : List PlaneNumbers → List ViewPlane
planes_of planes = map plane_of planes

-- just these planes are in force, and just the stamps are expired of the triangles that were or become Outside, and not
-- both
pub record ArePlanesPut (before after : EngineState) (planes : List PlaneNumbers) (answer : Answer) : Type 0 where
  pub done : (answer ≡ Done) ↔ (All (λ p. IsPlane (plane_of p)) planes × (length planes ≤ MOST_PLANES))
  pub bad_plane : (answer ≡ BadPlane) ↔ (All (λ p. IsPlane (plane_of p)) planes → ⊥)
  pub too_many : (answer ≡ TooManyPlanes) ↔ (All (λ p. IsPlane (plane_of p)) planes × (MOST_PLANES < length planes))
  pub put : answer ≡ Done → after ≡ record before {
    state = with_planes (planes_of planes) before.state;
    mesh = after.mesh;
  }
  pub expired : answer ≡ Done → IsExpired before.mesh after.mesh (is_turned (scene_of before.state) (planes_of planes))
  pub kept : (answer ≡ Done → ⊥) → after ≡ before

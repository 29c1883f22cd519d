-- What is seen: the camera, the spacing, the planes of the view frustum, and the threshold of priorities.
-- Source: the view frustum culling of Duchaineau et al., "ROAMing Terrain", IEEE Visualization 1997, the part on view
-- frustum culling; a mark is decided here by the eight corners of the box alone.
use Rattle.std.specs.Prelude.{ℕ, Bool, if◌then◌else◌, List, [], ◌∷◌, ℤ, pos, ◌+ℤ◌, ◌*ℤ◌, int_lt}
use Rattle.std.specs.List.{list_any, list_all}
use Rattle.mesh_defs.specs.declared.mark.Mark.{Mark}
use Rattle.mesh_defs.specs.declared.mark.Mark.TheVariants.{Inside, Cut, Outside}
use Rattle.mesh_defs.specs.BoundingBox.{BoundingBox, CameraAt}

-- a plane of whole numbers; its inside is where a x + b y + c z + d is at least 0, in world units
pub record ViewPlane : Type 0 where
  pub a : ℤ
  pub b : ℤ
  pub c : ℤ
  pub d : ℤ

-- where the camera is, how many world units a grid step has, the planes in force, and the greatest ratio of thickness
-- and distance that is good enough
pub record View : Type 0 where
  pub camera : CameraAt
  pub spacing : ℕ
  pub planes : List ViewPlane
  pub threshold : ℕ

-- the point (x, y, z) is outside the plane
abbrev pub is_outside : ViewPlane → ℤ → ℤ → ℤ → Bool
is_outside p x y z = int_lt ((p.a *ℤ x) +ℤ ((p.b *ℤ y) +ℤ ((p.c *ℤ z) +ℤ p.d))) (pos 0)

-- for each of the eight corners of the box, whether it is outside the plane
abbrev pub outside_corners : BoundingBox → ViewPlane → List Bool
outside_corners box p =
    is_outside p box.x0 box.y0 box.z0 ∷ (is_outside p box.x1 box.y0 box.z0 ∷ (
    is_outside p box.x0 box.y1 box.z0 ∷ (is_outside p box.x1 box.y1 box.z0 ∷ (
    is_outside p box.x0 box.y0 box.z1 ∷ (is_outside p box.x1 box.y0 box.z1 ∷ (
    is_outside p box.x0 box.y1 box.z1 ∷ (is_outside p box.x1 box.y1 box.z1 ∷ [])))))))

-- all corners of the box are outside the plane
abbrev pub is_all_outside : BoundingBox → ViewPlane → Bool
is_all_outside box p = list_all (λ outside. outside) (outside_corners box p)

-- some corner of the box is outside the plane
abbrev pub is_some_outside : BoundingBox → ViewPlane → Bool
is_some_outside box p = list_any (λ outside. outside) (outside_corners box p)

-- Outside where all corners are outside one plane, Inside where no corner is outside any, else Cut.
unfoldable pub mark_of : List ViewPlane → BoundingBox → Mark
mark_of planes box =
    if list_any (is_all_outside box) planes then Outside
    else (if list_any (is_some_outside box) planes then Cut else Inside)

-- the view before the first line of a script: the camera at the origin, no plane, and threshold 0
abbrev pub start_view : ℕ → View
start_view spacing = record {
  camera = record { x = pos 0; y = pos 0; z = pos 0 };
  spacing = spacing;
  planes = [];
  threshold = 0;
}

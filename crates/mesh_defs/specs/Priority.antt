-- How much a triangle needs to be split, seen from the camera.
-- Source: the priority queues of Duchaineau et al., "ROAMing Terrain", IEEE Visualization 1997, the parts on priorities
-- and on the projected error; thickness over distance stands here in the place of the projected error, in whole
-- numbers.
use Rattle.std.specs.Prelude.{ℕ, ◌+◌, ◌*◌, ◌/◌, max, nat_lt, if◌then◌else◌, List, [], ◌∷◌}
use Rattle.mesh_defs.specs.declared.mark.Mark.{Mark}
use Rattle.mesh_defs.specs.declared.mark.Mark.TheVariants.{Inside, Cut, Outside}
use Rattle.mesh_defs.specs.Thickness.{thickness_of}
use Rattle.mesh_defs.specs.BoundingBox.{BoundingBox, box_of, distance_of}
use Rattle.mesh_defs.specs.View.{View, mark_of}

-- 65,536 times the thickness over the distance plus 1, rounded down
abbrev pub ratio_of : ℕ → ℕ → ℕ
ratio_of thickness distance = 65536 * thickness / (distance + 1)

-- the ratio, or 0 for what cannot be seen
abbrev pub seen_ratio : Mark → ℕ → ℕ → ℕ
seen_ratio Inside thickness distance = ratio_of thickness distance
seen_ratio Cut thickness distance = ratio_of thickness distance
seen_ratio Outside thickness distance = 0

-- a ratio that is above the threshold, or 0 for what is good enough
abbrev pub above : ℕ → ℕ → ℕ
above threshold ratio = if nat_lt threshold ratio then ratio else 0

-- The priority of triangle a in this view.
unfoldable pub priority_of : ℕ → List ℕ → View → ℕ → ℕ
priority_of n heights view a =
    let box : BoundingBox = box_of n heights view.spacing a in
    above view.threshold (seen_ratio (mark_of view.planes box) (thickness_of n heights a) (distance_of box view.camera))

-- the worst of a list: the greatest priority in it, or 0 of an empty one
abbrev pub worst_of : (ℕ → ℕ) → List ℕ → ℕ
worst_of priority [] = 0
worst_of priority (a ∷ triangles) = max (priority a) (worst_of priority triangles)

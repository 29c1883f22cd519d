-- What is required of a mesh: triangles to be split, or grid points to be vertices, by their places in the heights.
-- This project's own form. Words: is_centred_at, is_required, IsAskable, or_required.
use Rattle.std.specs.Prelude.{ℕ, ◌*◌, ◌<◌, Bool, ◌||◌, List, All}
use Rattle.mesh_defs.specs.HeightField.{side_of, place_of}
use Rattle.mesh_defs.specs.Triangle.{IsSplittable}
use Rattle.mesh_defs.specs.ClosedSet.{among}
use Rattle.fit_laws.specs.Centre.{has_centre}
use Rattle.fit_mesh.specs.declared.required.Required.{Required}
use Rattle.fit_mesh.specs.declared.required.Required.TheVariants.{Triangles, Points}

-- the triangle may be split, and its centre, the midpoint of its base, stands at one of these places in the heights
abbrev pub is_centred_at : ℕ → List ℕ → ℕ → Bool
is_centred_at n places = has_centre n (λ p. among places (place_of n p.x p.y))

-- the triangle has to be split
abbrev pub is_required : ℕ → Required → ℕ → Bool
is_required n (Triangles triangles) = among triangles.now
is_required n (Points places) = is_centred_at n places.now

-- each triangle may be split, and each place is one of the heights
abbrev pub IsAskable : ℕ → Required → Type 0
IsAskable n (Triangles triangles) = All (λ a. IsSplittable n a) triangles.now
IsAskable n (Points places) = All (λ k. k < side_of n * side_of n) places.now

-- it was asked for earlier, or it is now
abbrev pub or_required : ℕ → (ℕ → Bool) → Required → ℕ → Bool
or_required n earlier required a = earlier a || is_required n required a

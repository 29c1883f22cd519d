-- The plane of a triangle by steps of whole numbers. Words: height_by, AreSlopesOf.
use Rattle.std.specs.Prelude.{◌≡◌, ℕ, ◌+◌, ◌*◌, ◌^◌, ◌%◌, List, true}
use Rattle.mesh_defs.specs.BoundingBox.{point, holds_point}
use Rattle.fit_laws.specs.PlaneHeight.{plane_height}
use Rattle.mesh_measure.specs.declared.slope.Slopes.{Slopes}

-- what the steps give in column x of row y, modulo 2 ^ 32
abbrev pub height_by : Slopes → ℕ → ℕ → ℕ
height_by s x y = (s.at + x * s.right + y * s.up) % 2 ^ 32

-- at each point that triangle a holds that is 2 ^ n times the height of its plane
abbrev pub AreSlopesOf : ℕ → List ℕ → ℕ → Slopes → Type 0
AreSlopesOf n heights a s =
    (x y : ℕ) → holds_point n a (point x y) ≡ true → height_by s x y ≡ plane_height n heights a (point x y)

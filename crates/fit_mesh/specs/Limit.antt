-- By how much a mesh may be off: by one tolerance everywhere, or at each grid point by its own. Either is an error of
-- triangles, and what that may be. Words: tolerance_of, error_within, IsComplete.
use Rattle.std.specs.Prelude.{◌≡◌, ℕ, ◌*◌, List, length}
use Rattle.mesh_defs.specs.HeightField.{side_of}
use Rattle.fit_laws.specs.Error.{error_of}
use Rattle.fit_laws.specs.Excess.{excess_of}
use Rattle.fit_mesh.specs.declared.limit.Limit.{Limit}
use Rattle.fit_mesh.specs.declared.limit.Limit.TheVariants.{Common, Own}

-- the greatest error that a triangle may have
abbrev pub tolerance_of : Limit → ℕ
tolerance_of (Common tolerance) = tolerance
tolerance_of (Own tolerances) = 0

-- the error: how far the surface is from the plane at most, or by how much that is more than the point's tolerance
abbrev pub error_within : ℕ → List ℕ → Limit → ℕ → ℕ
error_within n heights (Common tolerance) = error_of n heights
error_within n heights (Own tolerances) = excess_of n heights tolerances.now

-- there is a tolerance for each grid point
abbrev pub IsComplete : ℕ → Limit → Type 0
IsComplete n (Common tolerance) = Unit {0}
IsComplete n (Own tolerances) = length tolerances.now ≡ side_of n * side_of n

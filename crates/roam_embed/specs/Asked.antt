-- What a caller asks of a mesh: a tolerance, or one of each grid point, and points that have to be vertices.
-- All of it is this project's own.
-- Words: own_tolerance_of, scaled, IsTolerance, AreTolerances, ArePlaces, tolerance_for, error_for.
use Rattle.std.specs.Prelude.{◌≡◌, ◌⊎◌, ℕ, ◌*◌, ◌<◌, ◌≤◌, nat_eq, cond, List, [], ◌∷◌, map, length, All}
use Rattle.mesh_defs.specs.HeightField.{side_of}
use Rattle.fit_laws.specs.Error.{error_of}
use Rattle.fit_laws.specs.Excess.{excess_of}
use Rattle.roam_embed.specs.Fitting.{fit_tolerance_of}
use Rattle.roam_embed.specs.declared.fitting.TheConstants.{GREATEST_TOLERANCE}

-- a point's own tolerance in units of height, times 2 ^ n: the greatest number stays, as a point that does not count
abbrev pub own_tolerance_of : ℕ → ℕ → ℕ
own_tolerance_of n thousandths = cond (nat_eq thousandths 4294967295) 4294967295 (fit_tolerance_of n thousandths)

-- of each point
abbrev pub scaled : ℕ → List ℕ → List ℕ
scaled n tolerances = map (own_tolerance_of n) tolerances

-- a tolerance of a point, or the number that says that it does not count
abbrev pub IsTolerance : ℕ → Type 0
IsTolerance thousandths = (thousandths ≤ GREATEST_TOLERANCE) ⊎ (thousandths ≡ 4294967295)

-- one tolerance for all points, or one of each of them
abbrev pub AreTolerances : ℕ → ℕ → List ℕ → Type 0
AreTolerances n thousandths [] = thousandths ≤ GREATEST_TOLERANCE
AreTolerances n thousandths (t ∷ tolerances) =
    (length (t ∷ tolerances) ≡ side_of n * side_of n) × All IsTolerance (t ∷ tolerances)

-- each is the place of a grid point in the heights
abbrev pub ArePlaces : ℕ → List ℕ → Type 0
ArePlaces n places = All (λ k. k < side_of n * side_of n) places

-- the greatest error that a triangle may have: the tolerance, or none where each point has its own
abbrev pub tolerance_for : ℕ → ℕ → List ℕ → ℕ
tolerance_for n thousandths [] = fit_tolerance_of n thousandths
tolerance_for n thousandths (t ∷ own) = 0

-- the error: how far the surface is from the triangle, or by how much that is more than a point's own tolerance
abbrev pub error_for : ℕ → List ℕ → List ℕ → ℕ → ℕ
error_for n heights [] = error_of n heights
error_for n heights (t ∷ own) = excess_of n heights (t ∷ own)

-- The tolerance of a certificate that is made, what its reasons reach, and where none stand. This project's own words.
-- Words: IsPossible, IsBestTolerance, IsBelow, HasNoneBehind.
use Rattle.std.specs.Prelude.{◌≡◌, ℕ, ◌<◌, ◌≤◌, List, [], length}
use Rattle.mesh_defs.specs.Priority.{worst_of}
use Rattle.mesh_laws.specs.Least.{IsLeastMesh}
use Rattle.fit_laws.specs.Budget.{IsBudgetMesh}
use Rattle.certificate_laws.specs.declared.fit_reason.Witness.{Witness}
use Rattle.certificate_laws.specs.declared.fit_reason.Target.{Target}
use Rattle.certificate_laws.specs.declared.fit_reason.Target.TheVariants.{Error, Budget}

-- a mesh has two triangles at least
abbrev pub IsPossible : Target → Type 0
IsPossible (Error tolerance) = Unit {0}
IsPossible (Budget triangles) = 2 ≤ triangles

-- that of the target, or the greatest error of a mesh of the budget, which is the least that one can have
abbrev pub IsBestTolerance : ℕ → (ℕ → ℕ) → Target → ℕ → Type 0
IsBestTolerance n error (Error tolerance) own = own ≡ tolerance
IsBestTolerance n error (Budget triangles) own =
    (mesh : List ℕ) × IsLeastMesh n own error mesh × (length mesh ≤ triangles) × (own ≡ worst_of error mesh)
    × (0 < own → IsBudgetMesh n triangles error mesh)

-- for a budget, none of these has an error above this
abbrev pub IsBelow : Target → (ℕ → ℕ) → ℕ → List ℕ → Type 0
IsBelow (Error tolerance) error lower leaves = Unit {0}
IsBelow (Budget triangles) error lower leaves = worst_of error leaves ≤ lower

-- for an error there are no reasons behind the mesh, since nothing behind it matters
abbrev pub HasNoneBehind : Target → List Witness → Type 0
HasNoneBehind (Error tolerance) beyond = beyond ≡ []
HasNoneBehind (Budget triangles) beyond = Unit {0}

-- Certificates of fitted meshes: reasons that replay the refinement of a mesh, each a triangle that every mesh that is
-- off by less has split.
-- The definition is this project's own; forced splits are those of Duchaineau et al., "ROAMing Terrain", 1997.
-- Words: FitCertificate, IsOff, IsFitReason, LeadsTo, LeadsToFit, IsFor, IsWithinTarget, IsEnough, IsFitSound,
-- IsFirstBadFit, IsFitRejected, IsFitVerdict, IsVerdictOf.
use Rattle.std.specs.Prelude.{◌≡◌, ℕ, ◌+◌, ◌-◌, ◌^◌, ◌<◌, ◌≤◌, ◌⊎◌, Bool, true, false, List, [], ◌∷◌, ◌++◌, length}
use Rattle.std.specs.Prelude.{Contains}
use Rattle.mesh_defs.specs.Triangle.{IsSplittable}
use Rattle.mesh_defs.specs.BoundingBox.{point, holds_point}
use Rattle.mesh_defs.specs.ClosedSet.{IsLeastClosed, leaves_of}
use Rattle.mesh_defs.specs.Greedy.{with_triangle}
use Rattle.mesh_defs.specs.Priority.{worst_of}
use Rattle.fit_laws.specs.PlaneHeight.{off_plane, deviation_of}
use Rattle.fit_laws.specs.Error.{error_of}
use Rattle.certificate_laws.specs.declared.fit_reason.Witness.{Witness}
use Rattle.certificate_laws.specs.declared.fit_reason.Target.{Target}
use Rattle.certificate_laws.specs.declared.fit_reason.Target.TheVariants as targets
use Rattle.certificate_laws.specs.declared.fit_reason.FitReject.{FitReject}
use Rattle.certificate_laws.specs.declared.fit_reason.FitReject.TheVariants.{OtherTolerance, BadReason, OverTolerance}
use Rattle.certificate_laws.specs.declared.fit_reason.FitReject.TheVariants.{OverBudget, TooFewReasons}
use Rattle.certificate_laws.specs.declared.fit_reason.FitVerdict.{FitVerdict}
use Rattle.certificate_laws.specs.declared.fit_reason.FitVerdict.TheVariants.{Certified, Rejected}

-- a tolerance, in units of height, times 2 ^ n; the reasons before the mesh, and those behind it
pub record FitCertificate : Type 0 where
  pub tolerance : ℕ
  pub needed : List Witness
  pub beyond : List Witness

-- the point is one of the grid that the triangle holds, where the surface is farther from its plane than the tolerance
pub record IsOff (n : ℕ) (heights : List ℕ) (tolerance : ℕ) (r : Witness) : Type 0 where
  pub column : r.x ≤ 2 ^ n
  pub row : r.y ≤ 2 ^ n
  pub held : holds_point n r.triangle (point r.x r.y) ≡ true
  pub above : tolerance < off_plane n heights r.triangle (point r.x r.y)

-- a reason behind those that make this set: a leaf of it that may be split, off by more than the tolerance
pub record IsFitReason (n : ℕ) (heights : List ℕ) (tolerance : ℕ) (has : ℕ → Bool) (r : Witness) : Type 0 where
  pub splittable : IsSplittable n r.triangle
  pub leaf : Contains (leaves_of n has) r.triangle
  pub off : IsOff n heights tolerance r

-- from one set to another by reasons, in order: each leaf is split, with what that forces
abbrev pub LeadsTo : ℕ → List ℕ → ℕ → (ℕ → Bool) → List Witness → (ℕ → Bool) → Type 0
LeadsTo n heights tolerance has [] after = (a : ℕ) → has a ≡ after a
LeadsTo n heights tolerance has (r ∷ reasons) after =
    (next : ℕ → Bool) × IsFitReason n heights tolerance has r × IsLeastClosed n (with_triangle has r.triangle) next
    × LeadsTo n heights tolerance next reasons after

-- the reasons before the mesh lead from the two halves of the square to its set, and no leaf of that exceeds the
-- tolerance
pub record LeadsToFit (n : ℕ) (heights : List ℕ) (cert : FitCertificate) (has : ℕ → Bool) : Type 0 where
  pub needed : LeadsTo n heights cert.tolerance (λ a. false) cert.needed has
  pub within : worst_of (error_of n heights) (leaves_of n has) ≤ cert.tolerance

-- the tolerance is that of the target, if it has one
abbrev pub IsFor : Target → ℕ → Type 0
IsFor (targets.Error tolerance) own = own ≡ tolerance
IsFor (targets.Budget triangles) own = Unit {0}

-- so many triangles are within the budget, if there is one
abbrev pub IsWithinTarget : Target → ℕ → Type 0
IsWithinTarget (targets.Error tolerance) count = Unit {0}
IsWithinTarget (targets.Budget triangles) count = count ≤ triangles

-- where the mesh may have an error, what a lower one needs exceeds the budget, if there is one
abbrev pub IsEnough : Target → ℕ → ℕ → Type 0
IsEnough (targets.Error tolerance) own over = Unit {0}
IsEnough (targets.Budget triangles) own over = (own ≡ 0) ⊎ (triangles < over)

-- A sound certificate of this mesh for a target: its reasons make the mesh, whose triangles are within its tolerance
-- and the budget; those behind are off by no less than the tolerance, and what they make exceeds the budget.
pub record IsFitSound (n : ℕ) (heights : List ℕ) (target : Target) (cert : FitCertificate)
    (mesh : List ℕ) : Type 0 where
  pub has : ℕ → Bool
  pub over : ℕ → Bool
  pub own : IsFor target cert.tolerance
  pub fitted : LeadsToFit n heights cert has
  pub few : IsWithinTarget target (length (leaves_of n has))
  pub beyond : LeadsTo n heights (cert.tolerance - 1) has cert.beyond over
  pub enough : IsEnough target cert.tolerance (length (leaves_of n over))
  pub leaves : mesh ≡ leaves_of n has

-- the reasons begin with good ones, and the next one, counted from 1, is none
pub record IsFirstBadFit (n : ℕ) (heights : List ℕ) (tolerance : ℕ) (has : ℕ → Bool) (reasons : List Witness)
    (index : ℕ) : Type 0 where
  pub good : List Witness
  pub bad : Witness
  pub rest : List Witness
  pub after : ℕ → Bool
  pub parts : reasons ≡ good ++ bad ∷ rest
  pub place : length good + 1 ≡ index
  pub leads : LeadsTo n heights tolerance has good after
  pub fails : IsFitReason n heights tolerance after bad → ⊥

-- the first test that fails
abbrev pub IsFitRejected : ℕ → List ℕ → Target → FitCertificate → FitReject → Type 0
IsFitRejected n heights target cert OtherTolerance = IsFor target cert.tolerance → ⊥
IsFitRejected n heights target cert (BadReason index) = IsFor target cert.tolerance ×
    (IsFirstBadFit n heights cert.tolerance (λ a. false) cert.needed index
    ⊎ ((has : ℕ → Bool) × LeadsToFit n heights cert has × IsWithinTarget target (length (leaves_of n has))
    × (place : ℕ) × IsFirstBadFit n heights (cert.tolerance - 1) has cert.beyond place
    × (index ≡ length cert.needed + place)))
IsFitRejected n heights target cert OverTolerance = IsFor target cert.tolerance ×
    (has : ℕ → Bool) × LeadsTo n heights cert.tolerance (λ a. false) cert.needed has
    × (cert.tolerance < worst_of (error_of n heights) (leaves_of n has))
IsFitRejected n heights target cert OverBudget = IsFor target cert.tolerance ×
    (has : ℕ → Bool) × LeadsToFit n heights cert has × (IsWithinTarget target (length (leaves_of n has)) → ⊥)
IsFitRejected n heights target cert TooFewReasons = IsFor target cert.tolerance ×
    (has : ℕ → Bool) × LeadsToFit n heights cert has × IsWithinTarget target (length (leaves_of n has))
    × (over : ℕ → Bool) × LeadsTo n heights (cert.tolerance - 1) has cert.beyond over
    × (IsEnough target cert.tolerance (length (leaves_of n over)) → ⊥)

-- the verdict: sound, with so many triangles and this deviation, or the first test that fails
abbrev pub IsFitVerdict : ℕ → List ℕ → Target → FitCertificate → FitVerdict → Type 0
IsFitVerdict n heights target cert (Certified triangles deviation) =
    (mesh : List ℕ) × IsFitSound n heights target cert mesh × (triangles ≡ length mesh)
    × (deviation ≡ deviation_of n heights mesh)
IsFitVerdict n heights target cert (Rejected why) = IsFitRejected n heights target cert why

-- the same, with the triangles of the mesh, where it is sound
abbrev pub IsVerdictOf : ℕ → List ℕ → Target → FitCertificate → FitVerdict → List ℕ → Type 0
IsVerdictOf n heights target cert (Certified triangles deviation) mesh =
    IsFitSound n heights target cert mesh × (triangles ≡ length mesh) × (deviation ≡ deviation_of n heights mesh)
IsVerdictOf n heights target cert (Rejected why) mesh = IsFitRejected n heights target cert why

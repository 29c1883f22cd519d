-- Certificates of fitted meshes that keep points. Points come first, whose triangles are split since the mesh has to have
-- the points as vertices, and then the reasons that replay the refinement for the error.
-- The definition is this project's own.
-- Words: is_centred, KeptCertificate, IsNeed, IsFirstBadNeed, LeadsToKept, IsKeptFit, IsKeptSound, IsBadKept,
-- IsKeptRejected, IsKeptVerdict, IsKeptVerdictOf.
use Rattle.std.specs.Prelude.{◌≡◌, ℕ, ◌+◌, ◌^◌, ◌<◌, ◌≤◌, ◌⊎◌, Bool, List, [], ◌∷◌, ◌++◌}
use Rattle.std.specs.Prelude.{All, Contains, length}
use Rattle.std.specs.List.{list_any}
use Rattle.mesh_defs.specs.declared.point.Point.{Point}
use Rattle.mesh_defs.specs.ClosedSet.{IsLeastClosed, IsSubset, leaves_of}
use Rattle.mesh_defs.specs.MeshText.{is_same_point}
use Rattle.mesh_defs.specs.Priority.{worst_of}
use Rattle.mesh_laws.specs.Vertex.{IsSquareCorner}
use Rattle.fit_laws.specs.Centre.{has_centre}
use Rattle.fit_laws.specs.PlaneHeight.{deviation_of}
use Rattle.fit_laws.specs.Error.{error_of}
use Rattle.certificate_laws.specs.declared.fit_reason.FitReject.{FitReject}
use Rattle.certificate_laws.specs.declared.fit_reason.FitReject.TheVariants.{OtherTolerance, BadReason, OverTolerance}
use Rattle.certificate_laws.specs.declared.fit_reason.FitReject.TheVariants.{OverBudget, TooFewReasons}
use Rattle.certificate_laws.specs.declared.fit_reason.FitVerdict.{FitVerdict}
use Rattle.certificate_laws.specs.declared.fit_reason.FitVerdict.TheVariants.{Certified, Rejected}
use Rattle.certificate_laws.specs.FitCertificate.{FitCertificate, LeadsTo, IsFirstBadFit}

-- the triangle may be split, and its centre, the midpoint of its base, is one of these points
abbrev pub is_centred : ℕ → List Point → ℕ → Bool
is_centred n points = has_centre n (λ p. list_any (is_same_point p) points)

-- points that the mesh needs since they are kept, and a certificate that goes on from there
pub record KeptCertificate : Type 0 where
  pub needs : List Point
  pub rest : FitCertificate

-- the point is one of those that are kept, and no corner of the square, which each mesh has
pub record IsNeed (n : ℕ) (points : List Point) (p : Point) : Type 0 where
  pub kept : Contains points p
  pub inner : IsSquareCorner (2 ^ n) p → ⊥

-- the list begins with such points, and the next one, counted from 1, is none
pub record IsFirstBadNeed (n : ℕ) (points needs : List Point) (index : ℕ) : Type 0 where
  pub good : List Point
  pub bad : Point
  pub rest : List Point
  pub parts : needs ≡ good ++ bad ∷ rest
  pub place : length good + 1 ≡ index
  pub are : All (IsNeed n points) good
  pub fails : IsNeed n points bad → ⊥

-- the points are needed, and from the least closed set that has each of them as a centre the reasons lead to this set
pub record LeadsToKept (n : ℕ) (heights : List ℕ) (points : List Point) (cert : KeptCertificate)
    (has : ℕ → Bool) : Type 0 where
  pub start : ℕ → Bool
  pub needs : All (IsNeed n points) cert.needs
  pub begun : IsLeastClosed n (is_centred n cert.needs) start
  pub needed : LeadsTo n heights cert.rest.tolerance start cert.rest.needed has

-- and no leaf of it exceeds the tolerance
pub record IsKeptFit (n : ℕ) (heights : List ℕ) (points : List Point) (cert : KeptCertificate)
    (has : ℕ → Bool) : Type 0 where
  pub leads : LeadsToKept n heights points cert has
  pub within : worst_of (error_of n heights) (leaves_of n has) ≤ cert.rest.tolerance

-- A sound certificate of this mesh for an error and the points that it keeps: the tolerance is that of the error, its
-- points and its reasons make the mesh, whose triangles are within it, no reason stands behind the mesh, and each
-- triangle is split whose centre is kept.
pub record IsKeptSound (n : ℕ) (heights : List ℕ) (points : List Point) (tolerance : ℕ) (cert : KeptCertificate)
    (mesh : List ℕ) : Type 0 where
  pub has : ℕ → Bool
  pub own : cert.rest.tolerance ≡ tolerance
  pub fit : IsKeptFit n heights points cert has
  pub behind : cert.rest.beyond ≡ []
  pub keeps : IsSubset (is_centred n points) has
  pub leaves : mesh ≡ leaves_of n has

-- The first reason that is none, counted from 1 over the points, the reasons before the mesh and those behind it: a
-- point that is not needed, a reason that is none, or the first one behind a mesh within the tolerance.
abbrev pub IsBadKept : ℕ → List ℕ → List Point → KeptCertificate → ℕ → Type 0
IsBadKept n heights points cert index =
    IsFirstBadNeed n points cert.needs index
    ⊎ ((start : ℕ → Bool) × All (IsNeed n points) cert.needs × IsLeastClosed n (is_centred n cert.needs) start
    × (place : ℕ) × IsFirstBadFit n heights cert.rest.tolerance start cert.rest.needed place
    × (index ≡ length cert.needs + place))
    ⊎ ((has : ℕ → Bool) × IsKeptFit n heights points cert has × (cert.rest.beyond ≡ [] → ⊥)
    × (index ≡ length cert.needs + length cert.rest.needed + 1))

-- the first test that fails; there is no budget
abbrev pub IsKeptRejected : ℕ → List ℕ → List Point → ℕ → KeptCertificate → FitReject → Type 0
IsKeptRejected n heights points tolerance cert OtherTolerance = cert.rest.tolerance ≡ tolerance → ⊥
IsKeptRejected n heights points tolerance cert (BadReason index) =
    (cert.rest.tolerance ≡ tolerance) × IsBadKept n heights points cert index
IsKeptRejected n heights points tolerance cert OverTolerance = (cert.rest.tolerance ≡ tolerance)
    × (has : ℕ → Bool) × LeadsToKept n heights points cert has
    × (cert.rest.tolerance < worst_of (error_of n heights) (leaves_of n has))
IsKeptRejected n heights points tolerance cert OverBudget = ⊥
IsKeptRejected n heights points tolerance cert TooFewReasons = (cert.rest.tolerance ≡ tolerance)
    × (has : ℕ → Bool) × IsKeptFit n heights points cert has × (cert.rest.beyond ≡ [])
    × (IsSubset (is_centred n points) has → ⊥)

-- the verdict: sound, with so many triangles and this deviation, or the first test that fails
abbrev pub IsKeptVerdict : ℕ → List ℕ → List Point → ℕ → KeptCertificate → FitVerdict → Type 0
IsKeptVerdict n heights points tolerance cert (Certified triangles deviation) =
    (mesh : List ℕ) × IsKeptSound n heights points tolerance cert mesh × (triangles ≡ length mesh)
    × (deviation ≡ deviation_of n heights mesh)
IsKeptVerdict n heights points tolerance cert (Rejected why) = IsKeptRejected n heights points tolerance cert why

-- the same, with the triangles of the mesh, where it is sound
abbrev pub IsKeptVerdictOf : ℕ → List ℕ → List Point → ℕ → KeptCertificate → FitVerdict → List ℕ → Type 0
IsKeptVerdictOf n heights points tolerance cert (Certified triangles deviation) mesh =
    IsKeptSound n heights points tolerance cert mesh × (triangles ≡ length mesh)
    × (deviation ≡ deviation_of n heights mesh)
IsKeptVerdictOf n heights points tolerance cert (Rejected why) mesh =
    IsKeptRejected n heights points tolerance cert why

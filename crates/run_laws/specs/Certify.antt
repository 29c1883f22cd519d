-- Certificates as a run makes and checks them: over a grid as it was read, at a budget, a spacing and a camera, without
-- planes.
-- This project's own.
-- Words: makes_at, checks_at, IsMade, IsFaultless, IsFitMade, IsFitFaultless, IsKeptMade, IsKeptFaultless,
-- IsFirstDifference.
use Rattle.std.specs.Prelude.{◌≡◌, ◌≢◌, ℕ, ◌+◌, ◌*◌, ◌^◌, ◌<◌, ◌≤◌, List, length, take, slice_get}
use Rattle.mesh_defs.specs.declared.point.Point.{Point}
use Rattle.mesh_defs.specs.HeightField.{HeightField}
use Rattle.mesh_defs.specs.BoundingBox.{CameraAt}
use Rattle.mesh_defs.specs.BestMesh.{IsBestMesh}
use Rattle.mesh_defs.specs.State.{State, start_state, with_camera, priority_in}
use Rattle.certificate_laws.specs.Certificate.{IsSound}
use Rattle.cert_text.specs.Certificate.{Certificate}
use Rattle.certificate_laws.specs.FitCertificate.{FitCertificate}
use Rattle.certificate_laws.specs.FitCertificate as fits
use Rattle.certificate_laws.specs.Keeping.{KeptCertificate, IsKeptSound}
use Rattle.certificate_laws.specs.Making.{HasNoneBehind}
use Rattle.run_words.specs.Words.{Making, Checking, FitMaking, FitChecking, KeptMaking, KeptChecking}
use Rattle.run_laws.specs.Fit.{tolerance_of, target_of}

-- what a certificate is made for: the grid seen from the camera, before any line of a script
abbrev pub makes_at : Making → HeightField → State
makes_at m grid = with_camera m.camera (start_state grid m.spacing m.budget)

-- what a certificate with this camera is checked for
abbrev pub checks_at : Checking → HeightField → CameraAt → State
checks_at c grid camera = with_camera camera (start_state grid c.spacing c.budget)

-- A certificate that may be made: of the best mesh of the budget at the camera of the words, depth first, and with
-- reasons that prove it so.
pub record IsMade (m : Making) (grid : HeightField) (cert : Certificate) : Type 0 where
  pub camera : cert.camera ≡ m.camera
  pub best : IsBestMesh grid.n m.budget (priority_in (makes_at m grid)) cert.leaves
  pub sound : IsSound grid.n m.budget (priority_in (makes_at m grid)) cert.leaves cert.reasons
  pub few : length cert.reasons < m.budget

-- no part of the certificate fails
abbrev pub IsFaultless : Checking → HeightField → Certificate → Type 0
IsFaultless c grid cert = IsSound grid.n c.budget (priority_in (checks_at c grid cert.camera)) cert.leaves cert.reasons

-- A certificate of a fitted mesh that may be made: a sound one for what the words say, for an error without reasons
-- behind the mesh, and with no more reasons than triangles that may be split, 2 to 2 ^ (2n + 1) - 1.
pub record IsFitMade (m : FitMaking) (grid : HeightField) (cert : FitCertificate) : Type 0 where
  pub triangles : List ℕ
  pub sound : fits.IsFitSound grid.n grid.heights (target_of grid.n m.goal) cert triangles
  pub behind : HasNoneBehind (target_of grid.n m.goal) cert.beyond
  pub few : length cert.needed + length cert.beyond + 2 ≤ 2 ^ (2 * grid.n + 1)

-- no part of it fails: it is a sound one of these triangles
abbrev pub IsFitFaultless : FitChecking → HeightField → FitCertificate → List ℕ → Type 0
IsFitFaultless c grid cert triangles = fits.IsFitSound grid.n grid.heights (target_of grid.n c.goal) cert triangles

-- A certificate of a fitted mesh that keeps points that may be made: a sound one for the error of the words and these
-- points, which needs no more points than there are, and with no more reasons than triangles that may be split.
pub record IsKeptMade (m : KeptMaking) (points : List Point) (grid : HeightField) (cert : KeptCertificate) : Type 0 where
  pub triangles : List ℕ
  pub sound : IsKeptSound grid.n grid.heights points (tolerance_of grid.n m.thousandths) cert triangles
  pub few_needs : length cert.needs ≤ length points
  pub few : length cert.rest.needed + 2 ≤ 2 ^ (2 * grid.n + 1)

-- no part of it fails, for these points
abbrev pub IsKeptFaultless : KeptChecking → List Point → HeightField → KeptCertificate → List ℕ → Type 0
IsKeptFaultless c points grid cert triangles =
    IsKeptSound grid.n grid.heights points (tolerance_of grid.n c.thousandths) cert triangles

-- Two texts are the same up to this place, counted from 0, and there they differ, or only one goes on.
pub record IsFirstDifference (these those : List ℕ) (at : ℕ) : Type 0 where
  pub same : take at these ≡ take at those
  pub differ : slice_get these at ≢ slice_get those at

-- A certificate as contracts see it. This project's own.
use Rattle.std.specs.Prelude.{ℕ, List}
use Rattle.mesh_defs.specs.BoundingBox.{CameraAt}
use Rattle.certificate_laws.specs.declared.reason.Reason.{Reason}

-- a camera, the triangles of a mesh in order, and the reasons why no mesh within a budget is better
pub record Certificate : Type 0 where
  pub camera : CameraAt
  pub leaves : List ℕ
  pub reasons : List Reason

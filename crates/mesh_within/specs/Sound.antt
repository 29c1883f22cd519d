-- The promise of the judge: a mesh that tiles the rectangle without gap, fold or step, and how far it is from the surface.
-- Words: IsSound, IsRefused.
use Rattle.std.specs.Prelude.{ℕ, ◌/◌, List, length}
use Rattle.mesh_defs.specs.declared.point.Point.{Point}
use Rattle.mesh_cover.specs.declared.fault.Fault.{Fault}
use Rattle.mesh_cover.specs.Mesh.{IsTiling}
use Rattle.mesh_cover.specs.Conforming.{corner_in, IsConforming, IsFault}
use Rattle.mesh_within.specs.declared.deviation.Deviation.{Deviation}
use Rattle.mesh_within.specs.Deviation.{IsDeviation}

-- A sound mesh with its deviation: its triangles tile the rectangle, it is conforming with some partners of its edges, and no
-- deviation is greater.
pub record IsSound (right top : ℕ) (surface : List ℕ) (points : List Point) (heights corners : List ℕ) (d : Deviation) : Type 0 where
  pub tiles : IsTiling right top (length corners / 3) (corner_in points corners)
  pub conforming : (across : List ℕ) × IsConforming right top points heights corners across
  pub deviation : IsDeviation right top surface points heights corners d

-- the first place that is wrong, with the partners that were tried
abbrev pub IsRefused : ℕ → ℕ → List Point → List ℕ → List ℕ → Fault → Type 0
IsRefused right top points heights corners fault = (across : List ℕ) × IsFault right top points heights corners across fault

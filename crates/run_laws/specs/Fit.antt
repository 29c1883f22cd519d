-- A mesh that is fitted to a height field, whatever it is seen from: the fewest triangles for an error, or the least
-- error for a budget. This project's own form.
-- Words: tolerance_of, target_of, IsFitFor, IsFitted, IsFewestFor, IsClosestFor, IsBestFit, IsKeptFor, IsKept,
-- IsFewestKeeping, fit_text.
use Rattle.std.specs.Prelude.{◌≡◌, ℕ, ◌*◌, ◌^◌, ◌/◌, ◌≤◌, IsTrue, List, [], length, All}
use Rattle.mesh_defs.specs.declared.point.Point.{Point}
use Rattle.mesh_defs.specs.HeightField.{HeightField}
use Rattle.mesh_defs.specs.Tiling.{IsConforming}
use Rattle.mesh_defs.specs.ClosedSet.{leaves_of}
use Rattle.mesh_defs.specs.MeshText.{mesh_text}
use Rattle.mesh_laws.specs.Ancestors.{ancestors_of}
use Rattle.fit_laws.specs.PlaneHeight.{deviation_of}
use Rattle.mesh_laws.specs.Least.{IsLeastMesh}
use Rattle.fit_laws.specs.Error.{error_of}
use Rattle.fit_laws.specs.Budget.{IsBudgetMesh}
use Rattle.mesh_laws.specs.Vertex.{is_mesh_vertex}
use Rattle.fit_laws.specs.Required.{IsLeastMeshWith}
use Rattle.certificate_laws.specs.declared.fit_reason.Target.{Target}
use Rattle.certificate_laws.specs.declared.fit_reason.Target.TheVariants as target
use Rattle.certificate_laws.specs.Keeping.{is_centred}
use Rattle.run_words.specs.Words.{Goal, AtError, InBudget}

-- The tolerance of so many thousandths of a unit of height, in units of 2 ^ -n: errors are whole in these, so rounding
-- down loses none.
abbrev pub tolerance_of : (n thousandths : ℕ) → ℕ
tolerance_of n thousandths = thousandths * 2 ^ n / 1000

-- the target of a certificate of the mesh
abbrev pub target_of : ℕ → Goal → Target
target_of n (AtError thousandths) = target.Error (tolerance_of n thousandths)
target_of n (InBudget budget) = target.Budget budget

-- the list is a least mesh for the error, or a mesh of the budget with the least greatest error
abbrev pub IsFitFor : Goal → HeightField → List ℕ → Type 0
IsFitFor (AtError thousandths) grid triangles =
    IsLeastMesh grid.n (tolerance_of grid.n thousandths) (error_of grid.n grid.heights) triangles
IsFitFor (InBudget budget) grid triangles = IsBudgetMesh grid.n budget (error_of grid.n grid.heights) triangles

-- and its triangles stand depth first: there is one such list
pub record IsFitted (goal : Goal) (grid : HeightField) (triangles : List ℕ) : Type 0 where
  pub fit : IsFitFor goal grid triangles
  pub in_order : leaves_of grid.n (ancestors_of triangles) ≡ triangles

-- The list has the fewest triangles for an error of so many thousandths: it is conforming, at no grid point the surface
-- is farther off, and each such list has at least as many triangles.
pub record IsFewestFor (thousandths : ℕ) (grid : HeightField) (triangles : List ℕ) : Type 0 where
  pub conforming : IsConforming grid.n triangles
  pub near : 1000 * deviation_of grid.n grid.heights triangles ≤ thousandths * 2 ^ grid.n
  pub fewest : (others : List ℕ) → IsConforming grid.n others →
      1000 * deviation_of grid.n grid.heights others ≤ thousandths * 2 ^ grid.n → length triangles ≤ length others

-- The list has the least error for a budget: it is conforming and within the budget, the surface is as near as to any
-- such list, and of those to which it is as near none has fewer triangles.
pub record IsClosestFor (budget : ℕ) (grid : HeightField) (triangles : List ℕ) : Type 0 where
  pub conforming : IsConforming grid.n triangles
  pub within : length triangles ≤ budget
  pub closest : (others : List ℕ) → IsConforming grid.n others → length others ≤ budget →
      deviation_of grid.n grid.heights triangles ≤ deviation_of grid.n grid.heights others
  pub fewest : (others : List ℕ) → IsConforming grid.n others →
      deviation_of grid.n grid.heights others ≤ deviation_of grid.n grid.heights triangles →
      length triangles ≤ length others

-- what a mesh is that is fitted, in these words
abbrev pub IsBestFit : Goal → HeightField → List ℕ → Type 0
IsBestFit (AtError thousandths) grid triangles = IsFewestFor thousandths grid triangles
IsBestFit (InBudget budget) grid triangles = IsClosestFor budget grid triangles

-- the list is a least mesh for the error of those in which all these triangles are split, so that it has the points
abbrev pub IsKeptFor : ℕ → List Point → HeightField → List ℕ → Type 0
IsKeptFor thousandths points grid triangles =
    IsLeastMeshWith grid.n (tolerance_of grid.n thousandths) (error_of grid.n grid.heights) (is_centred grid.n points)
    triangles

-- and its triangles stand depth first: there is one such list
pub record IsKept (thousandths : ℕ) (points : List Point) (grid : HeightField) (triangles : List ℕ) : Type 0 where
  pub fit : IsKeptFor thousandths points grid triangles
  pub in_order : leaves_of grid.n (ancestors_of triangles) ≡ triangles

-- The list has the fewest triangles for an error of so many thousandths, of the lists that have these points as
-- vertices: it is conforming, at no grid point the surface is farther off, each of the points is a corner of a
-- triangle, and each such list has at least as many triangles.
pub record IsFewestKeeping (thousandths : ℕ) (points : List Point) (grid : HeightField)
    (triangles : List ℕ) : Type 0 where
  pub conforming : IsConforming grid.n triangles
  pub near : 1000 * deviation_of grid.n grid.heights triangles ≤ thousandths * 2 ^ grid.n
  pub keeps : All (λ p. IsTrue (is_mesh_vertex grid.n triangles p)) points
  pub fewest : (others : List ℕ) → IsConforming grid.n others →
      1000 * deviation_of grid.n grid.heights others ≤ thousandths * 2 ^ grid.n →
      All (λ p. IsTrue (is_mesh_vertex grid.n others p)) points → length triangles ≤ length others

-- the text of the mesh of these triangles over a grid, with so many world units a grid step
abbrev pub fit_text : ℕ → HeightField → List ℕ → List ℕ
fit_text spacing grid triangles = mesh_text grid.n grid.heights spacing [] triangles

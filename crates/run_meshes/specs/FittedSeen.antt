-- A mesh that was fitted to a grid, in the words of a run.
-- Words: tolerance_for, budget_for, IsFittedTo, IsRoomFor, IsRequiredFor, IsKeptOn, deviation_text, fit_numbers,
-- fitted_acts.
use Rattle.std.specs.Prelude.{◌≡◌, ℕ, ◌-◌, ◌^◌, ◌≤◌, List, [], ◌∷◌, ◌++◌, All, length, codes, decimal, vec_capacity}
use Rattle.mesh_defs.specs.declared.level.TheConstants.{GREATEST_LEVEL}
use Rattle.mesh_defs.specs.declared.point.Point.{Point}
use Rattle.mesh_defs.specs.HeightField.{HeightField}
use Rattle.mesh_defs.specs.Triangle.{IsSplittable}
use Rattle.mesh_defs.specs.Tiling.{IsConforming}
use Rattle.mesh_defs.specs.ClosedSet.{IsSubset, among}
use Rattle.mesh_defs.specs.MeshText.{vertices_of}
use Rattle.mesh_laws.specs.Ancestors.{ancestors_of}
use Rattle.roam_script.specs.PointText.{most_points}
use Rattle.fit_laws.specs.PlaneHeight.{deviation_of}
use Rattle.roam_num.specs.Places.{exact_decimal}
use Rattle.run_words.specs.Words.{Goal, AtError, InBudget}
use Rattle.certificate_laws.specs.Keeping.{is_centred}
use Rattle.run_laws.specs.Fit.{tolerance_of, IsFitted, IsKept, fit_text}
use Rattle.run_laws.specs.Act.{Act, WholeMesh, ReportText}
use Rattle.run_meshes.specs.declared.fitted.Fitted.{Fitted}
use Rattle.run_meshes.specs.declared.room.KeepRoom.{KeepRoom}

-- the tolerance and the budget of a frame that leads to the mesh: one of them is no bound
abbrev pub tolerance_for : ℕ → Goal → ℕ
tolerance_for n (AtError thousandths) = tolerance_of n thousandths
tolerance_for n (InBudget budget) = 0

abbrev pub budget_for : Goal → ℕ
budget_for (AtError thousandths) = 2 ^ 32 - 1
budget_for (InBudget budget) = budget

-- the mesh was fitted to this grid, and the note has its counts and its deviation
pub record IsFittedTo (f : Fitted) (goal : Goal) (grid : HeightField) : Type 0 where
  pub same_grid : f.grid ≡ grid
  pub level : f.fit.n ≡ grid.n
  pub fitted : IsFitted goal grid f.fit.leaves
  pub triangles : f.note.triangles ≡ length f.fit.leaves
  pub vertices : f.note.vertices ≡ length (vertices_of grid.n f.fit.leaves)
  pub deviation : f.note.deviation ≡ deviation_of grid.n grid.heights f.fit.leaves

-- room to fit a mesh to this grid, for a point of each line that its file may have
pub record IsRoomFor (room : KeepRoom) (grid : HeightField) : Type 0 where
  pub same_grid : room.grid ≡ grid
  pub level : room.fit.n ≡ grid.n
  pub n_low : 1 ≤ grid.n
  pub n_high : grid.n ≤ GREATEST_LEVEL
  pub no_points : room.points.items ≡ []
  pub points_room : most_points grid.n ≤ vec_capacity room.points
  pub none_required : room.required.items ≡ []
  pub required_room : most_points grid.n ≤ vec_capacity room.required

-- These triangles are centred at the points, and a conforming list that splits them splits all that is centred there.
pub record IsRequiredFor (n : ℕ) (points : List Point) (required : List ℕ) : Type 0 where
  pub splittable : All (IsSplittable n) required
  pub centred : IsSubset (among required) (is_centred n points)
  pub enough : (triangles : List ℕ) → IsConforming n triangles → IsSubset (among required) (ancestors_of triangles) →
      IsSubset (is_centred n points) (ancestors_of triangles)

-- the mesh was fitted to this grid, keeps the points, and the note has its counts and its deviation
pub record IsKeptOn (f : Fitted) (thousandths : ℕ) (points : List Point) (grid : HeightField) : Type 0 where
  pub same_grid : f.grid ≡ grid
  pub level : f.fit.n ≡ grid.n
  pub kept : IsKept thousandths points grid f.fit.leaves
  pub triangles : f.note.triangles ≡ length f.fit.leaves
  pub vertices : f.note.vertices ≡ length (vertices_of grid.n f.fit.leaves)
  pub deviation : f.note.deviation ≡ deviation_of grid.n grid.heights f.fit.leaves

-- ` deviation N over M error D`: N over 2 ^ n as a fraction and as a decimal
abbrev pub deviation_text : (n deviation : ℕ) → List ℕ
deviation_text n deviation =
    codes " deviation " ++ decimal deviation ++ codes " over " ++ decimal (2 ^ n) ++ codes " error "
    ++ exact_decimal deviation n

-- the line of a mesh of the grid of side 2 ^ n with these numbers
abbrev pub fit_numbers : (n triangles vertices deviation : ℕ) → List ℕ
fit_numbers n triangles vertices deviation =
    codes "fit triangles " ++ decimal triangles ++ codes " vertices " ++ decimal vertices
    ++ codes " deviation " ++ decimal deviation ++ codes " over " ++ decimal (2 ^ n) ++ codes " error "
    ++ exact_decimal deviation n ++ codes "\n"

-- the acts of the mesh, whose name begins with this prefix, with so many world units a grid step: it, and then its line
abbrev pub fitted_acts : List ℕ → ℕ → Fitted → List Act
fitted_acts begin spacing f =
    WholeMesh begin 1 (fit_text spacing f.grid f.fit.leaves)
    ∷ (ReportText (fit_numbers f.grid.n f.note.triangles f.note.vertices f.note.deviation) ∷ [])

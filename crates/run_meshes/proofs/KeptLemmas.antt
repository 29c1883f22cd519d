-- The triangles whose centres are points, one point after the other; and the mesh in which they are split ends the
-- command.
use Rattle.std.proofs.Common.{◌≡◌, ◌⊎◌, ℕ, ◌+◌, ◌^◌, IsTrue, List, [], ◌∷◌, ◌++◌, Contains, length}
use Rattle.std.proofs.Common.{take, inl, inr, Some, None, Ok, refl, sym, ◌∙◌, ap, subst, ⊎_elim}
use Rattle.std.proofs.lemmas.List.Elements.{All-append, All-cons, All-nil, Contains-push}
use Rattle.mesh_defs.specs.declared.point.Point.{Point}
use Rattle.mesh_defs.specs.HeightField.{HeightField}
use Rattle.mesh_defs.specs.Triangle.{IsSplittable}
use Rattle.mesh_defs.specs.Tiling.{IsConforming}
use Rattle.mesh_defs.specs.ClosedSet.{leaves_of, among}
use Rattle.mesh_defs.specs.MeshText.{vertices_of}
use Rattle.mesh_defs.proofs.ListLemmas.{IsIn, IsIn-among, among-in, IsIn-append, IsIn-append-left, IsIn-append-right}
use Rattle.mesh_laws.specs.Ancestors.{ancestors_of}
use Rattle.fit_laws.specs.PlaneHeight.{deviation_of}
use Rattle.fit_laws.specs.Error.{error_of}
use Rattle.fit_laws.specs.Required.{IsMeshWith, IsLeastMeshWith}
use Rattle.mesh_laws.specs.Vertex.{is_mesh_vertex, centre_of, IsSquareCorner}
use Rattle.certificate_laws.specs.Keeping.{is_centred}
use Rattle.certificate_laws.proofs.CentreLemmas.{is-centred, centred-none, centred-more, centred-cases, corner-none}
use Rattle.roam_edge.specs.Shelf.{NamedFile, bytes_of}
use Rattle.run_laws.specs.declared.status.Status.{Status}
use Rattle.run_laws.specs.declared.status.Status.TheVariants.{Done}
use Rattle.run_words.specs.Words.{Keeping, fitting_of, Keep, OnGrid}
use Rattle.run_laws.specs.PointFile.{points_in}
use Rattle.run_laws.specs.Fit.{tolerance_of, IsKeptFor}
use Rattle.run_laws.specs.Act.{Act}
use Rattle.run_laws.specs.Promise.{HasEnded}
use Rattle.run_laws.specs.Moment.{Moment}
use Rattle.run_laws.specs.Leaving.{RunsCommand, ReadsGrid, HasOpened, EndsWith}
use Rattle.run_laws.proofs.VertexLemmas.{centre-above}
use Rattle.run_laws.proofs.KeepRunLemmas.{points-told, kept-runs}
use Rattle.run_meshes.specs.declared.fitted.Fitted.{Fitted}
use Rattle.run_meshes.specs.FittedSeen.{IsRequiredFor, IsKeptOn, fitted_acts}
use Rattle.run_meshes.proofs.FittedLemmas.{acts-fitted}

-- no point has no triangle
pub required-none : (n : ℕ) → IsRequiredFor n [] []
required-none n = record {
  splittable = All-nil (IsSplittable n);
  centred = λ a is. absurd (IsIn-among a [] is);
  enough = λ triangles conforming splits a is. absurd (centred-none n a is);
}

module _ (n : ℕ) (points : List Point) (required : List ℕ) (p : Point) (so_far : IsRequiredFor n points required) where
  -- a corner of the square is no centre
  pub required-corner : IsSquareCorner (2 ^ n) p → IsRequiredFor n (points ++ p ∷ []) required
  required-corner corner = record {
    splittable = so_far.splittable;
    centred = λ a is. centred-more n points p a (so_far.centred a is);
    enough = λ triangles conforming splits a is. so_far.enough triangles conforming splits a
        (corner-none n points p corner a is);
  }

  -- and another point is that of a triangle, which is split exactly where the point is a vertex
  module _ (t : ℕ) (splittable : IsSplittable n t) (centre : centre_of n t ≡ p)
      (vertex : (triangles : List ℕ) → IsConforming n triangles →
      is_mesh_vertex n triangles p ≡ ancestors_of triangles t) where
    among-cases : (a : ℕ) → IsTrue (among (required ++ t ∷ []) a) → IsTrue (among required a) ⊎ (t ≡ a)
    among-cases a is = ⊎_elim
        (λ old. inl (among-in a required old))
        (λ new. inr (last new))
        (IsIn-append a required (t ∷ []) (IsIn-among a (required ++ t ∷ []) is))
      where
        last : IsIn a (t ∷ []) → t ≡ a
        last (inl e) = e
        last (inr none) = absurd none

    among-left : (a : ℕ) → IsTrue (among required a) → IsTrue (among (required ++ t ∷ []) a)
    among-left a is = among-in a (required ++ t ∷ []) (IsIn-append-left a required (t ∷ []) (IsIn-among a required is))

    among-last : IsTrue (among (required ++ t ∷ []) t)
    among-last = among-in t (required ++ t ∷ []) (IsIn-append-right t required (t ∷ []) (inl refl))

    centred-last : IsTrue (is_centred n (points ++ p ∷ []) t)
    centred-last = is-centred n (points ++ p ∷ []) t splittable
        (subst (λ q. Contains (points ++ p ∷ []) q) (sym centre) (Contains-push points p))

    pub required-more : IsRequiredFor n (points ++ p ∷ []) (required ++ t ∷ [])
    required-more = record {
      splittable = All-append (IsSplittable n) required (t ∷ []) so_far.splittable
          (All-cons (IsSplittable n) t [] splittable (All-nil (IsSplittable n)));
      centred = λ a is. ⊎_elim
          (λ old. centred-more n points p a (so_far.centred a old))
          (λ same. subst (λ z. IsTrue (is_centred n (points ++ p ∷ []) z)) same centred-last)
          (among-cases a is);
      enough = λ triangles conforming splits a is. ⊎_elim
          (λ old. so_far.enough triangles conforming (λ b h. splits b (among-left b h)) a old)
          (λ (new : IsSplittable n a × (p ≡ centre_of n a)).
          sym (centre-above n triangles conforming a new.0)
          ∙ ap (is_mesh_vertex n triangles) (sym new.1) ∙ vertex triangles conforming ∙ splits t among-last)
          (centred-cases n points p a is);
    }

-- a point more of a list
pub required-next : (n : ℕ) (points : List Point) (i : ℕ) (p : Point) (required : List ℕ) →
    take (i + 1) points ≡ take i points ++ p ∷ [] → IsRequiredFor n (take i points ++ p ∷ []) required →
    IsRequiredFor n (take (i + 1) points) required
required-next n points i p required is so_far =
    subst (λ (l : List Point). IsRequiredFor n l required) (sym is) so_far

-- the mesh

-- the least mesh that splits what is required is the one that keeps the points
pub kept-for : (thousandths : ℕ) (points : List Point) (grid : HeightField) (required triangles : List ℕ)
    → IsRequiredFor grid.n points required
    → IsLeastMeshWith grid.n (tolerance_of grid.n thousandths) (error_of grid.n grid.heights) (among required) triangles
    → IsKeptFor thousandths points grid triangles
kept-for thousandths points grid required triangles so_far least =
    let n : ℕ = grid.n in
    let tolerance : ℕ = tolerance_of n thousandths in
    let error : ℕ → ℕ = error_of n grid.heights in
    let back : (others : List ℕ) → IsMeshWith n tolerance error (is_centred n points) others →
    IsMeshWith n tolerance error (among required) others =
    λ others m. record {
      conforming = m.conforming;
      within = m.within;
      splits = λ a is. m.splits a (so_far.centred a is);
    } in
    record {
      mesh = record {
        conforming = least.mesh.conforming;
        within = least.mesh.within;
        splits = so_far.enough triangles least.mesh.conforming least.mesh.splits;
      };
      inside = λ others m. least.inside others (back others m);
      fewest = λ others m. least.fewest others (back others m);
      refined = λ others m. least.refined others (back others m);
    }

-- the mesh and its line end the command, written or cut short
pub kept-on-runs : (before middle last now : Moment) (name : List ℕ) (k : Keeping) (grid : HeightField)
    (points : List Point) (f : Fitted) (status : Status)
    → ReadsGrid before middle name grid → HasOpened middle last 1 → HasEnded last.shelf
    → ((files : List NamedFile) → middle.shelf.files ≡ Some files →
    points_in grid.n (bytes_of files k.points) ≡ Ok points)
    → IsKeptOn f k.thousandths points grid
    → EndsWith last now (fitted_acts k.prefix k.spacing f) Done status →
    RunsCommand before now (Some (OnGrid name (Keep k))) status None
kept-on-runs before middle last now name k grid points f status read opened ended found is ends =
    kept-runs before middle last now name k grid status read opened points f.fit.leaves ended found is.kept
    (subst (λ (acts : List Act). EndsWith last now acts Done status)
    (acts-fitted (fitting_of k) f grid is.same_grid is.triangles is.vertices is.deviation) ends)

-- a frame with these triangles split, in the words of the call that makes it
pub record IsFrameWith (f : Fitted) (seen : HeightField) (tolerance : ℕ) (listed : List ℕ) : Type 0 where
  pub least : IsLeastMeshWith seen.n tolerance (error_of seen.n seen.heights) (among listed) f.fit.leaves
  pub in_order : leaves_of seen.n (ancestors_of f.fit.leaves) ≡ f.fit.leaves
  pub deviation : f.note.deviation ≡ deviation_of seen.n seen.heights f.fit.leaves
  pub triangles : f.note.triangles ≡ length f.fit.leaves
  pub vertices : f.note.vertices ≡ length (vertices_of seen.n f.fit.leaves)

-- of the grid that was read it is the mesh that keeps the points
pub frame-kept : (f : Fitted) (thousandths : ℕ) (points : List Point) (grid seen : HeightField) (n tolerance : ℕ)
    (required listed : List ℕ) → seen ≡ grid → f.grid ≡ grid → f.fit.n ≡ grid.n → n ≡ grid.n
    → tolerance ≡ tolerance_of n thousandths → listed ≡ required → IsRequiredFor n points required
    → IsFrameWith f seen tolerance listed → IsKeptOn f thousandths points grid
frame-kept f thousandths points grid seen n tolerance required listed same grid_is level n_is tolerance_is listed_is
    so_far frame =
    let P : HeightField → Type 0 = λ g. IsFrameWith f g tolerance listed in
    let Q : ℕ → Type 0 = λ k. IsFrameWith f grid k listed in
    let R : List ℕ → Type 0 = λ l. IsFrameWith f grid (tolerance_of grid.n thousandths) l in
    let is = subst R listed_is (subst Q (tolerance_is ∙ ap (λ (k : ℕ). tolerance_of k thousandths) n_is)
    (subst P same frame)) in
    record {
      same_grid = grid_is;
      level = level;
      kept = record {
        fit = kept-for thousandths points grid required f.fit.leaves
            (subst (λ (k : ℕ). IsRequiredFor k points required) n_is so_far) is.least;
        in_order = is.in_order;
      };
      triangles = is.triangles;
      vertices = is.vertices;
      deviation = is.deviation;
    }

module _ (before middle last now : Moment) (name : List ℕ) (k : Keeping) (grid : HeightField) (n : ℕ)
    (status : Status) (n_is : n ≡ grid.n) (read : ReadsGrid before middle name grid) where
  -- the mesh and its line end the command
  pub fit-ends : (points listed : List Point) (f : Fitted) → listed ≡ points → HasOpened middle last 1
      → HasEnded last.shelf
      → ((files : List NamedFile) → middle.shelf.files ≡ Some files →
      points_in n (bytes_of files k.points) ≡ Ok points)
      → IsKeptOn f k.thousandths listed grid
      → EndsWith last now (fitted_acts k.prefix k.spacing f) Done status →
      RunsCommand before now (Some (OnGrid name (Keep k))) status None
  fit-ends points listed f listed_is opened ended found is ends =
      kept-on-runs before middle last now name k grid points f status read opened ended
      (points-told n grid middle k.points (Ok points) n_is found)
      (subst (λ (l : List Point). IsKeptOn f k.thousandths l grid) listed_is is) ends

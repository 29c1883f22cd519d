-- Meshes that keep points: there is one for each error and its points, and it has the fewest triangles of those that
-- have the points as vertices.
use Rattle.std.proofs.Common.{◌≡◌, ℕ, ◌^◌, ◌≤◌, Bool, IsTrue, List, []}
use Rattle.std.proofs.Common.{All, Contains, Result, Ok, Err, refl, sym, ◌∙◌, ap, subst, ⊎_elim}
use Rattle.std.proofs.lemmas.List.Elements.{All-contains, All-contains_itself}
use Rattle.mesh_defs.specs.declared.point.Point.{Point}
use Rattle.mesh_defs.specs.HeightField.{HeightField}
use Rattle.mesh_defs.specs.Tiling.{IsConforming}
use Rattle.mesh_defs.specs.ClosedSet.{IsSubset, leaves_of}
use Rattle.bintree_laws.specs.Corners.{IsInSquare}
use Rattle.mesh_laws.specs.Ancestors.{ancestors_of}
use Rattle.mesh_laws.specs.Vertex.{is_mesh_vertex, centre_of}
use Rattle.fit_laws.specs.PlaneHeight.{deviation_of}
use Rattle.fit_laws.specs.Error.{error_of}
use Rattle.fit_laws.proofs.ErrorLemmas.{error-finest, worst-deviation}
use Rattle.fit_laws.proofs.OrderLemmas.{leaves-order}
use Rattle.fit_laws.proofs.RequiredLemmas.{with-found, with-mesh, with-one}
use Rattle.certificate_laws.specs.Keeping.{is_centred}
use Rattle.certificate_laws.proofs.CentreLemmas.{centred-splittable, centred-point, is-centred}
use Rattle.run_laws.specs.declared.status.Status.TheVariants.{Done, ScriptRefused}
use Rattle.run_words.specs.Words.{Keeping, fitting_of}
use Rattle.run_laws.specs.Walk.{Refusal}
use Rattle.run_laws.specs.Fit.{tolerance_of, IsKeptFor, IsKept, IsFewestKeeping}
use Rattle.run_laws.specs.ReportText.{line_refusal}
use Rattle.run_laws.specs.Outcome.{Outcome, plain_outcome, text_outcome, fit_acts, IsKeepOutcome}
use Rattle.run_laws.proofs.FitLemmas.{tolerance-exact}
use Rattle.run_laws.proofs.VertexLemmas.{HasCentreAt, centre-above, square-above, grid-point}

-- one mesh

-- the triangles for an error and points, depth first, are one list
pub kept-one : (thousandths : ℕ) (points : List Point) (grid : HeightField) (triangles others : List ℕ) →
    IsKept thousandths points grid triangles → IsKept thousandths points grid others → triangles ≡ others
kept-one thousandths points grid triangles others p q =
    with-one grid.n (tolerance_of grid.n thousandths) (error_of grid.n grid.heights) (is_centred grid.n points)
    triangles others p.fit q.fit p.in_order q.in_order

-- and there is one
pub kept-exists : (thousandths : ℕ) (points : List Point) (grid : HeightField) →
    (triangles : List ℕ) × IsKept thousandths points grid triangles
kept-exists thousandths points grid =
    let n : ℕ = grid.n in
    let error : ℕ → ℕ = error_of n grid.heights in
    let required : ℕ → Bool = is_centred n points in
    let found = with-found n required (centred-splittable n points) (tolerance_of n thousandths) error
    (error-finest n grid.heights) in
    let closed = found.1.settled.closed in (
      leaves_of n found.0,
      record {
        fit = with-mesh n found.0 (leaves_of n found.0) closed (record { counts = λ a. refl })
            (tolerance_of n thousandths) error required found.1;
        in_order = leaves-order n found.0 closed;
      },
    )

-- so the points that a file is, or its refusal, have one outcome
pub keep-unique : (k : Keeping) (grid : HeightField) (answer : Result (List Point) Refusal) (end other : Outcome) →
    IsKeepOutcome k grid answer end → IsKeepOutcome k grid answer other → end ≡ other
keep-unique k grid (Ok points) end other p q =
    p.2 ∙ ap (λ (triangles : List ℕ). plain_outcome (fit_acts (fitting_of k) grid triangles) Done 2)
    (kept-one k.thousandths points grid p.0 q.0 p.1 q.1) ∙ sym q.2
keep-unique k grid (Err refusal) end other p q = p ∙ sym q

-- and they have an outcome
pub keep-exists : (k : Keeping) (grid : HeightField) (answer : Result (List Point) Refusal) →
    (end : Outcome) × IsKeepOutcome k grid answer end
keep-exists k grid (Ok points) =
    let found = kept-exists k.thousandths points grid in
    (plain_outcome (fit_acts (fitting_of k) grid found.0) Done 2, (found.0, found.1, refl))
keep-exists k grid (Err refusal) = (text_outcome (line_refusal refusal) ScriptRefused 2, refl)

-- it is done where all lines are accepted
pub keep-done : (k : Keeping) (grid : HeightField) (points : List Point) (end : Outcome) →
    IsKeepOutcome k grid (Ok points) end → end.status ≡ Done
keep-done k grid points end is = ap (λ (o : Outcome). o.status) is.2

-- and no picture stands in it
pub keep-plain : (k : Keeping) (grid : HeightField) (answer : Result (List Point) Refusal) (end : Outcome) →
    IsKeepOutcome k grid answer end → end.pictures ≡ []
keep-plain k grid (Ok points) end is = ap (λ (o : Outcome). o.pictures) is.2
keep-plain k grid (Err refusal) end is = ap (λ (o : Outcome). o.pictures) is

-- the fewest triangles that have the points

-- what holds of each entry of a list holds of all
all-of : (P : Point → Type 0) (points : List Point) → ((p : Point) → Contains points p → P p) → All P points
all-of P points each = λ k d low. each _ (All-contains_itself points k d low)

-- the points are vertices of a conforming list that splits all that is centred at them, and else of none
module _ (n : ℕ) (points : List Point) (inside : All (λ p. IsInSquare (2 ^ n) p) points) (triangles : List ℕ)
    (conforming : IsConforming n triangles) where
  keeps-split : IsSubset (is_centred n points) (ancestors_of triangles) →
      All (λ p. IsTrue (is_mesh_vertex n triangles p)) points
  keeps-split splits = all-of (λ p. IsTrue (is_mesh_vertex n triangles p)) points (λ p listed. ⊎_elim
      (λ corner. square-above n triangles conforming p corner)
      (λ (c : HasCentreAt n p).
      ap (is_mesh_vertex n triangles) (sym c.2) ∙ centre-above n triangles conforming c.0 c.1
      ∙ splits c.0 (is-centred n points c.0 c.1 (subst (λ q. Contains points q) (sym c.2) listed)))
      (grid-point n p (All-contains (λ p. IsInSquare (2 ^ n) p) points p inside listed)))

  split-keeps : All (λ p. IsTrue (is_mesh_vertex n triangles p)) points →
      IsSubset (is_centred n points) (ancestors_of triangles)
  split-keeps keeps a is =
      sym (centre-above n triangles conforming a (centred-splittable n points a is))
      ∙ All-contains (λ p. IsTrue (is_mesh_vertex n triangles p)) points (centre_of n a) keeps
      (centred-point n points a is)

-- a least mesh that splits all that is centred at points of the grid has the fewest triangles of those that have them
pub kept-best : (thousandths : ℕ) (points : List Point) (grid : HeightField)
    → All (λ p. IsInSquare (2 ^ grid.n) p) points → (triangles : List ℕ) → IsKeptFor thousandths points grid triangles
    → IsFewestKeeping thousandths points grid triangles
kept-best thousandths points grid inside triangles least =
    let n : ℕ = grid.n in
    let P : ℕ → Type 0 = λ k. k ≤ tolerance_of n thousandths in
    record {
      conforming = least.mesh.conforming;
      near = (tolerance-exact n thousandths (deviation_of n grid.heights triangles)).0
          (subst P (worst-deviation n grid.heights triangles) least.mesh.within);
      keeps = keeps-split n points inside triangles least.mesh.conforming least.mesh.splits;
      fewest = λ others conforming near keeps. least.fewest others (record {
        conforming = conforming;
        within = subst P (sym (worst-deviation n grid.heights others))
            ((tolerance-exact n thousandths (deviation_of n grid.heights others)).1 near);
        splits = split-keeps n points inside others conforming keeps;
      });
    }

-- The excess over the tolerances of points as an error, and one tolerance for all points.
use Rattle.std.proofs.Common.{◌≡◌, ℕ, ◌≤◌, ◌^◌, ◌↔◌, Bool, true, List, All}
use Rattle.std.proofs.Common.{arith}
use Rattle.std.proofs.lemmas.List.Elements.{All-contains}
use Rattle.mesh_defs.specs.declared.point.Point.{Point}
use Rattle.mesh_defs.specs.Triangle.{IsAddress}
use Rattle.mesh_defs.specs.Thickness.{height_of}
use Rattle.mesh_defs.specs.BoundingBox.{points_of, holds_point}
use Rattle.mesh_defs.specs.Priority.{worst_of}
use Rattle.mesh_defs.proofs.PointLemmas.{greatest-le}
use Rattle.mesh_defs.proofs.ListLemmas.{Contains-in, IsIn-contains}
use Rattle.mesh_defs.proofs.WorstLemmas.{worst-le, le-worst}
use Rattle.bintree_laws.specs.Corners.{IsInSquare}
use Rattle.fit_laws.specs.PlaneHeight.{off_plane, excess_at}
use Rattle.fit_laws.proofs.PlaneLemmas.{in_grid-held, held-le}
use Rattle.fit_laws.specs.Error.{error_of, IsExactAtFinest}
use Rattle.fit_laws.proofs.ErrorLemmas.{error-finest}
use Rattle.fit_laws.specs.Required.{IsMeshWith, IsLeastMeshWith}
use Rattle.fit_laws.specs.Excess.{excess_of, AreWithin, AreCommon}

-- one triangle

module _ (n : ℕ) (heights tolerances : List ℕ) (a : ℕ) (address : IsAddress n a) where
  -- no excess: at each held point the surface is at most the point's tolerance off
  excess-none : excess_of n heights tolerances a ≤ 0 → (r : Point) → holds_point n a r ≡ true →
      off_plane n heights a r ≤ height_of n tolerances r
  unfolding excess_of
  excess-none none r held =
      let le = held-le (excess_at n heights tolerances a) n a r address held in omega arith

  -- and the other way round
  none-excess : ((r : Point) → IsInSquare (2 ^ n) r → holds_point n a r ≡ true →
      off_plane n heights a r ≤ height_of n tolerances r) → excess_of n heights tolerances a ≤ 0
  unfolding excess_of
  none-excess fits =
      greatest-le 0 (excess_at n heights tolerances a) (holds_point n a)
      (λ r held.
      let inside = in_grid-held n a r address held in
      let le = fits r record { x = inside.0; y = inside.1 } held in omega arith)
      (points_of n)

  -- an error is at most a number where the surface is nowhere farther off
  error-at : error_of n heights a ≤ 0 → (r : Point) → holds_point n a r ≡ true → off_plane n heights a r ≤ 0
  unfolding error_of
  error-at none r held = let le = held-le (off_plane n heights a) n a r address held in omega arith

  -- with one tolerance for all points there is an excess exactly where the error is above it
  common-same : (tolerance : ℕ) → AreCommon n tolerances tolerance →
      (excess_of n heights tolerances a ≤ 0 ↔ error_of n heights a ≤ tolerance)
  unfolding error_of
  common-same tolerance common = (
    λ none.
        greatest-le tolerance (off_plane n heights a) (holds_point n a)
        (λ r held.
        let inside = in_grid-held n a r address held in
        let same = common r record { x = inside.0; y = inside.1 } in
        let le = excess-none none r held in omega arith)
        (points_of n),
    λ fits. none-excess (λ r square held.
        let le = held-le (off_plane n heights a) n a r address held in
        let same = common r square in omega arith),
  )

-- no finest triangle has an excess
pub excess-finest : (n : ℕ) (heights tolerances : List ℕ) → IsExactAtFinest n (excess_of n heights tolerances)
excess-finest n heights tolerances a address fine =
    let exact = error-finest n heights a address fine in
    let none = none-excess n heights tolerances a address (λ r square held.
    let flat = error-at n heights tolerances a address (omega arith) r held in omega arith) in
    omega arith

-- a list without an excess
pub excess-within : (n : ℕ) (heights tolerances triangles : List ℕ) → All (IsAddress n) triangles →
    (worst_of (excess_of n heights tolerances) triangles ≤ 0 ↔ AreWithin n heights tolerances triangles)
excess-within n heights tolerances triangles addresses = (
  λ none a listed r square held.
      let e : ℕ → ℕ = excess_of n heights tolerances in
      let le = le-worst e a triangles (IsIn-contains a triangles listed) in
      excess-none n heights tolerances a (All-contains (IsAddress n) triangles a addresses listed) (omega arith) r held,
  λ fits. worst-le (excess_of n heights tolerances) 0 triangles (λ a listed.
      let there = Contains-in a triangles listed in
      none-excess n heights tolerances a (All-contains (IsAddress n) triangles a addresses there)
      (λ r square held. fits a there r square held)),
)

-- two errors with the same triangles above their tolerances

module _ (n tolerance other : ℕ) (error next : ℕ → ℕ)
    (same : (a : ℕ) → IsAddress n a → (error a ≤ tolerance ↔ next a ≤ other)) where
  -- have the same meshes
  alike-mesh : (required : ℕ → Bool) (triangles : List ℕ) → IsMeshWith n tolerance error required triangles →
      IsMeshWith n other next required triangles
  alike-mesh required triangles m = record {
    conforming = m.conforming;
    within = worst-le next other triangles (λ a listed.
        let le = le-worst error a triangles listed in
        let within = m.within in
        (same a (All-contains (IsAddress n) triangles a m.conforming.addresses (Contains-in a triangles listed))).0
        (omega arith));
    splits = m.splits;
  }

-- and so the same least meshes
pub alike-least : (n tolerance other : ℕ) (error next : ℕ → ℕ) →
    ((a : ℕ) → IsAddress n a → (error a ≤ tolerance ↔ next a ≤ other)) →
    (required : ℕ → Bool) (triangles : List ℕ) → IsLeastMeshWith n tolerance error required triangles →
    IsLeastMeshWith n other next required triangles
alike-least n tolerance other error next same required triangles least =
    let back : (others : List ℕ) → IsMeshWith n other next required others →
    IsMeshWith n tolerance error required others =
    λ others m. alike-mesh n other tolerance next error (λ a address.
    let s = same a address in (s.1, s.0)) required others m in
    record {
      mesh = alike-mesh n tolerance other error next same required triangles least.mesh;
      inside = λ others m. least.inside others (back others m);
      fewest = λ others m. least.fewest others (back others m);
      refined = λ others m. least.refined others (back others m);
    }

-- one tolerance for all points
pub excess-common : (n tolerance : ℕ) (heights tolerances : List ℕ) (required : ℕ → Bool) (triangles : List ℕ) →
    AreCommon n tolerances tolerance →
    (IsLeastMeshWith n 0 (excess_of n heights tolerances) required triangles
    ↔ IsLeastMeshWith n tolerance (error_of n heights) required triangles)
excess-common n tolerance heights tolerances required triangles common = (
  λ least. alike-least n 0 tolerance (excess_of n heights tolerances) (error_of n heights)
      (λ a address. common-same n heights tolerances a address tolerance common) required triangles least,
  λ least. alike-least n tolerance 0 (error_of n heights) (excess_of n heights tolerances)
      (λ a address. let s = common-same n heights tolerances a address tolerance common in (s.1, s.0))
      required triangles least,
)

-- Errors of a tile: any two that are within their tolerances at the same triangles, 2 and 3 left out, have the same
-- least meshes; so the error by the tile's own heights does.
use Rattle.std.proofs.Common.{ℕ, ◌+◌, ◌*◌, ◌^◌, ◌<◌, ◌≤◌, ◌↔◌, Bool, IsTrue, List, arith, ⊎_elim}
use Rattle.std.proofs.Common.{pow_pos, mul-le-mul_left}
use Rattle.std.proofs.Math.Nat.{le_of_mul-le-mul_left}
use Rattle.std.proofs.lemmas.Bool.{cases_lt}
use Rattle.std.proofs.lemmas.List.Elements.{All-contains}
use Rattle.mesh_defs.specs.declared.point.Point.{Point}
use Rattle.mesh_defs.specs.Triangle.{IsAddress}
use Rattle.mesh_defs.specs.Tiling.{IsConforming}
use Rattle.mesh_defs.specs.Priority.{worst_of}
use Rattle.mesh_defs.proofs.WorstLemmas.{worst-le, le-worst}
use Rattle.mesh_defs.proofs.ListLemmas.{IsIn, Contains-in}
use Rattle.mesh_laws.specs.Ancestors.{ancestors_of}
use Rattle.mesh_laws.proofs.ConverseLemmas.{IsClosed-ancestors_of}
use Rattle.mesh_laws.proofs.LeastLemmas.{entry_outside}
use Rattle.fit_laws.specs.Error.{error_of}
use Rattle.fit_laws.specs.Required.{IsMeshWith, IsLeastMeshWith}
use Rattle.mosaic_laws.specs.Tile.{IsTile}
use Rattle.mosaic_laws.specs.Heights.{AreTileHeights}
use Rattle.mosaic_laws.proofs.ClosedLemmas.{closed-second}
use Rattle.mosaic_laws.proofs.HeightLemmas.{error-in_tile}
use Rattle.mosaic_laws.specs.Rounds.{tile_error}

-- an entry of a list that splits 2 is neither 2 nor 3
pub entry-big : (n : ℕ) (list : List ℕ) (a : ℕ) → IsConforming n list → IsTrue (ancestors_of list 2) → IsIn a list →
    4 ≤ a
entry-big n list a conforming first listed = ⊎_elim
    (λ (less : a < 4). absurd (entry_outside n list conforming a listed
    (closed-second n (ancestors_of list) (IsClosed-ancestors_of n list conforming) first a
    (All-contains (IsAddress n) list a conforming.addresses (Contains-in a list listed)).low less)))
    (λ big. big)
    (cases_lt a 4)

module _ (n tolerance other : ℕ) (error far : ℕ → ℕ)
    (alike : (a : ℕ) → 4 ≤ a → IsAddress n a → (error a ≤ tolerance) ↔ (far a ≤ other)) where
  -- a conforming list is within the one if it is within the other
  within-far : (list : List ℕ) → IsConforming n list → IsTrue (ancestors_of list 2) → worst_of error list ≤ tolerance →
      worst_of far list ≤ other
  within-far list conforming first within = worst-le far other list (λ a listed.
      let address : IsAddress n a =
      All-contains (IsAddress n) list a conforming.addresses (Contains-in a list listed) in
      let low = le-worst error a list listed in
      let here : error a ≤ tolerance = omega arith in
      (alike a (entry-big n list a conforming first listed) address).0 here)

  -- and back
  far-within : (list : List ℕ) → IsConforming n list → IsTrue (ancestors_of list 2) → worst_of far list ≤ other →
      worst_of error list ≤ tolerance
  far-within list conforming first within = worst-le error tolerance list (λ a listed.
      let address : IsAddress n a =
      All-contains (IsAddress n) list a conforming.addresses (Contains-in a list listed) in
      let low = le-worst far a list listed in
      let here : far a ≤ other = omega arith in
      (alike a (entry-big n list a conforming first listed) address).1 here)

  mesh-back : (required : ℕ → Bool) (list : List ℕ) → IsTrue (required 2) → IsMeshWith n other far required list →
      IsMeshWith n tolerance error required list
  mesh-back required list centre m = record {
    conforming = m.conforming;
    within = far-within list m.conforming (m.splits 2 centre) m.within;
    splits = m.splits;
  }

-- have the same least meshes
pub error-alike : (n tolerance other : ℕ) (error far : ℕ → ℕ) (required : ℕ → Bool) (triangles : List ℕ) →
    IsTrue (required 2) → ((a : ℕ) → 4 ≤ a → IsAddress n a → (error a ≤ tolerance) ↔ (far a ≤ other)) →
    IsLeastMeshWith n tolerance error required triangles → IsLeastMeshWith n other far required triangles
error-alike n tolerance other error far required triangles centre alike least = record {
  mesh = record {
    conforming = least.mesh.conforming;
    within = within-far n tolerance other error far alike triangles least.mesh.conforming (least.mesh.splits 2 centre)
        least.mesh.within;
    splits = least.mesh.splits;
  };
  inside = λ others m. least.inside others (mesh-back n tolerance other error far alike required others centre m);
  fewest = λ others m. least.fewest others (mesh-back n tolerance other error far alike required others centre m);
  refined = λ others m. least.refined others (mesh-back n tolerance other error far alike required others centre m);
}

-- so a tile's least mesh by its own heights is the one by those of the large grid
pub tile-mesh : (n p : ℕ) (t : Point) (tolerance : ℕ) (small large : List ℕ) (required : ℕ → Bool)
    (triangles : List ℕ) →
    IsTile (2 ^ p) (2 ^ p) t → AreTileHeights n p t small large → IsTrue (required 2) →
    IsLeastMeshWith n tolerance (error_of n small) required triangles →
    IsLeastMeshWith n (2 ^ p * tolerance) (tile_error p (error_of (n + p) large) t) required triangles
tile-mesh n p t tolerance small large required triangles tile heights centre least =
    error-alike n tolerance (2 ^ p * tolerance) (error_of n small) (tile_error p (error_of (n + p) large) t) required
    triangles centre
    (λ a big address.
    let e = error-in_tile n p t small large tile heights a big address in (
      (λ le. let m : 2 ^ p * error_of n small a ≤ 2 ^ p * tolerance = mul-le-mul_left (2 ^ p) le in omega arith),
      (λ le. le_of_mul-le-mul_left {m = error_of n small a} {n = tolerance} {k = 2 ^ p} (omega arith) (pow_pos p)),
    ))
    least

-- The vertices of a conforming list, in any order of its triangles.
use Rattle.std.proofs.Common.{◌≡◌, ℕ, true, eqb, eq-eqb, count_by, List, refl, sym, ◌∙◌, subst, arith}
use Rattle.std.proofs.lemmas.Bool.{eqb-true}
use Rattle.mesh_defs.specs.declared.point.Point.{Point}
use Rattle.mesh_defs.specs.Triangle.{IsSplittable, corners_of}
use Rattle.mesh_defs.specs.Tiling.{IsConforming}
use Rattle.mesh_defs.specs.ClosedSet.{leaves_of}
use Rattle.mesh_defs.specs.MeshText.{has_corner}
use Rattle.mesh_defs.proofs.ListLemmas.{IsIn, Any-in, list_any-in, count-some, some-count}
use Rattle.mesh_defs.proofs.TestLemmas.{same_tests}
use Rattle.mesh_laws.specs.Ancestors.{ancestors_of}
use Rattle.mesh_laws.proofs.ConverseLemmas.{IsClosed-ancestors_of, AreLeaves-ancestors_of}
use Rattle.mesh_laws.specs.Vertex.{is_mesh_vertex, centre_of}
use Rattle.mesh_laws.proofs.VertexLemmas.{centre-member}

-- lists with the same entries have the same vertices
vertex-counts : (n : ℕ) (xs ys : List ℕ) (p : Point) →
    ((a : ℕ) → count_by (λ t. eqb t a) xs ≡ count_by (λ t. eqb t a) ys) →
    is_mesh_vertex n xs p ≡ true → is_mesh_vertex n ys p ≡ true
vertex-counts n xs ys p same is =
    let e = Any-in (λ a. has_corner (corners_of n a) p) xs is in
    let some = count-some (λ t. eqb t e.0) e.0 xs e.1 (eq-eqb e.0 e.0 refl) in
    let counts = same e.0 in
    let found = some-count (λ t. eqb t e.0) ys (omega arith) in
    list_any-in (λ a. has_corner (corners_of n a) p) ys e.0
    (subst (λ z. IsIn z ys) (eqb-true found.0 e.0 found.2) found.1) e.2

-- the centre of a triangle is a vertex of a conforming list exactly where it lies above an entry
pub centre-above : (n : ℕ) (triangles : List ℕ) (a : ℕ) → IsConforming n triangles → IsSplittable n a →
    is_mesh_vertex n triangles (centre_of n a) ≡ ancestors_of triangles a
centre-above n triangles a conforming s =
    let leaves : List ℕ = leaves_of n (ancestors_of triangles) in
    let counts = (AreLeaves-ancestors_of n triangles conforming).counts in
    same_tests (is_mesh_vertex n triangles (centre_of n a)) (is_mesh_vertex n leaves (centre_of n a))
    (vertex-counts n triangles leaves (centre_of n a) (λ c. sym (counts c)))
    (vertex-counts n leaves triangles (centre_of n a) counts)
    ∙ centre-member n (ancestors_of triangles) a (IsClosed-ancestors_of n triangles conforming) s

-- A mesh in the order of its strip has the same vertices, with the same numbers; and which levels triangles of a mesh
-- have.
use Rattle.std.proofs.Common.{◌≡◌, ℕ, ◌*◌, ◌≤◌, Bool, cond, eqb, List, [], ◌∷◌, All, refl, ◌∙◌, ap, subst, arith, map}
use Rattle.std.specs.List.{filter, list_any}
use Rattle.std.proofs.lemmas.Bool.{eqb-true}
use Rattle.std.proofs.lemmas.List.Elements.{All-contains, All-weaker}
use Rattle.mesh_defs.specs.declared.point.Point.{Point}
use Rattle.mesh_defs.specs.Triangle.{level_of, corners_of, IsAddress}
use Rattle.mesh_defs.specs.BoundingBox.{points_of}
use Rattle.mesh_defs.specs.ClosedSet.{leaves_of}
use Rattle.mesh_defs.specs.Tiling.{IsConforming}
use Rattle.mesh_defs.specs.MeshText.{has_corner, vertices_of}
use Rattle.mesh_defs.proofs.ListLemmas.{IsIn, Contains-in, some-count, Any-in, list_any-in}
use Rattle.mesh_defs.proofs.TestLemmas.{same_tests}
use Rattle.bintree_laws.proofs.LevelLemmas.{level-le}
use Rattle.mesh_laws.proofs.SetListLemmas.{All-in}
use Rattle.obj_write.specs.Numbers.{number_at, numbers_of}
use Rattle.mesh_laws.specs.Strip.{strip_of}
use Rattle.mesh_laws.proofs.StripOrderLemmas.{leaf-strip_of, once-leaf}

-- each leaf stands in the strip
leaf-listed : (n a : ℕ) (has : ℕ → Bool) → IsIn a (leaves_of n has) → IsIn a (strip_of n has)
leaf-listed n a has i =
    let once = once-leaf n a has (Contains-in a (leaves_of n has) i) in
    let found = some-count (λ t. eqb t a) (strip_of n has) (omega arith) in
    subst (λ (z : ℕ). IsIn z (strip_of n has)) (eqb-true found.0 a found.2) found.1

-- a test passes at a triangle of the strip exactly where it passes at a leaf
any-strip_of : (test : ℕ → Bool) (n : ℕ) (has : ℕ → Bool) →
    list_any test (strip_of n has) ≡ list_any test (leaves_of n has)
any-strip_of test n has =
    same_tests (list_any test (strip_of n has)) (list_any test (leaves_of n has))
    (λ some.
    let found = Any-in test (strip_of n has) some in
    list_any-in test (leaves_of n has) found.0 (leaf-strip_of n found.0 has found.1) found.2)
    (λ some.
    let found = Any-in test (leaves_of n has) some in
    list_any-in test (strip_of n has) found.0 (leaf-listed n found.0 has found.1) found.2)

filter-same : (p q : Point → Bool) → ((r : Point) → p r ≡ q r) → (points : List Point) →
    filter p points ≡ filter q points
filter-same p q same [] = refl
filter-same p q same (r ∷ points) =
    ap (λ (b : Bool). cond b (r ∷ filter p points) (filter p points)) (same r)
    ∙ ap (λ (l : List Point). cond (q r) (r ∷ l) l) (filter-same p q same points)

-- the strip has the vertices of the mesh
pub vertices-strip_of : (n : ℕ) (has : ℕ → Bool) → vertices_of n (strip_of n has) ≡ vertices_of n (leaves_of n has)
unfolding vertices_of
vertices-strip_of n has =
    filter-same (λ (p : Point). list_any (λ a. has_corner (corners_of n a) p) (strip_of n has))
    (λ (p : Point). list_any (λ a. has_corner (corners_of n a) p) (leaves_of n has))
    (λ p. any-strip_of (λ a. has_corner (corners_of n a) p) n has) (points_of n)

-- with their numbers
pub numbers-strip_of : (n : ℕ) (has : ℕ → Bool) → numbers_of n (strip_of n has) ≡ numbers_of n (leaves_of n has)
unfolding numbers_of
numbers-strip_of n has =
    ap (λ (vertices : List Point). map (number_at vertices) (points_of n)) (vertices-strip_of n has)

-- its triangles have levels of the grid
pub levels-strip_of : (n : ℕ) (has : ℕ → Bool) → All (λ a. level_of a ≤ 2 * n) (leaves_of n has) →
    All (λ a. level_of a ≤ 2 * n) (strip_of n has)
levels-strip_of n has levels = All-in (λ a. level_of a ≤ 2 * n) (strip_of n has)
    (λ a i. All-contains (λ b. level_of b ≤ 2 * n) (leaves_of n has) a levels
    (Contains-in a (leaves_of n has) (leaf-strip_of n a has i)))

-- the triangles of a conforming list have levels of its grid
pub conforming-levels : (n m : ℕ) (triangles : List ℕ) → n ≡ m → IsConforming n triangles →
    All (λ a. level_of a ≤ 2 * m) triangles
conforming-levels n m triangles same is =
    let P : ℕ → Type 0 = λ k. All (λ a. level_of a ≤ 2 * k) triangles in
    subst P same (All-weaker (IsAddress n) (λ a. level_of a ≤ 2 * n) (level-le n) triangles is.addresses)

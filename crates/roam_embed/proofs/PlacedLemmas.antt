-- The points of the grid by their places, and the vertices of a list of triangles among them.
use Rattle.std.proofs.Common.{◌≡◌, ℕ, zero, suc, ◌+◌, ◌*◌, ◌/◌, ◌%◌, ◌≤◌, List, ◌∷◌, ◌++◌, map, flat_map}
use Rattle.std.proofs.Common.{refl, sym, ◌∙◌, ap, ap₂, arith, filter}
use Rattle.std.specs.List.{range_with_len}
use Rattle.std.proofs.lemmas.List.{map-append}
use Rattle.std.proofs.lemmas.Nat.{div-mul-add, mod-mul-add, div-add-mod'}
use Rattle.text_laws.proofs.ListLemmas.{range-append}
use Rattle.mesh_defs.specs.declared.point.Point.{Point}
use Rattle.mesh_defs.specs.HeightField.{side_of}
use Rattle.mesh_defs.specs.BoundingBox.{point, points_of}
use Rattle.mesh_defs.specs.MeshText.{vertices_of}
use Rattle.obj_write.specs.VertexMarks.{grid_place, place_point, is_vertex}

-- where a row has w points
abbrev pub at_width : ℕ → ℕ → Point
at_width w k = point (k % w) (k / w)

-- a part of a row
row-part : (w a b c : ℕ) → b + c ≤ w →
    map (λ x. point x a) (range_with_len b c) ≡ map (at_width w) (range_with_len (a * w + b) c)
row-part w a b zero fits = refl
row-part w a b (suc c) fits =
    let here : point b a ≡ at_width w (a * w + b) =
    ap₂ (λ x y. point x y) (sym (mod-mul-add a w b (omega arith))) (sym (div-mul-add a w b (omega arith))) in
    let next : a * w + (b + 1) ≡ a * w + b + 1 = omega arith in
    ap₂ (λ (p : Point) ps. p ∷ ps) here
    (row-part w a (b + 1) c (omega arith) ∙ ap (λ i. map (at_width w) (range_with_len i c)) next)

-- rows one after another
rows : (w a m : ℕ) →
    flat_map (λ y. map (λ x. point x y) (range_with_len 0 w)) (range_with_len a m)
    ≡ map (at_width w) (range_with_len (a * w) (m * w))
rows w a zero = let none : 0 * w ≡ 0 = omega arith in
    sym (ap (λ c. map (at_width w) (range_with_len (a * w) c)) none)
rows w a (suc m) =
    let first : a * w + 0 ≡ a * w = omega arith in
    let next : (a + 1) * w ≡ a * w + w = omega arith in
    let more : w + m * w ≡ suc m * w = omega arith in
    ap₂ (λ (xs ys : List Point). xs ++ ys)
    (row-part w a 0 w (omega arith) ∙ ap (λ i. map (at_width w) (range_with_len i w)) first)
    (rows w (a + 1) m ∙ ap (λ i. map (at_width w) (range_with_len i (m * w))) next)
    ∙ sym (map-append (at_width w) (range_with_len (a * w) w) (range_with_len (a * w + w) (m * w)))
    ∙ ap (map (at_width w)) (sym (range-append (a * w) w (m * w)) ∙ ap (range_with_len (a * w)) more)

-- the points of the grid are those of the places
pub points-placed : (n : ℕ) → points_of n ≡ map (place_point n) (range_with_len 0 (side_of n * side_of n))
unfolding points_of
points-placed n =
    let start : 0 * side_of n ≡ 0 = omega arith in
    rows (side_of n) 0 (side_of n)
    ∙ ap (λ i. map (place_point n) (range_with_len i (side_of n * side_of n))) start

-- the place of the point at a place
pub place-again : (n k : ℕ) → grid_place n (place_point n k) ≡ k
place-again n k = div-add-mod' k (side_of n)

-- the vertices by their places
pub vertices-placed : (n : ℕ) (triangles : List ℕ) →
    vertices_of n triangles ≡ filter (is_vertex n triangles)
    (map (place_point n) (range_with_len 0 (side_of n * side_of n)))
unfolding vertices_of
vertices-placed n triangles = ap (filter (is_vertex n triangles)) (points-placed n)

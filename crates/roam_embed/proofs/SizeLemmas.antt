-- How many vertices a mesh has at most, and how many of them on the border.
use Rattle.std.proofs.Common.{◌≡◌, ℕ, zero, suc, ◌+◌, ◌-◌, ◌*◌, ◌/◌, ◌%◌, ◌^◌, ◌<◌, ◌≤◌, ◌⊎◌, inl, inr, Bool, true, false}
use Rattle.std.proofs.Common.{◌&&◌, ◌||◌, not, IsTrue, nat_eq, cond, List, [], ◌∷◌, ◌++◌, map, filter, length, count_by}
use Rattle.std.proofs.Common.{refl, sym, ◌∙◌, ap, subst, arith, ⊎_elim, eqb, eq-eqb, pow_pos}
use Rattle.std.proofs.Common.{length-append, mod-lt}
use Rattle.std.proofs.lemmas.List.{length-map}
use Rattle.std.specs.List.{range_with_len}
use Rattle.std.proofs.lemmas.Bool.{or_cases, or_left, or_right, and_parts, cases_Bool, cases_lt, false≢true}
use Rattle.std.proofs.lemmas.List.FromFn.{length-range_with_len}
use Rattle.mesh_defs.specs.declared.point.Point.{Point}
use Rattle.mesh_defs.specs.HeightField.{side_of}
use Rattle.mesh_defs.specs.ClosedSet.{IsClosed, among, leaves_of}
use Rattle.mesh_defs.specs.MeshText.{vertices_of}
use Rattle.mesh_defs.proofs.ListLemmas.{IsIn, IsIn-among, among-in, IsIn-append-left, IsIn-append-right}
use Rattle.mesh_laws.specs.Vertex.{is_mesh_vertex, centre_of, IsSquareCorner, IsCentre}
use Rattle.mesh_laws.proofs.SetListLemmas.{among-filter, ascending-filter, ascending-range, length-distinct, in-range}
use Rattle.mesh_laws.proofs.SizeLemmas.{length-leaves_once}
use Rattle.mesh_laws.proofs.VertexLemmas.{vertex-known}
use Rattle.certificate_laws.proofs.DistinctLemmas.{distinct-ascending}
use Rattle.mesh_arrays.specs.Indices.{point_at}
use Rattle.obj_write.specs.VertexMarks.{grid_place, place_point, is_vertex}
use Rattle.roam_embed.proofs.PlacedLemmas.{vertices-placed, place-again}
use Rattle.roam_embed.proofs.BorderLemmas.{test-end, row-below}
use Rattle.roam_embed.specs.Border.{is_on_side, is_corner, is_border_vertex, border_of}

-- ---- lists

length-filter-map : {A B : Type 0} (f : A → B) (p : B → Bool) (xs : List A) →
    length (filter p (map f xs)) ≡ length (filter (λ x. p (f x)) xs)
length-filter-map f p [] = refl
length-filter-map f p (x ∷ xs) =
    let rest = length-filter-map f p xs in
    ⊎_elim
    (λ is. ap (λ b. length (cond b (f x ∷ filter p (map f xs)) (filter p (map f xs)))) is
    ∙ ap suc rest
    ∙ sym (ap (λ b. length (cond b (x ∷ filter (λ y. p (f y)) xs) (filter (λ y. p (f y)) xs))) is))
    (λ no. ap (λ b. length (cond b (f x ∷ filter p (map f xs)) (filter p (map f xs)))) no
    ∙ rest
    ∙ sym (ap (λ b. length (cond b (x ∷ filter (λ y. p (f y)) xs) (filter (λ y. p (f y)) xs))) no))
    (cases_Bool (p (f x)))

in-map : (f : ℕ → ℕ) (a : ℕ) (xs : List ℕ) → IsIn a xs → IsIn (f a) (map f xs)
in-map f a [] i = absurd i
in-map f a (x ∷ xs) (inl e) = inl (ap f e)
in-map f a (x ∷ xs) (inr i) = inr (in-map f a xs i)

-- of a range no more pass than a list has that holds all that pass
passing-few : (p : ℕ → Bool) (count : ℕ) (ys : List ℕ) →
    ((k : ℕ) → IsTrue (among (range_with_len 0 count) k) → p k ≡ true → IsIn k ys) →
    length (filter p (range_with_len 0 count)) ≤ length ys
passing-few p count ys held = length-distinct (filter p (range_with_len 0 count)) ys
    (distinct-ascending (filter p (range_with_len 0 count)) (ascending-filter p (range_with_len 0 count) (ascending-range 0 count)))
    (λ k h. let r = among-filter p k (range_with_len 0 count) h in among-in k ys (held k r.0 r.1))

-- ---- vertices

-- the places of the square's corners
square_places : ℕ → List ℕ
square_places n = 0 ∷ ((2 ^ n) ∷ ((2 ^ n * side_of n) ∷ ((2 ^ n * side_of n + 2 ^ n) ∷ [])))

corner-place : (n : ℕ) (p : Point) → IsSquareCorner (2 ^ n) p → IsIn (grid_place n p) (square_places n)
unfolding square_places
corner-place n p (inl x, inl y) = inl (rw (x, y) (omega arith))
corner-place n p (inr x, inl y) = inr (inl (rw (x, y) (omega arith)))
corner-place n p (inl x, inr y) = inr (inr (inl (rw (x, y) (omega arith))))
corner-place n p (inr x, inr y) = inr (inr (inr (inl (rw (x, y) (omega arith)))))

-- each vertex is a corner of the square or the centre of a triangle that is split
pub vertices-few : (n : ℕ) (members : List ℕ) →
    ((a : ℕ) → IsTrue (among members a) → count_by (λ t. nat_eq t a) members ≡ 1) → IsClosed n (among members) →
    length (vertices_of n (leaves_of n (among members))) ≤ length (leaves_of n (among members)) + 2
unfolding square_places
vertices-few n members once closed =
    let leaves : List ℕ = leaves_of n (among members) in
    let centres : List ℕ = map (λ a. grid_place n (centre_of n a)) members in
    let size : ℕ = side_of n * side_of n in
    let few : length (filter (λ k. is_vertex n leaves (place_point n k)) (range_with_len 0 size))
    ≤ length (square_places n ++ centres) =
    passing-few (λ k. is_vertex n leaves (place_point n k)) size (square_places n ++ centres)
    (λ k listed passes.
    let here : grid_place n (place_point n k) ≡ k = place-again n k in
    subst (λ z. IsIn z (square_places n ++ centres)) here (⊎_elim
    (λ corner. IsIn-append-left (grid_place n (place_point n k)) (square_places n) centres
    (corner-place n (place_point n k) corner))
    (λ (centre : IsCentre n (among members) (place_point n k)).
    IsIn-append-right (grid_place n (place_point n k)) (square_places n) centres
    (subst (λ (q : Point). IsIn (grid_place n q) centres) centre.2
    (in-map (λ a. grid_place n (centre_of n a)) centre.0 members (IsIn-among centre.0 members centre.1))))
    (vertex-known n (among members) (place_point n k) passes))) in
    let all : length (vertices_of n leaves)
    ≡ length (filter (λ k. is_vertex n leaves (place_point n k)) (range_with_len 0 size)) =
    ap length (vertices-placed n leaves) ∙ length-filter-map (place_point n) (is_vertex n leaves) (range_with_len 0 size) in
    let count : length leaves ≡ length members + 2 =
    length-leaves_once n members (λ a i. once a (among-in a members i)) closed in
    omega (
      arith,
      length-append (square_places n) centres,
      length-map members (λ a. grid_place n (centre_of n a)),
    )

-- ---- the border

range-high : (low count a : ℕ) → IsIn a (range_with_len low count) → a < low + count
range-high low zero a h = absurd h
range-high low (suc count) a (inl e) = omega arith
range-high low (suc count) a (inr h) = let r = range-high (low + 1) count a h in omega arith

not-both : (a b : Bool) → IsTrue (not (a && b)) → a ≡ true → b ≡ true → ⊥
not-both true true h e f = false≢true h
not-both true false h e f = false≢true f
not-both false b h e f = false≢true e

-- neither end of a side
not-end : (m x : ℕ) → ((eqb x 0 || eqb x m) ≡ true → ⊥) → (x ≡ 0 → ⊥) × (x ≡ m → ⊥)
not-end m x off = (
  λ e. off (or_left (eqb x 0) (eqb x m) (eq-eqb x 0 e)),
  λ e. off (or_right (eqb x 0) (eqb x m) (eq-eqb x m e)),
)

module _ (n : ℕ) (some : 1 ≤ n) where
  -- the points of each side but for its ends, by their places
  side_places : List ℕ
  side_places =
      let inner : List ℕ = range_with_len 0 (2 ^ n - 1) in
      map (λ i. i + 1) inner
      ++ (map (λ i. 2 ^ n * side_of n + (i + 1)) inner
      ++ (map (λ i. (i + 1) * side_of n) inner ++ map (λ i. (i + 1) * side_of n + 2 ^ n) inner))

  side_places-count : length side_places ≡ 4 * (side_of n - 2)
  unfolding side_places
  side_places-count =
      let inner : List ℕ = range_with_len 0 (2 ^ n - 1) in
      let low : List ℕ = map (λ i. i + 1) inner in
      let high : List ℕ = map (λ i. 2 ^ n * side_of n + (i + 1)) inner in
      let left : List ℕ = map (λ i. (i + 1) * side_of n) inner in
      let right : List ℕ = map (λ i. (i + 1) * side_of n + 2 ^ n) inner in
      omega (
        arith,
        length-append low (high ++ (left ++ right)),
        length-append high (left ++ right),
        length-append left right,
        length-map inner (λ i. i + 1),
        length-map inner (λ i. 2 ^ n * side_of n + (i + 1)),
        length-map inner (λ i. (i + 1) * side_of n),
        length-map inner (λ i. (i + 1) * side_of n + 2 ^ n),
        length-range_with_len 0 (2 ^ n - 1),
      )

  -- a number between the ends of a side is one more than one of the range
  mapped : (f : ℕ → ℕ) (j k : ℕ) → 0 < j → j < 2 ^ n → f (j - 1) ≡ k → IsIn k (map f (range_with_len 0 (2 ^ n - 1)))
  mapped f j k low high same = subst (λ z. IsIn z (map f (range_with_len 0 (2 ^ n - 1)))) same
      (in-map f (j - 1) (range_with_len 0 (2 ^ n - 1)) (in-range 0 (2 ^ n - 1) (j - 1) (omega arith) (omega arith)))

  module _ (k : ℕ) (low : k < side_of n * side_of n) where
    abbrev column : ℕ
    column = k % side_of n

    abbrev row : ℕ
    row = k / side_of n

    on-row : row ≤ 2 ^ n
    on-row = let less = row-below (side_of n) k (omega arith) low in omega arith

    on-sides : (column ≡ 0) ⊎ (column ≡ 2 ^ n) → 0 < row → row < 2 ^ n → IsIn k side_places
    unfolding side_places
    on-sides sides some less =
        let inner : List ℕ = range_with_len 0 (2 ^ n - 1) in
        let back : row - 1 + 1 ≡ row = omega arith in
        let whole : k ≡ row * side_of n + column = omega arith in
        IsIn-append-right k (map (λ i. i + 1) inner) _
        (IsIn-append-right k (map (λ i. 2 ^ n * side_of n + (i + 1)) inner) _
        (⊎_elim
        (λ e. IsIn-append-left k (map (λ i. (i + 1) * side_of n) inner) _
        (mapped (λ i. (i + 1) * side_of n) row k some less (ap (λ z. z * side_of n) back ∙ omega arith)))
        (λ e. IsIn-append-right k (map (λ i. (i + 1) * side_of n) inner) _
        (mapped (λ i. (i + 1) * side_of n + 2 ^ n) row k some less
        (ap (λ z. z * side_of n + 2 ^ n) back ∙ omega arith)))
        sides))

    on-ends : (2 ^ n - row ≡ 0) ⊎ (2 ^ n - row ≡ 2 ^ n) → 0 < column → column < 2 ^ n → IsIn k side_places
    unfolding side_places
    on-ends ends some less =
        let inner : List ℕ = range_with_len 0 (2 ^ n - 1) in
        let most = on-row in
        let whole : k ≡ row * side_of n + column = omega arith in
        ⊎_elim
        (λ e.
        let last : row ≡ 2 ^ n = omega arith in
        IsIn-append-right k (map (λ i. i + 1) inner) _
        (IsIn-append-left k (map (λ i. 2 ^ n * side_of n + (i + 1)) inner) _
        (mapped (λ i. 2 ^ n * side_of n + (i + 1)) column k some less
        (let f = ap (λ z. z * side_of n) last in omega arith))))
        (λ e.
        let first : row ≡ 0 = omega arith in
        IsIn-append-left k (map (λ i. i + 1) inner) _
        (mapped (λ i. i + 1) column k some less (let f = ap (λ z. z * side_of n) first in omega arith)))
        ends

    -- what is on a side and no corner is between the ends of one
    border-place : IsTrue (is_on_side (2 ^ n) (point_at n k)) → IsTrue (not (is_corner (2 ^ n) (point_at n k))) →
        IsIn k side_places
    border-place on inside =
        let x : Bool = eqb column 0 || eqb column (2 ^ n) in
        let y : Bool = eqb (2 ^ n - row) 0 || eqb (2 ^ n - row) (2 ^ n) in
        let most = on-row in
        let short : column < side_of n = mod-lt k (omega arith) in
        let positive : 0 < 2 ^ n = pow_pos n in
        ⊎_elim
        (λ (sides : x ≡ true).
        let inner = not-end (2 ^ n) (2 ^ n - row) (λ (is : y ≡ true). not-both x y inside sides is) in
        let a = inner.0 in
        let b = inner.1 in
        let less : row < 2 ^ n = ⊎_elim (λ l. l) (λ m. absurd (a (omega arith))) (cases_lt row (2 ^ n)) in
        let some : 0 < row = ⊎_elim (λ l. l) (λ m. absurd (b (omega arith))) (cases_lt 0 row) in
        on-sides (test-end (2 ^ n) column sides) some less)
        (λ (ends : y ≡ true).
        let inner = not-end (2 ^ n) column (λ (is : x ≡ true). not-both x y inside is ends) in
        let a = inner.0 in
        let b = inner.1 in
        let less : column < 2 ^ n = ⊎_elim (λ l. l) (λ m. absurd (b (omega arith))) (cases_lt column (2 ^ n)) in
        let some : 0 < column = ⊎_elim (λ l. l) (λ m. absurd (a (omega arith))) (cases_lt 0 column) in
        on-ends (test-end (2 ^ n) (2 ^ n - row) ends) some less)
        (or_cases x y on)

  pub border-few : (leaves : List ℕ) → length (border_of n leaves) ≤ 4 * (side_of n - 2)
  border-few leaves =
      let size : ℕ = side_of n * side_of n in
      let few : length (border_of n leaves) ≤ length side_places =
      passing-few (is_border_vertex n leaves) size side_places (λ k listed passes.
      let on = and_parts (is_on_side (2 ^ n) (point_at n k))
      (not (is_corner (2 ^ n) (point_at n k)) && is_mesh_vertex n leaves (point_at n k)) passes in
      let rest = and_parts (not (is_corner (2 ^ n) (point_at n k))) (is_mesh_vertex n leaves (point_at n k)) on.1 in
      let high = range-high 0 size k (IsIn-among k (range_with_len 0 size) listed) in
      border-place k (omega arith) on.0 rest.0) in
      let count = side_places-count in
      omega arith

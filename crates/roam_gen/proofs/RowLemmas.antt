-- Rows of heights, and the samples of a file.
use Rattle.std.proofs.Common.{◌≡◌, ℕ, suc, ◌+◌, ◌-◌, ◌*◌, ◌/◌, ◌%◌, ◌^◌, ◌<◌, ◌≤◌, List, [], ◌∷◌, ◌++◌, length, get_or}
use Rattle.std.proofs.Common.{map, refl, sym, ap, ◌∙◌, arith, add-zero, append_assoc}
use Rattle.std.specs.List.{range_with_len, flat_map}
use Rattle.std.proofs.Math.Nat.{div-add-mod', mod-lt, le_refl, add-mul, one-mul}
use Rattle.std.proofs.lemmas.Nat.{same_from_place, row-Below}
use Rattle.std.proofs.lemmas.Grind.{flat_map-append}
use Rattle.mesh_defs.specs.HeightField.{HeightField, side_of, place_of, height_at}
use Rattle.text_laws.specs.Words.{two_bytes}
use Rattle.text_laws.proofs.ListLemmas.{range-append}
use Rattle.std.proofs.lemmas.List.{map-append}
use Rattle.roam_gen.specs.Generated.{made_height, height_of_place, made_grid}
use Rattle.roam_gen.specs.Rows.{HasOctaves}

-- a list whose places have the values of a function is the list of these values
by-index : (f : ℕ → ℕ) (xs : List ℕ) (a : ℕ) → ((k : ℕ) → k < length xs → get_or xs k 0 ≡ f (a + k)) →
    xs ≡ map f (range_with_len a (length xs))
by-index f [] a is = refl
by-index f (x ∷ xs) a is =
    let first : x ≡ f a = is 0 (omega arith) ∙ ap f (add-zero a) in
    let others : xs ≡ map f (range_with_len (a + 1) (length xs)) =
    by-index f xs (a + 1)
    (λ k below. is (suc k) (omega arith) ∙ ap f (let e : a + suc k ≡ a + 1 + k = omega arith in e)) in
    ap (λ v. v ∷ xs) first ∙ ap (λ l. f a ∷ l) others

-- the samples of so many places, from one on
abbrev pub samples_from : ℕ → ℕ → ℕ → ℕ → List ℕ
samples_from n seed a k = flat_map two_bytes (map (height_of_place n seed) (range_with_len a k))

-- more samples
pub samples-more : (n seed a k m : ℕ) →
    samples_from n seed a (k + m) ≡ samples_from n seed a k ++ samples_from n seed (a + k) m
samples-more n seed a k m =
    let f : ℕ → ℕ = height_of_place n seed in
    ap (λ l. flat_map two_bytes (map f l)) (range-append a k m)
    ∙ ap (flat_map two_bytes) (map-append f (range_with_len a k) (range_with_len (a + k) m))
    ∙ flat_map-append two_bytes (map f (range_with_len a k)) (map f (range_with_len (a + k) m))

-- the samples of one row more
pub samples-row : (n seed above : ℕ) (piece : List ℕ) → piece ≡ samples_from n seed (above * side_of n) (side_of n)
    → samples_from n seed 0 ((above + 1) * side_of n) ≡ samples_from n seed 0 (above * side_of n) ++ piece
samples-row n seed above piece is =
    let side : ℕ = side_of n in
    let places : (above + 1) * side ≡ above * side + side =
    add-mul above 1 side ∙ ap (λ v. above * side + v) (one-mul side) in
    ap (samples_from n seed 0) places ∙ samples-more n seed 0 (above * side) side
    ∙ ap (λ b. samples_from n seed 0 (above * side) ++ samples_from n seed b side)
    (let e : 0 + above * side ≡ above * side = omega arith in e)
    ∙ ap (λ l. samples_from n seed 0 (above * side) ++ l) (sym is)

-- all samples: those of the rows above, of a row, and of the rows below
pub samples-split : (n seed above : ℕ) (piece : List ℕ) → above < side_of n →
    piece ≡ samples_from n seed (above * side_of n) (side_of n)
    → samples_from n seed 0 (side_of n * side_of n)
    ≡ samples_from n seed 0 (above * side_of n)
    ++ (piece ++ samples_from n seed (0 + (above + 1) * side_of n) ((side_of n - (above + 1)) * side_of n))
samples-split n seed above piece inside is =
    let side : ℕ = side_of n in
    let below : ℕ = side - (above + 1) in
    let count : side ≡ (above + 1) + below = omega arith in
    let places : side * side ≡ (above + 1) * side + below * side =
    ap (λ v. v * side) count ∙ add-mul (above + 1) below side in
    ap (samples_from n seed 0) places ∙ samples-more n seed 0 ((above + 1) * side) (below * side)
    ∙ ap (λ l. l ++ samples_from n seed (0 + (above + 1) * side) (below * side)) (samples-row n seed above piece is)
    ∙ append_assoc (samples_from n seed 0 (above * side)) piece
    (samples_from n seed (0 + (above + 1) * side) (below * side))

-- they are those of the grid
pub samples-grid : (n seed : ℕ) →
    flat_map two_bytes (made_grid n seed).heights ≡ samples_from n seed 0 (side_of n * side_of n)
unfolding made_grid
samples-grid n seed = refl

-- the place of column x in the row that so many rows stand before
pub place-parts : (side row x : ℕ) → x < side → ((row * side + x) / side ≡ row) × ((row * side + x) % side ≡ x)
place-parts side row x within =
    let place : ℕ = row * side + x in
    same_from_place (place / side) (place % side) row x side (mod-lt place (omega arith)) within
    (div-add-mod' place side)

-- a row that was made has the samples of its places
pub row-samples : (n seed above : ℕ) (row : List ℕ) → length row ≡ side_of n →
    HasOctaves row (n + 1) n seed (2 ^ n - above)
    → flat_map two_bytes row ≡ samples_from n seed (above * side_of n) (side_of n)
row-samples n seed above row long is =
    let f : ℕ → ℕ = height_of_place n seed in
    let side : ℕ = side_of n in
    let same : row ≡ map f (range_with_len (above * side) (length row)) =
    by-index f row (above * side) (λ k below.
    let within : k < side = omega (arith, below, long) in
    let parts = place-parts side above k within in
    is k below ∙ ap (λ x. made_height n seed x (2 ^ n - above)) (sym parts.1)
    ∙ ap (λ y. made_height n seed ((above * side + k) % side) (2 ^ n - y)) (sym parts.0)) in
    ap (flat_map two_bytes) (same ∙ ap (λ m. map f (range_with_len (above * side) m)) long)

-- the row of a place
row-within : (k side : ℕ) → k < side * side → k / side < side
row-within k side inside = (row-Below k side side side inside (le_refl side)).1

-- the heights of the points of a grid are those of its places
pub grid-made : (g : HeightField) (n seed : ℕ) → g.n ≡ n → g.maxval ≡ 65535 → length g.heights ≡ side_of n * side_of n
    → ((x y : ℕ) → x ≤ 2 ^ n → y ≤ 2 ^ n → height_at n g.heights x y ≡ made_height n seed x y) → g ≡ made_grid n seed
unfolding made_grid
grid-made g n seed level all count is =
    let f : ℕ → ℕ = height_of_place n seed in
    let side : ℕ = side_of n in
    let heights : g.heights ≡ map f (range_with_len 0 (length g.heights)) =
    by-index f g.heights 0 (λ k below.
    let inside : k < side * side = omega (arith, below, count) in
    let column : k % side < side = mod-lt k (omega arith) in
    let rows : k / side < side = row-within k side inside in
    let turned : 2 ^ n - (2 ^ n - k / side) ≡ k / side = omega (arith, rows) in
    let whole : k / side * side + k % side ≡ k = div-add-mod' k side in
    let place : place_of n (k % side) (2 ^ n - k / side) ≡ k = ap (λ r. r * side + k % side) turned ∙ whole in
    let first : 0 + k ≡ k = omega arith in
    ap (λ p. get_or g.heights p 0) (sym place)
    ∙ is (k % side) (2 ^ n - k / side) (omega (arith, column)) (omega arith) ∙ ap f (sym first)) in
    let listed : g.heights ≡ map f (range_with_len 0 (side * side)) =
    heights ∙ ap (λ m. map f (range_with_len 0 m)) count in
    ap (λ (v : ℕ). let h : HeightField = record { n = v; maxval = g.maxval; heights = g.heights } in h) level
    ∙ ap (λ (v : ℕ). let h : HeightField = record { n = n; maxval = v; heights = g.heights } in h) all
    ∙ ap (λ (v : List ℕ). let h : HeightField = record { n = n; maxval = 65535; heights = v } in h) listed

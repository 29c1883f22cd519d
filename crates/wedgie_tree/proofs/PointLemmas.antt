-- A list of heights by its points: what is known of each point is known of the list in file order.
use Rattle.std.proofs.Common.{◌≡◌, ℕ, ◌+◌, ◌-◌, ◌*◌, ◌/◌, ◌%◌, ◌^◌, ◌<◌, ◌≤◌, Bool, true, false, if◌then◌else◌, List}
use Rattle.std.proofs.Common.{map, length, get_or, slice_index, ℤ, pos, ◌+ℤ◌, refl, sym, ap, ◌∙◌, arith, subst}
use Rattle.std.proofs.lemmas.List.{ext_get_or, length-map, get_or-map}
use Rattle.std.proofs.lemmas.List.FromFn.{length-enumerate_from, get_or-enumerate_from}
use Rattle.std.proofs.lemmas.Nat.{div_below, mod_below}
use Rattle.std.specs.List.{enumerate_from}
use Rattle.mesh_defs.specs.HeightField.{HeightField, IsHeightField, side_of, place_of, height_at}
use Rattle.mesh_defs.specs.State.{Area, is_in_area, clamped, raised_heights}
use Rattle.wedgie_tree.specs.Edits.{is_in_row, with_row}

-- a choice by a test that holds, or does not
pub if-held : (b : Bool) (i j k : ℕ) → (b ≡ true → k ≡ i) → ((b ≡ true → ⊥) → k ≡ j) → k ≡ (if b then i else j)
if-held true i j k held missed = held refl
if-held false i j k held missed = missed (λ e. absurd (cc))

-- the place of the point in a place's column and row
place-back : (side q r k : ℕ) → side ≡ side → q ≤ side → k ≡ q * (side + 1) + r →
    (side - (side - q)) * (side + 1) + r ≡ k
place-back side q r k _ le is = let back : side - (side - q) ≡ q = omega arith in rw back (sym is)

-- a list of heights that is known by its points
pub by_points : (n : ℕ) (f : ℕ → ℕ → ℕ → ℕ) (old new : List ℕ) → length old ≡ side_of n * side_of n →
    length new ≡ side_of n * side_of n →
    ((x y : ℕ) → x ≤ 2 ^ n → y ≤ 2 ^ n → height_at n new x y ≡ f x y (height_at n old x y)) →
    new ≡ map (λ (e : ℕ × ℕ). f (e.0 % side_of n) (2 ^ n - e.0 / side_of n) e.1) (enumerate_from 0 old)
by_points n f old new old_count new_count each =
    let g : ℕ × ℕ → ℕ = λ e. f (e.0 % side_of n) (2 ^ n - e.0 / side_of n) e.1 in
    ext_get_or 0 new (map g (enumerate_from 0 old))
    (new_count ∙ sym (length-map (enumerate_from 0 old) g ∙ length-enumerate_from 0 old ∙ old_count))
    (λ k in_new.
    let in_old : k < length old = omega (arith, old_count, new_count) in
    let in_pairs : k < length (enumerate_from 0 old) = omega (arith, length-enumerate_from 0 old) in
    let row : k / side_of n < side_of n =
    div_below k (side_of n) (side_of n) (omega arith) (omega (arith, new_count)) in
    let column : k % side_of n < side_of n = mod_below k (side_of n) (omega arith) in
    let here : place_of n (k % side_of n) (2 ^ n - k / side_of n) ≡ k =
    place-back (2 ^ n) (k / side_of n) (k % side_of n) k refl (omega arith) (omega arith) in
    let New : ℕ → Type 0 = λ p. get_or new p 0 ≡ f (k % side_of n) (2 ^ n - k / side_of n) (get_or old p 0) in
    let value : get_or new k 0 ≡ f (k % side_of n) (2 ^ n - k / side_of n) (get_or old k 0) =
    subst New here (each (k % side_of n) (2 ^ n - k / side_of n) (omega arith) (omega arith)) in
    let none : 0 + k ≡ k = omega arith in
    let entry : get_or (enumerate_from 0 old) k (0, 0) ≡ (k, get_or old k 0) =
    get_or-enumerate_from 0 old k (0, 0) in_old ∙ ap (λ i. (i, get_or old k 0)) none in
    value ∙ sym (get_or-map g (enumerate_from 0 old) k (0, 0) 0 in_pairs ∙ ap g entry))

-- ---- a row

-- the columns and the row of a point of a row of points
read-row : (x y count i j : ℕ) → is_in_row x y count i j ≡ true → (j ≡ y) × ((x ≤ i) × (i < x + count))
read-row x y count i j held = grind (arith)

made-row : (x y count i j : ℕ) → j ≡ y → x ≤ i → i < x + count → is_in_row x y count i j ≡ true
made-row x y count i j row from to = grind (arith)

-- a row that was put, known by its points
pub with_row-by_points : (g : HeightField) (x y : ℕ) (row new : List ℕ) → IsHeightField g →
    x + length row ≤ 2 ^ g.n + 1 →
    length new ≡ side_of g.n * side_of g.n →
    ((k : ℕ) → k < length row → height_at g.n new (x + k) y ≡ slice_index row k) →
    ((i j : ℕ) → i ≤ 2 ^ g.n → j ≤ 2 ^ g.n → (j ≡ y → x ≤ i → i < x + length row → ⊥) →
    height_at g.n new i j ≡ height_at g.n g.heights i j) → new ≡ with_row g x y row
with_row-by_points g x y row new valid fits count there others =
    by_points g.n (λ i j h. if is_in_row x y (length row) i j then slice_index row (i - x)
    else h) g.heights new valid.count count
    (λ i j i_in j_in. if-held (is_in_row x y (length row) i j) (slice_index row (i - x)) (height_at g.n g.heights i j)
    (height_at g.n new i j)
    (λ held.
    let parts : (j ≡ y) × ((x ≤ i) × (i < x + length row)) = read-row x y (length row) i j held in
    let at : x + (i - x) ≡ i = omega (arith, parts) in
    let At : ℕ → ℕ → Type 0 = λ u v. height_at g.n new u v ≡ slice_index row (i - x) in
    let In : ℕ → Type 0 = λ v. At i v in
    let On : ℕ → Type 0 = λ u. At u y in
    subst In (sym parts.0) (subst On at (there (i - x) (omega (arith, parts)))))
    (λ out. others i j i_in j_in (λ at_row from to. out (made-row x y (length row) i j at_row from to))))

-- no height
pub with_row-none : (g : HeightField) (x y : ℕ) (row : List ℕ) → IsHeightField g → length row ≡ 0 →
    x + length row ≤ 2 ^ g.n + 1 →
    g.heights ≡ with_row g x y row
with_row-none g x y row valid none fits =
    with_row-by_points g x y row g.heights valid fits valid.count (λ k lt. absurd (omega arith))
    (λ i j i_in j_in out. refl)

-- ---- an area

-- an area that was raised, known by its points
pub raised-by_points : (g : HeightField) (area : Area) (dz : ℤ) (new : List ℕ) → IsHeightField g →
    length new ≡ side_of g.n * side_of g.n →
    ((i j : ℕ) → i ≤ 2 ^ g.n → j ≤ 2 ^ g.n → is_in_area area i j ≡ true →
    height_at g.n new i j ≡ clamped g.maxval (pos (height_at g.n g.heights i j) +ℤ dz)) →
    ((i j : ℕ) → i ≤ 2 ^ g.n → j ≤ 2 ^ g.n → (is_in_area area i j ≡ true → ⊥) →
    height_at g.n new i j ≡ height_at g.n g.heights i j) → new ≡ raised_heights g area dz
raised-by_points g area dz new valid count inside outside =
    by_points g.n (λ i j h. if is_in_area area i j then clamped g.maxval (pos h +ℤ dz)
    else h) g.heights new valid.count count
    (λ i j i_in j_in. if-held (is_in_area area i j) (clamped g.maxval (pos (height_at g.n g.heights i j) +ℤ dz))
    (height_at g.n g.heights i j) (height_at g.n new i j) (inside i j i_in j_in) (outside i j i_in j_in))

-- Filters of a range that skip what does not pass, and which places lie on the border.
use Rattle.std.proofs.Common.{◌≡◌, ℕ, suc, zero, ◌+◌, ◌-◌, ◌*◌, ◌/◌, ◌%◌, ◌^◌, ◌<◌, ◌≤◌, ◌⊎◌, inl, inr, Bool, true, false, ◌&&◌}
use Rattle.std.proofs.Common.{◌||◌, IsTrue, eqb, cond, List, [], ◌∷◌, ◌++◌, map, filter, length, refl, sym, ◌∙◌, ap}
use Rattle.std.proofs.Common.{arith, ⊎_elim, append-nil}
use Rattle.std.specs.List.{range_with_len}
use Rattle.std.proofs.lemmas.Bool.{or_cases, eqb-true, cases_lt}
use Rattle.std.proofs.lemmas.Nat.{div-mul-add, mod-mul-add}
use Rattle.std.proofs.lemmas.List.FromFn.{filter_of_map_range_with_len_more, length-range_with_len}
use Rattle.std.proofs.Math.Nat.{mul-le-mul_left}
use Rattle.mesh_defs.specs.HeightField.{side_of}
use Rattle.mesh_arrays.specs.Indices.{point_at}
use Rattle.roam_embed.specs.Border.{is_on_side}

-- filters of a range

map-same : (xs : List ℕ) → map (λ x. x) xs ≡ xs
map-same [] = refl
map-same (x ∷ xs) = ap (λ (l : List ℕ). x ∷ l) (map-same xs)

module _ (p : ℕ → Bool) where
  -- of one number more
  pub filter-next : (k : ℕ) → filter p (range_with_len 0 (k + 1)) ≡ filter p (range_with_len 0 k) ++ cond (p k) (k ∷ []) []
  filter-next k =
      let start : 0 + k ≡ k = omega arith in
      ap (filter p) (sym (map-same (range_with_len 0 (k + 1))))
      ∙ filter_of_map_range_with_len_more p (λ x. x) 0 k k start
      ∙ ap (λ (l : List ℕ). filter p l ++ cond (p k) (k ∷ []) []) (map-same (range_with_len 0 k))

  -- of more numbers, none of which passes
  pub filter-gap : (k j : ℕ) → ((i : ℕ) → k ≤ i → i < k + j → p i ≡ false) →
      filter p (range_with_len 0 (k + j)) ≡ filter p (range_with_len 0 k)
  filter-gap k zero none = ap (λ m. filter p (range_with_len 0 m)) (let e : k + 0 ≡ k = omega arith in e)
  filter-gap k (suc j) none =
      let e : k + suc j ≡ (k + j) + 1 = omega arith in
      ap (λ m. filter p (range_with_len 0 m)) e
      ∙ filter-next (k + j)
      ∙ ap (λ b. filter p (range_with_len 0 (k + j)) ++ cond b ((k + j) ∷ []) []) (none (k + j) (omega arith) (omega arith))
      ∙ append-nil (filter p (range_with_len 0 (k + j)))
      ∙ filter-gap k j (λ i low high. none i low (omega arith))

  filter-short : (xs : List ℕ) → length (filter p xs) ≤ length xs
  filter-short [] = omega arith
  filter-short (x ∷ xs) = let rest = filter-short xs in elim (p x) as (λ b. length (cond b (x ∷ filter p xs) (filter p xs)) ≤ suc (length xs)) [
    | true ↦ omega arith
    | false ↦ omega arith
  ]

  -- no more pass than there are
  pub filter-few : (k : ℕ) → length (filter p (range_with_len 0 k)) ≤ k
  filter-few k = let short = filter-short (range_with_len 0 k) in let count = length-range_with_len 0 k in omega arith

-- tests

pub off-side-false : (on rest : Bool) → (IsTrue on → ⊥) → (on && rest) ≡ false
off-side-false true rest off = absurd (off refl)
off-side-false false rest off = refl

-- ends of a side

pub test-end : (m x : ℕ) → (eqb x 0 || eqb x m) ≡ true → (x ≡ 0) ⊎ (x ≡ m)
test-end m x is = ⊎_elim
    (λ low. inl (eqb-true x 0 low))
    (λ high. inr (eqb-true x m high))
    (or_cases (eqb x 0) (eqb x m) is)

-- between the ends of an inner row no place is on the border
pub inner-row : (n place k : ℕ) → place % side_of n ≡ 0 → 0 < place / side_of n → place / side_of n + 1 < side_of n →
    place < k → k < place + side_of n - 1 → IsTrue (is_on_side (2 ^ n) (point_at n k)) → ⊥
inner-row n place k at inner below low high is =
    let s : ℕ = side_of n in
    let r : ℕ = place / s in
    let column : ℕ = k - place in
    let short : column < s = omega arith in
    let whole : place ≡ r * s = omega arith in
    let there : k ≡ r * s + column = omega arith in
    let x : k % s ≡ column = ap (λ z. z % s) there ∙ mod-mul-add r s column short in
    let row : k / s ≡ r = ap (λ z. z / s) there ∙ div-mul-add r s column short in
    ⊎_elim
    (λ sides. ⊎_elim (λ (e : k % s ≡ 0). omega arith) (λ (e : k % s ≡ 2 ^ n). omega arith) (test-end (2 ^ n) (k % s) sides))
    (λ ends. ⊎_elim (λ (e : 2 ^ n - k / s ≡ 0). omega arith) (λ (e : 2 ^ n - k / s ≡ 2 ^ n). omega arith)
    (test-end (2 ^ n) (2 ^ n - k / s) ends))
    (or_cases (eqb (k % s) 0 || eqb (k % s) (2 ^ n)) (eqb (2 ^ n - k / s) 0 || eqb (2 ^ n - k / s) (2 ^ n)) is)

-- a place is in one of the rows
pub row-below : (s place : ℕ) → 0 < s → place < s * s → place / s < s
row-below s place some low = ⊎_elim
    (λ less. less)
    (λ (more : s ≤ place / s). absurd (let far = mul-le-mul_left s more in omega arith))
    (cases_lt (place / s) s)

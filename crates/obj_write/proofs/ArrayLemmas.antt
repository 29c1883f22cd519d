-- Numbers written into an array, three at a time; the vertices of a mesh from a place on.
use Rattle.std.proofs.Common.{◌≡◌, ℕ, zero, suc, ◌+◌, ◌-◌, ◌*◌, ◌<◌, ◌≤◌, Bool, cond, List, [], ◌∷◌, ◌++◌, length, map}
use Rattle.std.proofs.Common.{filter, get_or, take, drop, sym, ◌∙◌, ap, arith, append_assoc}
use Rattle.std.specs.List.{range_with_len}
use Rattle.std.proofs.Math.Seq.{take-append_seam, drop-append_seam}
use Rattle.std.proofs.lemmas.List.{drop-drop, length-take-le, length-append, append-nil, take-append-drop}
use Rattle.mesh_defs.specs.declared.point.Point.{Point}
use Rattle.mesh_defs.specs.HeightField.{side_of}
use Rattle.mesh_defs.specs.MeshText.{vertices_of}
use Rattle.obj_write.specs.Numbers.{numbers_of}
use Rattle.obj_write.specs.Scan.{IsClear}
use Rattle.obj_write.specs.VertexMarks.{place_point, is_vertex}
use Rattle.obj_write.proofs.NumberLemmas.{vertices-placed, no-vertex, some-vertex}

-- three numbers were written behind the places that are done
module _ (start was now three more whole : List ℕ) (at : ℕ) (length_three : length three ≡ 3)
    (room : at + 3 ≤ length was)
    (written : now ≡ take at was ++ three ++ drop (at + 3) was) where
  abbrev done : List ℕ
  done = take at was ++ three

  length-done : length done ≡ at + 3
  length-done =
      let front = length-take-le at was (omega arith) in
      let both = length-append (take at was) three in
      omega arith

  take-written : take (at + 3) now ≡ done
  take-written = ap (take (at + 3)) written ∙ ap (λ k. take k (done ++ drop (at + 3) was)) (sym length-done)
      ∙ take-append_seam done (drop (at + 3) was)

  drop-written : drop (at + 3) now ≡ drop (at + 3) was
  drop-written = ap (drop (at + 3)) written ∙ ap (λ k. drop k (done ++ drop (at + 3) was)) (sym length-done)
      ∙ drop-append_seam done (drop (at + 3) was)

  -- what is to come is less by them
  pub so_far-written : take at was ++ (three ++ more) ≡ whole → take (at + 3) now ++ more ≡ whole
  so_far-written before = ap (λ xs. xs ++ more) take-written ∙ append_assoc (take at was) three more ∙ before

  -- and the places behind them are as before
  pub rest-written : drop at was ≡ drop at start → drop (at + 3) now ≡ drop (at + 3) start
  rest-written before = drop-written ∙ sym (drop-drop 3 at was) ∙ ap (drop 3) before ∙ drop-drop 3 at start

-- at the end all are written, and the other places are as at first
pub all-written : (start now whole : List ℕ) (at end : ℕ) → at ≡ end → take at now ++ [] ≡ whole →
    drop at now ≡ drop at start → now ≡ whole ++ drop end start
all-written start now whole at end same so_far rest =
    sym (take-append-drop at now) ∙ ap (λ xs. xs ++ drop at now) (sym (append-nil (take at now)) ∙ so_far)
    ∙ ap (λ xs. whole ++ xs) rest
    ∙ ap (λ k. whole ++ drop k start) same

-- the vertices at so many places from one on
abbrev kept_at : ℕ → List ℕ → ℕ → ℕ → List Point
kept_at n triangles k m = filter (is_vertex n triangles) (map (place_point n) (range_with_len k m))

-- with a place that is a vertex, or is none
abbrev kept_if : ℕ → List ℕ → ℕ → ℕ → Bool → List Point
kept_if n triangles k m shows =
    cond shows (place_point n k ∷ kept_at n triangles (k + 1) m) (kept_at n triangles (k + 1) m)

-- the vertices from a place on
abbrev pub vertices_from : ℕ → List ℕ → ℕ → List Point
vertices_from n triangles k = kept_at n triangles k (side_of n * side_of n - k)

-- from the first place on they are all
pub vertices_from-start : (n : ℕ) (triangles : List ℕ) → vertices_from n triangles 0 ≡ vertices_of n triangles
vertices_from-start n triangles =
    let whole : side_of n * side_of n - 0 ≡ side_of n * side_of n = omega arith in
    ap (kept_at n triangles 0) whole ∙ sym (vertices-placed n triangles)

-- at a place without a number
pub vertices_from-skip : (n : ℕ) (triangles : List ℕ) (k : ℕ) → k < side_of n * side_of n →
    get_or (numbers_of n triangles) k 0 ≡ 0
    → vertices_from n triangles k ≡ vertices_from n triangles (k + 1)
vertices_from-skip n triangles k below none_there =
    let size : ℕ = side_of n * side_of n in
    let more : size - k ≡ suc (size - (k + 1)) = omega arith in
    ap (kept_at n triangles k) more
    ∙ ap (kept_if n triangles k (size - (k + 1))) (no-vertex n triangles k below none_there)

-- at a place with a number
pub vertices_from-step : (n : ℕ) (triangles : List ℕ) (k : ℕ) → k < side_of n * side_of n →
    (get_or (numbers_of n triangles) k 0 ≡ 0 → ⊥)
    → vertices_from n triangles k ≡ place_point n k ∷ vertices_from n triangles (k + 1)
vertices_from-step n triangles k below some_there =
    let size : ℕ = side_of n * side_of n in
    let more : size - k ≡ suc (size - (k + 1)) = omega arith in
    ap (kept_at n triangles k) more
    ∙ ap (kept_if n triangles k (size - (k + 1))) (some-vertex n triangles k below some_there)

-- at so many places without a number
vertices_from-clear : (n : ℕ) (triangles numbers : List ℕ) → numbers ≡ numbers_of n triangles → (k m : ℕ) →
    k + m ≤ side_of n * side_of n
    → ((i : ℕ) → k ≤ i → i < k + m → get_or numbers i 0 ≡ 0) →
    vertices_from n triangles k ≡ vertices_from n triangles (k + m)
vertices_from-clear n triangles numbers are k zero within clear =
    let same : k ≡ k + 0 = omega arith in
    ap (vertices_from n triangles) same
vertices_from-clear n triangles numbers are k (suc m) within clear =
    let next : k + m + 1 ≡ k + suc m = omega arith in
    vertices_from-clear n triangles numbers are k m (omega arith) (λ i low high. clear i low (omega arith))
    ∙ vertices_from-skip n triangles (k + m) (omega arith) (sym (ap (λ xs. get_or xs (k + m) 0) are)
    ∙ clear (k + m) (omega arith) (omega arith))
    ∙ ap (vertices_from n triangles) next

-- from one place to another, where no number stands between
pub vertices_from-passed : (n : ℕ) (triangles numbers : List ℕ) → numbers ≡ numbers_of n triangles → (k j : ℕ) → k ≤ j →
    j ≤ side_of n * side_of n
    → IsClear numbers k j → vertices_from n triangles k ≡ vertices_from n triangles j
vertices_from-passed n triangles numbers are k j later within clear =
    let there : k + (j - k) ≡ j = omega arith in
    vertices_from-clear n triangles numbers are k (j - k) (omega arith) (λ i low high. clear i low (omega arith))
    ∙ ap (vertices_from n triangles) there

-- behind the last place
pub vertices_from-end : (n : ℕ) (triangles : List ℕ) (k : ℕ) → side_of n * side_of n ≤ k →
    vertices_from n triangles k ≡ []
vertices_from-end n triangles k beyond =
    let none : side_of n * side_of n - k ≡ 0 = omega arith in
    ap (kept_at n triangles k) none

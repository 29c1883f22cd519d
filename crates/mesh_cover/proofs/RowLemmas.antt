-- How many edges of the right side have a row, as far as the edges have been seen.
use Rattle.std.proofs.Common.{◌≡◌, ℕ, zero, suc, ◌+◌, ◌<◌, ◌≤◌, Bool, true, false, cond, List, ap, arith, ⊎_elim, slice_index}
use Rattle.std.proofs.lemmas.Bool.{cases_lt}
use Rattle.mesh_defs.specs.declared.point.Point.{Point}
use Rattle.mesh_cover.specs.Mesh.{rise_at}
use Rattle.mesh_cover.specs.Sums.{sum_below}
use Rattle.mesh_cover.specs.Conforming.{corner_in, rises_before, is_marked, AreRows, IsFirst, IsSingle}

sum-more : (n : ℕ) (f : ℕ → ℕ) → sum_below (n + 1) f ≡ sum_below n f + f n
sum-more n f = let e : n + 1 ≡ suc n = omega arith in ap (λ k. sum_below k f) e

-- a sum of fewer terms is no greater
sum-fewer : (n k : ℕ) (f : ℕ → ℕ) → k ≤ n → sum_below k f ≤ sum_below n f
sum-fewer zero k f le = let none : k ≡ 0 = omega arith in let e : sum_below k f ≡ sum_below 0 f = ap (λ i. sum_below i f) none in omega arith
sum-fewer (suc n) k f le = ⊎_elim
    (λ (less : k < suc n). let before = sum-fewer n k f (omega arith) in omega arith)
    (λ (ge : suc n ≤ k).
    let same : k ≡ suc n = omega arith in
    let e : sum_below k f ≡ sum_below (suc n) f = ap (λ i. sum_below i f) same in omega arith)
    (cases_lt k (suc n))

mark-small : (b : Bool) → cond b 1 0 ≤ 1
mark-small true = omega arith
mark-small false = omega arith

-- the first edge that has a marked row
pub doubled-first : (right top n h : ℕ) (points : List Point) (corners across : List ℕ) (rows : List Bool) → h < n →
    AreRows right top points corners across rows h →
    (y : ℕ) × (y < top) × (is_marked rows y ≡ true) × (rise_at right (corner_in points corners) (slice_index across) y h ≡ 1) →
    IsFirst (IsSingle right top points corners across) n h
doubled-first right top n h points corners across rows below so_far twice = record {
  below = below;
  wrong = λ single.
      let y : ℕ = twice.0 in
      let f : ℕ → ℕ = rise_at right (corner_in points corners) (slice_index across) y in
      let most : sum_below (h + 1) f ≤ 1 = single twice.0 twice.1 in
      let more = sum-more h f in
      let mark : cond {A = ℕ} (is_marked rows twice.0) 1 0 ≡ 1 = ap (λ (b : Bool). cond {A = ℕ} b 1 0) twice.2 in
      let once : sum_below h f ≡ cond (is_marked rows y) 1 0 = so_far twice.0 twice.1 in
      let rise : f h ≡ 1 = twice.3 in
      omega arith;
  before = λ k less y within.
      let f : ℕ → ℕ = rise_at right (corner_in points corners) (slice_index across) y in
      let fewer : sum_below (k + 1) f ≤ sum_below h f = sum-fewer h (k + 1) f (omega arith) in
      let once : sum_below h f ≡ cond (is_marked rows y) 1 0 = so_far y within in
      let small = mark-small (is_marked rows y) in
      omega arith;
}

-- where each row lies in one edge of all, no edge shares a row with one before
pub once-single : (right top n k : ℕ) (points : List Point) (corners across : List ℕ) → k < n →
    ((y : ℕ) → y < top → rises_before right points corners across n y ≡ 1) → IsSingle right top points corners across k
once-single right top n k points corners across less once = λ y within.
    let f : ℕ → ℕ = rise_at right (corner_in points corners) (slice_index across) y in
    let fewer : sum_below (k + 1) f ≤ sum_below n f = sum-fewer n (k + 1) f (omega arith) in
    let all : sum_below n f ≡ 1 = once y within in
    omega arith

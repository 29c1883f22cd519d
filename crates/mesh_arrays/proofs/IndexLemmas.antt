-- Indices of triangles, written one triangle after another.
use Rattle.std.proofs.Common.{◌≡◌, ℕ, zero, suc, ◌+◌, ◌*◌, ◌<◌, ◌≤◌, List, [], ◌∷◌, ◌++◌, length, take, drop, get_or}
use Rattle.std.proofs.Common.{set, refl, sym, ap, ◌∙◌, arith}
use Rattle.std.proofs.Math.Seq.{take-append_seam}
use Rattle.std.proofs.lemmas.List.{take_more, length-take-le}
use Rattle.std.proofs.lemmas.Slice.{drop-append-drop}
use Rattle.std.proofs.lemmas.Grind.{flat_map-append}
use Rattle.mesh_defs.specs.Triangle.{corners_of}
use Rattle.mesh_arrays.specs.Indices.{indices_at, indices_of}

-- three writes side by side
three_sets : (o : List ℕ) (at x y z : ℕ) → at + 3 ≤ length o
    → set (set (set o at x) (suc at) y) (suc (suc at)) z
    ≡ take at o ++ (x ∷ (y ∷ (z ∷ []))) ++ drop (suc (suc (suc at))) o
three_sets [] at x y z room = absurd (omega arith)
three_sets (a ∷ []) zero x y z room = absurd (omega arith)
three_sets (a ∷ (b ∷ [])) zero x y z room = absurd (omega arith)
three_sets (a ∷ (b ∷ (c ∷ o))) zero x y z room = refl
three_sets (a ∷ o) (suc at) x y z room = ap (λ xs. a ∷ xs) (three_sets o at x y z (omega arith))

pub written_three : (o : List ℕ) (at x y z : ℕ) → at + 3 ≤ length o
    → set (set (set o at x) (at + 1) y) (at + 2) z ≡ take at o ++ (x ∷ (y ∷ (z ∷ []))) ++ drop (at + 3) o
written_three o at x y z room =
    let one : at + 1 ≡ suc at = omega arith in
    let two : at + 2 ≡ suc (suc at) = omega arith in
    let three : at + 3 ≡ suc (suc (suc at)) = omega arith in
    rw (one, two, three) (three_sets o at x y z room)

-- each triangle has three
pub length-indices_of : (n : ℕ) (triangles : List ℕ) → length (indices_of n triangles) ≡ 3 * length triangles
length-indices_of n [] = refl
length-indices_of n (a ∷ triangles) = omega (arith, length-indices_of n triangles)

-- the indices of one more triangle, written behind those of the triangles before it
pub written_more : (n at i : ℕ) (start was now triangles : List ℕ) (t : ℕ) → i < length triangles →
    t ≡ get_or triangles i t
    → was ≡ indices_of n (take i triangles) ++ drop at start → at ≡ 3 * i
    → now ≡ take at was ++ indices_at n (corners_of n t) ++ drop (at + 3) was →
    now ≡ indices_of n (take (i + 1) triangles) ++ drop (at + 3) start
written_more n at i start was now triangles t within is_t so_far place written =
    let done : List ℕ = indices_of n (take i triangles) in
    let count : length (take i triangles) ≡ i = length-take-le i triangles (omega arith) in
    let long : length done ≡ at = length-indices_of n (take i triangles) ∙ ap (λ k. 3 * k) count ∙ sym place in
    let front : take at was ≡ done = ap (take at) so_far ∙ ap (λ k. take k (done ++ drop at start)) (sym long)
    ∙ take-append_seam done (drop at start) in
    let rest : drop (at + 3) was ≡ drop (at + 3) start =
    ap (drop (at + 3)) so_far ∙ drop-append-drop at start done (at + 3) (omega arith) long in
    let one : take (i + 1) triangles ≡ take i triangles ++ t ∷ [] =
    take_more triangles i t within ∙ ap (λ a. take i triangles ++ a ∷ []) (sym is_t) in
    let more : indices_of n (take i triangles ++ t ∷ []) ≡ done ++ indices_at n (corners_of n t) =
    flat_map-append (λ a. indices_at n (corners_of n a)) (take i triangles) (t ∷ []) in
    let both : indices_of n (take (i + 1) triangles) ≡ done ++ indices_at n (corners_of n t) =
    ap (indices_of n) one ∙ more in
    cc

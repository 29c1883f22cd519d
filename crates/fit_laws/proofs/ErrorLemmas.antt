-- The distance from the surface as an error.
use Rattle.std.proofs.Common.{◌≡◌, ℕ, zero, suc, ◌+◌, ◌*◌, ◌^◌, ◌-◌, ◌<◌, ◌≤◌, ◌∙◌, max, List, [], ◌∷◌, length, take}
use Rattle.std.proofs.Common.{get_or, sym, subst, ap, arith}
use Rattle.std.proofs.Math.Seq.{take-length}
use Rattle.std.proofs.lemmas.List.{take_more}
use Rattle.std.proofs.lemmas.List.Elements.{All-cons, All-nil}
use Rattle.mesh_defs.specs.Triangle.{level_of, IsAddress}
use Rattle.mesh_defs.specs.Thickness.{thickness_under, thickness_of}
use Rattle.mesh_defs.specs.BoundingBox.{greatest}
use Rattle.mesh_defs.specs.Priority.{worst_of}
use Rattle.fit_laws.specs.PlaneHeight.{offs_in, deviation_of, thickest_of}
use Rattle.fit_laws.proofs.ListLemmas.{deviation_of-le, deviation_of-more, deviation_of-none}
use Rattle.mesh_laws.proofs.LeastLemmas.{worst_of-next}
use Rattle.fit_laws.specs.Error.{error_of, IsExactAtFinest}

-- the greatest error of the first ones is their deviation
worst-first : (n : ℕ) (heights triangles : List ℕ) (i : ℕ) → i ≤ length triangles →
    worst_of (error_of n heights) (take i triangles) ≡ deviation_of n heights (take i triangles)
unfolding error_of
worst-first n heights triangles zero le = sym (deviation_of-none n heights)
worst-first n heights triangles (suc i) le =
    let after : suc i ≡ i + 1 = omega arith in
    let below : i < length triangles = omega arith in
    let first = worst-first n heights triangles i (omega arith) in
    let last : ℕ = get_or triangles i 0 in
    subst (λ k. worst_of (error_of n heights) (take k triangles) ≡ deviation_of n heights (take k triangles))
    (sym after)
    (ap (worst_of (error_of n heights)) (take_more triangles i 0 below)
    ∙ worst_of-next (error_of n heights) (take i triangles) last
    ∙ ap (λ k. max k (greatest (offs_in n heights last))) first ∙ sym (deviation_of-more n heights triangles i 0 below))

-- so that of a list is its deviation
pub worst-deviation : (n : ℕ) (heights triangles : List ℕ) →
    worst_of (error_of n heights) triangles ≡ deviation_of n heights triangles
worst-deviation n heights triangles =
    let all : take (length triangles) triangles ≡ triangles = take-length triangles in
    subst (λ (l : List ℕ). worst_of (error_of n heights) l ≡ deviation_of n heights l) all
    (worst-first n heights triangles (length triangles) (omega arith))

-- a finest triangle has no thickness
finest-thickness : (n : ℕ) (heights : List ℕ) (a : ℕ) → level_of a ≡ 2 * n → thickness_of n heights a ≡ 0
unfolding thickness_of
finest-thickness n heights a fine =
    let none : 2 * n - level_of a ≡ 0 = omega arith in
    ap (λ k. thickness_under k n heights a) none

-- so it has no error
pub error-finest : (n : ℕ) (heights : List ℕ) → IsExactAtFinest n (error_of n heights)
unfolding thickest_of
error-finest n heights a address fine =
    let le = deviation_of-le n heights (a ∷ []) (All-cons (IsAddress n) a [] address (All-nil (IsAddress n))) in
    let is = worst-deviation n heights (a ∷ []) in
    let thin = finest-thickness n heights a fine in
    let flat : thickest_of n heights (a ∷ []) ≡ 0 = omega arith in
    let none : 2 ^ n * thickest_of n heights (a ∷ []) ≡ 0 = ap (λ k. 2 ^ n * k) flat ∙ omega arith in
    omega arith

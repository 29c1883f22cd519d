-- Corners of a child from those of its parent, by places.
use Rattle.std.proofs.Common.{◌≡◌, ◌⊎◌, inl, inr, ℕ, zero, suc, ◌+◌, ◌-◌, ◌*◌, ◌/◌, ◌%◌, ◌^◌, ◌<◌, ◌≤◌, List, ◌++◌}
use Rattle.std.proofs.Common.{length, set, refl, sym, ◌∙◌, ap, subst, arith}
use Rattle.std.proofs.lemmas.List.{set-append_right}
use Rattle.std.proofs.lemmas.List.Elements.{All-set}
use Rattle.std.proofs.Math.Pow.{pow_mono}
use Rattle.mesh_defs.specs.HeightField.{side_of}
use Rattle.mesh_defs.specs.Triangle.{corners_of, child, level_of, midpoint}
use Rattle.bintree_laws.proofs.CornerLemmas.{corners_of-left, corners_of-right, IsWithin-corners_of}
use Rattle.bintree_laws.proofs.LatticeLemmas.{HasEvenBase-corners_of}
use Rattle.obj_write.specs.declared.faces.Face.{Face}
use Rattle.obj_write.specs.Faces.{IsCornerAt, IsFace, AreFaces}
use Rattle.obj_write.specs.VertexMarks.{grid_place}
use Rattle.obj_write.proofs.PlaceLemmas.{place-below}

-- where both sums are even, the place between two points is half the sum of their places
place-between : (s a b c d : ℕ) → (a + c) % 2 ≡ 0 → (b + d) % 2 ≡ 0 →
    ((b * s + a) + (d * s + c)) / 2 ≡ ((b + d) / 2) * s + (a + c) / 2
place-between s a b c d even_x even_y =
    let i : ℕ = (a + c) / 2 in
    let j : ℕ = (b + d) / 2 in
    let x : a + c ≡ 2 * i = omega arith in
    let y : b + d ≡ 2 * j = omega arith in
    let rows : (b + d) * s ≡ (2 * j) * s = ap (λ k. k * s) y in
    let sum : (b * s + a) + (d * s + c) ≡ 2 * (j * s + i) = omega arith in
    omega arith

-- the place of the midpoint of a base
pub middle-place : (n t : ℕ) → level_of t < 2 * n →
    (grid_place n (corners_of n t).v0 + grid_place n (corners_of n t).v1) / 2
    ≡ grid_place n (midpoint (corners_of n t).v0 (corners_of n t).v1)
middle-place n t coarse =
    let c = corners_of n t in
    let even = HasEvenBase-corners_of n t coarse in
    place-between (side_of n) c.v0.x c.v0.y c.v1.x c.v1.y even.x even.y

-- it is one of the grid's
pub middle-below : (n t : ℕ) → grid_place n (midpoint (corners_of n t).v0 (corners_of n t).v1) < side_of n * side_of n
middle-below n t =
    let w = IsWithin-corners_of n t in
    let c = corners_of n t in
    let x0 = w.v0_x in
    let y0 = w.v0_y in
    let x1 = w.v1_x in
    let y1 = w.v1_y in
    place-below n (midpoint c.v0 c.v1) (record { x = omega arith; y = omega arith })

-- a left child, and a right one
pub left-corners : (n t : ℕ) → 4 ≤ t → t % 2 ≡ 0 → corners_of n t ≡ child 0 (corners_of n (t / 2))
left-corners n t big even =
    let twice : t ≡ 2 * (t / 2) = omega arith in
    ap (corners_of n) twice ∙ corners_of-left n (t / 2) (omega arith)

pub right-corners : (n t : ℕ) → 4 ≤ t → t % 2 ≡ 1 → corners_of n t ≡ child 1 (corners_of n (t / 2))
right-corners n t big odd =
    let twice : t ≡ 2 * (t / 2) + 1 = omega arith in
    ap (corners_of n) twice ∙ corners_of-right n (t / 2) (omega arith)

-- the corners of a left child, from its parent's face
module _ (n t : ℕ) (numbers : List ℕ) (f : Face) (big : 4 ≤ t) (of : f.tri ≡ t / 2) (face : IsFace n numbers f) where
  left_is : t % 2 ≡ 0 → corners_of n t ≡ child 0 (corners_of n f.tri)
  left_is even = left-corners n t big even ∙ ap (λ a. child 0 (corners_of n a)) (sym of)

  right_is : t % 2 ≡ 1 → corners_of n t ≡ child 1 (corners_of n f.tri)
  right_is odd = right-corners n t big odd ∙ ap (λ a. child 1 (corners_of n a)) (sym of)

  pub left-v0 : t % 2 ≡ 0 → IsCornerAt n numbers (corners_of n t).v0 f.apex
  left-v0 even = rw (left_is even) face.apex_is

  pub left-v1 : t % 2 ≡ 0 → IsCornerAt n numbers (corners_of n t).v1 f.v0
  left-v1 even = rw (left_is even) face.v0_is

  pub right-v0 : t % 2 ≡ 1 → IsCornerAt n numbers (corners_of n t).v0 f.v1
  right-v0 odd = rw (right_is odd) face.v1_is

  pub right-v1 : t % 2 ≡ 1 → IsCornerAt n numbers (corners_of n t).v1 f.apex
  right-v1 odd = rw (right_is odd) face.apex_is

  pub child-apex : IsCornerAt n numbers (corners_of n t).apex f.middle
  child-apex = by_half (halves t)
    where
      halves : (k : ℕ) → (k % 2 ≡ 0) ⊎ (k % 2 ≡ 1)
      halves k = omega_halves k (omega arith)
        where
          omega_halves : (k : ℕ) → k % 2 < 2 → (k % 2 ≡ 0) ⊎ (k % 2 ≡ 1)
          omega_halves k low = grind arith

      by_half : ((t % 2 ≡ 0) ⊎ (t % 2 ≡ 1)) → IsCornerAt n numbers (corners_of n t).apex f.middle
      by_half (inl even) = rw (left_is even) face.middle_is
      by_half (inr odd) = rw (right_is odd) face.middle_is

-- faces stay faces where one is put to a level: the list is cut there, and the face stands first in the rest
pub AreFaces-put : (n : ℕ) (numbers : List ℕ) (faces coarse fine : List Face) (level : ℕ) (f : Face)
    → faces ≡ coarse ++ fine → length coarse ≡ level → IsFace n numbers f → AreFaces n numbers faces
    → AreFaces n numbers (coarse ++ set fine 0 f)
AreFaces-put n numbers faces coarse fine level f is long face known =
    let none : level - level ≡ 0 = omega arith in
    let whole : set faces level f ≡ coarse ++ set fine 0 f =
    ap (λ (s : List Face). set s level f) is ∙ set-append_right coarse fine level level f long (omega arith)
    ∙ ap (λ (k : ℕ). coarse ++ set fine k f) none in
    subst (AreFaces n numbers) whole (All-set (IsFace n numbers) faces level f face known)

-- the halves of the square have level 0
pub level_of-small : (t : ℕ) → t < 4 → level_of t ≡ 0
unfolding level_of
level_of-small zero low = refl
level_of-small (suc zero) low = refl
level_of-small (suc (suc zero)) low = refl
level_of-small (suc (suc (suc zero))) low = refl
level_of-small (suc (suc (suc (suc t)))) low = absurd (omega arith)

-- a grid has few places
pub side-small : (n : ℕ) → n ≤ 14 → side_of n * side_of n ≤ 268468225
side-small n high =
    let side : 2 ^ n ≤ 2 ^ 14 = pow_mono high in
    mul-le-mul (side_of n) 16385 (side_of n) 16385 (omega arith) (omega arith)
  where
    mul-le-mul : (a b c d : ℕ) → a ≤ b → c ≤ d → a * c ≤ b * d
    mul-le-mul a b c d one two = grind arith

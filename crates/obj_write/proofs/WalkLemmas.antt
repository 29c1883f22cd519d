-- Corners from those of the parent.
use Rattle.std.proofs.Common.{◌≡◌, ◌⊎◌, inl, inr, ℕ, ◌*◌, ◌+◌, ◌/◌, ◌%◌, ◌<◌, ◌≤◌, cond, nat_eq, refl, sym, ◌∙◌, ap}
use Rattle.std.proofs.Common.{arith}
use Rattle.std.proofs.lemmas.Bool.{cases_lt}
use Rattle.mesh_defs.specs.Triangle.{corners_of, child, level_of}
use Rattle.bintree_laws.proofs.CornerLemmas.{corners_of-left, corners_of-right}

-- the side of a triangle, as the code tells it
side : (t : ℕ) → cond (nat_eq (t % 2) 1) 1 0 ≡ t % 2
side t = by_half (cases_lt (t % 2) 1)
  where
    by_half : ((t % 2 < 1) ⊎ (1 ≤ t % 2)) → cond (nat_eq (t % 2) 1) 1 0 ≡ t % 2
    by_half (inl even) = let zero_is : t % 2 ≡ 0 = omega arith in rw zero_is refl
    by_half (inr odd) = let one_is : t % 2 ≡ 1 = omega arith in rw one_is refl

-- the corners of a triangle that is no half of the square
pub corners_of-below : (n t : ℕ) → 4 ≤ t → corners_of n t ≡ child (cond (nat_eq (t % 2) 1) 1 0) (corners_of n (t / 2))
corners_of-below n t big = by_half (cases_lt (t % 2) 1) ∙ ap (λ s. child s (corners_of n (t / 2))) (sym (side t))
  where
    by_half : ((t % 2 < 1) ⊎ (1 ≤ t % 2)) → corners_of n t ≡ child (t % 2) (corners_of n (t / 2))
    by_half (inl even) =
        let zero_is : t % 2 ≡ 0 = omega arith in
        let twice : t ≡ 2 * (t / 2) = omega arith in
        ap (corners_of n) twice ∙ corners_of-left n (t / 2) (omega arith)
        ∙ ap (λ s. child s (corners_of n (t / 2))) (sym zero_is)
    by_half (inr odd) =
        let one_is : t % 2 ≡ 1 = omega arith in
        let twice : t ≡ 2 * (t / 2) + 1 = omega arith in
        ap (corners_of n) twice ∙ corners_of-right n (t / 2) (omega arith)
        ∙ ap (λ s. child s (corners_of n (t / 2))) (sym one_is)

-- the first half of the square has level 0
pub level_of-half : (n a : ℕ) → a ≡ 2 → level_of a ≤ 2 * n
unfolding level_of
level_of-half n a two = rw two (omega arith)

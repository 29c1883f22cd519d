-- The edges of triangles, told by addresses alone.
-- An edge of a triangle is named by the address of the triangle whose base it is: the base of a by a
-- itself, its left leg by 2a, its right leg by 2a + 1.
use Rattle.std.specs.Prelude.{◌≡◌, ◌⊎◌, ℕ, zero, suc, ◌+◌, ◌-◌, ◌*◌, ◌/◌, ◌%◌, Bool, true, false, nat_lt, ◌||◌}
use Rattle.mesh_defs.specs.Triangle.{level_of}

-- the mate of 4c + last, where above is the mate of c or 0
abbrev pub grandchild_mate : ℕ → ℕ → ℕ → ℕ
grandchild_mate zero e above = e + 3
grandchild_mate (suc zero) e zero = 0
grandchild_mate (suc zero) e (suc b) = 4 * suc b + 2
grandchild_mate (suc (suc zero)) e zero = 0
grandchild_mate (suc (suc zero)) e (suc b) = 4 * suc b + 1
grandchild_mate (suc (suc (suc _))) e above = e - 3

-- the mate of e, which has this level
abbrev pub mate_at : ℕ → ℕ → ℕ
mate_at zero e = 5 - e
mate_at (suc zero) e = 0
mate_at (suc (suc level)) e = grandchild_mate (e % 4) e (mate_at level (e / 4))

-- the mate of e, or 0 where the base of e lies on the border
unfoldable pub mate_of : ℕ → ℕ
mate_of e = mate_at (level_of e) e

-- the leaf that has the edge e: e itself where its parent is split, else its parent
abbrev pub owner : (ℕ → Bool) → ℕ → ℕ
owner split e = elim (split (e / 2)) as (λ _. ℕ) [ true ↦ e | false ↦ e / 2 ]

-- e is an edge of the triangle a: its base, its left leg or its right leg
abbrev pub IsEdgeOf : ℕ → ℕ → Type 0
IsEdgeOf a e = (e ≡ a) ⊎ (e / 2 ≡ a)

-- a set of split triangles, and below them the square, which stands at 1 and has the halves 2 and 3
abbrev pub with_square : (ℕ → Bool) → ℕ → Bool
with_square has p = nat_lt p 2 || has p

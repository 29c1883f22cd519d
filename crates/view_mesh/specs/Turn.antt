-- Planes that are put in force in the place of others, and the triangles whose boxes those turn.
-- All of it is this project's own.
-- Words: AreNested, is_turn, is_settled, turns.
use Rattle.std.specs.Prelude.{ℕ, ◌*◌, ◌/◌, ◌≤◌, ◌&&◌, Bool, true, false, IsTrue, List}
use Rattle.mesh_defs.specs.declared.mark.Mark.{Mark}
use Rattle.mesh_defs.specs.declared.mark.Mark.TheVariants.{Inside, Outside}
use Rattle.mesh_defs.specs.BoundingBox.{BoundingBox}
use Rattle.mesh_defs.specs.Triangle.{level_of}
use Rattle.mesh_defs.specs.View.{ViewPlane, mark_of}
use Rattle.cull_marks.specs.Nesting.{IsInside}

-- the parent of a triangle of the grid that has a box has one, in which that of the triangle lies
pub record AreNested (n : ℕ) (has : ℕ → Bool) (box : ℕ → BoundingBox) : Type 0 where
  pub parent : (a : ℕ) → IsTrue (has a) → 4 ≤ a → level_of a ≤ 2 * n → IsTrue (has (a / 2))
  pub inside : (a : ℕ) → IsTrue (has a) → 4 ≤ a → level_of a ≤ 2 * n → IsInside (box a) (box (a / 2))

-- one of the two marks is Outside, and not both
abbrev pub is_turn : Mark → Mark → Bool
is_turn Outside Outside = false
is_turn Outside _ = true
is_turn _ Outside = true
is_turn _ _ = false

-- both are Outside, or both Inside: so they are of all that lies below
abbrev pub is_settled : Mark → Mark → Bool
is_settled Inside Inside = true
is_settled Outside Outside = true
is_settled _ _ = false

-- the triangle has a box, and that is Outside of the planes before or of those after, and not of both
abbrev pub turns : (ℕ → Bool) → (ℕ → BoundingBox) → List ViewPlane → List ViewPlane → ℕ → Bool
turns has box before after a = has a && is_turn (mark_of before (box a)) (mark_of after (box a))

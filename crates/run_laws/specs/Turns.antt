-- How many turns a strip takes to either side, as numbers that its triangles determine: out over the edge before the
-- one of the entry is left, over the edge after it right, counterclockwise. This project's own words.
-- Words: is_edge, has_edge_back, turns_left_from, turns_right_from, is_left_turn, is_right_turn, turns_by,
-- left_turns, right_turns.
use Rattle.std.specs.Prelude.{ℕ, ◌+◌, Bool, ◌&&◌, ◌||◌, cond, List, ◌∷◌}
use Rattle.mesh_defs.specs.declared.point.Point.{Point}
use Rattle.mesh_defs.specs.declared.point.Corners.{Corners}
use Rattle.mesh_defs.specs.Triangle.{corners_of}
use Rattle.mesh_defs.specs.MeshText.{is_same_point}
use Rattle.mesh_laws.specs.declared.edge.Edge.{Edge}
use Rattle.mesh_laws.specs.declared.edge.Edge.TheVariants.{LeftLeg, Base, RightLeg}
use Rattle.mesh_laws.specs.Turn.{edge_from, edge_to, next, last}

-- from p to q is an edge, counterclockwise
abbrev pub is_edge : Corners → Point → Point → Bool
is_edge c p q =
    (is_same_point p c.apex && is_same_point q c.v0)
    || ((is_same_point p c.v0 && is_same_point q c.v1) || (is_same_point p c.v1 && is_same_point q c.apex))

-- the other triangle has this edge, in the other direction
abbrev pub has_edge_back : Edge → Corners → Corners → Bool
has_edge_back e c other = is_edge other (edge_to e c) (edge_from e c)

-- the triangle is entered over this edge, and left over the one before it, or over the one after it
abbrev pub turns_left_from : Edge → Corners → Corners → Corners → Bool
turns_left_from e before c after = has_edge_back e c before && has_edge_back (last e) c after

abbrev pub turns_right_from : Edge → Corners → Corners → Corners → Bool
turns_right_from e before c after = has_edge_back e c before && has_edge_back (next e) c after

-- the turn at t, between the triangle before it and the one after it, is to the left, or to the right
abbrev pub is_left_turn : ℕ → ℕ → ℕ → ℕ → Bool
is_left_turn n before t after =
    turns_left_from LeftLeg (corners_of n before) (corners_of n t) (corners_of n after)
    || (turns_left_from Base (corners_of n before) (corners_of n t) (corners_of n after)
    || turns_left_from RightLeg (corners_of n before) (corners_of n t) (corners_of n after))

abbrev pub is_right_turn : ℕ → ℕ → ℕ → ℕ → Bool
is_right_turn n before t after =
    turns_right_from LeftLeg (corners_of n before) (corners_of n t) (corners_of n after)
    || (turns_right_from Base (corners_of n before) (corners_of n t) (corners_of n after)
    || turns_right_from RightLeg (corners_of n before) (corners_of n t) (corners_of n after))

-- at how many triangles of a list, of all but its first and last, the test passes of the one before, it, and the one
-- after
abbrev pub turns_by : (ℕ → ℕ → ℕ → Bool) → List ℕ → ℕ
turns_by test (a ∷ (b ∷ (c ∷ rest))) = cond (test a b c) 1 0 + turns_by test (b ∷ (c ∷ rest))
turns_by test _ = 0

-- How many turns of a list go to the left, and how many to the right.
unfoldable pub left_turns : ℕ → List ℕ → ℕ
left_turns n order = turns_by (is_left_turn n) order

unfoldable pub right_turns : ℕ → List ℕ → ℕ
right_turns n order = turns_by (is_right_turn n) order

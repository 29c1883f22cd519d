-- How a strip goes through a triangle: in over one edge, and out over the next one or the one before.
-- Words: edge_from, edge_to, HasEdgeBack, next, last, IsLeftTurn, IsRightTurn, HasTurns.
use Rattle.std.specs.Prelude.{ℕ, suc, List, [], ◌∷◌}
use Rattle.mesh_defs.specs.declared.point.Point.{Point}
use Rattle.mesh_defs.specs.declared.point.Corners.{Corners}
use Rattle.mesh_defs.specs.Triangle.{corners_of, IsEdge}
use Rattle.mesh_laws.specs.declared.edge.Edge.{Edge}
use Rattle.mesh_laws.specs.declared.edge.Edge.TheVariants.{LeftLeg, Base, RightLeg}

-- where an edge begins and ends, counterclockwise
abbrev pub edge_from : Edge → Corners → Point
edge_from LeftLeg c = c.apex
edge_from Base c = c.v0
edge_from RightLeg c = c.v1

abbrev pub edge_to : Edge → Corners → Point
edge_to LeftLeg c = c.v0
edge_to Base c = c.v1
edge_to RightLeg c = c.apex

-- the other triangle has this edge, in the other direction
abbrev pub HasEdgeBack : Edge → Corners → Corners → Type 0
HasEdgeBack e c other = IsEdge other (edge_to e c) (edge_from e c)

-- the next edge, counterclockwise, and the one before
abbrev pub next : Edge → Edge
next LeftLeg = Base
next Base = RightLeg
next RightLeg = LeftLeg

abbrev pub last : Edge → Edge
last LeftLeg = RightLeg
last Base = LeftLeg
last RightLeg = Base

-- The edge that t shares with the triangle before it runs from p to q, counterclockwise round t, and r is the
-- third corner. Left: the edge shared with the triangle after it is the one before the entry, from r to p.
pub record IsLeftTurn (n before t after : ℕ) : Type 0 where
  pub entry : Edge
  pub entered : HasEdgeBack entry (corners_of n t) (corners_of n before)
  pub left : HasEdgeBack (last entry) (corners_of n t) (corners_of n after)

-- Right: it is the one after the entry, from q to r.
pub record IsRightTurn (n before t after : ℕ) : Type 0 where
  pub entry : Edge
  pub entered : HasEdgeBack entry (corners_of n t) (corners_of n before)
  pub left : HasEdgeBack (next entry) (corners_of n t) (corners_of n after)

-- so many left and right turns of all triangles of a list but its first and last
pub data HasTurns (n : ℕ) : List ℕ → ℕ → ℕ → Type 0 where
  none : (a b : ℕ) → HasTurns n (a ∷ (b ∷ [])) 0 0
  left : (a b c : ℕ) (rest : List ℕ) (lefts rights : ℕ) → IsLeftTurn n a b c →
      HasTurns n (b ∷ (c ∷ rest)) lefts rights → HasTurns n (a ∷ (b ∷ (c ∷ rest))) (suc lefts) rights
  right : (a b c : ℕ) (rest : List ℕ) (lefts rights : ℕ) → IsRightTurn n a b c →
      HasTurns n (b ∷ (c ∷ rest)) lefts rights → HasTurns n (a ∷ (b ∷ (c ∷ rest))) lefts (suc rights)

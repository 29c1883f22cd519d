-- The turn by the two edges: the next one is right, the one before is left, and they are not the same.
use Rattle.std.proofs.Common.{◌≡◌, ◌≢◌, ℕ, ◌+◌, Bool, List, ◌∷◌, length, Contains, refl, ◌∙◌, ap, subst, arith}
use Rattle.std.proofs.lemmas.Bool.{false_from_ne_true}
use Rattle.mesh_defs.specs.declared.point.Corners.{Corners}
use Rattle.mesh_defs.specs.Triangle.{corners_of}
use Rattle.mesh_defs.specs.ClosedSet.{IsClosed, leaves_of}
use Rattle.mesh_laws.proofs.LeafLemmas.{leaf-where}
use Rattle.mesh_laws.specs.LeafAcross.{IsLeafOf}
use Rattle.mesh_laws.proofs.LeafAcrossLemmas.{one_leaf}
use Rattle.mesh_laws.specs.declared.edge.Edge.{Edge}
use Rattle.mesh_laws.specs.declared.edge.Edge.TheVariants.{LeftLeg, Base, RightLeg}
use Rattle.mesh_laws.specs.Turn.{edge_from, edge_to, HasEdgeBack, next, IsLeftTurn, HasTurns, none, left, right}

-- what is listed as a leaf is one
pub IsLeafOf-listed : (n : ℕ) (has : ℕ → Bool) (a : ℕ) → IsClosed n has → Contains (leaves_of n has) a → IsLeafOf has a
IsLeafOf-listed n has a closed listed =
    let leaf = (leaf-where n has a closed).0 listed in
    record { low = leaf.0.low; above = leaf.2; whole = false_from_ne_true (has a) leaf.1 }

module _ (n before t after : ℕ) where
  -- not out over the edge of the entry, where before and after are two leaves of one mesh
  pub not_back : (has : ℕ → Bool) (e : Edge) → IsClosed n has → Contains (leaves_of n has) before →
      Contains (leaves_of n has) after → before ≢ after →
      HasEdgeBack e (corners_of n t) (corners_of n before) → HasEdgeBack e (corners_of n t) (corners_of n after) → ⊥
  not_back has e closed in_before in_after other h k =
      other (one_leaf n has before after (edge_to e (corners_of n t)) (edge_from e (corners_of n t)) closed
      (IsLeafOf-listed n has before closed in_before) (IsLeafOf-listed n has after closed in_after) h k)

  -- so it is left where it is not right
  IsLeftTurn-other : (has : ℕ → Bool) (entry exit : Edge) → IsClosed n has → Contains (leaves_of n has) before →
      Contains (leaves_of n has) after → before ≢ after →
      HasEdgeBack entry (corners_of n t) (corners_of n before) →
      HasEdgeBack exit (corners_of n t) (corners_of n after) →
      exit ≢ next entry → IsLeftTurn n before t after
  IsLeftTurn-other has LeftLeg LeftLeg closed in_b in_a other h k differ =
      absurd (not_back has LeftLeg closed in_b in_a other h k)
  IsLeftTurn-other has LeftLeg Base closed in_b in_a other h k differ = absurd (differ refl)
  IsLeftTurn-other has LeftLeg RightLeg closed in_b in_a other h k differ =
      record { entry = LeftLeg; entered = h; left = k }
  IsLeftTurn-other has Base LeftLeg closed in_b in_a other h k differ = record { entry = Base; entered = h; left = k }
  IsLeftTurn-other has Base Base closed in_b in_a other h k differ =
      absurd (not_back has Base closed in_b in_a other h k)
  IsLeftTurn-other has Base RightLeg closed in_b in_a other h k differ = absurd (differ refl)
  IsLeftTurn-other has RightLeg LeftLeg closed in_b in_a other h k differ = absurd (differ refl)
  IsLeftTurn-other has RightLeg Base closed in_b in_a other h k differ =
      record { entry = RightLeg; entered = h; left = k }
  IsLeftTurn-other has RightLeg RightLeg closed in_b in_a other h k differ =
      absurd (not_back has RightLeg closed in_b in_a other h k)

  -- as the code has corners and edges
  pub IsLeftTurn-found : (has : ℕ → Bool) (entry exit e : Edge) (here there beyond : Corners) →
      IsClosed n has → Contains (leaves_of n has) before → Contains (leaves_of n has) after → before ≢ after →
      here ≡ corners_of n t → there ≡ corners_of n before → beyond ≡ corners_of n after →
      HasEdgeBack entry here there → HasEdgeBack exit here beyond → entry ≡ e → exit ≢ next e →
      IsLeftTurn n before t after
  IsLeftTurn-found has entry exit e here there beyond closed in_b in_a other x y z h k is differ =
      IsLeftTurn-other has entry exit closed in_b in_a other
      (subst (λ b. HasEdgeBack entry (corners_of n t) b) y (subst (λ c. HasEdgeBack entry c there) x h))
      (subst (λ b. HasEdgeBack exit (corners_of n t) b) z (subst (λ c. HasEdgeBack exit c beyond) x k))
      (λ same. differ (same ∙ ap next is))

-- all triangles but the first and the last are counted
pub length-turns : (n : ℕ) (order : List ℕ) (lefts rights : ℕ) → HasTurns n order lefts rights →
    length order ≡ lefts + rights + 2
length-turns n order lefts rights (none a b) = omega arith
length-turns n order lefts rights (left a b c rest i j turn more) =
    let h = length-turns n (b ∷ (c ∷ rest)) i j more in omega arith
length-turns n order lefts rights (right a b c rest i j turn more) =
    let h = length-turns n (b ∷ (c ∷ rest)) i j more in omega arith

-- A left turn is no right turn: no triangle has two edges of another one backwards, since both turn left.
use Rattle.std.proofs.Common.{◌≢◌, ℕ, ◌+◌, ◌*◌, ◌<◌, inl, inr, Bool, Contains, sym, ◌∙◌, subst, arith}
use Rattle.std.proofs.lemmas.List.Elements.{All-contains}
use Rattle.mesh_defs.specs.declared.point.Point.{Point}
use Rattle.mesh_defs.specs.declared.point.Corners.{Corners}
use Rattle.mesh_defs.specs.Triangle.{IsAddress, corners_of, IsEdge}
use Rattle.mesh_defs.specs.ClosedSet.{IsClosed, leaves_of}
use Rattle.mesh_laws.proofs.DescentLemmas.{IsAddress-leaves_of}
use Rattle.mesh_laws.proofs.OrientationLemmas.{counterclockwise}
use Rattle.mesh_laws.specs.declared.edge.Edge.{Edge}
use Rattle.mesh_laws.specs.declared.edge.Edge.TheVariants.{LeftLeg, Base, RightLeg}
use Rattle.mesh_laws.specs.Turn.{HasEdgeBack, next, last, IsLeftTurn, IsRightTurn}
use Rattle.mesh_laws.proofs.StripTurnLemmas.{not_back}

-- p, q and r turn left
abbrev TurnLeft : Point → Point → Point → Type 0
TurnLeft p q r = p.y * q.x + q.y * r.x + r.y * p.x < p.x * q.y + q.x * r.y + r.x * p.y

-- no two of them are the same, and backwards they do not
not_same : (p q : Point) → TurnLeft p q p → ⊥
not_same p q h = omega arith

not_last : (p q : Point) → TurnLeft p q q → ⊥
not_last p q h = omega arith

not_backwards : (p q r : Point) → TurnLeft p q r → TurnLeft r q p → ⊥
not_backwards p q r h k = omega arith

-- the corners of a triangle turn left, in each order that goes round
abbrev AllLeft : Corners → Type 0
AllLeft c = TurnLeft c.apex c.v0 c.v1

-- r, q and p, with the edges from r to q and from q to p, do not turn right
two_backs : (d : Corners) (p q r : Point) → AllLeft d → TurnLeft p q r → IsEdge d r q → IsEdge d q p → ⊥
two_backs d p q r all h (inl x) (inl y) = not_last p q (subst (λ z. TurnLeft p q z) (x.0 ∙ sym y.0) h)
two_backs d p q r all h (inl x) (inr (inl y)) =
    not_backwards p q r h (subst (λ z. TurnLeft z q p) (sym x.0)
    (subst (λ z. TurnLeft d.apex z p) (sym x.1) (subst (λ z. TurnLeft d.apex d.v0 z) (sym y.1) all)))
two_backs d p q r all h (inl x) (inr (inr y)) = not_same p q (subst (λ z. TurnLeft p q z) (x.0 ∙ sym y.1) h)
two_backs d p q r all h (inr (inl x)) (inl y) = not_same p q (subst (λ z. TurnLeft p q z) (x.0 ∙ sym y.1) h)
two_backs d p q r all h (inr (inl x)) (inr (inl y)) = not_last p q (subst (λ z. TurnLeft p q z) (x.0 ∙ sym y.0) h)
two_backs d p q r all h (inr (inl x)) (inr (inr y)) =
    let turned : TurnLeft d.v0 d.v1 d.apex = omega arith in
    not_backwards p q r h (subst (λ z. TurnLeft z q p) (sym x.0)
    (subst (λ z. TurnLeft d.v0 z p) (sym x.1) (subst (λ z. TurnLeft d.v0 d.v1 z) (sym y.1) turned)))
two_backs d p q r all h (inr (inr x)) (inl y) =
    let turned : TurnLeft d.v1 d.apex d.v0 = omega arith in
    not_backwards p q r h (subst (λ z. TurnLeft z q p) (sym x.0)
    (subst (λ z. TurnLeft d.v1 z p) (sym x.1) (subst (λ z. TurnLeft d.v1 d.apex z) (sym y.1) turned)))
two_backs d p q r all h (inr (inr x)) (inr (inl y)) = not_same p q (subst (λ z. TurnLeft p q z) (x.0 ∙ sym y.1) h)
two_backs d p q r all h (inr (inr x)) (inr (inr y)) = not_last p q (subst (λ z. TurnLeft p q z) (x.0 ∙ sym y.0) h)

-- so a triangle has not an edge of another one and the next backwards
not_next_too : (e : Edge) (c d : Corners) → AllLeft c → AllLeft d → HasEdgeBack e c d → HasEdgeBack (next e) c d → ⊥
not_next_too LeftLeg c d h all x y = two_backs d c.apex c.v0 c.v1 all h y x
not_next_too Base c d h all x y =
    let turned : TurnLeft c.v0 c.v1 c.apex = omega arith in
    two_backs d c.v0 c.v1 c.apex all turned y x
not_next_too RightLeg c d h all x y =
    let turned : TurnLeft c.v1 c.apex c.v0 = omega arith in
    two_backs d c.v1 c.apex c.v0 all turned y x

-- ---- turns

module _ (n before t after : ℕ) (has : ℕ → Bool) (closed : IsClosed n has) (other : before ≢ after)
    (in_before : Contains (leaves_of n has) before) (in_middle : Contains (leaves_of n has) t)
    (in_after : Contains (leaves_of n has) after) where
  all_left : (a : ℕ) → Contains (leaves_of n has) a → AllLeft (corners_of n a)
  all_left a listed =
      counterclockwise n a (All-contains (IsAddress n) (leaves_of n has) a (IsAddress-leaves_of n has) listed)

  -- by the edges of the two entries
  not_both_by : (e f : Edge) → HasEdgeBack e (corners_of n t) (corners_of n before) →
      HasEdgeBack (last e) (corners_of n t) (corners_of n after) →
      HasEdgeBack f (corners_of n t) (corners_of n before) →
      HasEdgeBack (next f) (corners_of n t) (corners_of n after) → ⊥
  not_both_by LeftLeg LeftLeg h k i j =
      not_next_too Base (corners_of n t) (corners_of n after) (all_left t in_middle) (all_left after in_after) j k
  not_both_by Base Base h k i j =
      not_next_too RightLeg (corners_of n t) (corners_of n after) (all_left t in_middle) (all_left after in_after) j k
  not_both_by RightLeg RightLeg h k i j =
      not_next_too LeftLeg (corners_of n t) (corners_of n after) (all_left t in_middle) (all_left after in_after) j k
  not_both_by LeftLeg Base h k i j =
      not_next_too LeftLeg (corners_of n t) (corners_of n before) (all_left t in_middle) (all_left before in_before) h i
  not_both_by Base RightLeg h k i j =
      not_next_too Base (corners_of n t) (corners_of n before) (all_left t in_middle) (all_left before in_before) h i
  not_both_by RightLeg LeftLeg h k i j = not_next_too RightLeg (corners_of n t) (corners_of n before)
      (all_left t in_middle) (all_left before in_before) h i
  not_both_by LeftLeg RightLeg h k i j = not_back n before t after has LeftLeg closed in_before in_after other h j
  not_both_by Base LeftLeg h k i j = not_back n before t after has Base closed in_before in_after other h j
  not_both_by RightLeg Base h k i j = not_back n before t after has RightLeg closed in_before in_after other h j

  -- a left turn is no right turn
  pub not_both : IsLeftTurn n before t after → IsRightTurn n before t after → ⊥
  not_both l r = not_both_by l.entry r.entry l.entered l.left r.entered r.left

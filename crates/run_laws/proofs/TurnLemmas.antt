-- The turns of a strip as numbers: what the relation counts is what the tests count.
use Rattle.std.proofs.Common.{◌≡◌, ◌≢◌, ℕ, suc, ◌+◌, ◌≤◌, inl, inr, Bool, true, false, ◌&&◌, ◌||◌, cond, eqb, List, ◌∷◌}
use Rattle.std.proofs.Common.{count_by, Contains, refl, ◌∙◌, ap, arith, eq-eqb}
use Rattle.std.proofs.lemmas.Bool.{and_parts, and_from, or_left, or_right, or_cases, false_from_ne_true}
use Rattle.mesh_defs.specs.declared.point.Point.{Point}
use Rattle.mesh_defs.specs.declared.point.Corners.{Corners}
use Rattle.mesh_defs.specs.Triangle.{corners_of, IsEdge}
use Rattle.mesh_defs.specs.ClosedSet.{IsClosed, leaves_of}
use Rattle.mesh_defs.proofs.PointLemmas.{same_point-eq, eq-same_point}
use Rattle.mesh_defs.proofs.ListLemmas.{IsIn, Contains-in, count-cons, count-yes, count-some}
use Rattle.mesh_laws.specs.declared.edge.Edge.{Edge}
use Rattle.mesh_laws.specs.declared.edge.Edge.TheVariants.{LeftLeg, Base, RightLeg}
use Rattle.mesh_laws.specs.Strip.{strip_of}
use Rattle.mesh_laws.specs.Turn.{edge_from, edge_to, HasEdgeBack, next, last, IsLeftTurn, IsRightTurn, HasTurns, none}
use Rattle.mesh_laws.specs.Turn.{left, right}
use Rattle.mesh_laws.proofs.StripOrderLemmas.{leaf-strip_of, strip-once}
use Rattle.mesh_laws.proofs.ExclusiveLemmas.{not_both}
use Rattle.mesh_defs.specs.MeshText.{is_same_point}
use Rattle.run_laws.specs.Turns.{is_edge, has_edge_back, turns_left_from, turns_right_from, is_left_turn, is_right_turn}
use Rattle.run_laws.specs.Turns.{turns_by, left_turns, right_turns}

-- points and edges

-- both points are these two
both-points : (p q r s : Point) → (is_same_point p r && is_same_point q s) ≡ true → (p ≡ r) × (q ≡ s)
both-points p q r s is =
    let both = and_parts (is_same_point p r) (is_same_point q s) is in
    (same_point-eq p r both.0, same_point-eq q s both.1)

points-both : (p q r s : Point) → (p ≡ r) × (q ≡ s) → (is_same_point p r && is_same_point q s) ≡ true
points-both p q r s are =
    and_from (is_same_point p r) (is_same_point q s) (eq-same_point p r are.0) (eq-same_point q s are.1)

edge-found : (c : Corners) (p q : Point) → is_edge c p q ≡ true → IsEdge c p q
edge-found c p q is =
    let one : Bool = is_same_point p c.apex && is_same_point q c.v0 in
    let two : Bool = is_same_point p c.v0 && is_same_point q c.v1 in
    let three : Bool = is_same_point p c.v1 && is_same_point q c.apex in
    elim (or_cases one (two || three) is) [
      | inl h ↦ inl (both-points p q c.apex c.v0 h)
      | inr h ↦ elim (or_cases two three h) [
        | inl k ↦ inr (inl (both-points p q c.v0 c.v1 k))
        | inr k ↦ inr (inr (both-points p q c.v1 c.apex k))
      ]
    ]

found-edge : (c : Corners) (p q : Point) → IsEdge c p q → is_edge c p q ≡ true
found-edge c p q (inl h) =
    or_left (is_same_point p c.apex && is_same_point q c.v0)
    ((is_same_point p c.v0 && is_same_point q c.v1) || (is_same_point p c.v1 && is_same_point q c.apex))
    (points-both p q c.apex c.v0 h)
found-edge c p q (inr (inl h)) =
    or_right (is_same_point p c.apex && is_same_point q c.v0)
    ((is_same_point p c.v0 && is_same_point q c.v1) || (is_same_point p c.v1 && is_same_point q c.apex))
    (or_left (is_same_point p c.v0 && is_same_point q c.v1) (is_same_point p c.v1 && is_same_point q c.apex)
    (points-both p q c.v0 c.v1 h))
found-edge c p q (inr (inr h)) =
    or_right (is_same_point p c.apex && is_same_point q c.v0)
    ((is_same_point p c.v0 && is_same_point q c.v1) || (is_same_point p c.v1 && is_same_point q c.apex))
    (or_right (is_same_point p c.v0 && is_same_point q c.v1) (is_same_point p c.v1 && is_same_point q c.apex)
    (points-both p q c.v1 c.apex h))

-- a test of the three edges

any-found : (test : Edge → Bool) → (test LeftLeg || (test Base || test RightLeg)) ≡ true → (e : Edge) × (test e ≡ true)
any-found test is =
    elim (or_cases (test LeftLeg) (test Base || test RightLeg) is) [
      | inl h ↦ (LeftLeg, h)
      | inr h ↦ elim (or_cases (test Base) (test RightLeg) h) [
        | inl k ↦ (Base, k)
        | inr k ↦ (RightLeg, k)
      ]
    ]

found-any : (test : Edge → Bool) (e : Edge) → test e ≡ true → (test LeftLeg || (test Base || test RightLeg)) ≡ true
found-any test LeftLeg is = or_left (test LeftLeg) (test Base || test RightLeg) is
found-any test Base is = or_right (test LeftLeg) (test Base || test RightLeg) (or_left (test Base) (test RightLeg) is)
found-any test RightLeg is =
    or_right (test LeftLeg) (test Base || test RightLeg) (or_right (test Base) (test RightLeg) is)

-- turns

module _ (n before t after : ℕ) where
  back-found : (e : Edge) (other : ℕ) → has_edge_back e (corners_of n t) (corners_of n other) ≡ true →
      HasEdgeBack e (corners_of n t) (corners_of n other)
  back-found e other is = edge-found (corners_of n other) (edge_to e (corners_of n t)) (edge_from e (corners_of n t)) is

  found-back : (e : Edge) (other : ℕ) → HasEdgeBack e (corners_of n t) (corners_of n other) →
      has_edge_back e (corners_of n t) (corners_of n other) ≡ true
  found-back e other is = found-edge (corners_of n other) (edge_to e (corners_of n t)) (edge_from e (corners_of n t)) is

  abbrev from_left : Edge → Bool
  from_left e = turns_left_from e (corners_of n before) (corners_of n t) (corners_of n after)

  abbrev from_right : Edge → Bool
  from_right e = turns_right_from e (corners_of n before) (corners_of n t) (corners_of n after)

  left-found : is_left_turn n before t after ≡ true → IsLeftTurn n before t after
  left-found is =
      let some = any-found from_left is in
      let both = and_parts (has_edge_back some.0 (corners_of n t) (corners_of n before))
      (has_edge_back (last some.0) (corners_of n t) (corners_of n after)) some.1 in
      record { entry = some.0; entered = back-found some.0 before both.0; left = back-found (last some.0) after both.1 }

  found-left : IsLeftTurn n before t after → is_left_turn n before t after ≡ true
  found-left turn =
      found-any from_left turn.entry
      (and_from (has_edge_back turn.entry (corners_of n t) (corners_of n before))
      (has_edge_back (last turn.entry) (corners_of n t) (corners_of n after))
      (found-back turn.entry before turn.entered) (found-back (last turn.entry) after turn.left))

  right-found : is_right_turn n before t after ≡ true → IsRightTurn n before t after
  right-found is =
      let some = any-found from_right is in
      let both = and_parts (has_edge_back some.0 (corners_of n t) (corners_of n before))
      (has_edge_back (next some.0) (corners_of n t) (corners_of n after)) some.1 in
      record { entry = some.0; entered = back-found some.0 before both.0; left = back-found (next some.0) after both.1 }

  found-right : IsRightTurn n before t after → is_right_turn n before t after ≡ true
  found-right turn =
      found-any from_right turn.entry
      (and_from (has_edge_back turn.entry (corners_of n t) (corners_of n before))
      (has_edge_back (next turn.entry) (corners_of n t) (corners_of n after))
      (found-back turn.entry before turn.entered) (found-back (next turn.entry) after turn.left))

-- lists of leaves, each at most once

-- each entry of the list is a leaf, and stands in it at most once
pub record AreOnce (n : ℕ) (has : ℕ → Bool) (order : List ℕ) : Type 0 where
  pub listed : (a : ℕ) → IsIn a order → Contains (leaves_of n has) a
  pub once : (a : ℕ) → count_by (λ t. eqb t a) order ≤ 1

once-rest : (n : ℕ) (has : ℕ → Bool) (a : ℕ) (rest : List ℕ) → AreOnce n has (a ∷ rest) → AreOnce n has rest
once-rest n has a rest are = record {
  listed = λ b i. are.listed b (inr i);
  once = λ b. let more = count-cons (λ t. eqb t b) a rest in let most = are.once b in omega arith;
}

-- the first and the third differ
first-third : (n : ℕ) (has : ℕ → Bool) (a b c : ℕ) (rest : List ℕ) → AreOnce n has (a ∷ (b ∷ (c ∷ rest))) → a ≢ c
first-third n has a b c rest are same =
    let one = count-yes (λ t. eqb t c) a (b ∷ (c ∷ rest)) (eq-eqb a c same) in
    let two = count-some (λ t. eqb t c) c (b ∷ (c ∷ rest)) (inr (inl refl)) (eq-eqb c c refl) in
    let most = are.once c in
    omega arith

-- what a triangle adds to a count
adds-one : (b : Bool) (rest : ℕ) → b ≡ true → cond b 1 0 + rest ≡ suc rest
adds-one true rest is = omega arith
adds-one false rest is = absurd (no is)
  where
    no : false ≡ true → ⊥
    no e = cc

adds-nothing : (b : Bool) (rest : ℕ) → b ≡ false → cond b 1 0 + rest ≡ rest
adds-nothing false rest is = omega arith
adds-nothing true rest is = absurd (no is)
  where
    no : true ≡ false → ⊥
    no e = cc

module _ (n : ℕ) (has : ℕ → Bool) (closed : IsClosed n has) where
  -- a turn to one side is none to the other
  exclusive : (a b c : ℕ) (rest : List ℕ) → AreOnce n has (a ∷ (b ∷ (c ∷ rest))) →
      IsLeftTurn n a b c → IsRightTurn n a b c → ⊥
  exclusive a b c rest are l r =
      not_both n a b c has closed (first-third n has a b c rest are) (are.listed a (inl refl))
      (are.listed b (inr (inl refl))) (are.listed c (inr (inr (inl refl)))) l r

  left-count : (order : List ℕ) (lefts rights : ℕ) → AreOnce n has order → HasTurns n order lefts rights →
      turns_by (is_left_turn n) order ≡ lefts
  left-count order lefts rights are (none a b) = refl
  left-count order lefts rights are (left a b c rest i j turn more) =
      adds-one (is_left_turn n a b c) (turns_by (is_left_turn n) (b ∷ (c ∷ rest))) (found-left n a b c turn)
      ∙ ap suc (left-count (b ∷ (c ∷ rest)) i j (once-rest n has a (b ∷ (c ∷ rest)) are) more)
  left-count order lefts rights are (right a b c rest i j turn more) =
      adds-nothing (is_left_turn n a b c) (turns_by (is_left_turn n) (b ∷ (c ∷ rest)))
      (false_from_ne_true (is_left_turn n a b c) (λ is. exclusive a b c rest are (left-found n a b c is) turn))
      ∙ left-count (b ∷ (c ∷ rest)) i j (once-rest n has a (b ∷ (c ∷ rest)) are) more

  right-count : (order : List ℕ) (lefts rights : ℕ) → AreOnce n has order → HasTurns n order lefts rights →
      turns_by (is_right_turn n) order ≡ rights
  right-count order lefts rights are (none a b) = refl
  right-count order lefts rights are (right a b c rest i j turn more) =
      adds-one (is_right_turn n a b c) (turns_by (is_right_turn n) (b ∷ (c ∷ rest))) (found-right n a b c turn)
      ∙ ap suc (right-count (b ∷ (c ∷ rest)) i j (once-rest n has a (b ∷ (c ∷ rest)) are) more)
  right-count order lefts rights are (left a b c rest i j turn more) =
      adds-nothing (is_right_turn n a b c) (turns_by (is_right_turn n) (b ∷ (c ∷ rest)))
      (false_from_ne_true (is_right_turn n a b c) (λ is. exclusive a b c rest are turn (right-found n a b c is)))
      ∙ right-count (b ∷ (c ∷ rest)) i j (once-rest n has a (b ∷ (c ∷ rest)) are) more

  strip-listed : AreOnce n has (strip_of n has)
  strip-listed = record {
    listed = λ a i. Contains-in a (leaves_of n has) (leaf-strip_of n a has i);
    once = strip-once n has;
  }

  -- the turns of a strip are so many
  pub turns-counted : (lefts rights : ℕ) → HasTurns n (strip_of n has) lefts rights
      → (left_turns n (strip_of n has) ≡ lefts) × (right_turns n (strip_of n has) ≡ rights)
  unfolding left_turns right_turns
  turns-counted lefts rights turns = (
    left-count (strip_of n has) lefts rights strip-listed turns,
    right-count (strip_of n has) lefts rights strip-listed turns,
  )

-- Priorities of children and parents, and of one triangle from two cameras.
use Rattle.std.proofs.Common.{◌≡◌, ◌⊎◌, inl, inr, ℕ, ◌+◌, ◌-◌, ◌*◌, ◌/◌, ◌%◌, ◌<◌, ◌≤◌, ◌^◌, List, subst, ℤ, pos, ◌≤ℤ◌}
use Rattle.std.proofs.Common.{◌-ℤ◌, unsigned_abs, refl, sym, ◌∙◌, arith}
use Rattle.std.proofs.lemmas.Bool.{cases_lt}
use Rattle.std.proofs.lemmas.Int.{ints}
use Rattle.mesh_defs.specs.declared.mark.Mark.{Mark}
use Rattle.mesh_defs.specs.declared.mark.Mark.TheVariants.{Inside, Cut, Outside}
use Rattle.mesh_defs.specs.Triangle.{IsSplittable}
use Rattle.mesh_defs.specs.Ranking.{RanksBefore}
use Rattle.mesh_defs.specs.Thickness.{thickness_of}
use Rattle.mesh_defs.specs.BoundingBox.{BoundingBox, CameraAt, IsRoot, root_of, distance_of, box_of}
use Rattle.mesh_defs.specs.View.{View, mark_of}
use Rattle.mesh_defs.specs.Priority.{above, seen_ratio, priority_of}
use Rattle.mesh_defs.proofs.ThresholdLemmas.{above-order}
use Rattle.cull_marks.specs.Cuboid.{as_box, IsWithinReach}
use Rattle.cull_marks.specs.Nesting.{IsInside, IsOrdered}
use Rattle.bintree_addr.specs.declared.cuboid.Cuboid.{Cuboid}
use Rattle.mesh_defs.specs.State.{SceneState, priority_seen, move_length}
use Rattle.view_priority.specs.Scene.{distance_seen, seen_from}
use Rattle.view_priority.specs.Bounds.{box_priority_at, box_priority, viewed_from, priority_at}
use Rattle.view_priority.proofs.RatioLemmas.{seen_ratio-order, seen_ratio-inherited}
use Rattle.view_priority.proofs.NestLemmas.{distance_of-inside}

-- what all laws on marks and roots say, for one pair of boxes
pub box_priority-inside : ((s : ℕ) → IsRoot s (root_of s)) → (view : View) (inner outer : BoundingBox)
    (thin thick : ℕ) → IsInside inner outer →
    (mark_of view.planes outer ≡ Outside → mark_of view.planes inner ≡ Outside) → thin ≤ thick →
    box_priority view inner thin ≤ box_priority view outer thick
box_priority-inside roots view inner outer thin thick inside stays thinner =
    above-order view.threshold _ _ (seen_ratio-inherited _ _ _ _ _ _ stays thinner
    (distance_of-inside roots inner outer view.camera inside))

-- and of two triangles
pub priority_of-inside : ((s : ℕ) → IsRoot s (root_of s)) → (n : ℕ) (heights : List ℕ) (view : View) (a b : ℕ) →
    IsInside (box_of n heights view.spacing b) (box_of n heights view.spacing a) →
    (mark_of view.planes (box_of n heights view.spacing a) ≡ Outside →
    mark_of view.planes (box_of n heights view.spacing b) ≡ Outside) →
    thickness_of n heights b ≤ thickness_of n heights a →
    priority_of n heights view b ≤ priority_of n heights view a
unfolding priority_of
priority_of-inside roots n heights view a b inside stays thinner =
    box_priority-inside roots view (box_of n heights view.spacing b) (box_of n heights view.spacing a) _ _ inside stays
    thinner

-- no thickness, no priority
seen_ratio-none : (mark : Mark) (d : ℕ) → seen_ratio mark 0 d ≡ 0
seen_ratio-none Inside d = omega arith
seen_ratio-none Cut d = omega arith
seen_ratio-none Outside d = refl

above-nothing : (t p : ℕ) → p ≡ 0 → above t p ≡ 0
above-nothing t p none = grind arith

pub box_priority_at-flat : (view : View) (box : BoundingBox) (d : ℕ) → box_priority_at view box 0 d ≡ 0
box_priority_at-flat view box d = above-nothing view.threshold _ (seen_ratio-none _ d)

pub priority_of-none : (n : ℕ) (heights : List ℕ) (view : View) (a : ℕ) → thickness_of n heights a ≡ 0 →
    priority_of n heights view a ≡ 0
unfolding priority_of
priority_of-none n heights view a none =
    rw none (above-nothing view.threshold _ (seen_ratio-none _ _))

-- ---- children and parents

-- what holds from each child to its parent holds from b to b / 2
pub parent-by_children : (priority : ℕ → ℕ) (n b : ℕ) → ((a : ℕ) → IsSplittable n a → priority (2 * a) ≤ priority a) →
    ((a : ℕ) → IsSplittable n a → priority (2 * a + 1) ≤ priority a) → IsSplittable n (b / 2) →
    priority b ≤ priority (b / 2)
parent-by_children priority n b left right splittable = by_half (cases_lt (b % 2) 1)
  where
    by_half : ((b % 2 < 1) ⊎ (1 ≤ b % 2)) → priority b ≤ priority (b / 2)
    by_half (inl even) =
        let is_left : b ≡ 2 * (b / 2) = omega arith in
        subst (λ x. priority x ≤ priority (b / 2)) (sym is_left) (left (b / 2) splittable)
    by_half (inr odd) =
        let is_right : b ≡ 2 * (b / 2) + 1 = omega arith in
        subst (λ x. priority x ≤ priority (b / 2)) (sym is_right) (right (b / 2) splittable)

-- a child of no greater priority does not rank before its parent
pub no_rank-before : (priority : ℕ → ℕ) (b : ℕ) → priority b ≤ priority (b / 2) → RanksBefore priority b (b / 2) → ⊥
no_rank-before priority b le (inl more) = omega arith
no_rank-before priority b le (inr (same, less)) = omega arith

-- ---- for the code

-- the box of a cuboid, by its six ends
pub as_box-is : (c : Cuboid) (b : BoundingBox) → c.x0 ≡ b.x0 → c.x1 ≡ b.x1 → c.y0 ≡ b.y0 → c.y1 ≡ b.y1 → c.z0 ≡ b.z0 →
    c.z1 ≡ b.z1 → as_box c ≡ b
as_box-is c b x0 x1 y0 y1 z0 z1 = rw (x0, x1, y0, y1, z0, z1) refl

-- a cuboid from 0 to 2^24, whose ends are in order, lies within reach
pub as_box-within_reach : (c : Cuboid) (b : BoundingBox) → as_box c ≡ b → IsOrdered b → pos 0 ≤ℤ c.x0 →
    pos 0 ≤ℤ c.y0 → pos 0 ≤ℤ c.z0 →
    c.x1 ≤ℤ pos (2 ^ 24) → c.y1 ≤ℤ pos (2 ^ 24) → c.z1 ≤ℤ pos (2 ^ 24) → IsWithinReach (2 ^ 24) (as_box c)
as_box-within_reach c b is ordered x_from y_from z_from x_small y_small z_small =
    let order : IsOrdered (as_box c) = subst IsOrdered (sym is) ordered in
    let x = order.x in
    let y = order.y in
    let z = order.z in
    record {
      x_low = omega (arith, ints);
      x_high = omega (arith, ints);
      y_low = omega (arith, ints);
      y_high = omega (arith, ints);
      z_low = omega (arith, ints);
      z_high = omega (arith, ints);
    }

-- the priority from the parts that the code finds
pub priority_seen-by_parts : (s : SceneState) (t p e d : ℕ) (mark : Mark) →
    p ≡ above s.view.threshold (seen_ratio mark e d) →
    mark ≡ mark_of s.view.planes (box_of s.grid.n s.grid.heights s.view.spacing t) →
    e ≡ thickness_of s.grid.n s.grid.heights t → d ≡ distance_seen s t → p ≡ priority_seen s t
unfolding priority_of
priority_seen-by_parts s t p e d mark p_is mark_is e_is d_is = p_is ∙ rw (mark_is, e_is, d_is) refl

-- likewise at a distance of one's own
pub priority_at-by_parts : (s : SceneState) (t p e d k h : ℕ) (mark : Mark) → p ≡ above h (seen_ratio mark e d) →
    h ≡ s.view.threshold →
    mark ≡ mark_of s.view.planes (box_of s.grid.n s.grid.heights s.view.spacing t) →
    e ≡ thickness_of s.grid.n s.grid.heights t → d ≡ k → p ≡ priority_at s.grid.n s.grid.heights s.view t k
unfolding priority_at
priority_at-by_parts s t p e d k h mark p_is h_is mark_is e_is d_is = p_is ∙ rw (h_is, mark_is, e_is, d_is) refl

-- ---- another camera

back : (i j : ℤ) → unsigned_abs (j -ℤ i) ≡ unsigned_abs (i -ℤ j)
back i j = omega (arith, ints)

-- a move back is as long as the move
move_length-swapped : (from to : CameraAt) → move_length from to ≡ move_length to from
move_length-swapped from to = rw (back from.x to.x, back from.y to.y, back from.z to.z) refl

module _ (view : View) (to : CameraAt) (box : BoundingBox) (e slack : ℕ)
    (farther : (box : BoundingBox) (from to : CameraAt) → IsOrdered box →
    distance_of box to ≤ distance_of box from + move_length from to) (ordered : IsOrdered box) where
  -- within the slack the priority is at most that at the distance less the slack
  pub box_priority-below_hi : move_length view.camera to ≤ slack →
      box_priority (viewed_from to view) box e ≤ box_priority_at view box e (distance_of box view.camera - slack)
  box_priority-below_hi within =
      let back = farther box to view.camera ordered in
      let same = move_length-swapped view.camera to in
      above-order view.threshold _ _ (seen_ratio-order (mark_of view.planes box) _ _ _ _ (omega arith) (omega arith))

  -- and at least that at the distance and the slack
  pub box_priority-above_lo : move_length view.camera to ≤ slack →
      box_priority_at view box e (distance_of box view.camera + slack) ≤ box_priority (viewed_from to view) box e
  box_priority-above_lo within =
      let there = farther box view.camera to ordered in
      above-order view.threshold _ _ (seen_ratio-order (mark_of view.planes box) _ _ _ _ (omega arith) (omega arith))

module _ (s : SceneState) (to : CameraAt) (t slack : ℕ)
    (farther : (box : BoundingBox) (from to : CameraAt) → IsOrdered box →
    distance_of box to ≤ distance_of box from + move_length from to)
    (ordered : IsOrdered (box_of s.grid.n s.grid.heights s.view.spacing t)) where
  pub priority_seen-below_hi : move_length s.view.camera to ≤ slack →
      priority_seen (seen_from to s) t ≤ priority_at s.grid.n s.grid.heights s.view t (distance_seen s t - slack)
  unfolding priority_of priority_at
  priority_seen-below_hi within =
      box_priority-below_hi s.view to (box_of s.grid.n s.grid.heights s.view.spacing t)
      (thickness_of s.grid.n s.grid.heights t) slack farther ordered within

  pub priority_seen-above_lo : move_length s.view.camera to ≤ slack →
      priority_at s.grid.n s.grid.heights s.view t (distance_seen s t + slack) ≤ priority_seen (seen_from to s) t
  unfolding priority_of priority_at
  priority_seen-above_lo within =
      box_priority-above_lo s.view to (box_of s.grid.n s.grid.heights s.view.spacing t)
      (thickness_of s.grid.n s.grid.heights t) slack farther ordered within

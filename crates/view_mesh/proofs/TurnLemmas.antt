-- Planes that turn: nothing that lies below a triangle whose marks are settled is turned.
use Rattle.std.proofs.Common.{◌≡◌, ℕ, ◌*◌, ◌/◌, ◌≤◌, ◌⊎◌, Bool, IsTrue, true, false, inl, inr, List, refl, ◌∙◌, ap, arith}
use Rattle.std.proofs.Common.{⊎_elim, cond}
use Rattle.std.proofs.lemmas.Bool.{and_parts, both_ways, false_from_ne_true, false≢true}
use Rattle.mesh_defs.specs.declared.mark.Mark.{Mark}
use Rattle.mesh_defs.specs.declared.mark.Mark.TheVariants.{Inside, Cut, Outside}
use Rattle.mesh_defs.specs.Triangle.{level_of}
use Rattle.mesh_defs.specs.BoundingBox.{BoundingBox}
use Rattle.mesh_defs.specs.View.{ViewPlane, mark_of}
use Rattle.bintree_laws.proofs.LevelLemmas.{level_of-parent}
use Rattle.mesh_laws.proofs.ConformityLemmas.{IsUnder, self, below}
use Rattle.mesh_laws.proofs.SizeLemmas.{under-true}
use Rattle.cull_marks.specs.Nesting.{IsInside}
use Rattle.mesh_arrays.specs.Below.{is_at_or_below}
use Rattle.view_mesh.specs.declared.walk.Below.TheVariants.{Nothing, Part}
use Rattle.view_mesh.specs.Turn.{AreNested, is_turn, is_settled, turns}

-- a choice that fell on nothing
pub settled_where : (b : Bool) → cond b Nothing Part ≡ Nothing → b ≡ true
settled_where true is = refl
settled_where false is = absurd (cc)

both_settled : (m k : Mark) → is_settled m k ≡ true → ((m ≡ Inside) × (k ≡ Inside)) ⊎ ((m ≡ Outside) × (k ≡ Outside))
both_settled Inside Inside is = inl (refl, refl)
both_settled Inside Cut is = absurd (false≢true is)
both_settled Inside Outside is = absurd (false≢true is)
both_settled Cut Inside is = absurd (false≢true is)
both_settled Cut Cut is = absurd (false≢true is)
both_settled Cut Outside is = absurd (false≢true is)
both_settled Outside Inside is = absurd (false≢true is)
both_settled Outside Cut is = absurd (false≢true is)
both_settled Outside Outside is = inr (refl, refl)

no_turn : (m k l : Mark) → is_turn l l ≡ false → m ≡ l → k ≡ l → is_turn m k ≡ false
no_turn m k l none first second = ap (λ z. is_turn z k) first ∙ ap (is_turn l) second ∙ none

module _ (n : ℕ) (has : ℕ → Bool) (box : ℕ → BoundingBox) (nest : AreNested n has box) where
  -- what lies below a triangle without a box has none
  has-above : (t a : ℕ) → IsUnder t a → level_of a ≤ 2 * n → IsTrue (has a) → IsTrue (has t)
  has-above t a self level is = is
  has-above t a (below x big u) level is =
      let up = level_of-parent x big in
      has-above t (x / 2) u (omega arith) (nest.parent x is big level)

  -- nor is it turned
  pub none-below : (before after : List ViewPlane) (t : ℕ) → (IsTrue (has t) → ⊥) → (a : ℕ) →
      is_at_or_below t a ≡ true → level_of a ≤ 2 * n → turns has box before after a ≡ false
  none-below before after t bare a under level =
      false_from_ne_true (turns has box before after a) (λ both.
      bare (has-above t a (under-true t a under) level
      (and_parts (has a) (is_turn (mark_of before (box a)) (mark_of after (box a))) both).0))

  -- a mark that boxes pass on
  passed-down : (planes : List ViewPlane) (m : Mark) →
      ((inner outer : BoundingBox) → IsInside inner outer → mark_of planes outer ≡ m → mark_of planes inner ≡ m) →
      (t a : ℕ) → IsUnder t a → level_of a ≤ 2 * n → IsTrue (has a) → mark_of planes (box t) ≡ m →
      mark_of planes (box a) ≡ m
  passed-down planes m pass t a self level is at = at
  passed-down planes m pass t a (below x big u) level is at =
      let up = level_of-parent x big in
      pass (box x) (box (x / 2)) (nest.inside x is big level)
      (passed-down planes m pass t (x / 2) u (omega arith) (nest.parent x is big level) at)

  -- nothing that lies below a triangle whose marks are settled is turned
  pub settled-below :
      ((planes : List ViewPlane) (inner outer : BoundingBox) → IsInside inner outer → mark_of planes outer ≡ Outside →
      mark_of planes inner ≡ Outside) →
      ((planes : List ViewPlane) (inner outer : BoundingBox) → IsInside inner outer → mark_of planes outer ≡ Inside →
      mark_of planes inner ≡ Inside) →
      (before after : List ViewPlane) (t : ℕ) → is_settled (mark_of before (box t)) (mark_of after (box t)) ≡ true →
      (a : ℕ) → is_at_or_below t a ≡ true → level_of a ≤ 2 * n → turns has box before after a ≡ false
  settled-below outside inside before after t settled a under level =
      let u = under-true t a under in
      let m : Mark = mark_of before (box a) in
      let k : Mark = mark_of after (box a) in
      false_from_ne_true (turns has box before after a) (λ both.
      let parts = and_parts (has a) (is_turn m k) both in
      both_ways (is_turn m k) (⊎_elim
      (λ (at : (mark_of before (box t) ≡ Inside) × (mark_of after (box t) ≡ Inside)).
      no_turn m k Inside refl (passed-down before Inside (inside before) t a u level parts.0 at.0)
      (passed-down after Inside (inside after) t a u level parts.0 at.1))
      (λ (at : (mark_of before (box t) ≡ Outside) × (mark_of after (box t) ≡ Outside)).
      no_turn m k Outside refl (passed-down before Outside (outside before) t a u level parts.0 at.0)
      (passed-down after Outside (outside after) t a u level parts.0 at.1))
      (both_settled (mark_of before (box t)) (mark_of after (box t)) settled)) parts.1)

-- Priorities over what is known fall from parent to child.
use Rattle.std.proofs.Common.{◌≡◌, ◌⊎◌, ℕ, ◌+◌, ◌*◌, ◌/◌, ◌≤◌, Bool, false, IsTrue, sym, ◌∙◌, ap, subst, arith}
use Rattle.std.proofs.Common.{⊎_elim}
use Rattle.std.proofs.lemmas.Bool.{cases_Bool, false≢true}
use Rattle.mesh_defs.specs.declared.point.Point.{Point}
use Rattle.mesh_defs.specs.declared.point.Corners.{Corners}
use Rattle.mesh_defs.specs.Triangle.{corners_of, child, IsSplittable, IsAddress}
use Rattle.mesh_defs.specs.BoundingBox.{BoundingBox}
use Rattle.mesh_defs.specs.Falling.{IsFalling}
use Rattle.mesh_defs.specs.View.{View}
use Rattle.bintree_laws.proofs.LevelLemmas.{level-le, level_of-parent, left-or-right}
use Rattle.cull_marks.specs.Nesting.{IsInside}
use Rattle.view_priority.specs.Bounds.{box_over, box_priority_at, box_priority}
use Rattle.page_laws.specs.declared.wedge.KnownWedge.{KnownWedge}
use Rattle.page_laws.specs.Loaded.{corner_wedge, known_wedge, known_box, known_priority}
use Rattle.page_laws.proofs.LoadedLemmas.{wedge-unknown, wedge-finest}
use Rattle.page_priority.proofs.NestLemmas.{IsNarrower, left-narrower, right-narrower, left-inside, right-inside}

module _ (n : ℕ) (height : Point → ℕ) (known : ℕ → Bool) (view : View)
    (flat : (view : View) (box : BoundingBox) (distance : ℕ) → box_priority_at view box 0 distance ≡ 0)
    (nest : (spacing side : ℕ) (c : Corners) (low high inner_low inner_high : ℕ) → low ≤ inner_low →
    inner_low ≤ inner_high → inner_high ≤ high →
    IsInside (box_over spacing (child side c) inner_low inner_high) (box_over spacing c low high))
    (nested : (view : View) (inner outer : BoundingBox) (thin thick : ℕ) → IsInside inner outer → thin ≤ thick →
    box_priority view inner thin ≤ box_priority view outer thick)
    (up : (a : ℕ) → IsTrue (known a) → 4 ≤ a → IsTrue (known (a / 2))) where
  -- a triangle that is joined from no children has priority 0
  flat-none : (a : ℕ) → known_wedge n height known a ≡ corner_wedge height (corners_of n a) →
      known_priority n height known view a ≡ 0
  unfolding known_priority
  flat-none a is =
      let none : (known_wedge n height known a).thickness ≡ 0 = ap (λ (k : KnownWedge). k.thickness) is in
      rw none (flat view _ _)

  -- what lies in a box and is no thicker has no greater priority
  narrower-below : (a b : ℕ) → IsNarrower (known_wedge n height known b) (known_wedge n height known a) →
      IsInside (known_box n height known view.spacing b) (known_box n height known view.spacing a) →
      known_priority n height known view b ≤ known_priority n height known view a
  unfolding known_priority
  narrower-below a b narrower inside = nested view (known_box n height known view.spacing b)
      (known_box n height known view.spacing a) (known_wedge n height known b).thickness
      (known_wedge n height known a).thickness inside narrower.thin

  -- a child of a known triangle
  child-below : (a b : ℕ) → IsSplittable n a → IsTrue (known a) → ((b ≡ 2 * a) ⊎ (b ≡ 2 * a + 1)) →
      known_priority n height known view b ≤ known_priority n height known view a
  child-below a b split is = ⊎_elim
      (λ left. subst (λ z. known_priority n height known view z ≤ known_priority n height known view a) (sym left)
      (narrower-below a (2 * a) (left-narrower n height known a split is)
      (left-inside n height known a split is nest view.spacing)))
      (λ right. subst (λ z. known_priority n height known view z ≤ known_priority n height known view a) (sym right)
      (narrower-below a (2 * a + 1) (right-narrower n height known a split is)
      (right-inside n height known a split is nest view.spacing)))

  below-parent : (a : ℕ) → IsAddress n a → 4 ≤ a →
      known_priority n height known view a ≤ known_priority n height known view (a / 2)
  below-parent a address big =
      let up_level = level_of-parent a big in
      let fits = level-le n a address in
      ⊎_elim
      (λ is. child-below (a / 2) a record { low = omega arith; coarse = omega arith } is (left-or-right a))
      (λ none.
      let unknown : known a ≡ false = not-known a big none in
      let zero = flat-none a (wedge-unknown n height known a unknown) in
      omega arith)
      (cases_Bool (known (a / 2)))
    where
      not-known : (a : ℕ) → 4 ≤ a → known (a / 2) ≡ false → known a ≡ false
      not-known a big none = ⊎_elim
          (λ is. absurd (false≢true (sym none ∙ up a is big)))
          (λ unknown. unknown)
          (cases_Bool (known a))

  -- where the parent of what is known is known
  pub known-falls : IsFalling n (known_priority n height known view)
  known-falls = record {
    finest = λ a address level. flat-none a (wedge-finest n height known a level);
    child = below-parent;
  }

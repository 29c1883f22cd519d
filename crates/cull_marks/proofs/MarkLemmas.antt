-- Boxes that lie in one another have marks that follow from each other.
use Rattle.std.proofs.lemmas.Bool.{or_parts}
use Rattle.std.proofs.Common.{◌≡◌, Bool, true, false, ◌||◌, List, [], ◌∷◌, refl, sym, ◌∙◌, arith, if◌then◌else◌, ℤ, pos}
use Rattle.std.proofs.Common.{◌≤ℤ◌, int_lt}
use Rattle.std.specs.List.{list_any}
use Rattle.std.proofs.lemmas.Int.{ints}
use Rattle.mesh_defs.specs.declared.mark.Mark.{Mark}
use Rattle.mesh_defs.specs.declared.mark.Mark.TheVariants.{Inside, Cut, Outside}
use Rattle.mesh_defs.specs.BoundingBox.{BoundingBox}
use Rattle.mesh_defs.specs.View.{ViewPlane, is_all_outside, is_some_outside, outside_corners, mark_of}
use Rattle.cull_marks.specs.Plane.{far_value, near_value}
use Rattle.cull_marks.specs.Nesting.{IsInside, IsOrdered}
use Rattle.cull_marks.proofs.CornerLemmas.{IsPointIn, value_of-below_far, value_of-above_near, lower_is_outside}
use Rattle.cull_marks.proofs.CornerLemmas.{higher_is_not, all_outside-far, some_outside-near, all-false}

-- ---- one plane

ordered_inner : (inner outer : BoundingBox) → IsInside inner outer → IsOrdered inner
ordered_inner inner outer i = record { x = i.x_order; y = i.y_order; z = i.z_order }

ordered_outer : (inner outer : BoundingBox) → IsInside inner outer → IsOrdered outer
ordered_outer inner outer i =
    record { x = omega (arith, ints); y = omega (arith, ints); z = omega (arith, ints) }

-- a corner of the inner box is a point of the outer one
point_in : (inner outer : BoundingBox) (s t u : Bool) → IsInside inner outer →
    IsPointIn outer (if s then inner.x0 else inner.x1) (if t then inner.y0 else inner.y1)
    (if u then inner.z0 else inner.z1)
point_in inner outer s t u i = record {
  x_low = low s outer.x0 inner.x0 inner.x1 i.x_low i.x_order;
  x_high = high s inner.x0 inner.x1 outer.x1 i.x_order i.x_high;
  y_low = low t outer.y0 inner.y0 inner.y1 i.y_low i.y_order;
  y_high = high t inner.y0 inner.y1 outer.y1 i.y_order i.y_high;
  z_low = low u outer.z0 inner.z0 inner.z1 i.z_low i.z_order;
  z_high = high u inner.z0 inner.z1 outer.z1 i.z_order i.z_high;
}
  where
    low : (s : Bool) (k i j : ℤ) → k ≤ℤ i → i ≤ℤ j → k ≤ℤ (if s then i else j)
    low true k i j le order = le
    low false k i j le order = omega (arith, ints)

    high : (s : Bool) (i j k : ℤ) → i ≤ℤ j → j ≤ℤ k → (if s then i else j) ≤ℤ k
    high true i j k order le = omega (arith, ints)
    high false i j k order le = le

far_inner : (p : ViewPlane) (inner outer : BoundingBox) → IsInside inner outer →
    far_value p inner ≤ℤ far_value p outer
far_inner p inner outer i =
    value_of-below_far p outer _ _ _
    (point_in inner outer (int_lt p.a (pos 0)) (int_lt p.b (pos 0)) (int_lt p.c (pos 0)) i)

-- the near corner of the inner box, as a point of the outer one
flipped : (test : Bool) (i j : ℤ) → (if test then j else i) ≡ (if (if test then false else true) then i else j)
flipped true i j = refl
flipped false i j = refl

not : Bool → Bool
not true = false
not false = true

near_inner : (p : ViewPlane) (inner outer : BoundingBox) → IsInside inner outer →
    near_value p outer ≤ℤ near_value p inner
near_inner p inner outer i =
    rw (
      flipped (int_lt p.a (pos 0)) inner.x0 inner.x1,
      flipped (int_lt p.b (pos 0)) inner.y0 inner.y1,
      flipped (int_lt p.c (pos 0)) inner.z0 inner.z1,
    )
    (value_of-above_near p outer _ _ _
    (point_in inner outer (if int_lt p.a (pos 0) then false else true) (if int_lt p.b (pos 0) then false else true)
    (if int_lt p.c (pos 0) then false else true) i))

-- what is all outside stays so
all_outside-inner : (p : ViewPlane) (inner outer : BoundingBox) → IsInside inner outer →
    is_all_outside outer p ≡ true → is_all_outside inner p ≡ true
all_outside-inner p inner outer i e =
    all_outside-far p inner (ordered_inner inner outer i) ∙ lower_is_outside (far_value p inner) (far_value p outer)
    (far_inner p inner outer i) (sym (all_outside-far p outer (ordered_outer inner outer i)) ∙ e)

-- what has no corner outside keeps none
some_outside-inner : (p : ViewPlane) (inner outer : BoundingBox) → IsInside inner outer →
    is_some_outside outer p ≡ false → is_some_outside inner p ≡ false
some_outside-inner p inner outer i e =
    some_outside-near p inner (ordered_inner inner outer i) ∙ higher_is_not (near_value p outer) (near_value p inner)
    (near_inner p inner outer i) (sym (some_outside-near p outer (ordered_outer inner outer i)) ∙ e)

-- ---- all planes

-- what has no corner outside is not all outside
all_outside-none : (box : BoundingBox) (p : ViewPlane) → is_some_outside box p ≡ false → is_all_outside box p ≡ false
all_outside-none box p e = all-false (outside_corners box p) 0 (or_parts _ _ e).0

kept_step : (a b c d : Bool) → (a ≡ true → b ≡ true) → (c ≡ true → d ≡ true) → (a || c) ≡ true → (b || d) ≡ true
kept_step true b c d here there e = rw (here refl) refl
kept_step false true c d here there e = refl
kept_step false false c d here there e = there e

-- a test that holds wherever another does holds somewhere if that does
list_any-kept : (f g : ViewPlane → Bool) → ((p : ViewPlane) → f p ≡ true → g p ≡ true) →
    (planes : List ViewPlane) → list_any f planes ≡ true → list_any g planes ≡ true
list_any-kept f g keeps [] e = e
list_any-kept f g keeps (p ∷ planes) e =
    kept_step (f p) (g p) (list_any f planes) (list_any g planes) (keeps p) (list_any-kept f g keeps planes) e

-- a test that fails wherever another does holds nowhere if that does not
list_any-none : (f g : ViewPlane → Bool) → ((p : ViewPlane) → f p ≡ false → g p ≡ false) →
    (planes : List ViewPlane) → list_any f planes ≡ false → list_any g planes ≡ false
list_any-none f g keeps [] e = e
list_any-none f g keeps (p ∷ planes) e =
    let parts : (f p ≡ false) × (list_any f planes ≡ false) = or_parts (f p) (list_any f planes) e in
    rw (keeps p parts.0, list_any-none f g keeps planes parts.1) refl

-- ---- marks

abbrev mark_by : Bool → Bool → Mark
mark_by out cut = if out then Outside else (if cut then Cut else Inside)

outside_by : (out cut : Bool) → mark_by out cut ≡ Outside → out ≡ true
outside_by true cut e = refl
outside_by false true e = cc
outside_by false false e = cc

inside_by : (out cut : Bool) → mark_by out cut ≡ Inside → cut ≡ false
inside_by true cut e = cc
inside_by false true e = cc
inside_by false false e = refl

-- a box in one that is Outside is Outside
pub mark_of-Outside : (planes : List ViewPlane) (inner outer : BoundingBox) → IsInside inner outer →
    mark_of planes outer ≡ Outside → mark_of planes inner ≡ Outside
unfolding mark_of
mark_of-Outside planes inner outer i e =
    let out : list_any (is_all_outside outer) planes ≡ true = outside_by _ _ e in
    rw (list_any-kept (is_all_outside outer) (is_all_outside inner)
    (λ p. all_outside-inner p inner outer i) planes out) refl

-- a box in one that is Inside is Inside
pub mark_of-Inside : (planes : List ViewPlane) (inner outer : BoundingBox) → IsInside inner outer →
    mark_of planes outer ≡ Inside → mark_of planes inner ≡ Inside
unfolding mark_of
mark_of-Inside planes inner outer i e =
    let none : list_any (is_some_outside outer) planes ≡ false = inside_by _ _ e in
    let cut : list_any (is_some_outside inner) planes ≡ false =
    list_any-none (is_some_outside outer) (is_some_outside inner)
    (λ p. some_outside-inner p inner outer i) planes none in
    rw (list_any-none (is_some_outside inner) (is_all_outside inner) (all_outside-none inner) planes cut, cut) refl

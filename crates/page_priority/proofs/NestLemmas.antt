-- Wedges and boxes over what is known: their ends are in order, and those of a known triangle's children lie in its own.
use Rattle.std.proofs.Common.{◌≡◌, inl, inr, ⊎_elim, ℕ, zero, suc, ◌+◌, ◌-◌, ◌*◌, ◌/◌, ◌≤◌, Bool, true, false}
use Rattle.std.proofs.Common.{IsTrue, sym, subst, arith, ℤ, ◌≤ℤ◌}
use Rattle.std.proofs.lemmas.Int.{ints}
use Rattle.mesh_defs.specs.declared.point.Point.{Point}
use Rattle.mesh_defs.specs.declared.point.Corners.{Corners}
use Rattle.mesh_defs.specs.Triangle.{level_of, corners_of, child, IsSplittable}
use Rattle.mesh_defs.specs.BoundingBox.{BoundingBox, least_of_3, greatest_of_3}
use Rattle.bintree_laws.proofs.LevelLemmas.{left-or-right}
use Rattle.bintree_laws.proofs.CornerLemmas.{corners_of-left, corners_of-right}
use Rattle.mesh_laws.proofs.ConformityLemmas.{IsUnder, self, below}
use Rattle.mesh_laws.proofs.ConverseLemmas.{under-above}
use Rattle.cull_marks.specs.Nesting.{IsInside, IsOrdered}
use Rattle.view_priority.specs.Bounds.{box_over}
use Rattle.page_laws.specs.declared.wedge.KnownWedge.{KnownWedge}
use Rattle.page_laws.specs.Loaded.{corner_wedge, joined_wedge, known_wedge_under, known_wedge, known_box, IsAtOrUnder}
use Rattle.page_laws.proofs.LoadedLemmas.{wedge-known}

-- in order

picked-ordered : (b : Bool) (x y : KnownWedge) → x.low ≤ x.high → y.low ≤ y.high →
    (elim b as (λ _. KnownWedge) [ true ↦ x | false ↦ y ]).low
    ≤ (elim b as (λ _. KnownWedge) [ true ↦ x | false ↦ y ]).high
picked-ordered true x y one two = one
picked-ordered false x y one two = two

corners-ordered : (i j k : ℕ) → least_of_3 i j k ≤ greatest_of_3 i j k
corners-ordered i j k = omega arith

under-ordered : (levels n : ℕ) (height : Point → ℕ) (known : ℕ → Bool) (a : ℕ) →
    (known_wedge_under levels n height known a).low ≤ (known_wedge_under levels n height known a).high
under-ordered zero n height known a =
    let c = corners_of n a in corners-ordered (height c.apex) (height c.v0) (height c.v1)
under-ordered (suc levels) n height known a =
    let c = corners_of n a in
    let left = under-ordered levels n height known (2 * a) in
    let right = under-ordered levels n height known (2 * a + 1) in
    picked-ordered (known a)
    (joined_wedge height c (known_wedge_under levels n height known (2 * a))
    (known_wedge_under levels n height known (2 * a + 1)))
    (corner_wedge height c) (omega arith) (corners-ordered (height c.apex) (height c.v0) (height c.v1))

-- the least height is at most the greatest
pub wedge-ordered : (n : ℕ) (height : Point → ℕ) (known : ℕ → Bool) (a : ℕ) →
    (known_wedge n height known a).low ≤ (known_wedge n height known a).high
unfolding known_wedge
wedge-ordered n height known a = under-ordered (2 * n - level_of a) n height known a

-- so the ends of a box are in order
pub box-ordered : ((spacing : ℕ) (c : Corners) (low high : ℕ) → low ≤ high → IsOrdered (box_over spacing c low high)) →
    (n : ℕ) (height : Point → ℕ) (known : ℕ → Bool) (spacing a : ℕ) → IsOrdered (known_box n height known spacing a)
unfolding known_box
box-ordered ordered n height known spacing a =
    ordered spacing (corners_of n a) (known_wedge n height known a).low (known_wedge n height known a).high
    (wedge-ordered n height known a)

-- children

-- a wedge that is no thicker than another, and whose heights are within the other's
pub record IsNarrower (inner outer : KnownWedge) : Type 0 where
  pub thin : inner.thickness ≤ outer.thickness
  pub low : outer.low ≤ inner.low
  pub high : inner.high ≤ outer.high

module _ (n : ℕ) (height : Point → ℕ) (known : ℕ → Bool) (a : ℕ) (split : IsSplittable n a) (is : IsTrue (known a)) where
  pub left-narrower : IsNarrower (known_wedge n height known (2 * a)) (known_wedge n height known a)
  left-narrower =
      rw (wedge-known n height known a split is) record { thin = omega arith; low = omega arith; high = omega arith }

  pub right-narrower : IsNarrower (known_wedge n height known (2 * a + 1)) (known_wedge n height known a)
  right-narrower =
      rw (wedge-known n height known a split is) record { thin = omega arith; low = omega arith; high = omega arith }

  module _ (nest : (spacing side : ℕ) (c : Corners) (low high inner_low inner_high : ℕ) → low ≤ inner_low →
      inner_low ≤ inner_high → inner_high ≤ high →
      IsInside (box_over spacing (child side c) inner_low inner_high) (box_over spacing c low high)) (spacing : ℕ) where
    -- a child's box lies in its parent's
    child-inside : (b side : ℕ) → corners_of n b ≡ child side (corners_of n a) →
        IsNarrower (known_wedge n height known b) (known_wedge n height known a) →
        IsInside (known_box n height known spacing b) (known_box n height known spacing a)
    unfolding known_box
    child-inside b side corners narrower =
        subst (λ c. IsInside
        (box_over spacing c (known_wedge n height known b).low (known_wedge n height known b).high)
        (box_over spacing (corners_of n a) (known_wedge n height known a).low (known_wedge n height known a).high))
        (sym corners)
        (nest spacing side (corners_of n a) (known_wedge n height known a).low (known_wedge n height known a).high
        (known_wedge n height known b).low (known_wedge n height known b).high narrower.low
        (wedge-ordered n height known b) narrower.high)

    pub left-inside : IsInside (known_box n height known spacing (2 * a)) (known_box n height known spacing a)
    left-inside = child-inside (2 * a) 0 (corners_of-left n a split.low) left-narrower

    pub right-inside : IsInside (known_box n height known spacing (2 * a + 1)) (known_box n height known spacing a)
    right-inside = child-inside (2 * a + 1) 1 (corners_of-right n a split.low) right-narrower

-- triangles below

IsInside-same : (box : BoundingBox) → IsOrdered box → IsInside box box
IsInside-same box o = let x = o.x in let y = o.y in let z = o.z in record {
  x_low = omega (arith, ints);
  x_order = o.x;
  x_high = omega (arith, ints);
  y_low = omega (arith, ints);
  y_order = o.y;
  y_high = omega (arith, ints);
  z_low = omega (arith, ints);
  z_order = o.z;
  z_high = omega (arith, ints);
}

-- a box in one that lies in a third
IsInside-through : (inner between outer : BoundingBox) → IsInside inner between → IsInside between outer →
    IsInside inner outer
IsInside-through inner between outer i o = record {
  x_low = less outer.x0 between.x0 inner.x0 o.x_low i.x_low;
  x_order = i.x_order;
  x_high = less inner.x1 between.x1 outer.x1 i.x_high o.x_high;
  y_low = less outer.y0 between.y0 inner.y0 o.y_low i.y_low;
  y_order = i.y_order;
  y_high = less inner.y1 between.y1 outer.y1 i.y_high o.y_high;
  z_low = less outer.z0 between.z0 inner.z0 o.z_low i.z_low;
  z_order = i.z_order;
  z_high = less inner.z1 between.z1 outer.z1 i.z_high o.z_high;
}
  where
    less : (i j k : ℤ) → i ≤ℤ j → j ≤ℤ k → i ≤ℤ k
    less i j k one two = omega (arith, ints)

-- what is at or below a triangle, if boxes lie in those of known parents
under-inside : (box : ℕ → BoundingBox) (known : ℕ → Bool) → ((a : ℕ) → IsOrdered (box a)) →
    ((a : ℕ) → IsTrue (known a) → 4 ≤ a → IsTrue (known (a / 2))) →
    ((a : ℕ) → 4 ≤ a → IsTrue (known (a / 2)) → IsInside (box a) (box (a / 2))) →
    (t a : ℕ) → IsUnder t a → IsTrue (known a) → IsInside (box a) (box t)
under-inside box known ordered up nest t a self is = IsInside-same (box a) (ordered a)
under-inside box known ordered up nest t a (below x big u) is =
    IsInside-through (box x) (box (x / 2)) (box t) (nest x big (up x is big))
    (under-inside box known ordered up nest t (x / 2) u (up x is big))

pub below-inside : (box : ℕ → BoundingBox) (known : ℕ → Bool) → ((a : ℕ) → IsOrdered (box a)) →
    ((a : ℕ) → IsTrue (known a) → 4 ≤ a → IsTrue (known (a / 2))) →
    ((a : ℕ) → IsTrue (known a) → IsInside (box (2 * a)) (box a)) →
    ((a : ℕ) → IsTrue (known a) → IsInside (box (2 * a + 1)) (box a)) →
    (t a : ℕ) → IsAtOrUnder t a → IsTrue (known a) → IsInside (box a) (box t)
below-inside box known ordered up left right t a h = under-inside box known ordered up nest t a (under h)
  where
    under : IsAtOrUnder t a → IsUnder t a
    under (inl same) = subst (IsUnder t) (sym same) self
    under (inr above) = let u = under-above t a above in below a u.1 u.2

    nest : (a : ℕ) → 4 ≤ a → IsTrue (known (a / 2)) → IsInside (box a) (box (a / 2))
    nest a big is = ⊎_elim
        (λ even. subst (λ z. IsInside (box z) (box (a / 2))) (sym even) (left (a / 2) is))
        (λ odd. subst (λ z. IsInside (box z) (box (a / 2))) (sym odd) (right (a / 2) is))
        (left-or-right a)

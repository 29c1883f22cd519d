-- Each conforming list is the leaves of the set of all proper ancestors of its entries, and that set is closed.
use Rattle.std.proofs.Common.{◌≡◌, ◌≢◌, ℕ, zero, suc, ◌+◌, ◌-◌, ◌*◌, ◌/◌, ◌<◌, ◌≤◌, ◌⊎◌, inl, inr, true, eqb, ltb, List}
use Rattle.std.proofs.Common.{All, IsTrue, refl, sym, ◌∙◌, ap, ap₂, subst, arith, ⊎_elim, eq-eqb, lt-ltb, ltb-true}
use Rattle.std.proofs.Common.{count_by, ◌↔◌, ◌^◌}
use Rattle.std.proofs.lemmas.Bool.{cases_lt, and_parts, and_from, or_cases, or_left, or_right, eqb-true, false≢true}
use Rattle.std.proofs.lemmas.Bool.{both_ways}
use Rattle.std.proofs.lemmas.List.Elements.{All-contains}
use Rattle.std.proofs.lemmas.Nat.{shr-shr}
use Rattle.mesh_defs.specs.declared.point.Point.{Point}
use Rattle.mesh_defs.specs.declared.point.Corners.{Corners}
use Rattle.mesh_defs.specs.Triangle.{level_of, IsAddress, IsSplittable, midpoint, child, corners_of, IsCorner, IsEdge}
use Rattle.mesh_defs.specs.Triangle.{IsMate}
use Rattle.mesh_defs.specs.Tiling.{IsSample, is_inside, IsStrictlyBetween, IsConforming}
use Rattle.mesh_defs.specs.ClosedSet.{IsClosed, leaves_of}
use Rattle.bintree_laws.proofs.LevelLemmas.{level-le, left-or-right, level_of-root, level_of-parent, level_of-below}
use Rattle.bintree_laws.proofs.CornerLemmas.{corners_of-left, corners_of-right}
use Rattle.bintree_laws.proofs.CentreLemmas.{same_centre, mate_unique, mate_symmetric}
use Rattle.mesh_laws.specs.Ancestors.{halves_to, is_above, ancestors_of, AreLeaves}
use Rattle.mesh_laws.proofs.WayLemmas.{Way, point, IsInside-between, IsStrictlyBetween-inside, IsRun-first_half}
use Rattle.mesh_laws.proofs.WayLemmas.{IsRun-second_half, IsInside-first_half, IsInside-second_half, IsInside-middle}
use Rattle.mesh_laws.proofs.WayLemmas.{IsStrictlyBetween-reversed}
use Rattle.mesh_laws.proofs.TurnLemmas.{three, IsTurned, leg, IsRun-base}
use Rattle.mesh_laws.proofs.DescentLemmas.{IsDown, IsDown-left, IsDown-right, IsDown-address, IsDown-splittable}
use Rattle.mesh_laws.proofs.DescentLemmas.{IsAddress-down, IsAddress-splittable, forked_of, one_child_of, one_if-true}
use Rattle.mesh_laws.proofs.DescentLemmas.{one_if-le, is_inside-left, is_inside-right, sample_of, one_base}
use Rattle.mesh_laws.proofs.DescentLemmas.{All-leaves_of, Tiles-leaves_of}
use Rattle.mesh_laws.proofs.ConformityLemmas.{IsUnder, self, below, IsUnder-up, IsUnder-left, IsUnder-right, middle}
use Rattle.mesh_laws.proofs.ConformityLemmas.{between_ends, point_on_edge}
use Rattle.mesh_defs.proofs.ListLemmas.{IsIn, Contains-in, Any-in, list_any-in, count-some, some-count, one_entry}
use Rattle.mesh_defs.proofs.ListLemmas.{count-narrower}

-- ancestors

-- the test, by what lies below
is_above-parts : (steps a e : ℕ) → 2 ≤ a → halves_to steps e a ≡ true → (4 ≤ e) × IsUnder a (e / 2)
is_above-parts zero a e low h = absurd (false≢true h)
is_above-parts (suc steps) a e low h = ⊎_elim
    (λ first.
    let same : e / 2 ≡ a = eqb-true (e / 2) a first in
    (omega arith, subst (λ z. IsUnder a z) (sym same) self))
    (λ rest. let more : (4 ≤ e / 2) × IsUnder a (e / 2 / 2) = is_above-parts steps a (e / 2) low rest in
    (omega arith, below (e / 2) more.0 more.1))
    (or_cases (eqb (e / 2) a) (halves_to steps (e / 2) a) h)

-- a proper ancestor of e is e's parent or above it
pub under-above : (a e : ℕ) → is_above a e ≡ true → (2 ≤ a) × (4 ≤ e) × IsUnder a (e / 2)
unfolding is_above
under-above a e h =
    let parts = and_parts (ltb 1 a) (halves_to e e a) h in
    let low : 1 < a = ltb-true 1 a parts.0 in
    let more = is_above-parts e a e low parts.1 in (low, more.0, more.1)

-- what lies above e by its parent f is reached by halving
halves_to-under : (steps a e f : ℕ) → f ≡ e / 2 → e ≤ steps → 2 ≤ e → IsUnder a f → halves_to steps e a ≡ true
halves_to-under zero a e f half h some u = absurd (omega arith)
halves_to-under (suc steps) a e f half h some self =
    or_left (eqb (e / 2) a) (halves_to steps (e / 2) a) (eq-eqb (e / 2) a (sym half))
halves_to-under (suc steps) a e f half h some (below g big u) =
    or_right (eqb (e / 2) a) (halves_to steps (e / 2) a)
    (halves_to-under steps a (e / 2) (g / 2) (ap (λ z. z / 2) half) (omega arith) (omega arith) u)

-- and what is e's parent or above it is a proper ancestor
pub above-under : (a e : ℕ) → 2 ≤ a → 4 ≤ e → IsUnder a (e / 2) → is_above a e ≡ true
unfolding is_above
above-under a e low big u =
    and_from (ltb 1 a) (halves_to e e a) (lt-ltb 1 a low)
    (halves_to-under e a e (e / 2) refl (omega arith) (omega arith) u)

-- by powers of 2

-- what lies at and below a comes to a by halving
under-power : (a x : ℕ) → IsUnder a x → (k : ℕ) × (x / 2 ^ k ≡ a)
under-power a x self = (zero, omega arith)
under-power a x (below y big u) =
    let r : (k : ℕ) × (y / 2 / 2 ^ k ≡ a) = under-power a (y / 2) u in
    (1 + r.0, sym (shr-shr y 1 r.0) ∙ r.1)

-- and what comes to an address by halving lies at and below it
power-under : (a e k : ℕ) → 2 ≤ a → e / 2 ^ (k + 1) ≡ a → (4 ≤ e) × IsUnder a (e / 2)
power-under a e zero low is = let half : e / 2 ≡ a = is in (omega arith, subst (λ z. IsUnder a z) (sym half) self)
power-under a e (suc k) low is =
    let half : e / 2 / 2 ^ (k + 1) ≡ a =
    shr-shr e 1 (k + 1) ∙ ap (λ j. e / 2 ^ j) (let f : 1 + (k + 1) ≡ suc k + 1 = omega arith in f) ∙ is in
    let r : (4 ≤ e / 2) × IsUnder a (e / 2 / 2) = power-under a (e / 2) k low half in
    (omega arith, below (e / 2) r.0 r.1)

-- a proper ancestor of e is an address that is e divided by a power of 2, rounded down
pub is_above-power : (a e : ℕ) → IsTrue (is_above a e) ↔ ((2 ≤ a) × ((k : ℕ) × (e / 2 ^ (k + 1) ≡ a)))
is_above-power a e = (
  (λ h. let parts = under-above a e h in
      let r = under-power a (e / 2) parts.2 in (
        parts.0,
        (r.0, ap (λ j. e / 2 ^ j) (let f : r.0 + 1 ≡ 1 + r.0 = omega arith in f) ∙ sym (shr-shr e 1 r.0) ∙ r.1),
      )),
  (λ (h : (2 ≤ a) × ((k : ℕ) × (e / 2 ^ (k + 1) ≡ a))).
      let r = power-under a e h.1.0 h.0 h.1.1 in above-under a e h.0 r.0 r.1),
)

-- levels

-- an address of level 0 is 2 or 3
first-level_of : (a : ℕ) → 2 ≤ a → level_of a ≡ 0 → a < 4
first-level_of a low e = (level_of-below a 1 low).0 (omega arith)

-- what lies below v has at least its level
pub level-under : (v x : ℕ) → IsUnder v x → level_of v ≤ level_of x
level-under v x self = omega arith
level-under v x (below y h u) =
    let e = level_of-parent y h in
    let rest : level_of v ≤ level_of (y / 2) = level-under v (y / 2) u in
    omega arith

-- below what lies below
pub IsUnder-trans : (v w x : ℕ) → IsUnder v w → IsUnder w x → IsUnder v x
IsUnder-trans v w x u self = u
IsUnder-trans v w x u (below y h k) = below y h (IsUnder-trans v w (y / 2) u k)

-- the parent of an address of the grid is splittable
parent_down : (n a : ℕ) → IsAddress n a → 4 ≤ a → IsDown n (suc (2 * n - level_of a)) (a / 2)
parent_down n a address big =
    let e = level_of-parent a big in let fits : level_of a ≤ 2 * n = level-le n a address in
    record { low = omega arith; height = omega arith }

-- and it is an address
pub IsAddress-parent : (n a : ℕ) → IsAddress n a → 4 ≤ a → IsAddress n (a / 2)
IsAddress-parent n a address big = IsAddress-down n (suc (2 * n - level_of a)) (a / 2) (parent_down n a address big)

-- samples and levels

-- inside a triangle is inside its parent
pub is_inside-up : (n a x y : ℕ) → IsAddress n a → 4 ≤ a → IsSample n x y → is_inside n x y a ≡ true →
    is_inside n x y (a / 2) ≡ true
is_inside-up n a x y address big s h =
    let d = parent_down n a address big in ⊎_elim
    (λ left. is_inside-left n (2 * n - level_of a) (a / 2) x y d s (subst (λ z. is_inside n x y z ≡ true) left h))
    (λ right. is_inside-right n (2 * n - level_of a) (a / 2) x y d s (subst (λ z. is_inside n x y z ≡ true) right h))
    (left-or-right a)

-- inside what lies below v is inside v
pub is_inside-under : (n v a x y : ℕ) → IsAddress n a → IsSample n x y → IsUnder v a → is_inside n x y a ≡ true →
    is_inside n x y v ≡ true
is_inside-under n v a x y address s self h = h
is_inside-under n v a x y address s (below b big u) h =
    is_inside-under n v (b / 2) x y (IsAddress-parent n b address big) s u (is_inside-up n b x y address big s h)

-- no sample is inside both children
not_both_children : (n levels a x y : ℕ) → IsDown n (suc levels) a → IsSample n x y →
    is_inside n x y (2 * a) ≡ true → is_inside n x y (2 * a + 1) ≡ true → ⊥
not_both_children n levels a x y d s l r =
    let one = one_child_of n levels a x y d s in
    let left = one_if-true (is_inside n x y (2 * a)) l in
    let right = one_if-true (is_inside n x y (2 * a + 1)) r in
    let le = one_if-le (is_inside n x y a) in omega arith

-- at each level a sample is inside one triangle at most
same_children : (n x y : ℕ) (p a b : ℕ) → IsSample n x y → (levels : ℕ) → IsDown n (suc levels) p →
    (a ≡ 2 * p) ⊎ (a ≡ 2 * p + 1) → (b ≡ 2 * p) ⊎ (b ≡ 2 * p + 1) →
    is_inside n x y a ≡ true → is_inside n x y b ≡ true → a ≡ b
same_children n x y p a b s levels d (inl e) (inl f) h k = e ∙ sym f
same_children n x y p a b s levels d (inr e) (inr f) h k = e ∙ sym f
same_children n x y p a b s levels d (inl e) (inr f) h k =
    absurd (not_both_children n levels p x y d s (subst (λ z. is_inside n x y z ≡ true) e h)
    (subst (λ z. is_inside n x y z ≡ true) f k))
same_children n x y p a b s levels d (inr e) (inl f) h k =
    absurd (not_both_children n levels p x y d s (subst (λ z. is_inside n x y z ≡ true) f k)
    (subst (λ z. is_inside n x y z ≡ true) e h))

-- of the base triangles a sample is inside one
same_base : (n x y a b : ℕ) → IsSample n x y → (a ≡ 2) ⊎ (a ≡ 3) → (b ≡ 2) ⊎ (b ≡ 3) →
    is_inside n x y a ≡ true → is_inside n x y b ≡ true → a ≡ b
same_base n x y a b s (inl e) (inl f) h k = e ∙ sym f
same_base n x y a b s (inr e) (inr f) h k = e ∙ sym f
same_base n x y a b s (inl e) (inr f) h k =
    let one = one_base n x y s in
    let lower = one_if-true (is_inside n x y 2) (subst (λ z. is_inside n x y z ≡ true) e h) in
    let upper = one_if-true (is_inside n x y 3) (subst (λ z. is_inside n x y z ≡ true) f k) in absurd (omega arith)
same_base n x y a b s (inr e) (inl f) h k =
    let one = one_base n x y s in
    let lower = one_if-true (is_inside n x y 2) (subst (λ z. is_inside n x y z ≡ true) f k) in
    let upper = one_if-true (is_inside n x y 3) (subst (λ z. is_inside n x y z ≡ true) e h) in absurd (omega arith)

-- two triangles of a level with a common sample are the same
pub same_level : (n x y level a b : ℕ) → IsSample n x y → IsAddress n a → IsAddress n b →
    level_of a ≡ level → level_of b ≡ level →
    is_inside n x y a ≡ true → is_inside n x y b ≡ true → a ≡ b
same_level n x y zero a b s p q e f h k =
    let la : 2 ≤ a = p.low in let lb : 2 ≤ b = q.low in
    let ha : a < 4 = first-level_of a la e in let hb : b < 4 = first-level_of b lb f in
    same_base n x y a b s (base_cases a la ha) (base_cases b lb hb) h k
  where
    base_cases : (c : ℕ) → 2 ≤ c → c < 4 → (c ≡ 2) ⊎ (c ≡ 3)
    base_cases c low high = ⊎_elim (λ two. inl (omega arith)) (λ three. inr (omega arith)) (cases_lt c 3)
same_level n x y (suc level) a b s p q e f h k =
    let ha : 4 ≤ a = big a p.low e in let hb : 4 ≤ b = big b q.low f in
    let ea = level_of-parent a ha in let eb = level_of-parent b hb in
    let above : a / 2 ≡ b / 2 =
    same_level n x y level (a / 2) (b / 2) s (IsAddress-parent n a p ha) (IsAddress-parent n b q hb)
    (omega arith) (omega arith) (is_inside-up n a x y p ha s h) (is_inside-up n b x y q hb s k) in
    same_children n x y (a / 2) a b s (2 * n - level_of a) (parent_down n a p ha) (left-or-right a)
    (subst (λ z. (b ≡ 2 * z) ⊎ (b ≡ 2 * z + 1)) (sym above) (left-or-right b)) h k
  where
    big : (c : ℕ) → 2 ≤ c → level_of c ≡ suc level → 4 ≤ c
    big c low l = ⊎_elim
        (λ small. let z = level_of-root c low small in absurd (omega arith))
        (λ large. large)
        (cases_lt c 4)

-- of two triangles with a common sample, the one of the lesser level is the other or above it
pub IsUnder-sample : (n x y d e f : ℕ) → IsSample n x y → IsAddress n e → IsAddress n f → d + level_of e ≡ level_of f →
    is_inside n x y e ≡ true → is_inside n x y f ≡ true → IsUnder e f
IsUnder-sample n x y zero e f s p q l h k =
    subst (λ z. IsUnder e z) (same_level n x y (level_of f) e f s p q (omega arith) refl h k) self
IsUnder-sample n x y (suc d) e f s p q l h k =
    let big : 4 ≤ f = large f q.low (omega arith) in
    let m = level_of-parent f big in
    below f big (IsUnder-sample n x y d e (f / 2) s p (IsAddress-parent n f q big) (omega arith) h
    (is_inside-up n f x y q big s k))
  where
    large : (c : ℕ) → 2 ≤ c → 1 ≤ level_of c → 4 ≤ c
    large c low some = ⊎_elim
        (λ small. let z = level_of-root c low small in absurd (omega arith))
        (λ large. large)
        (cases_lt c 4)

-- edges above

-- m lies inside an edge of w
record HasOnEdge (n w : ℕ) (m : Point) : Type 0 where
  from : Point
  to : Point
  edge : IsEdge (corners_of n w) from to
  between : IsStrictlyBetween from to m

-- the midpoint lies inside the base
middle_on_base : (n levels b : ℕ) → IsDown n (suc levels) b → HasOnEdge n b (middle n b)
middle_on_base n levels b d =
    let f = forked_of n levels b d in
    let base = IsRun-base f.0 f.1 (corners_of n b) f.3 in
    record {
      from = (corners_of n b).v0;
      to = (corners_of n b).v1;
      edge = inr (inl (refl, refl));
      between = IsStrictlyBetween-inside (three f.0) (2 * f.1) (corners_of n b).v0 (corners_of n b).v1 (middle n b) base
          (IsInside-middle (three f.0) f.1 (corners_of n b).v0 (middle n b) f.2
          (IsRun-first_half (three f.0) f.1 (corners_of n b).v0 (corners_of n b).v1 base));
    }

-- inside a half of a base is inside the base
on_first_half : (w : Way) (k : ℕ) (c : Corners) (r : Point) → 0 < k → IsTurned w (leg w k) c →
    IsStrictlyBetween c.v0 (midpoint c.v0 c.v1) r → IsStrictlyBetween c.v0 c.v1 r
on_first_half w k c r some t b =
    let base = IsRun-base w k c t in
    let first = IsRun-first_half (three w) k c.v0 c.v1 base in
    IsStrictlyBetween-inside (three w) (2 * k) c.v0 c.v1 r base
    (IsInside-first_half (three w) k c.v0 r (IsInside-between (three w) k c.v0 (midpoint c.v0 c.v1) r some first b))

-- the same for the second half
on_second_half : (w : Way) (k : ℕ) (c : Corners) (r : Point) → 0 < k → IsTurned w (leg w k) c →
    IsStrictlyBetween (midpoint c.v0 c.v1) c.v1 r → IsStrictlyBetween c.v0 c.v1 r
on_second_half w k c r some t b =
    let base = IsRun-base w k c t in
    let first = IsRun-first_half (three w) k c.v0 c.v1 base in
    let second = IsRun-second_half (three w) k c.v0 c.v1 base in
    IsStrictlyBetween-inside (three w) (2 * k) c.v0 c.v1 r base
    (IsInside-second_half (three w) k c.v0 (midpoint c.v0 c.v1) r first
    (IsInside-between (three w) k (midpoint c.v0 c.v1) c.v1 r some second b))

-- an edge of a child lies in an edge of the triangle, or it is an edge of the other child too
edge_of_left : (n levels a : ℕ) (m : Point) → IsDown n (suc levels) a → HasOnEdge n (2 * a) m →
    HasOnEdge n a m ⊎ HasOnEdge n (2 * a + 1) m
edge_of_left n levels a m d h =
    at h.from h.to (subst (λ c. IsEdge c h.from h.to) (corners_of-left n a d.low) h.edge) h.between
  where
    at : (p q : Point) → IsEdge (child 0 (corners_of n a)) p q → IsStrictlyBetween p q m →
        HasOnEdge n a m ⊎ HasOnEdge n (2 * a + 1) m
    at p q (inl e) b = inr record {
      from = (corners_of n a).apex;
      to = middle n a;
      edge = subst (λ c. IsEdge c (corners_of n a).apex (middle n a)) (sym (corners_of-right n a d.low))
          (inr (inr (refl, refl)));
      between = IsStrictlyBetween-reversed (middle n a) (corners_of n a).apex m
          (between_ends p q m (middle n a) (corners_of n a).apex e.0 e.1 b);
    }
    at p q (inr (inl e)) b = inl record { from = p; to = q; edge = inl e; between = b }
    at p q (inr (inr e)) b =
        let f = forked_of n levels a d in inl record {
          from = (corners_of n a).v0;
          to = (corners_of n a).v1;
          edge = inr (inl (refl, refl));
          between = on_first_half f.0 f.1 (corners_of n a) m f.2 f.3
              (between_ends p q m (corners_of n a).v0 (middle n a) e.0 e.1 b);
        }

-- the same for the right child
edge_of_right : (n levels a : ℕ) (m : Point) → IsDown n (suc levels) a → HasOnEdge n (2 * a + 1) m →
    HasOnEdge n a m ⊎ HasOnEdge n (2 * a) m
edge_of_right n levels a m d h =
    at h.from h.to (subst (λ c. IsEdge c h.from h.to) (corners_of-right n a d.low) h.edge) h.between
  where
    at : (p q : Point) → IsEdge (child 1 (corners_of n a)) p q → IsStrictlyBetween p q m →
        HasOnEdge n a m ⊎ HasOnEdge n (2 * a) m
    at p q (inl e) b =
        let f = forked_of n levels a d in inl record {
          from = (corners_of n a).v0;
          to = (corners_of n a).v1;
          edge = inr (inl (refl, refl));
          between = on_second_half f.0 f.1 (corners_of n a) m f.2 f.3
              (between_ends p q m (middle n a) (corners_of n a).v1 e.0 e.1 b);
        }
    at p q (inr (inl e)) b = inl record { from = p; to = q; edge = inr (inr e); between = b }
    at p q (inr (inr e)) b = inr record {
      from = middle n a;
      to = (corners_of n a).apex;
      edge =
          subst (λ c. IsEdge c (middle n a) (corners_of n a).apex) (sym (corners_of-left n a d.low)) (inl (refl, refl));
      between = IsStrictlyBetween-reversed (corners_of n a).apex (middle n a) m
          (between_ends p q m (corners_of n a).apex (middle n a) e.0 e.1 b);
    }

-- nothing lies below both children
pub not_below_both : (n levels a b : ℕ) → IsDown n (suc levels) a → IsAddress n b → IsUnder (2 * a) b →
    IsUnder (2 * a + 1) b → ⊥
not_below_both n levels a b d address u v =
    let s = sample_of n (2 * n - level_of b) b (IsDown-address n b address) in
    not_both_children n levels a s.0 s.1 d s.2
    (is_inside-under n (2 * a) b s.0 s.1 address s.2 u s.3) (is_inside-under n (2 * a + 1) b s.0 s.1 address s.2 v s.3)

-- mates have one midpoint
same_sums : (i j : ℕ) → (i + j) / 2 ≡ (j + i) / 2
same_sums i j = ap (λ z. z / 2) (let e : i + j ≡ j + i = omega arith in e)

-- the midpoint of a is that of its mate b
middle_mate : (n a b : ℕ) → IsMate n a b → middle n a ≡ middle n b
middle_mate n a b mate = ⊎_elim
    (λ e. ap₂ midpoint e.0 e.1)
    (λ e. ap₂ midpoint e.0 e.1 ∙ ap₂ point (same_sums (corners_of n b).v1.x (corners_of n b).v0.x)
    (same_sums (corners_of n b).v1.y (corners_of n b).v0.y))
    mate.base

-- a splittable triangle with the midpoint of a and its mate b, and that is not b, is a
only_mates : (n a b x : ℕ) → IsSplittable n a → IsSplittable n b → IsMate n a b → IsSplittable n x →
    middle n x ≡ middle n b → x ≢ b → x ≡ a
only_mates n a b x sa sb mate sx e other = ⊎_elim
    (λ same. absurd (other same))
    (λ second. mate_unique n b x a (IsAddress-splittable n b sb) second
    (mate_symmetric n a b (IsAddress-splittable n a sa) mate))
    (same_centre n b x sb sx (sym e))

-- the midpoint of a and its mate b, inside an edge at or above b, stays inside an edge up to v, which is not above a
edge_above : (n a b v w : ℕ) → IsSplittable n a → IsSplittable n b → IsMate n a b → IsAddress n w → (IsUnder v a → ⊥) →
    IsUnder v w → IsUnder w b →
    HasOnEdge n w (middle n b) → HasOnEdge n v (middle n b)
edge_above n a b v w sa sb mate address apart self u h = h
edge_above n a b v w sa sb mate address apart (below y big k) u h =
    let d = parent_down n y address big in
    let up : HasOnEdge n (y / 2) (middle n b) = ⊎_elim
    (λ left. ⊎_elim
    (λ edge. edge)
    (λ split. absurd (across (2 * (y / 2) + 1) (IsDown-right n (2 * n - level_of y) (y / 2) d) split
    (λ x z. IsUnder-right (y / 2) x d.low z)
    (λ z. not_below_both n (2 * n - level_of y) (y / 2) b d (IsAddress-splittable n b sb)
    (subst (λ o. IsUnder o b) left u) z)))
    (edge_of_left n (2 * n - level_of y) (y / 2) (middle n b) d (subst (λ o. HasOnEdge n o (middle n b)) left h)))
    (λ right. ⊎_elim
    (λ edge. edge)
    (λ split. absurd (across (2 * (y / 2)) (IsDown-left n (2 * n - level_of y) (y / 2) d) split
    (λ x z. IsUnder-left (y / 2) x d.low z)
    (λ z. not_below_both n (2 * n - level_of y) (y / 2) b d (IsAddress-splittable n b sb) z
    (subst (λ o. IsUnder o b) right u))))
    (edge_of_right n (2 * n - level_of y) (y / 2) (middle n b) d (subst (λ o. HasOnEdge n o (middle n b)) right h)))
    (left-or-right y) in
    edge_above n a b v (y / 2) sa sb mate (IsAddress-parent n y address big) apart k (IsUnder-up y b big u) up
  where
    across : (other : ℕ) → IsDown n (2 * n - level_of y) other → HasOnEdge n other (middle n b) →
        ((x : ℕ) → IsUnder other x → IsUnder (y / 2) x) → (IsUnder other b → ⊥) → ⊥
    across other d split up apart_b =
        let x =
        point_on_edge n (2 * n - level_of y) other split.from split.to (middle n b) d split.edge split.between in
        let same : x.0 ≡ a =
        only_mates n a b x.0 sa sb mate x.1 x.3 (λ e. apart_b (subst (λ z. IsUnder other z) e x.2)) in
        apart (IsUnder-trans v (y / 2) a k (subst (λ z. IsUnder (y / 2) z) same (up x.0 x.2)))

-- a conforming list

module _ (n : ℕ) (list : List ℕ) (conforming : IsConforming n list) where
  -- each entry is an address
  IsAddress-entry : (e : ℕ) → IsIn e list → IsAddress n e
  IsAddress-entry e h = All-contains (IsAddress n) list e conforming.addresses (Contains-in e list h)

  -- two entries with a common sample are the same
  same_entry : (x y a b : ℕ) → IsSample n x y → IsIn a list → IsIn b list → is_inside n x y a ≡ true →
      is_inside n x y b ≡ true → a ≡ b
  same_entry x y a b s in_a in_b h k =
      let one : count_by (is_inside n x y) list ≡ 1 = conforming.tiles x y s in
      one_entry (is_inside n x y) list a b (omega arith) in_a in_b h k

  -- what a member of the ancestors is
  record IsAbove (a : ℕ) : Type 0 where
    entry : ℕ
    listed : IsIn entry list
    low : 2 ≤ a
    big : 4 ≤ entry
    under : IsUnder a (entry / 2)

  -- from the test
  IsAbove-member : (a : ℕ) → IsTrue (ancestors_of list a) → IsAbove a
  IsAbove-member a h =
      let e = Any-in (λ e. is_above a e) list h in
      let parts = under-above a e.0 e.2 in
      record { entry = e.0; listed = e.1; low = parts.0; big = parts.1; under = parts.2 }

  -- to the test
  member-IsAbove : (a e : ℕ) → IsIn e list → 2 ≤ a → 4 ≤ e → IsUnder a (e / 2) → IsTrue (ancestors_of list a)
  member-IsAbove a e h low big u = list_any-in (λ e. is_above a e) list e h (above-under a e low big u)

  -- a member is above its entry
  IsUnder-above : (a : ℕ) (h : IsAbove a) → IsUnder a h.entry
  IsUnder-above a h = below h.entry h.big h.under

  -- a member has a lesser level than its entry
  level-above : (a : ℕ) (h : IsAbove a) → level_of a < level_of h.entry
  level-above a h = let e = level_of-parent h.entry h.big in let u = level-under a (h.entry / 2) h.under in omega arith

  -- no entry is at or above a member
  no_entry_above : (a v : ℕ) → IsTrue (ancestors_of list a) → IsIn v list → IsUnder v a → ⊥
  no_entry_above a v is in_v u =
      let h = IsAbove-member a is in
      let address = IsAddress-entry h.entry h.listed in
      let s = sample_of n (2 * n - level_of h.entry) h.entry (IsDown-address n h.entry address) in
      let inside =
      is_inside-under n v h.entry s.0 s.1 address s.2 (IsUnder-trans v a h.entry u (IsUnder-above a h)) s.3 in
      let same : v ≡ h.entry = same_entry s.0 s.1 v h.entry s.2 in_v h.listed inside s.3 in
      let less = level-above a h in
      let le = level-under v a u in
      let e : level_of v ≡ level_of h.entry = ap level_of same in
      omega arith

  -- an entry at or above a
  pub record IsCovered (a : ℕ) : Type 0 where
    pub entry : ℕ
    pub listed : IsIn entry list
    pub under : IsUnder entry a

  -- each address is a member or has an entry at or above it
  pub member_or_covered : (a : ℕ) → IsAddress n a → IsTrue (ancestors_of list a) ⊎ IsCovered a
  member_or_covered a address =
      let s = sample_of n (2 * n - level_of a) a (IsDown-address n a address) in
      let one : count_by (is_inside n s.0 s.1) list ≡ 1 = conforming.tiles s.0 s.1 s.2 in
      let e = some-count (is_inside n s.0 s.1) list (omega arith) in
      let other = IsAddress-entry e.0 e.1 in
      ⊎_elim
      (λ deeper. inl (deeper_entry a address s.0 s.1 s.2 s.3 e.0 e.1 other e.2 deeper))
      (λ higher. inr record {
        entry = e.0;
        listed = e.1;
        under = IsUnder-sample n s.0 s.1 (level_of a - level_of e.0) e.0 a s.2 other address (omega arith) e.2 s.3;
      })
      (cases_lt (level_of a) (level_of e.0))
    where
      deeper_entry : (a : ℕ) → IsAddress n a → (x y : ℕ) → IsSample n x y → is_inside n x y a ≡ true → (e : ℕ) →
          IsIn e list → IsAddress n e →
          is_inside n x y e ≡ true → level_of a < level_of e → IsTrue (ancestors_of list a)
      deeper_entry a address x y s h e listed other k deeper =
          let big : 4 ≤ e = ⊎_elim
          (λ small. let z = level_of-root e other.low small in absurd (omega arith))
          (λ large. large)
          (cases_lt e 4) in
          let l = level_of-parent e big in
          member-IsAbove a e listed address.low big
          (IsUnder-sample n x y (level_of e - 1 - level_of a) a (e / 2) s address
          (IsAddress-parent n e other big) (omega arith) h
          (is_inside-up n e x y other big s k))

  -- a member is splittable
  IsSplittable-member : (a : ℕ) → IsTrue (ancestors_of list a) → IsSplittable n a
  IsSplittable-member a is =
      let h = IsAbove-member a is in
      let less = level-above a h in
      let fits = level-le n h.entry (IsAddress-entry h.entry h.listed) in
      record { low = h.low; coarse = omega arith }

  -- with a member its parent
  member-parent : (a : ℕ) → IsTrue (ancestors_of list a) → 4 ≤ a → IsTrue (ancestors_of list (a / 2))
  member-parent a is big =
      let h = IsAbove-member a is in
      member-IsAbove (a / 2) h.entry h.listed (omega arith) h.big (IsUnder-up a (h.entry / 2) big h.under)

  -- a child of a member is a member or an entry
  child_of_member : (a c : ℕ) → IsTrue (ancestors_of list a) → IsAddress n c → 4 ≤ c → c / 2 ≡ a →
      IsTrue (ancestors_of list c) ⊎ IsIn c list
  child_of_member a c is address big half = ⊎_elim
      (λ member. inl member)
      (λ covered. inr (entry_itself covered.entry c covered.under covered.listed half))
      (member_or_covered c address)
    where
      entry_itself : (v c : ℕ) → IsUnder v c → IsIn v list → c / 2 ≡ a → IsIn c list
      entry_itself v c self in_v half = in_v
      entry_itself v c (below d big u) in_v half = absurd (no_entry_above a v is in_v (subst (λ z. IsUnder v z) half u))

  -- a corner of a member or an entry is a corner of an entry
  corner_entry : (levels a : ℕ) (m : Point) → IsDown n levels a → IsTrue (ancestors_of list a) ⊎ IsIn a list →
      IsCorner (corners_of n a) m →
      (e : ℕ) × IsIn e list × IsCorner (corners_of n e) m
  corner_entry levels a m d (inr listed) corner = (a, listed, corner)
  corner_entry zero a m d (inl is) corner =
      let h = (IsSplittable-member a is).coarse in let l = d.height in absurd (omega arith)
  corner_entry (suc levels) a m d (inl is) corner =
      let low : 2 ≤ a = d.low in
      let left = IsDown-left n levels a d in
      let right = IsDown-right n levels a d in
      let to_left : IsCorner (child 0 (corners_of n a)) m → (e : ℕ) × IsIn e list × IsCorner (corners_of n e) m = λ k.
      corner_entry levels (2 * a) m left
      (child_of_member a (2 * a) is (IsAddress-down n levels (2 * a) left) (omega arith) (omega arith))
      (subst (λ c. IsCorner c m) (sym (corners_of-left n a low)) k) in
      let to_right : IsCorner (child 1 (corners_of n a)) m → (e : ℕ) × IsIn e list × IsCorner (corners_of n e) m = λ k.
      corner_entry levels (2 * a + 1) m right
      (child_of_member a (2 * a + 1) is (IsAddress-down n levels (2 * a + 1) right) (omega arith) (omega arith))
      (subst (λ c. IsCorner c m) (sym (corners_of-right n a low)) k) in
      ⊎_elim
      (λ e. to_left (inr (inl e)))
      (λ base. ⊎_elim (λ e. to_left (inr (inr e))) (λ e. to_right (inr (inl e))) base)
      corner

  -- the midpoint of a member is a corner of an entry
  middle_entry : (a : ℕ) → IsTrue (ancestors_of list a) → (e : ℕ) × IsIn e list × IsCorner (corners_of n e) (middle n a)
  middle_entry a is =
      let s = IsSplittable-member a is in
      let low : 2 ≤ a = s.low in
      let left = IsDown-left n (2 * n - level_of a - 1) a (IsDown-splittable n a s) in
      corner_entry (2 * n - level_of a - 1) (2 * a) (middle n a) left
      (child_of_member a (2 * a) is (IsAddress-down n (2 * n - level_of a - 1) (2 * a) left)
      (omega arith) (omega arith))
      (subst (λ c. IsCorner c (middle n a)) (sym (corners_of-left n a low)) (inl refl))

  -- no entry has the midpoint of a member inside an edge
  not_on_entry : (a v : ℕ) → IsTrue (ancestors_of list a) → IsIn v list → HasOnEdge n v (middle n a) → ⊥
  not_on_entry a v is in_v h =
      let e = middle_entry a is in
      conforming.whole_edges e.0 v h.from h.to (middle n a) (Contains-in e.0 list e.1)
      (Contains-in v list in_v) e.2 h.edge h.between

  -- with a member its mate
  member-mate : (a b : ℕ) → IsTrue (ancestors_of list a) → IsMate n a b → IsTrue (ancestors_of list b)
  member-mate a b is mate =
      let sa = IsSplittable-member a is in
      let coarse : level_of a < 2 * n = sa.coarse in
      let level : level_of b ≡ level_of a = mate.level in
      let sb : IsSplittable n b = record { low = mate.address.low; coarse = omega arith } in
      ⊎_elim
      (λ member. member)
      (λ covered. absurd (not_on_entry a covered.entry is covered.listed
      (subst (λ m. HasOnEdge n covered.entry m) (sym (middle_mate n a b mate))
      (edge_above n a b covered.entry b sa sb mate mate.address
      (λ u. no_entry_above a covered.entry is covered.listed u) covered.under self
      (middle_on_base n (2 * n - level_of b - 1) b (IsDown-splittable n b sb))))))
      (member_or_covered b mate.address)

  -- the ancestors of the entries are a closed set
  pub IsClosed-ancestors_of : IsClosed n (ancestors_of list)
  IsClosed-ancestors_of = record { splittable = IsSplittable-member; parent = member-parent; mate = member-mate }

  -- leaves

  -- what is known of a leaf of the ancestors
  record IsEntryLeaf (a : ℕ) : Type 0 where
    address : IsAddress n a
    outside : IsTrue (ancestors_of list a) → ⊥
    parent : 4 ≤ a → IsTrue (ancestors_of list (a / 2))

  -- each leaf is such
  IsEntryLeaf-leaves : All IsEntryLeaf (leaves_of n (ancestors_of list))
  IsEntryLeaf-leaves =
      All-leaves_of n (ancestors_of list) (λ a. 4 ≤ a → IsTrue (ancestors_of list (a / 2))) IsEntryLeaf
      (λ levels a d is known. (
        (λ _. let half : 2 * a / 2 ≡ a = omega arith in subst (λ z. IsTrue (ancestors_of list z)) (sym half) is),
        (λ _. let half : (2 * a + 1) / 2 ≡ a = omega arith in subst (λ z. IsTrue (ancestors_of list z)) (sym half) is),
      ))
      (λ levels a d ends known. record {
        address = IsAddress-down n levels a d;
        outside = λ is. ⊎_elim
            (λ none. let h = (IsSplittable-member a is).coarse in let l = d.height in omega arith)
            (λ other. both_ways (ancestors_of list a) other is)
            ends;
        parent = known;
      })
      (λ h. absurd (omega arith))
      (λ h. absurd (omega arith))

  -- each leaf is an entry
  entry-leaf : (a : ℕ) → IsIn a (leaves_of n (ancestors_of list)) → IsIn a list
  entry-leaf a h =
      let leaf = All-contains IsEntryLeaf (leaves_of n (ancestors_of list)) a IsEntryLeaf-leaves
      (Contains-in a (leaves_of n (ancestors_of list)) h) in
      ⊎_elim
      (λ member. absurd (leaf.outside member))
      (λ covered. entry_itself a covered.entry covered.under covered.listed leaf.parent)
      (member_or_covered a leaf.address)
    where
      entry_itself : (a v : ℕ) → IsUnder v a → IsIn v list → (4 ≤ a → IsTrue (ancestors_of list (a / 2))) → IsIn a list
      entry_itself a v self in_v parent = in_v
      entry_itself a v (below b big u) in_v parent = absurd (no_entry_above (b / 2) v (parent big) in_v u)

  -- each entry is a leaf
  leaf-entry : (a : ℕ) → IsIn a list → IsIn a (leaves_of n (ancestors_of list))
  leaf-entry a h =
      let address = IsAddress-entry a h in
      let s = sample_of n (2 * n - level_of a) a (IsDown-address n a address) in
      let one : count_by (is_inside n s.0 s.1) (leaves_of n (ancestors_of list)) ≡ 1 =
      Tiles-leaves_of n (ancestors_of list) s.0 s.1 s.2 in
      let e = some-count (is_inside n s.0 s.1) (leaves_of n (ancestors_of list)) (omega arith) in
      let same : e.0 ≡ a = same_entry s.0 s.1 e.0 a s.2 (entry-leaf e.0 e.1) h e.2 s.3 in
      subst (λ z. IsIn z (leaves_of n (ancestors_of list))) same e.1

  -- an address that tiles is listed once at most
  once_at_most : (triangles : List ℕ) (a : ℕ) → IsAddress n a →
      ((x y : ℕ) → IsSample n x y → count_by (is_inside n x y) triangles ≡ 1) →
      count_by (λ t. eqb t a) triangles ≤ 1
  once_at_most triangles a address tiles =
      let s = sample_of n (2 * n - level_of a) a (IsDown-address n a address) in
      let one : count_by (is_inside n s.0 s.1) triangles ≡ 1 = tiles s.0 s.1 s.2 in
      let le = count-narrower (λ t. eqb t a) (is_inside n s.0 s.1) triangles
      (λ t e. subst (λ z. is_inside n s.0 s.1 z ≡ true) (sym (eqb-true t a e)) s.3) in
      omega arith

  -- each address is a leaf as often as it is an entry
  count-leaves : (a : ℕ) → count_by (λ t. eqb t a) (leaves_of n (ancestors_of list)) ≡ count_by (λ t. eqb t a) list
  count-leaves a = ⊎_elim
      (λ none. ⊎_elim
      (λ nothing. omega arith)
      (λ some. let e = some-count (λ t. eqb t a) (leaves_of n (ancestors_of list)) some in
      let listed = entry-leaf e.0 e.1 in
      let more = count-some (λ t. eqb t a) e.0 list listed e.2 in
      absurd (omega arith))
      (cases_lt (count_by (λ t. eqb t a) (leaves_of n (ancestors_of list))) 1))
      (λ some. let e = some-count (λ t. eqb t a) list some in
      let leaf = leaf-entry e.0 e.1 in
      let more = count-some (λ t. eqb t a) e.0 (leaves_of n (ancestors_of list)) leaf e.2 in
      let address : IsAddress n a = subst (λ z. IsAddress n z) (eqb-true e.0 a e.2) (IsAddress-entry e.0 e.1) in
      let first = once_at_most (leaves_of n (ancestors_of list)) a address (Tiles-leaves_of n (ancestors_of list)) in
      let second = once_at_most list a address conforming.tiles in
      omega arith)
      (cases_lt (count_by (λ t. eqb t a) list) 1)

  -- the leaves are the entries, each once
  pub AreLeaves-ancestors_of : AreLeaves n (ancestors_of list) list
  AreLeaves-ancestors_of = record { counts = count-leaves }

-- Wedges over what is known: by children, where two terrains agree, and in a page alone.
use Rattle.std.proofs.Common.{◌≡◌, ℕ, zero, suc, ◌+◌, ◌-◌, ◌*◌, ◌/◌, ◌%◌, ◌^◌, ◌<◌, ◌≤◌, Bool, true, false, IsTrue}
use Rattle.std.proofs.Common.{inl, inr}
use Rattle.std.proofs.Common.{nat_lt, min, max, List, refl, sym, ◌∙◌, ap, ap₂, subst, arith, ⊎_elim}
use Rattle.std.proofs.lemmas.Bool.{cases_Bool, cases_lt, lt-ltb, le-ltb, false≢true}
use Rattle.mesh_defs.specs.declared.point.Point.{Point}
use Rattle.mesh_defs.specs.declared.point.Corners.{Corners}
use Rattle.mesh_defs.specs.Triangle.{level_of, corners_of, midpoint, IsAddress, IsSplittable}
use Rattle.mesh_defs.specs.Thickness.{height_of, deviation, thickness_under, thickness_of}
use Rattle.bintree_laws.specs.Corners.{IsWithin, HasEvenBase}
use Rattle.bintree_laws.proofs.LevelLemmas.{level_of-left, level_of-right, level_of-parent, level_of-first, level-le}
use Rattle.bintree_laws.proofs.CornerLemmas.{IsWithin-base, IsWithin-corners_of}
use Rattle.bintree_laws.proofs.LatticeLemmas.{same_point, HasEvenBase-corners_of}
use Rattle.mesh_laws.proofs.ConformityLemmas.{IsUnder, self, below, IsUnder-left, IsUnder-right}
use Rattle.mesh_laws.proofs.ConverseLemmas.{under-above, above-under, level-under}
use Rattle.mesh_laws.proofs.DescentLemmas.{IsAddress-level, IsAddress-splittable}
use Rattle.mosaic_laws.specs.Tile.{IsTile, in_tile}
use Rattle.mosaic_laws.proofs.AddressLemmas.{in_tile-left, in_tile-right, in_tile-level, in_tile-big, in_tile-parent}
use Rattle.mosaic_laws.proofs.MateLemmas.{level-big}
use Rattle.mosaic_laws.specs.Glue.{tile_of}
use Rattle.page_laws.specs.declared.wedge.KnownWedge.{KnownWedge}
use Rattle.page_laws.specs.Pages.{Pages, half, is_turned, half_corners, cuts_to, square_at, is_known, page_point}
use Rattle.page_laws.specs.Pages.{page_corners, IsPyramid, IsLoadedPoint}
use Rattle.page_laws.specs.Loaded.{bend, corner_wedge, joined_wedge, known_wedge_under, known_wedge, AreSamples}
use Rattle.page_laws.specs.Loaded.{IsAtOrUnder}
use Rattle.page_laws.proofs.PointLemmas.{side-even, page-corners, half-page, AreLoaded, children-loaded, known-centre, known-corners}
use Rattle.page_laws.proofs.PyramidLemmas.{size, cut-more, page-alone}
use Rattle.page_laws.proofs.SquareLemmas.{tile-parent}

-- two surfaces

-- one has the heights at these corners that the other has at those
pub record HaveSame (height other : Point → ℕ) (c d : Corners) : Type 0 where
  pub apex : height c.apex ≡ other d.apex
  pub v0 : height c.v0 ≡ other d.v0
  pub v1 : height c.v1 ≡ other d.v1

pub corner-same : (height other : Point → ℕ) (c d : Corners) → HaveSame height other c d →
    corner_wedge height c ≡ corner_wedge other d
corner-same height other c d same = let e = same.apex in let f = same.v0 in let g = same.v1 in rw (e, f, g) refl

pub joined-same : (height other : Point → ℕ) (c d : Corners) (x y : KnownWedge) → bend height c ≡ bend other d →
    joined_wedge height c x y ≡ joined_wedge other d x y
joined-same height other c d x y same = ap (λ k. record {
  thickness = max x.thickness y.thickness + k;
  low = min x.low y.low;
  high = max x.high y.high;
}) same

-- by children

picked : (b : Bool) (x y : KnownWedge) → b ≡ true → elim b as (λ _. KnownWedge) [ true ↦ x | false ↦ y ] ≡ x
picked true x y is = refl
picked false x y is = absurd (false≢true is)

left_out : (b : Bool) (x y : KnownWedge) → b ≡ false → elim b as (λ _. KnownWedge) [ true ↦ x | false ↦ y ] ≡ y
left_out true x y off = absurd (false≢true (sym off))
left_out false x y off = refl

module _ (n : ℕ) (height : Point → ℕ) (known : ℕ → Bool) where
  pub under-unknown : (levels a : ℕ) → known a ≡ false →
      known_wedge_under levels n height known a ≡ corner_wedge height (corners_of n a)
  under-unknown zero a none = refl
  under-unknown (suc levels) a none = left_out (known a) (joined_wedge height (corners_of n a)
      (known_wedge_under levels n height known (2 * a)) (known_wedge_under levels n height known (2 * a + 1)))
      (corner_wedge height (corners_of n a)) none

  pub under-known : (levels a : ℕ) → known a ≡ true →
      known_wedge_under (suc levels) n height known a ≡ joined_wedge height (corners_of n a)
      (known_wedge_under levels n height known (2 * a)) (known_wedge_under levels n height known (2 * a + 1))
  under-known levels a is = picked (known a) (joined_wedge height (corners_of n a)
      (known_wedge_under levels n height known (2 * a)) (known_wedge_under levels n height known (2 * a + 1)))
      (corner_wedge height (corners_of n a)) is

  -- where it is not known
  pub wedge-unknown : (a : ℕ) → known a ≡ false → known_wedge n height known a ≡ corner_wedge height (corners_of n a)
  unfolding known_wedge
  wedge-unknown a none = under-unknown (2 * n - level_of a) a none

  -- a finest triangle
  pub wedge-finest : (a : ℕ) → level_of a ≡ 2 * n → known_wedge n height known a ≡ corner_wedge height (corners_of n a)
  unfolding known_wedge
  wedge-finest a finest = let none : 2 * n - level_of a ≡ 0 = omega arith in rw none refl

  -- where it is
  pub wedge-known : (a : ℕ) → IsSplittable n a → IsTrue (known a) → known_wedge n height known a
      ≡ joined_wedge height (corners_of n a) (known_wedge n height known (2 * a))
      (known_wedge n height known (2 * a + 1))
  unfolding known_wedge
  wedge-known a split is =
      let coarse = split.coarse in
      let own : 2 * n - level_of a ≡ suc (2 * n - (level_of a + 1)) = omega arith in
      rw (own, level_of-left a split.low, level_of-right a split.low) (under-known (2 * n - (level_of a + 1)) a is)

-- a level adds at most twice the greatest height
under-bounded : (levels n : ℕ) (height : Point → ℕ) (known : ℕ → Bool) (top a : ℕ) → ((r : Point) → height r ≤ top) →
    (known_wedge_under levels n height known a).thickness ≤ 2 * top * levels
under-bounded zero n height known top a small = omega arith
under-bounded (suc levels) n height known top a small = ⊎_elim
    (λ is.
    let e = ap (λ (k : KnownWedge). k.thickness) (under-known n height known levels a is) in
    let l = under-bounded levels n height known top (2 * a) small in
    let r = under-bounded levels n height known top (2 * a + 1) small in
    let m = small (midpoint (corners_of n a).v0 (corners_of n a).v1) in
    let v = small (corners_of n a).v0 in
    let u = small (corners_of n a).v1 in
    rw e (omega arith))
    (λ none.
    let e = ap (λ (k : KnownWedge). k.thickness) (under-unknown n height known (suc levels) a none) in
    rw e (omega arith))
    (cases_Bool (known a))

pub wedge-bounded : (n : ℕ) (height : Point → ℕ) (known : ℕ → Bool) (top a : ℕ) → ((r : Point) → height r ≤ top) →
    (known_wedge n height known a).thickness ≤ 2 * top * (2 * n - level_of a)
unfolding known_wedge
wedge-bounded n height known top a small = under-bounded (2 * n - level_of a) n height known top a small

-- two terrains that agree

pub at-under : (a b : ℕ) → IsAtOrUnder a b → IsUnder a b
at-under a b (inl same) = subst (IsUnder a) (sym same) self
at-under a b (inr above) = let u = under-above a b above in below b u.1 u.2

pub under-at : (a b : ℕ) → 2 ≤ a → IsUnder a b → IsAtOrUnder a b
under-at a b low self = inl refl
under-at a _ low (below b big u) = inr (above-under a b low big u)

under-same : (levels n : ℕ) (height : Point → ℕ) (known other : ℕ → Bool) (a : ℕ) → 2 ≤ a →
    ((b : ℕ) → IsUnder a b → known b ≡ other b) →
    known_wedge_under levels n height known a ≡ known_wedge_under levels n height other a
under-same zero n height known other a low agree = refl
under-same (suc levels) n height known other a low agree = ⊎_elim
    (λ is. under-known n height known levels a is
    ∙ ap₂ (joined_wedge height (corners_of n a))
    (under-same levels n height known other (2 * a) (omega arith) (λ b u. agree b (IsUnder-left a b low u)))
    (under-same levels n height known other (2 * a + 1) (omega arith) (λ b u. agree b (IsUnder-right a b low u)))
    ∙ sym (under-known n height other levels a (sym (agree a self) ∙ is)))
    (λ none. under-unknown n height known (suc levels) a none
    ∙ sym (under-unknown n height other (suc levels) a (sym (agree a self) ∙ none)))
    (cases_Bool (known a))

-- what is known elsewhere does not matter
pub wedge-same : (n : ℕ) (height : Point → ℕ) (known other : ℕ → Bool) (a : ℕ) → 2 ≤ a →
    ((b : ℕ) → IsAtOrUnder a b → known b ≡ other b) → known_wedge n height known a ≡ known_wedge n height other a
unfolding known_wedge
wedge-same n height known other a low agree =
    under-same (2 * n - level_of a) n height known other a low (λ b u. agree b (under-at a b low u))

-- two surfaces that agree where heights are loaded

module _ (w : Pages) (s : IsPyramid w) (height other : Point → ℕ)
    (agree : (p : Point) → IsLoadedPoint w p → height p ≡ other p) where
  at-loaded : (c : Corners) → AreLoaded w c → HaveSame height other c c
  at-loaded c l = record { apex = agree c.apex l.apex; v0 = agree c.v0 l.v0; v1 = agree c.v1 l.v1 }

  bend-loaded : (x : ℕ) → IsTrue (is_known w x) →
      bend height (corners_of w.large x) ≡ bend other (corners_of w.large x)
  bend-loaded x h =
      let c = known-corners w s x h in
      let e = agree (midpoint (corners_of w.large x).v0 (corners_of w.large x).v1) (known-centre w s x h) in
      let f = agree (corners_of w.large x).v0 c.v0 in
      let g = agree (corners_of w.large x).v1 c.v1 in
      rw (e, f, g) refl

  under-heights : (levels x : ℕ) → AreLoaded w (corners_of w.large x) →
      known_wedge_under levels w.large height (is_known w) x ≡ known_wedge_under levels w.large other (is_known w) x
  under-heights zero x l =
      corner-same height other (corners_of w.large x) (corners_of w.large x) (at-loaded (corners_of w.large x) l)
  under-heights (suc levels) x l = ⊎_elim
      (λ is.
      let c = children-loaded w s x is in
      under-known w.large height (is_known w) levels x is
      ∙ joined-same height other (corners_of w.large x) (corners_of w.large x)
      (known_wedge_under levels w.large height (is_known w) (2 * x))
      (known_wedge_under levels w.large height (is_known w) (2 * x + 1)) (bend-loaded x is)
      ∙ ap₂ (joined_wedge other (corners_of w.large x)) (under-heights levels (2 * x) c.0)
      (under-heights levels (2 * x + 1) c.1)
      ∙ sym (under-known w.large other (is_known w) levels x is))
      (λ none. under-unknown w.large height (is_known w) (suc levels) x none
      ∙ corner-same height other (corners_of w.large x) (corners_of w.large x) (at-loaded (corners_of w.large x) l)
      ∙ sym (under-unknown w.large other (is_known w) (suc levels) x none))
      (cases_Bool (is_known w x))

  -- give a known triangle the same wedge
  pub wedge-heights : (x : ℕ) → IsTrue (is_known w x) →
      known_wedge w.large height (is_known w) x ≡ known_wedge w.large other (is_known w) x
  unfolding known_wedge
  wedge-heights x h = under-heights (2 * w.large - level_of x) x (known-corners w s x h)

-- a terrain that is known everywhere

under-whole : (levels n : ℕ) (heights : List ℕ) (known : ℕ → Bool) (a : ℕ) → 2 ≤ a → level_of a + levels ≤ 2 * n →
    ((b : ℕ) → IsSplittable n b → IsTrue (known b)) →
    (known_wedge_under levels n (height_of n heights) known a).thickness ≡ thickness_under levels n heights a
under-whole zero n heights known a low fits all = refl
under-whole (suc levels) n heights known a low fits all =
    let l = level_of-left a low in
    let r = level_of-right a low in
    ap (λ (k : KnownWedge). k.thickness) (under-known n (height_of n heights) known levels a
    (all a record { low = low; coarse = omega arith }))
    ∙ ap₂ (λ i j. max i j + deviation n heights (corners_of n a))
    (under-whole levels n heights known (2 * a) (omega arith) (omega arith) all)
    (under-whole levels n heights known (2 * a + 1) (omega arith) (omega arith) all)

-- has the thickness of its height field
pub wedge-whole : (n : ℕ) (heights : List ℕ) (known : ℕ → Bool) (a : ℕ) → IsAddress n a →
    ((b : ℕ) → IsSplittable n b → IsTrue (known b)) →
    (known_wedge n (height_of n heights) known a).thickness ≡ thickness_of n heights a
unfolding known_wedge thickness_of
wedge-whole n heights known a address all =
    let fits = level-le n a address in
    under-whole (2 * n - level_of a) n heights known a address.low (omega arith) all

-- a page alone

pub page-midpoint : (i j : ℕ) (a b : ℕ) → (a + b) % 2 ≡ 0 → (i * (j + a) + i * (j + b)) / 2 ≡ i * (j + (a + b) / 2)
page-midpoint i j a b even =
    let half : a + b ≡ 2 * ((a + b) / 2) = omega arith in
    let e : i * (a + b) ≡ i * (2 * ((a + b) / 2)) = ap (λ k. i * k) half in
    let f : i * (j + a) + i * (j + b) ≡ 2 * (i * (j + (a + b) / 2)) = omega arith in
    omega arith

-- the middle of a base is a point of the page
pub page-middle : (n q : ℕ) (t : Point) (c : Corners) → HasEvenBase c →
    midpoint (page_corners n q t c).v0 (page_corners n q t c).v1 ≡ page_point n q t (midpoint c.v0 c.v1)
page-middle n q t c even =
    same_point ((2 ^ q * (2 ^ n * t.x + c.v0.x) + 2 ^ q * (2 ^ n * t.x + c.v1.x)) / 2)
    ((2 ^ q * (2 ^ n * t.y + c.v0.y) + 2 ^ q * (2 ^ n * t.y + c.v1.y)) / 2)
    (2 ^ q * (2 ^ n * t.x + (c.v0.x + c.v1.x) / 2)) (2 ^ q * (2 ^ n * t.y + (c.v0.y + c.v1.y) / 2))
    (page-midpoint (2 ^ q) (2 ^ n * t.x) c.v0.x c.v1.x even.x)
    (page-midpoint (2 ^ q) (2 ^ n * t.y) c.v0.y c.v1.y even.y)

pub even-half : (m : ℕ) (turned : Bool) (which : ℕ) → m % 2 ≡ 0 → HasEvenBase (half_corners m turned which)
even-half m false zero even = record { x = omega arith; y = omega arith }
even-half m false (suc _) even = record { x = omega arith; y = omega arith }
even-half m true zero even = record { x = omega arith; y = omega arith }
even-half m true (suc _) even = record { x = omega arith; y = omega arith }

module _ (n q p : ℕ) (t : Point) (tile : IsTile (2 ^ p) (2 ^ p) t) (height : Point → ℕ) (heights : List ℕ)
    (samples : AreSamples n q t height heights) where
  -- the heights of a page's triangle
  corner-heights : (a : ℕ) → 4 ≤ a → IsAddress n a →
      corner_wedge height (corners_of (n + q + p) (in_tile p t a)) ≡ corner_wedge (height_of n heights) (corners_of n a)
  corner-heights a big address =
      let within = IsWithin-corners_of n a in
      ap (corner_wedge height) (page-corners n q p a t tile big address)
      ∙ corner-same height (height_of n heights) (page_corners n q t (corners_of n a)) (corners_of n a) record {
        apex = sym (samples (corners_of n a).apex record { x = within.apex_x; y = within.apex_y });
        v0 = sym (samples (corners_of n a).v0 record { x = within.v0_x; y = within.v0_y });
        v1 = sym (samples (corners_of n a).v1 record { x = within.v1_x; y = within.v1_y });
      }

  -- how far the surface is from the middle of a base that has a point of the page in its middle
  bend-page : (c : Corners) → IsWithin (2 ^ n) c → HasEvenBase c →
      bend height (page_corners n q t c) ≡ bend (height_of n heights) c
  bend-page c within even =
      let x0 = within.v0_x in let x1 = within.v1_x in let y0 = within.v0_y in let y1 = within.v1_y in
      let centre : height (midpoint (page_corners n q t c).v0 (page_corners n q t c).v1)
      ≡ height_of n heights (midpoint c.v0 c.v1) =
      ap height (page-middle n q t c even) ∙ sym (samples (midpoint c.v0 c.v1) record { x = omega arith; y = omega arith }) in
      let first : height (page_corners n q t c).v0 ≡ height_of n heights c.v0 =
      sym (samples c.v0 record { x = x0; y = y0 }) in
      let second : height (page_corners n q t c).v1 ≡ height_of n heights c.v1 =
      sym (samples c.v1 record { x = x1; y = y1 }) in
      rw (centre, first, second) refl

  -- a triangle of the page is joined as in the page's own grid
  pub joined-page : (a : ℕ) (x y : KnownWedge) → 4 ≤ a → IsSplittable n a →
      joined_wedge height (corners_of (n + q + p) (in_tile p t a)) x y
      ≡ joined_wedge (height_of n heights) (corners_of n a) x y
  joined-page a x y big split =
      joined-same height (height_of n heights) (corners_of (n + q + p) (in_tile p t a)) (corners_of n a) x y
      (ap (bend height) (page-corners n q p a t tile big (IsAddress-splittable n a split))
      ∙ bend-page (corners_of n a) (IsWithin-corners_of n a) (HasEvenBase-corners_of n a split.coarse))

  within-half : (turned : Bool) (which : ℕ) → IsWithin (2 ^ n) (half_corners (2 ^ n) turned which)
  within-half false which = IsWithin-base (2 ^ n) which
  within-half true zero = record {
    apex_x = omega arith;
    apex_y = omega arith;
    v0_x = omega arith;
    v0_y = omega arith;
    v1_x = omega arith;
    v1_y = omega arith;
  }
  within-half true (suc _) = record {
    apex_x = omega arith;
    apex_y = omega arith;
    v0_x = omega arith;
    v0_y = omega arith;
    v1_x = omega arith;
    v1_y = omega arith;
  }

  -- and so is a half
  pub joined-half : (which : ℕ) (x y : KnownWedge) → 1 ≤ n → which < 2 →
      joined_wedge height (corners_of (n + q + p) (half p t which)) x y
      ≡ joined_wedge (height_of n heights) (half_corners (2 ^ n) (is_turned p t) which) x y
  joined-half which x y some less =
      joined-same height (height_of n heights) (corners_of (n + q + p) (half p t which)) (half_corners (2 ^ n) (is_turned p t) which) x y
      (ap (bend height) (half-page n q p t which some less tile)
      ∙ bend-page (half_corners (2 ^ n) (is_turned p t) which) (within-half (is_turned p t) which)
      (even-half (2 ^ n) (is_turned p t) which (let e = side-even n some in omega arith)))

  -- so has all that lies below it, if what is known there are the page's own triangles
  under-page : (known : ℕ → Bool) (levels more a : ℕ) → 4 ≤ a → IsAddress n a → level_of a + levels ≡ 2 * n →
      ((b : ℕ) → IsUnder a b → IsAddress n b → known (in_tile p t b) ≡ nat_lt (level_of b) (2 * n)) →
      known_wedge_under (levels + more) (n + q + p) height known (in_tile p t a)
      ≡ known_wedge_under levels n (height_of n heights) (λ b. true) a
  under-page known zero more a big address finest alone =
      under-unknown (n + q + p) height known (0 + more) (in_tile p t a)
      (alone a self address ∙ le-ltb (level_of a) (2 * n) (omega arith))
      ∙ corner-heights a big address
  under-page known (suc levels) more a big address fits alone =
      let e : suc levels + more ≡ suc (levels + more) = omega arith in
      let l = level_of-left a address.low in
      let r = level_of-right a address.low in
      let left : IsAddress n (2 * a) = IsAddress-level n (2 * a) (omega arith) (omega arith) in
      let right : IsAddress n (2 * a + 1) = IsAddress-level n (2 * a + 1) (omega arith) (omega arith) in
      ap (λ k. known_wedge_under k (n + q + p) height known (in_tile p t a)) e
      ∙ under-known (n + q + p) height known (levels + more) (in_tile p t a)
      (alone a self address ∙ lt-ltb (level_of a) (2 * n) (omega arith))
      ∙ ap₂ (joined_wedge height (corners_of (n + q + p) (in_tile p t a)))
      (ap (known_wedge_under (levels + more) (n + q + p) height known) (sym (in_tile-left p t a big))
      ∙ under-page known levels more (2 * a) (omega arith) left (omega arith)
      (λ b u. alone b (IsUnder-left a b address.low u)))
      (ap (known_wedge_under (levels + more) (n + q + p) height known) (sym (in_tile-right p t a big))
      ∙ under-page known levels more (2 * a + 1) (omega arith) right (omega arith)
      (λ b u. alone b (IsUnder-right a b address.low u)))
      ∙ joined-page a (known_wedge_under levels n (height_of n heights) (λ b. true) (2 * a))
      (known_wedge_under levels n (height_of n heights) (λ b. true) (2 * a + 1)) big
      record { low = address.low; coarse = omega arith }

  alone-wedge : (known : ℕ → Bool) (a : ℕ) → 4 ≤ a → IsAddress n a →
      ((b : ℕ) → IsUnder a b → IsAddress n b → known (in_tile p t b) ≡ nat_lt (level_of b) (2 * n)) →
      known_wedge (n + q + p) height known (in_tile p t a) ≡ known_wedge n (height_of n heights) (λ b. true) a
  unfolding known_wedge
  alone-wedge known a big address alone =
      let level = in_tile-level p t a big in
      let fits = level-le n a address in
      let e : 2 * (n + q + p) - level_of (in_tile p t a) ≡ 2 * n - level_of a + 2 * q = omega arith in
      ap (λ k. known_wedge_under k (n + q + p) height known (in_tile p t a)) e
      ∙ under-page known (2 * n - level_of a) (2 * q) a big address (omega arith) alone

level-large : (b : ℕ) → 4 ≤ b → 2 ≤ level_of b → 8 ≤ b
level-large b big deep = ⊎_elim
    (λ (less : b < 8). let one = level_of-first b big less in absurd (omega arith))
    (λ more. more)
    (cases_lt b 8)

-- what lies below a triangle of a page lies in its square of the resolution before
under-square : (p : ℕ) (t : Point) (a b : ℕ) → 4 ≤ a → 2 ≤ level_of a → IsUnder a b →
    tile_of (suc p) (2 * in_tile p t b) ≡ tile_of (suc p) (2 * in_tile p t a)
under-square p t a _ big deep self = refl
under-square p t a _ big deep (below b big' u) =
    let up = level_of-parent b big' in
    let less = level-under a (b / 2) u in
    let large : 8 ≤ b = level-large b big' (omega arith) in
    let level = in_tile-level p t b big' in
    let parent = in_tile-parent p t b large in
    sym (ap (λ z. tile_of (suc p) (2 * z)) (sym parent.0)
    ∙ tile-parent (suc p) (in_tile p t b) (in_tile-big p t b big') (omega arith))
    ∙ under-square p t a (b / 2) big deep u

-- a triangle of a page, where no page of the resolution before lies in its part, has the wedge that it has in the
-- page's own grid
pub wedge-page : (w : Pages) (q : ℕ) (t : Point) (height : Point → ℕ) (heights : List ℕ) (a : ℕ) → IsPyramid w →
    q ≤ w.top → IsTile (2 ^ cuts_to w q) (2 ^ cuts_to w q) t → IsTrue (w.loaded q t) →
    AreSamples w.n q t height heights → 4 ≤ a → IsAddress w.n a → 2 ≤ level_of a →
    (1 ≤ q → w.loaded (q - 1) (square_at w (q - 1) (in_tile (cuts_to w q) t a)) ≡ false) →
    known_wedge w.large height (is_known w) (in_tile (cuts_to w q) t a)
    ≡ known_wedge w.n (height_of w.n heights) (λ b. true) a
wedge-page w q t height heights a s coarse tile page samples big address deep none =
    ap (λ k. known_wedge k height (is_known w) (in_tile (cuts_to w q) t a)) (size w s q coarse)
    ∙ alone-wedge w.n q (cuts_to w q) t tile height heights samples (is_known w) a big address (λ b u address'.
    let more = level-under a b u in
    page-alone w s q t b coarse tile page (level-big b address'.low (omega arith)) address'
    (λ some finest.
    let e : cuts_to w (q - 1) ≡ suc (cuts_to w q) = (let f = cut-more w s (q - 1) (omega arith) in omega arith) in
    let same : square_at w (q - 1) (in_tile (cuts_to w q) t b) ≡ square_at w (q - 1) (in_tile (cuts_to w q) t a) =
    ap (λ k. tile_of k (2 * in_tile (cuts_to w q) t b)) e
    ∙ under-square (cuts_to w q) t a b big deep u
    ∙ ap (λ k. tile_of k (2 * in_tile (cuts_to w q) t a)) (sym e) in
    ap (w.loaded (q - 1)) same ∙ none some))

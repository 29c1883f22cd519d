-- The points that a page that is not loaded shares with loaded pages: those of the coarser page and of the sides.
use Rattle.std.proofs.Common.{◌≡◌, ℕ, zero, suc, ◌+◌, ◌-◌, ◌*◌, ◌/◌, ◌%◌, ◌^◌, ◌<◌, ◌≤◌, ◌⊎◌, sym, ◌∙◌, ap, subst}
use Rattle.std.proofs.Common.{arith, ⊎_elim, refl, Option, Some, None, IsTrue, is_some, List, pow_pos, Bor}
use Rattle.std.proofs.Math.Nat.{pow-succ', mul-le-mul_left, mul-le-mul_right}
use Rattle.std.proofs.Math.Pow.{pow_mono}
use Rattle.std.proofs.lemmas.Nat.{pow-add, pow_below}
use Rattle.std.specs.Option.{option_copied}
use Rattle.mesh_defs.specs.declared.point.Point.{Point}
use Rattle.mesh_defs.specs.HeightField.{HeightField}
use Rattle.mesh_defs.specs.Thickness.{height_of}
use Rattle.bintree_laws.specs.Corners.{IsInSquare}
use Rattle.bintree_laws.proofs.LatticeLemmas.{same_point}
use Rattle.bintree_laws.proofs.MateLemmas.{cancel}
use Rattle.mosaic_laws.specs.Tile.{IsTile}
use Rattle.page_laws.specs.Pages.{page_point, IsPagePoint, square_above, AreBeside}
use Rattle.page_laws.proofs.PointLemmas.{side-even}
use Rattle.page_laws.proofs.SharedLemmas.{shared}
use Rattle.page_wedges.specs.Page.{Page}
use Rattle.page_store.specs.Store.{Store, top_of, cuts_of, page_at, pages_of, height_in, IsTable}
use Rattle.page_store.specs.Agreement.{IsBesideAt, on_side, twice, moved_by, corner_above, IsAgreedInside, IsAgreedAt}
use Rattle.page_store.specs.Agreement.{IsAgreed, IsDifferingAt}
use Rattle.page_store.proofs.TableLemmas.{page_at-some, loaded-page, page-loaded}

-- sides

-- points of a side are points of the page
side-small : (m side k : ℕ) → k ≤ m → IsInSquare m (on_side m side k)
side-small m zero k less = record { x = less; y = omega arith }
side-small m (suc zero) k less = record { x = omega arith; y = less }
side-small m (suc (suc zero)) k less = record { x = less; y = omega arith }
side-small m (suc (suc (suc _))) k less = record { x = omega arith; y = less }

-- the first place of a square is the last one of the square before
next-step : (q m t u : ℕ) → t ≡ u + 1 → 2 ^ q * (m * t + 0) ≡ 2 ^ q * (m * u + m)
next-step q m t u next =
    let f : m * t ≡ m * (u + 1) = ap (λ k. m * k) next in
    let e : m * t + 0 ≡ m * u + m = omega arith in
    ap (λ k. 2 ^ q * k) e

same-step : (q m t u k : ℕ) → t ≡ u → 2 ^ q * (m * t + k) ≡ 2 ^ q * (m * u + k)
same-step q m t u k same = ap (λ z. 2 ^ q * (m * z + k)) same

-- a point of a side is one of the facing side of the page beside
side-point : (n q side k : ℕ) (t u : Point) → side < 4 → IsBesideAt side t u →
    page_point n q u (on_side (2 ^ n) ((side + 2) % 4) k) ≡ page_point n q t (on_side (2 ^ n) side k)
side-point n q zero k t u less b = same_point _ _ _ _
    (sym (same-step q (2 ^ n) t.x u.x k b.0)) (sym (next-step q (2 ^ n) t.y u.y b.1))
side-point n q (suc zero) k t u less b = same_point _ _ _ _
    (sym (next-step q (2 ^ n) t.x u.x b.0)) (sym (same-step q (2 ^ n) t.y u.y k b.1))
side-point n q (suc (suc zero)) k t u less b = same_point _ _ _ _
    (sym (same-step q (2 ^ n) t.x u.x k b.0)) (next-step q (2 ^ n) u.y t.y b.1)
side-point n q (suc (suc (suc zero))) k t u less b = same_point _ _ _ _
    (next-step q (2 ^ n) u.x t.x b.0) (sym (same-step q (2 ^ n) t.y u.y k b.1))
side-point n q (suc (suc (suc (suc _)))) k t u less b = absurd (omega (arith, less))

-- there is one square beside a side
beside-same : (side : ℕ) (t u v : Point) → IsBesideAt side t u → IsBesideAt side t v → u ≡ v
beside-same zero t u v b c = let e = b.1 in let f = c.1 in same_point _ _ _ _ (sym b.0 ∙ c.0) (omega arith)
beside-same (suc zero) t u v b c = let e = b.0 in let f = c.0 in same_point _ _ _ _ (omega arith) (sym b.1 ∙ c.1)
beside-same (suc (suc zero)) t u v b c = same_point _ _ _ _ (sym b.0 ∙ c.0) (b.1 ∙ sym c.1)
beside-same (suc (suc (suc _))) t u v b c = same_point _ _ _ _ (b.0 ∙ sym c.0) (sym b.1 ∙ c.1)

-- squares beside each other are so at some side
pub beside-side : (t u : Point) → AreBeside t u → (side : ℕ) × (side < 4) × IsBesideAt side t u
beside-side t u b = ⊎_elim
    (λ (row : (t.y ≡ u.y) × ((t.x ≡ u.x + 1) ⊎ (u.x ≡ t.x + 1))). ⊎_elim
    (λ (e : t.x ≡ u.x + 1). (1, omega arith, (e, row.0)))
    (λ (e : u.x ≡ t.x + 1). (3, omega arith, (e, row.0)))
    row.1)
    (λ (column : (t.x ≡ u.x) × ((t.y ≡ u.y + 1) ⊎ (u.y ≡ t.y + 1))). ⊎_elim
    (λ (e : t.y ≡ u.y + 1). (0, omega arith, (column.0, e)))
    (λ (e : u.y ≡ t.y + 1). (2, omega arith, (column.0, e)))
    column.1)
    b

-- on one axis the place that two pages share
first-place : (q m t u r v : ℕ) → t ≡ u + 1 → v ≤ m → 2 ^ q * (m * t + r) ≡ 2 ^ q * (m * u + v) → r ≡ 0
first-place q m t u r v next small same =
    let f : m * t ≡ m * (u + 1) = ap (λ k. m * k) next in
    let e = cancel (2 ^ q) (m * t + r) (m * u + v) (pow_pos q) same in
    omega arith

last-place : (q m t u r v : ℕ) → u ≡ t + 1 → r ≤ m → 2 ^ q * (m * t + r) ≡ 2 ^ q * (m * u + v) → r ≡ m
last-place q m t u r v next small same =
    let f : m * u ≡ m * (t + 1) = ap (λ k. m * k) next in
    let e = cancel (2 ^ q) (m * t + r) (m * u + v) (pow_pos q) same in
    omega arith

-- a point of a page and of the page beside is on the side between them
shared-side : (n q side : ℕ) (t u r v : Point) → IsBesideAt side t u → IsInSquare (2 ^ n) r →
    IsInSquare (2 ^ n) v → page_point n q t r ≡ page_point n q u v →
    (k : ℕ) × (k ≤ 2 ^ n) × (r ≡ on_side (2 ^ n) side k)
shared-side n q zero t u r v b inside inside' same = (
  r.x,
  inside.x,
  same_point _ _ _ _ refl (first-place q (2 ^ n) t.y u.y r.y v.y b.1 inside'.y (ap (λ (z : Point). z.y) same)),
)
shared-side n q (suc zero) t u r v b inside inside' same = (
  r.y,
  inside.y,
  same_point _ _ _ _ (first-place q (2 ^ n) t.x u.x r.x v.x b.0 inside'.x (ap (λ (z : Point). z.x) same)) refl,
)
shared-side n q (suc (suc zero)) t u r v b inside inside' same = (
  r.x,
  inside.x,
  same_point _ _ _ _ refl (last-place q (2 ^ n) t.y u.y r.y v.y b.1 inside.y (ap (λ (z : Point). z.y) same)),
)
shared-side n q (suc (suc (suc _))) t u r v b inside inside' same = (
  r.y,
  inside.y,
  same_point _ _ _ _ (last-place q (2 ^ n) t.x u.x r.x v.x b.0 inside.x (ap (λ (z : Point). z.x) same)) refl,
)

-- the coarser page

double : (q k : ℕ) → 2 ^ (q + 1) * k ≡ 2 ^ q * (2 * k)
double q k =
    let e : q + 1 ≡ suc q = omega arith in
    let f : 2 ^ (q + 1) ≡ 2 * 2 ^ q = ap (λ z. 2 ^ z) e ∙ pow-succ' 2 q in
    ap (λ z. z * k) f ∙ omega arith

inside-step : (n q t c : ℕ) → 1 ≤ n →
    2 ^ (q + 1) * (2 ^ n * (t / 2) + (t % 2 * 2 ^ (n - 1) + c)) ≡ 2 ^ q * (2 ^ n * t + 2 * c)
inside-step n q t c some =
    let even = side-even n some in
    let parts : t ≡ 2 * (t / 2) + t % 2 = omega arith in
    let split : 2 ^ n * t ≡ 2 ^ n * (2 * (t / 2) + t % 2) = ap (λ k. 2 ^ n * k) parts in
    let odd : 2 ^ n * (t % 2) ≡ 2 * 2 ^ (n - 1) * (t % 2) = ap (λ k. k * (t % 2)) even in
    let e : 2 * (2 ^ n * (t / 2) + (t % 2 * 2 ^ (n - 1) + c)) ≡ 2 ^ n * t + 2 * c = omega arith in
    double q (2 ^ n * (t / 2) + (t % 2 * 2 ^ (n - 1) + c)) ∙ ap (λ k. 2 ^ q * k) e

-- a page's point of two steps each is this point of the coarser page
inside-point : (n q : ℕ) (t c : Point) → 1 ≤ n →
    page_point n (q + 1) (square_above t) (moved_by (corner_above n t) c) ≡ page_point n q t (twice c)
inside-point n q t c some = same_point _ _ _ _ (inside-step n q t.x c.x some) (inside-step n q t.y c.y some)

corner-step : (n t c : ℕ) → 1 ≤ n → c ≤ 2 ^ (n - 1) → t % 2 * 2 ^ (n - 1) + c ≤ 2 ^ n
corner-step n t c some small =
    let even = side-even n some in
    let bit : t % 2 ≤ 1 = omega arith in
    let less : t % 2 * 2 ^ (n - 1) ≤ 1 * 2 ^ (n - 1) = mul-le-mul_right (2 ^ (n - 1)) bit in
    omega arith

corner-small : (n : ℕ) (t c : Point) → 1 ≤ n → IsInSquare (2 ^ (n - 1)) c →
    IsInSquare (2 ^ n) (moved_by (corner_above n t) c)
corner-small n t c some inside = record {
  x = corner-step n t.x c.x some inside.x;
  y = corner-step n t.y c.y some inside.y;
}

twice-small : (n : ℕ) (c : Point) → 1 ≤ n → IsInSquare (2 ^ (n - 1)) c → IsInSquare (2 ^ n) (twice c)
twice-small n c some inside =
    let even = side-even n some in
    let x = inside.x in
    let y = inside.y in
    record { x = omega arith; y = omega arith }

-- a place on a page's side that the coarser page has is one of two steps each
even-step : (n q t r v : ℕ) → 1 ≤ n → r ≤ 2 ^ n → 2 ^ q * (2 ^ n * t + r) ≡ 2 ^ (q + 1) * (2 ^ n * (t / 2) + v) →
    (r ≡ 2 * (r / 2)) × (r / 2 ≤ 2 ^ (n - 1))
even-step n q t r v some small same =
    let even = side-even n some in
    let split : 2 ^ n * t ≡ 2 * 2 ^ (n - 1) * t = ap (λ k. k * t) even in
    let e = cancel (2 ^ q) (2 ^ n * t + r) (2 * (2 ^ n * (t / 2) + v)) (pow_pos q)
    (same ∙ double q (2 ^ n * (t / 2) + v)) in
    (omega arith, omega arith)

shared-above : (n q : ℕ) (t r v : Point) → 1 ≤ n → IsInSquare (2 ^ n) r →
    page_point n q t r ≡ page_point n (q + 1) (square_above t) v →
    (c : Point) × IsInSquare (2 ^ (n - 1)) c × (r ≡ twice c)
shared-above n q t r v some inside same =
    let column = even-step n q t.x r.x v.x some inside.x (ap (λ (z : Point). z.x) same) in
    let row = even-step n q t.y r.y v.y some inside.y (ap (λ (z : Point). z.y) same) in (
      record { x = r.x / 2; y = r.y / 2 },
      record { x = column.1; y = row.1 },
      same_point _ _ _ _ column.0 row.0,
    )

-- heights

module _ (s : Store) (i : IsTable s) (q : ℕ) (t : Point) (heights : List ℕ) where
  -- no other points of the page are loaded
  pub agreed-all : q < top_of s → page_at s q t ≡ None → IsAgreedInside s q t heights →
      ((side : ℕ) → side < 4 → IsAgreedAt s q t heights side) → IsAgreed s q t heights
  agreed-all finer missing within sides r inside loaded = ⊎_elim
      (λ (h : IsPagePoint s.n (q + 1) (square_above t) (page_point s.n q t r)).
      let c = shared-above s.n q t r h.0 i.some inside h.2 in
      subst (λ z. height_of s.n heights z ≡ height_in s (page_point s.n q t z)) (sym c.2) (within c.0 c.1))
      (λ (h : (u : Point) × IsTrue (is_some (page_at s q u)) × AreBeside t u
      × IsPagePoint s.n q u (page_point s.n q t r)).
      let b = beside-side t h.0 h.2 in
      let k = shared-side s.n q b.0 t h.0 r h.3.0 b.2 inside h.3.1 h.3.2 in
      subst (λ z. height_of s.n heights z ≡ height_in s (page_point s.n q t z)) (sym k.2)
      (sides b.0 b.1 h.0 k.0 h.1 b.2 k.1))
      (shared (pages_of s) i.pyramid (page_point s.n q t r) q t finer (ap is_some missing) (r, inside, refl) loaded)

  -- the coarser page

  module _ (page : Page) (at : page_at s (q + 1) (square_above t) ≡ Some page) where
    inside-height : (c : Point) → IsInSquare (2 ^ (s.n - 1)) c →
        height_of s.n page.field.heights (moved_by (corner_above s.n t) c) ≡ height_in s (page_point s.n q t (twice c))
    inside-height c inside =
        (i.placed (q + 1) (square_above t) page at).heights (moved_by (corner_above s.n t) c)
        (corner-small s.n t c i.some inside)
        ∙ ap (height_in s) (inside-point s.n q t c i.some)

    -- heights of a page and of the coarser one, in a grid of this n whose half side is h
    abbrev pub IsSameInside : ℕ → ℕ → List ℕ → Point → Type 0
    IsSameInside n h there c =
        height_of n heights (twice c)
        ≡ height_of n there (moved_by (record { x = t.x % 2 * h; y = t.y % 2 * h }) c)

    -- where the page's are those of the coarser one they are those of the terrain
    pub agreed-inside : (g : HeightField) (n h : ℕ) → g ≡ page.field → n ≡ s.n → h ≡ 2 ^ (s.n - 1) →
        ((c : Point) → IsInSquare (2 ^ (n - 1)) c → IsSameInside n h g.heights c) → IsAgreedInside s q t heights
    agreed-inside g n h is side half same c inside =
        let in_grid : (d : Point) → IsInSquare (2 ^ (s.n - 1)) d → IsSameInside s.n h g.heights d =
        subst (λ m. (d : Point) → IsInSquare (2 ^ (m - 1)) d → IsSameInside m h g.heights d) side same in
        let at_corner : IsSameInside s.n (2 ^ (s.n - 1)) g.heights c =
        subst (λ k. IsSameInside s.n k g.heights c) half (in_grid c inside) in
        at_corner
        ∙ ap (λ (f : HeightField). height_of s.n f.heights (moved_by (corner_above s.n t) c)) is
        ∙ inside-height c inside

    -- and else not
    pub differs-inside : (g : HeightField) (n h : ℕ) (c : Point) → g ≡ page.field → n ≡ s.n →
        h ≡ 2 ^ (s.n - 1) → q < top_of s → IsInSquare (2 ^ (n - 1)) c → (IsSameInside n h g.heights c → ⊥) →
        IsDifferingAt s q t heights (twice c)
    differs-inside g n h c is side half finer inside' other' =
        let inside : IsInSquare (2 ^ (s.n - 1)) c = subst (λ m. IsInSquare (2 ^ (m - 1)) c) side inside' in
        let in_grid : IsSameInside s.n h g.heights c → ⊥ =
        subst (λ m. IsSameInside m h g.heights c → ⊥) side other' in
        let other : IsSameInside s.n (2 ^ (s.n - 1)) g.heights c → ⊥ =
        subst (λ k. IsSameInside s.n k g.heights c → ⊥) half in_grid in
        record {
          inside = twice-small s.n c i.some inside;
          loaded = record {
            q = q + 1;
            square = square_above t;
            coarse = omega arith;
            page = page-loaded s (q + 1) (square_above t) page at;
            point = (
              moved_by (corner_above s.n t) c,
              corner-small s.n t c i.some inside,
              sym (inside-point s.n q t c i.some),
            );
          };
          differs = λ same. other (same
              ∙ sym (inside-height c inside)
              ∙ sym (ap (λ (f : HeightField). height_of s.n f.heights (moved_by (corner_above s.n t) c)) is));
        }

  -- a page beside

  -- no page is beyond the terrain
  pub agreed-border : (side : ℕ) →
      ((u : Point) → IsTile (2 ^ cuts_of s q) (2 ^ cuts_of s q) u → IsBesideAt side t u → ⊥) →
      IsAgreedAt s q t heights side
  agreed-border side none u k loaded b less =
      let page = loaded-page s q u loaded in
      absurd (none u (page_at-some s q u page.0 page.1).tile b)

  -- nor where it is not loaded
  pub agreed-missing : (side : ℕ) (u : Point) → IsBesideAt side t u → page_at s q u ≡ None →
      IsAgreedAt s q t heights side
  agreed-missing side u b missing v k loaded c less =
      let page = loaded-page s q v loaded in
      let same : u ≡ v = beside-same side t u v b c in
      let e : Some page.0 ≡ None = sym page.1 ∙ ap (page_at s q) (sym same) ∙ missing in
      absurd cc

  module _ (side : ℕ) (u : Point) (page : Page) (few : side < 4) (b : IsBesideAt side t u)
      (at : page_at s q u ≡ Some page) where
    side-height : (k : ℕ) → k ≤ 2 ^ s.n →
        height_of s.n page.field.heights (on_side (2 ^ s.n) ((side + 2) % 4) k)
        ≡ height_in s (page_point s.n q t (on_side (2 ^ s.n) side k))
    side-height k less =
        (i.placed q u page at).heights (on_side (2 ^ s.n) ((side + 2) % 4) k)
        (side-small (2 ^ s.n) ((side + 2) % 4) k less)
        ∙ ap (height_in s) (side-point s.n q side k t u few b)

    -- heights of a page and of the one beside, in a grid of this n
    abbrev pub IsSameAt : ℕ → List ℕ → ℕ → Type 0
    IsSameAt n there k =
        height_of n heights (on_side (2 ^ n) side k) ≡ height_of n there (on_side (2 ^ n) ((side + 2) % 4) k)

    -- where the page's are those of the page beside they are those of the terrain
    pub agreed-side : (g : HeightField) (n : ℕ) → g ≡ page.field → n ≡ s.n →
        ((k : ℕ) → k ≤ 2 ^ n → IsSameAt n g.heights k) → IsAgreedAt s q t heights side
    agreed-side g n is same-n same v k loaded c less =
        let h : (j : ℕ) → j ≤ 2 ^ s.n → IsSameAt s.n g.heights j =
        subst (λ m. (j : ℕ) → j ≤ 2 ^ m → IsSameAt m g.heights j) same-n same in
        h k less
        ∙ ap (λ (f : HeightField). height_of s.n f.heights (on_side (2 ^ s.n) ((side + 2) % 4) k)) is
        ∙ side-height k less

    -- and else not
    pub differs-side : (g : HeightField) (n k : ℕ) → g ≡ page.field → n ≡ s.n → q ≤ top_of s → k ≤ 2 ^ n →
        (IsSameAt n g.heights k → ⊥) → IsDifferingAt s q t heights (on_side (2 ^ s.n) side k)
    differs-side g n k is same-n coarse less' other' =
        let less : k ≤ 2 ^ s.n = subst (λ m. k ≤ 2 ^ m) same-n less' in
        let other : IsSameAt s.n g.heights k → ⊥ = subst (λ m. IsSameAt m g.heights k → ⊥) same-n other' in
        record {
          inside = side-small (2 ^ s.n) side k less;
          loaded = record {
            q = q;
            square = u;
            coarse = coarse;
            page = page-loaded s q u page at;
            point = (
              on_side (2 ^ s.n) ((side + 2) % 4) k,
              side-small (2 ^ s.n) ((side + 2) % 4) k less,
              sym (side-point s.n q side k t u few b),
            );
          };
          differs = λ same. other (same
              ∙ sym (side-height k less)
              ∙ sym (ap (λ (f : HeightField). height_of s.n f.heights (on_side (2 ^ s.n) ((side + 2) % 4) k)) is));
        }

-- squares and numbers, as the code finds them

-- the page of the square above
pub above-page : (s : Store) (q d : ℕ) (t : Point) (o : Option (Bor Page)) (page : Bor Page) → d ≡ top_of s →
    q < top_of s → option_copied o ≡ page_at s (top_of s - (d - q - 1)) (square_above t) → o ≡ Some page →
    page_at s (q + 1) (square_above t) ≡ Some page.now
above-page s q d t o page top finer value is =
    let e : q + 1 ≡ top_of s - (d - q - 1) = omega arith in
    ap (λ r. page_at s r (square_above t)) e ∙ sym value ∙ ap option_copied is

-- the page in a square of the resolution q
pub page-here : (s : Store) (q d : ℕ) (u : Point) (o : Option Page) → d ≡ top_of s → q ≤ top_of s →
    o ≡ page_at s (top_of s - (d - q)) u → page_at s q u ≡ o
page-here s q d u o top coarse value =
    let e : q ≡ top_of s - (d - q) = omega arith in ap (λ r. page_at s r u) e ∙ sym value

shifted : (k : ℕ) → k < 32 → 1 * 2 ^ k % 4294967296 ≡ 2 ^ k
shifted k less = let few : 2 ^ k < 2 ^ 32 = pow_below k 32 less in omega arith

module _ (s : Store) (i : IsTable s) where
  -- a half and the whole of a page's side, and the number of columns and rows
  pub half-shifted : (n : ℕ) → n ≡ s.n → 1 * 2 ^ (n - 1) % 4294967296 ≡ 2 ^ (s.n - 1)
  half-shifted n is =
      let fits = i.fits in let small = i.small in shifted (n - 1) (omega arith) ∙ ap (λ k. 2 ^ (k - 1)) is

  pub side-shifted : (n : ℕ) → n ≡ s.n → 1 * 2 ^ n % 4294967296 ≡ 2 ^ s.n
  side-shifted n is =
      let fits = i.fits in let small = i.small in shifted n (omega arith) ∙ ap (λ k. 2 ^ k) is

  pub columns-shifted : (q d : ℕ) → d ≡ top_of s → 1 * 2 ^ (d - q) % 4294967296 ≡ 2 ^ cuts_of s q
  columns-shifted q d is =
      let fits = i.fits in
      let small = i.small in
      let e : d - q ≡ cuts_of s q = omega arith in
      shifted (d - q) (omega arith) ∙ ap (λ k. 2 ^ k) e

  -- a point of a page lies in the terrain
  pub terrain-small : (q t r : ℕ) → q ≤ top_of s → t < 2 ^ cuts_of s q → r ≤ 2 ^ s.n → 2 ^ s.n * t + r ≤ 2 ^ (14 - q)
  terrain-small q t r coarse tile inside =
      let fits = i.fits in
      let small = i.small in
      let more : t + 1 ≤ 2 ^ cuts_of s q = omega arith in
      let less : 2 ^ s.n * (t + 1) ≤ 2 ^ s.n * 2 ^ cuts_of s q = mul-le-mul_left (2 ^ s.n) more in
      let e : 2 ^ s.n * 2 ^ cuts_of s q ≡ 2 ^ (s.n + cuts_of s q) = sym (pow-add 2 s.n (cuts_of s q)) in
      let deep : s.n + cuts_of s q ≤ 14 - q = omega arith in
      let mono : 2 ^ (s.n + cuts_of s q) ≤ 2 ^ (14 - q) = pow_mono deep in
      omega arith

shift-step : (z q : ℕ) → 2 ^ q * z ≤ 16384 → z * 2 ^ q % 4294967296 ≡ 2 ^ q * z
shift-step z q less = let swap : z * 2 ^ q ≡ 2 ^ q * z = omega arith in omega arith

-- a point of a page in the terrain, as the code shifts it there
pub terrain-step : (n q t r : ℕ) → n + q ≤ 14 → 2 ^ n * t + r ≤ 2 ^ (14 - q) →
    (t * 2 ^ n % 4294967296 + r) * 2 ^ q % 4294967296 ≡ 2 ^ q * (2 ^ n * t + r)
terrain-step n q t r small fits =
    let e : q + (14 - q) ≡ 14 = omega arith in
    let whole : 2 ^ q * 2 ^ (14 - q) ≡ 16384 = sym (pow-add 2 q (14 - q)) ∙ ap (λ k. 2 ^ k) e in
    let less : 2 ^ q * (2 ^ n * t + r) ≤ 2 ^ q * 2 ^ (14 - q) = mul-le-mul_left (2 ^ q) fits in
    let all : 2 ^ q * (2 ^ n * t + r) ≤ 16384 = subst (λ k. 2 ^ q * (2 ^ n * t + r) ≤ k) whole less in
    let down : 14 - q ≤ 14 = omega arith in
    let mono : 2 ^ (14 - q) ≤ 2 ^ 14 = pow_mono down in
    let swap : t * 2 ^ n ≡ 2 ^ n * t = omega arith in
    let first : t * 2 ^ n % 4294967296 ≡ 2 ^ n * t = omega arith in
    ap (λ k. (k + r) * 2 ^ q % 4294967296) first ∙ shift-step (2 ^ n * t + r) q all

-- The height at a point, by the first loaded page that has the point.
use Rattle.std.proofs.Common.{◌≡◌, ℕ, zero, suc, ◌+◌, ◌-◌, ◌*◌, ◌/◌, ◌^◌, ◌<◌, ◌≤◌, ◌⊎◌, inl, inr, sym, ◌∙◌, ap}
use Rattle.std.proofs.Common.{subst, arith, ⊎_elim, pow_pos, refl, true, false, ◌&&◌, IsTrue, nat_eq, nat_le, cond}
use Rattle.std.proofs.Common.{Option, Some, None, unwrap_or, length, slice_index}
use Rattle.std.proofs.Math.Nat.{mul-div_cancel_left}
use Rattle.std.proofs.lemmas.Bool.{cases_lt, cases_Bool, and_parts, and_from, leb-true, le-leb, eqb-true, eq-eqb}
use Rattle.std.proofs.lemmas.List.{get_or_past}
use Rattle.std.proofs.lemmas.List.Elements.{All-get_or}
use Rattle.mesh_defs.specs.declared.point.Point.{Point}
use Rattle.mesh_defs.specs.HeightField.{HeightField, IsHeightField, place_of}
use Rattle.mesh_defs.specs.Thickness.{height_of}
use Rattle.bintree_laws.specs.Corners.{IsInSquare}
use Rattle.bintree_laws.proofs.LatticeLemmas.{same_point}
use Rattle.page_laws.specs.Pages.{page_point}
use Rattle.page_laws.specs.Loaded.{AreSamples}
use Rattle.page_wedges.specs.Page.{Page}
use Rattle.page_store.specs.Store.{Store, top_of, cuts_of, page_at, local_point, has_point, height_from, numbered}
use Rattle.page_store.specs.Store.{first_height, first_in, first_down, height_in}
use Rattle.page_store.proofs.PlaceLemmas.{number-less, numbered-is}
use Rattle.page_store.proofs.TableLemmas.{page_at-some}

-- points of a page

local-one : (q m c r : ℕ) → 2 ^ q * (m * c + r) / 2 ^ q - m * c ≡ r
local-one q m c r =
    let e : 2 ^ q * (m * c + r) / 2 ^ q ≡ m * c + r = mul-div_cancel_left (m * c + r) (pow_pos q) in omega arith

-- a point of the page's grid is found again
pub local-page : (n q : ℕ) (t r : Point) → local_point n q t (page_point n q t r) ≡ r
local-page n q t r = same_point (2 ^ q * (2 ^ n * t.x + r.x) / 2 ^ q - 2 ^ n * t.x)
    (2 ^ q * (2 ^ n * t.y + r.y) / 2 ^ q - 2 ^ n * t.y) r.x r.y (local-one q (2 ^ n) t.x r.x)
    (local-one q (2 ^ n) t.y r.y)

-- the test in words
pub record IsPointOf (n q : ℕ) (t p : Point) : Type 0 where
  pub inside : IsInSquare (2 ^ n) (local_point n q t p)
  pub is : page_point n q t (local_point n q t p) ≡ p

module _ (n q : ℕ) (t p : Point) where
  pub point-parts : IsTrue (has_point n q t p) → IsPointOf n q t p
  point-parts h =
      let r : Point = local_point n q t p in
      let a = and_parts (nat_le (local_point n q t p).x (2 ^ n) && nat_le (local_point n q t p).y (2 ^ n))
      (nat_eq (page_point n q t (local_point n q t p)).x p.x && nat_eq (page_point n q t (local_point n q t p)).y p.y)
      h in
      let b = and_parts (nat_le (local_point n q t p).x (2 ^ n)) (nat_le (local_point n q t p).y (2 ^ n)) a.0 in
      let c = and_parts (nat_eq (page_point n q t (local_point n q t p)).x p.x)
      (nat_eq (page_point n q t (local_point n q t p)).y p.y) a.1 in
      record {
        inside = record {
          x = leb-true (local_point n q t p).x (2 ^ n) b.0;
          y = leb-true (local_point n q t p).y (2 ^ n) b.1;
        };
        is = same_point (page_point n q t (local_point n q t p)).x (page_point n q t (local_point n q t p)).y p.x p.y
            (eqb-true (page_point n q t (local_point n q t p)).x p.x c.0)
            (eqb-true (page_point n q t (local_point n q t p)).y p.y c.1);
      }

-- each point of the page's grid has the test
pub point-has : (n q : ℕ) (t r : Point) → IsInSquare (2 ^ n) r → IsTrue (has_point n q t (page_point n q t r))
point-has n q t r inside =
    subst (λ (z : Point). IsTrue ((nat_le z.x (2 ^ n) && nat_le z.y (2 ^ n))
    && (nat_eq (page_point n q t z).x (page_point n q t r).x && nat_eq (page_point n q t z).y (page_point n q t r).y)))
    (sym (local-page n q t r))
    (and_from (nat_le r.x (2 ^ n) && nat_le r.y (2 ^ n))
    (nat_eq (page_point n q t r).x (page_point n q t r).x && nat_eq (page_point n q t r).y (page_point n q t r).y)
    (and_from (nat_le r.x (2 ^ n)) (nat_le r.y (2 ^ n)) (le-leb r.x (2 ^ n) inside.x) (le-leb r.y (2 ^ n) inside.y))
    (and_from (nat_eq (page_point n q t r).x (page_point n q t r).x)
    (nat_eq (page_point n q t r).y (page_point n q t r).y) (eq-eqb (page_point n q t r).x (page_point n q t r).x refl)
    (eq-eqb (page_point n q t r).y (page_point n q t r).y refl)))

-- the search

-- some loaded page has the point p, and this height there
pub record IsHeightAt (s : Store) (p : Point) (h : ℕ) : Type 0 where
  pub q : ℕ
  pub square : Point
  pub page : Page
  pub loaded : page_at s q square ≡ Some page
  pub point : IsTrue (has_point s.n q square p)
  pub is : h ≡ height_of s.n page.field.heights (local_point s.n q square p)

module _ (s : Store) (p : Point) where
  from-cases : (q : ℕ) (t : Point) (o : Option Page) (h : ℕ) → page_at s q t ≡ o →
      height_from s.n q t p o ≡ Some h → IsHeightAt s p h
  from-cases q t None h at found = absurd cc
  from-cases q t (Some page) h at found = ⊎_elim
      (λ (yes : has_point s.n q t p ≡ true).
      let e : Some (height_of s.n page.field.heights (local_point s.n q t p)) ≡ Some h =
      sym (ap (λ b. cond b (Some (height_of s.n page.field.heights (local_point s.n q t p))) None) yes) ∙ found in
      record { q = q; square = t; page = page; loaded = at; point = yes; is = cc })
      (λ (no : has_point s.n q t p ≡ false).
      let e : None ≡ Some h =
      sym (ap (λ b. cond b (Some (height_of s.n page.field.heights (local_point s.n q t p))) None) no) ∙ found in
      absurd cc)
      (cases_Bool (has_point s.n q t p))

  -- where a page has none, the point is none of its
  from-none : (q : ℕ) (t : Point) (page : Page) → height_from s.n q t p (Some page) ≡ None →
      has_point s.n q t p ≡ false
  from-none q t page none = ⊎_elim
      (λ (yes : has_point s.n q t p ≡ true).
      let e : Some (height_of s.n page.field.heights (local_point s.n q t p)) ≡ None =
      sym (ap (λ b. cond b (Some (height_of s.n page.field.heights (local_point s.n q t p))) None) yes) ∙ none in
      absurd cc)
      (λ no. no)
      (cases_Bool (has_point s.n q t p))

  first-some : (a b : Option ℕ) (h : ℕ) → first_height a b ≡ Some h → (a ≡ Some h) ⊎ (b ≡ Some h)
  first-some None b h found = inr found
  first-some (Some g) b h found = inl found

  first-none : (a b : Option ℕ) → first_height a b ≡ None → (a ≡ None) × (b ≡ None)
  first-none None b none = (refl, none)
  first-none (Some g) b none = absurd cc

  in-some : (q i h : ℕ) → first_in s q p i ≡ Some h → IsHeightAt s p h
  in-some q zero h found = absurd cc
  in-some q (suc i) h found = ⊎_elim
      (λ before. in-some q i h before)
      (λ here. from-cases q (numbered (cuts_of s q) i) (page_at s q (numbered (cuts_of s q) i)) h refl here)
      (first-some (first_in s q p i)
      (height_from s.n q (numbered (cuts_of s q) i) p (page_at s q (numbered (cuts_of s q) i))) h found)

  in-none : (q i j : ℕ) → first_in s q p i ≡ None → j < i →
      height_from s.n q (numbered (cuts_of s q) j) p (page_at s q (numbered (cuts_of s q) j)) ≡ None
  in-none q zero j none less = absurd (omega arith)
  in-none q (suc i) j none less =
      let both = first-none (first_in s q p i)
      (height_from s.n q (numbered (cuts_of s q) i) p (page_at s q (numbered (cuts_of s q) i))) none in
      ⊎_elim
      (λ (before : j < i). in-none q i j both.0 before)
      (λ (more : i ≤ j).
      let e : i ≡ j = omega arith in
      subst (λ k. height_from s.n q (numbered (cuts_of s q) k) p (page_at s q (numbered (cuts_of s q) k)) ≡ None) e
      both.1)
      (cases_lt j i)

  down-some : (more h : ℕ) → first_down s p more ≡ Some h → IsHeightAt s p h
  down-some zero h found = absurd cc
  down-some (suc more) h found = ⊎_elim
      (λ before. down-some more h before)
      (λ here. in-some (top_of s - more) (2 ^ (2 * more)) h here)
      (first-some (first_down s p more) (first_in s (top_of s - more) p (2 ^ (2 * more))) h found)

  down-none : (more c : ℕ) → first_down s p more ≡ None → c < more →
      first_in s (top_of s - c) p (2 ^ (2 * c)) ≡ None
  down-none zero c none less = absurd (omega arith)
  down-none (suc more) c none less =
      let both = first-none (first_down s p more) (first_in s (top_of s - more) p (2 ^ (2 * more))) none in
      ⊎_elim
      (λ (before : c < more). down-none more c both.0 before)
      (λ (after : more ≤ c).
      let e : more ≡ c = omega arith in
      subst (λ k. first_in s (top_of s - k) p (2 ^ (2 * k)) ≡ None) e both.1)
      (cases_lt c more)

  -- no loaded page has the point p
  abbrev pub HasNone : Type 0
  HasNone = (q : ℕ) (t : Point) (page : Page) → page_at s q t ≡ Some page → has_point s.n q t p ≡ false

  none-has : first_down s p (suc (top_of s)) ≡ None → HasNone
  none-has none q t page at =
      let square = page_at-some s q t page at in
      let coarse = square.coarse in
      let e : top_of s - cuts_of s q ≡ q = omega arith in
      let here : first_in s q p (2 ^ (2 * cuts_of s q)) ≡ None =
      subst (λ k. first_in s k p (2 ^ (2 * cuts_of s q)) ≡ None) e
      (down-none (suc (top_of s)) (cuts_of s q) none (omega arith)) in
      let at-number = in-none q (2 ^ (2 * cuts_of s q)) (2 ^ cuts_of s q * t.y + t.x) here
      (number-less (cuts_of s q) t square.tile) in
      from-none q t page
      (ap (height_from s.n q t p) (sym at)
      ∙ ap (λ u. height_from s.n q u p (page_at s q u)) (sym (numbered-is (cuts_of s q) t square.tile))
      ∙ at-number)

  -- the height is that of some page, or no page has one
  pub height-cases : IsHeightAt s p (height_in s p) ⊎ ((height_in s p ≡ 0) × HasNone)
  unfolding height_in
  height-cases = split (first_down s p (suc (top_of s))) refl
    where
      split : (o : Option ℕ) → first_down s p (suc (top_of s)) ≡ o →
          IsHeightAt s p (unwrap_or o 0) ⊎ ((unwrap_or o 0 ≡ 0) × HasNone)
      split None e = inr (refl, none-has e)
      split (Some h) e = inl (down-some (suc (top_of s)) h e)

-- what loaded pages agree on

-- any two pages have one height at a point of both
abbrev pub AreAgreed : Store → Type 0
AreAgreed s = (q r : ℕ) (t u : Point) (page other : Page) (p : Point) → page_at s q t ≡ Some page →
    page_at s r u ≡ Some other → IsTrue (has_point s.n q t p) → IsTrue (has_point s.n r u p) →
    height_of s.n page.field.heights (local_point s.n q t p) ≡ height_of s.n other.field.heights (local_point s.n r u p)

-- so each has the height of the terrain at its points
pub agreed-samples : (s : Store) (q : ℕ) (t : Point) (page : Page) → AreAgreed s → page_at s q t ≡ Some page →
    AreSamples s.n q t (height_in s) page.field.heights
agreed-samples s q t page agreed at r inside =
    let has = point-has s.n q t r inside in
    ⊎_elim
    (λ (i : IsHeightAt s (page_point s.n q t r) (height_in s (page_point s.n q t r))).
    ap (height_of s.n page.field.heights) (sym (local-page s.n q t r))
    ∙ agreed q i.q t i.square page i.page (page_point s.n q t r) at i.loaded has i.point
    ∙ sym i.is)
    (λ (none : (height_in s (page_point s.n q t r) ≡ 0) × HasNone s (page_point s.n q t r)).
    let no = none.1 q t page at in absurd cc)
    (height-cases s (page_point s.n q t r))

-- heights are small

pub field-small : (g : HeightField) (n : ℕ) (p : Point) → IsHeightField g → height_of n g.heights p ≤ 65535
field-small g n p f =
    let high = f.maxval_high in
    ⊎_elim
    (λ (less : place_of n p.x p.y < length g.heights).
    let small : slice_index g.heights (place_of n p.x p.y) ≤ g.maxval =
    All-get_or (λ h. h ≤ g.maxval) g.heights (place_of n p.x p.y) 0 less f.bounded in omega arith)
    (λ (more : length g.heights ≤ place_of n p.x p.y).
    let past : slice_index g.heights (place_of n p.x p.y) ≡ 0 =
    get_or_past g.heights (place_of n p.x p.y) 0 more in omega arith)
    (cases_lt (place_of n p.x p.y) (length g.heights))

pub height-small : (s : Store) (p : Point) →
    ((q : ℕ) (t : Point) (page : Page) → page_at s q t ≡ Some page → IsHeightField page.field) →
    height_in s p ≤ 65535
height-small s p fields = ⊎_elim
    (λ (i : IsHeightAt s p (height_in s p)).
    let small = field-small i.page.field s.n (local_point s.n i.q i.square p)
    (fields i.q i.square i.page i.loaded) in
    let is = i.is in omega arith)
    (λ (none : (height_in s p ≡ 0) × HasNone s p). let e = none.0 in omega arith)
    (height-cases s p)

-- Pages that are raised, one after the other.
use Rattle.std.proofs.Common.{◌≡◌, ℕ, ◌+◌, ◌-◌, ◌*◌, ◌/◌, ◌%◌, ◌^◌, ◌<◌, ◌≤◌, ◌⊎◌, inl, inr, sym, ◌∙◌}
use Rattle.std.proofs.Common.{ap, ap₂, subst, arith, refl, ⊎_elim, Bool, true, false, ◌||◌, ◌↔◌, IsTrue, Option, Some, None}
use Rattle.std.proofs.Common.{is_some, option_map, if◌then◌else◌, ℤ, pos, ◌+ℤ◌, List, length, slice_set, slice_index_or}
use Rattle.std.proofs.Common.{get_or}
use Rattle.std.proofs.Common.{◌≤ℤ◌, FitsSigned, w32}
use Rattle.std.proofs.lemmas.Bool.{false≢true, cases_lt}
use Rattle.std.proofs.lemmas.Int.{fits_signed_from_abs, ints}
use Rattle.roam_lanes.specs.Raising.{least_change, greatest_change}
use Rattle.bintree_laws.proofs.LatticeLemmas.{same_point}
use Rattle.std.proofs.lemmas.List.{get_or-map}
use Rattle.std.proofs.lemmas.List.FromFn.{length-enumerate_from, get_or-enumerate_from}
use Rattle.std.proofs.lemmas.Nat.{div-mul-add}
use Rattle.std.proofs.Math.ListN.{length-set}
use Rattle.std.specs.List.{enumerate_from}
use Rattle.std.specs.Option.{IfSome}
use Rattle.mesh_defs.specs.declared.point.Point.{Point}
use Rattle.mesh_defs.specs.HeightField.{HeightField, IsHeightField, side_of, place_of, height_at}
use Rattle.mesh_defs.specs.State.{Area, is_in_area, clamped, raised_at, raised_heights}
use Rattle.mesh_defs.specs.Thickness.{height_of}
use Rattle.bintree_laws.specs.Corners.{IsInSquare}
use Rattle.mosaic_laws.specs.Tile.{IsTile}
use Rattle.page_laws.specs.Pages.{page_point}
use Rattle.page_wedges.specs.Page.{Page, IsAlone}
use Rattle.page_store.specs.Store.{Store, top_of, cuts_of, place, page_at}
use Rattle.page_store.specs.Edit.{HasPointIn, IsRaisedPage, IsRaisedAt, span_from, span_end, IsNear}
use Rattle.page_store.specs.Edit.{side_at, IsSized, IsRaisedWhere}
use Rattle.page_store.proofs.PlaceLemmas.{place-less}
use Rattle.page_store.proofs.TableLemmas.{IsSquare, page_at-square}
use Rattle.page_store.proofs.ChangeLemmas.{same-or-other, set-here, set-others}

-- the height of a point after an area was raised

-- column and row of a place
column-at : (n x y : ℕ) → x ≤ 2 ^ n → place_of n x y % side_of n ≡ x
column-at n x y in_x =
    let side : ℕ = 2 ^ n + 1 in
    let d : ((2 ^ n - y) * side_of n + x) / side_of n ≡ 2 ^ n - y = div-mul-add (2 ^ n - y) (side_of n) x (omega arith) in
    column (2 ^ n - y) (side_of n) x ((2 ^ n - y) * side_of n + x) (omega arith) refl
  where
    column : (k m x p : ℕ) → x < m → p ≡ k * m + x → p % m ≡ x
    column k m x p less is =
        let d : p / m ≡ k = ap (λ z. z / m) is ∙ div-mul-add k m x less in
        let e : p ≡ p / m * m + p % m = omega arith in
        let f : p / m * m ≡ k * m = ap (λ z. z * m) d in
        omega arith

row-at : (n x y : ℕ) → x ≤ 2 ^ n → y ≤ 2 ^ n → 2 ^ n - place_of n x y / side_of n ≡ y
row-at n x y in_x in_y =
    let d : ((2 ^ n - y) * side_of n + x) / side_of n ≡ 2 ^ n - y = div-mul-add (2 ^ n - y) (side_of n) x (omega arith) in
    rw d (omega arith)

place-small : (n x y : ℕ) → x ≤ 2 ^ n → place_of n x y < side_of n * side_of n
place-small n x y in_x = small (2 ^ n) (2 ^ n - y) x (omega arith) in_x
  where
    small : (m k x : ℕ) → k ≤ m → x ≤ m → k * (m + 1) + x < (m + 1) * (m + 1)
    small m k x less in_x = grind arith

pub raised-point : (g : HeightField) (area : Area) (dz : ℤ) (x y : ℕ) → IsHeightField g → x ≤ 2 ^ g.n → y ≤ 2 ^ g.n →
    height_at g.n (raised_heights g area dz) x y
    ≡ (if is_in_area area x y then clamped g.maxval (pos (height_at g.n g.heights x y) +ℤ dz)
    else height_at g.n g.heights x y)
raised-point g area dz x y valid in_x in_y =
    let p : ℕ = place_of g.n x y in
    let less = place-small g.n x y in_x in
    let count = valid.count in
    let many : p < length (enumerate_from 0 g.heights) = omega (arith, length-enumerate_from 0 g.heights) in
    let none : 0 + p ≡ p = omega arith in
    let entry : get_or (enumerate_from 0 g.heights) p (0, 0) ≡ (p, get_or g.heights p 0) =
    get_or-enumerate_from 0 g.heights p (0, 0) (omega arith) ∙ ap (λ i. (i, get_or g.heights p 0)) none in
    get_or-map (raised_at g area dz) (enumerate_from 0 g.heights) p (0, 0) 0 many
    ∙ ap (raised_at g area dz) entry
    ∙ ap₂ (λ i j. if is_in_area area i j then clamped g.maxval (pos (get_or g.heights p 0) +ℤ dz)
    else get_or g.heights p 0) (column-at g.n x y in_x) (row-at g.n x y in_x in_y)

-- so a page whose part in an area was raised is one of which the area was
pub raised-page : (n q : ℕ) (t : Point) (part area : Area) (dz : ℤ) (before after : Page) → before.field.n ≡ n →
    IsHeightField before.field → IsHeightField after.field →
    ((r : Point) → IsInSquare (2 ^ n) r →
    is_in_area part r.x r.y ≡ is_in_area area (page_point n q t r).x (page_point n q t r).y) →
    after.field ≡ record before.field { heights = raised_heights before.field part dz } →
    after.turned ≡ before.turned → (after ≡ before) ⊎ IsAlone after → IsRaisedPage n q t area dz before after
raised-page n q t part area dz before after side valid small same field turned quarters = record {
  side = ap (λ (g : HeightField). g.n) field;
  bound = ap (λ (g : HeightField). g.maxval) field;
  turned = turned;
  field = small;
  heights = λ r inside.
      let x = inside.x in
      let y = inside.y in
      ap (λ (g : HeightField). height_of n g.heights r) field
      ∙ ap (λ m. height_of m (raised_heights before.field part dz) r) (sym side)
      ∙ raised-point before.field part dz r.x r.y valid (subst (λ m. r.x ≤ 2 ^ m) (sym side) x)
      (subst (λ m. r.y ≤ 2 ^ m) (sym side) y)
      ∙ ap₂ (λ (b : Bool) m. if b then clamped before.field.maxval (pos (height_of m before.field.heights r) +ℤ dz)
      else height_of m before.field.heights r) (same r inside) side;
  quarters = quarters;
}

-- tables of one size

loaded-side : (x y : Option Page) → option_map (λ page. page.field.n) y ≡ option_map (λ page. page.field.n) x →
    is_some y ≡ is_some x
loaded-side None None e = refl
loaded-side None (Some new) e = absurd cc
loaded-side (Some page) None e = absurd cc
loaded-side (Some page) (Some new) e = refl

side-raised : (n q : ℕ) (t : Point) (area : Area) (dz : ℤ) (x y : Option Page) → is_some y ≡ is_some x →
    IsRaisedAt n q t area dz x y → option_map (λ page. page.field.n) y ≡ option_map (λ page. page.field.n) x
side-raised n q t area dz None None e raised = refl
side-raised n q t area dz None (Some new) e raised = absurd cc
side-raised n q t area dz (Some page) None e raised = absurd cc
side-raised n q t area dz (Some page) (Some new) e raised = ap Some (raised page new refl refl).side

side-of-page : (o : Option Page) (n : ℕ) (page : Page) → o ≡ Some page → option_map (λ (g : Page). g.field.n) o ≡ Some n →
    page.field.n ≡ n
side-of-page o n page at e =
    let f : Some page.field.n ≡ Some n = ap (option_map (λ (g : Page). g.field.n)) (sym at) ∙ e in cc

-- each square has a place
pub place-sized : (s : Store) (p : ℕ) (t : Point) → IsSized s → p ≤ top_of s → IsTile (2 ^ p) (2 ^ p) t →
    place p t < length s.pages
place-sized s p t i coarse tile =
    let e = i.places in
    let less = place-less p (top_of s + 1) t tile (omega arith) in
    omega arith

module _ {a b : Store} {area : Area} {dz : ℤ} {due : ℕ → Point → Type 0} {f : Bool}
    (r : IsRaisedWhere a b area dz due f) where
  -- the same pages are loaded
  pub raised-loaded : (q : ℕ) (t : Point) → is_some (page_at b q t) ≡ is_some (page_at a q t)
  raised-loaded q t = loaded-side (page_at a q t) (page_at b q t) (r.sides q t)

  -- and they are of one side
  pub raised-sized : IsSized a → IsSized b
  raised-sized i =
      let large = r.large in
      let n = r.n in
      let some = i.some in
      let fits = i.fits in
      let small = i.small in
      record {
        some = omega arith;
        fits = omega arith;
        small = omega arith;
        places = r.places ∙ i.places ∙ ap₂ (λ l m. 2 ^ (2 * (l - m + 1)) / 3) (sym large) (sym n);
        sides = λ q t page at. was (page_at a q t) page (i.sides q t)
            (ap (option_map (λ (g : Page). g.field.n)) (sym at) ∙ r.sides q t) ∙ sym n;
      }
    where
      was : (o : Option Page) (page : Page) → ((old : Page) → o ≡ Some old → old.field.n ≡ a.n) →
          Some page.field.n ≡ option_map (λ (g : Page). g.field.n) o → page.field.n ≡ a.n
      was None page sides e = absurd cc
      was (Some old) page sides e = let g : page.field.n ≡ old.field.n = cc in g ∙ sides old refl

  -- by the same pages in other words
  pub raised-due : (other : ℕ → Point → Type 0) → ((q : ℕ) (t : Point) → other q t → due q t) →
      ((q : ℕ) (t : Point) → due q t → other q t) → IsRaisedWhere a b area dz other f
  raised-due other back forth = record {
    large = r.large;
    n = r.n;
    places = r.places;
    sides = r.sides;
    there = λ q t is. r.there q t (back q t is);
    others = λ q t not. r.others q t (λ is. not (forth q t is));
    some = r.some;
    none = λ off q t is. r.none off q t (back q t is);
    same = r.same;
  }

-- no page is due
pub raised-none : (s : Store) (area : Area) (dz : ℤ) (due : ℕ → Point → Type 0) →
    ((q : ℕ) (t : Point) → due q t → ⊥) → IsRaisedWhere s s area dz due false
raised-none s area dz due empty = record {
  large = refl;
  n = refl;
  places = refl;
  sides = λ q t. refl;
  there = λ q t is. absurd (empty q t is);
  others = λ q t not. refl;
  some = λ on. absurd (false≢true on);
  none = λ off q t is loaded point. empty q t is;
  same = λ off. refl;
}

-- a test that is one of two
or-cases : (f g : Bool) → IsTrue (f || g) → IsTrue f ⊎ IsTrue g
or-cases true g on = inl refl
or-cases false g on = inr on

or-first : (f g : Bool) → f || g ≡ false → f ≡ false
or-first true g off = off
or-first false g off = refl

or-second : (f g : Bool) → f || g ≡ false → g ≡ false
or-second true g off = absurd (false≢true (sym off))
or-second false g off = off

-- some pages first, and then others
module _ {a b c : Store} {area : Area} {dz : ℤ} {one two : ℕ → Point → Type 0} (both : ℕ → Point → Type 0) {f g : Bool}
    (first : IsRaisedWhere a b area dz one f) (second : IsRaisedWhere b c area dz two g)
    (apart : (q : ℕ) (t : Point) → one q t → two q t → ⊥)
    (parts : (q : ℕ) (t : Point) → both q t → one q t ⊎ two q t)
    (left : (q : ℕ) (t : Point) → one q t → both q t) (right : (q : ℕ) (t : Point) → two q t → both q t) where
  there-then : (q : ℕ) (t : Point) → both q t → IsRaisedAt a.n q t area dz (page_at a q t) (page_at c q t)
  there-then q t is = ⊎_elim
      (λ (i : one q t). subst (λ o. IsRaisedAt a.n q t area dz (page_at a q t) o)
      (sym (second.others q t (λ j. apart q t i j))) (first.there q t i))
      (λ (j : two q t). subst (λ o. IsRaisedAt a.n q t area dz o (page_at c q t))
      (first.others q t (λ i. apart q t i j))
      (subst (λ n. IsRaisedAt n q t area dz (page_at b q t) (page_at c q t)) first.n (second.there q t j)))
      (parts q t is)

  was-loaded : (q : ℕ) (t : Point) → IsTrue (is_some (page_at b q t)) → IsTrue (is_some (page_at a q t))
  was-loaded q t loaded = sym (raised-loaded first q t) ∙ loaded

  is-loaded : (q : ℕ) (t : Point) → IsTrue (is_some (page_at a q t)) → IsTrue (is_some (page_at b q t))
  is-loaded q t loaded = raised-loaded first q t ∙ loaded

  pub raised-then : {h : Bool} → h ≡ f || g → IsRaisedWhere a c area dz both h
  raised-then is = record {
    large = second.large ∙ first.large;
    n = second.n ∙ first.n;
    places = second.places ∙ first.places;
    sides = λ q t. second.sides q t ∙ first.sides q t;
    there = there-then;
    others = λ q t not. second.others q t (λ j. not (right q t j)) ∙ first.others q t (λ i. not (left q t i));
    some = λ on. ⊎_elim
        (λ (i : IsTrue f). first.some i)
        (λ (j : IsTrue g).
        let z = second.some j in (z.0, z.1, was-loaded z.0 z.1 z.2, subst (λ n. HasPointIn n z.0 z.1 area) first.n z.3))
        (or-cases f g (sym is ∙ on));
    none = λ off q t due loaded point. ⊎_elim
        (λ (i : one q t). first.none (or-first f g (sym is ∙ off)) q t i loaded point)
        (λ (j : two q t). second.none (or-second f g (sym is ∙ off)) q t j (is-loaded q t loaded)
        (subst (λ n. HasPointIn n q t area) (sym first.n) point))
        (parts q t due);
    same = λ off. second.same (or-second f g (sym is ∙ off)) ∙ first.same (or-first f g (sym is ∙ off));
  }

-- one page

module _ (s : Store) (i : IsSized s) (q : ℕ) (t : Point) (area : Area) (dz : ℤ) (square : IsSquare s q t)
    (o : Option Page) where
  abbrev put : Store
  put = record s { pages = slice_set s.pages (place (cuts_of s q) t) o }

  abbrev old : Option Page
  old = slice_index_or s.pages (place (cuts_of s q) t) None

  was : page_at s q t ≡ old
  was = page_at-square s q t square

  here : page_at put q t ≡ o
  here =
      let coarse = square.coarse in
      set-here s.large s.n s.pages q t o square (place-sized s (cuts_of s q) t i (omega arith) square.tile)

  elsewhere : (r : ℕ) (u : Point) → (r ≡ q → u ≡ t → ⊥) → page_at put r u ≡ page_at s r u
  elsewhere = set-others s.large s.n s.pages q t o square

  pub raised-one : (found : Bool) → is_some o ≡ is_some old → IsRaisedAt s.n q t area dz old o →
      (IsTrue found → IsTrue (is_some old) × HasPointIn s.n q t area) →
      (IsTrue (is_some old) × HasPointIn s.n q t area → IsTrue found) →
      (found ≡ false → slice_set s.pages (place (cuts_of s q) t) o ≡ s.pages) →
      IsRaisedWhere s put area dz (λ r u. (r ≡ q) × (u ≡ t)) found
  raised-one found loaded raised gives from same = record {
    large = refl;
    n = refl;
    places = length-set s.pages (place (cuts_of s q) t) o;
    sides = λ r u. ⊎_elim
        (λ (is : (r ≡ q) × (u ≡ t)).
        ap₂ (λ j v. side_at put j v) is.0 is.1
        ∙ ap (option_map (λ (g : Page). g.field.n)) here
        ∙ side-raised s.n q t area dz old o loaded raised
        ∙ ap (option_map (λ (g : Page). g.field.n)) (sym was)
        ∙ sym (ap₂ (λ j v. side_at s j v) is.0 is.1))
        (λ (other : r ≡ q → u ≡ t → ⊥). ap (option_map (λ (g : Page). g.field.n)) (elsewhere r u other))
        (same-or-other q r t u);
    there = λ r u is.
        subst (λ j. IsRaisedAt s.n j u area dz (page_at s j u) (page_at put j u)) (sym is.0)
        (subst (λ v. IsRaisedAt s.n q v area dz (page_at s q v) (page_at put q v)) (sym is.1)
        (subst (λ x. IsRaisedAt s.n q t area dz x (page_at put q t)) (sym was)
        (subst (λ x. IsRaisedAt s.n q t area dz old x) (sym here) raised)));
    others = λ r u not. elsewhere r u (λ e f. not (e, f));
    some = λ on. (q, t, ap is_some was ∙ (gives on).0, (gives on).1);
    none = λ off r u is there point.
        let at : IsTrue (is_some (page_at s q t)) = subst (λ v. IsTrue (is_some (page_at s q v))) is.1
        (subst (λ j. IsTrue (is_some (page_at s j u))) is.0 there) in
        let has : HasPointIn s.n q t area =
        subst (λ v. HasPointIn s.n q v area) is.1 (subst (λ j. HasPointIn s.n j u area) is.0 point) in
        false≢true (sym off ∙ from (sym (ap is_some was) ∙ at, has));
    same = λ off. ap (λ xs. record s { pages = xs }) (same off);
  }

-- as the code writes it
pub sized-slot : (o : Option Page) (n : ℕ) → ((page : Page) → o ≡ Some page → page.field.n ≡ n) →
    IfSome o (λ page. page.field.n ≡ n)
sized-slot None n sides = tt
sized-slot (Some page) n sides = sides page refl

module _ (s : Store) (i : IsSized s) (cuts q : ℕ) (t : Point) (at : ℕ) (coarse : s.n + q ≤ s.large)
    (depth : cuts ≡ s.large - s.n - q) (tile : IsTile (2 ^ cuts) (2 ^ cuts) t) (there : at ≡ place cuts t) where
  same-cuts : cuts ≡ cuts_of s q
  same-cuts = omega arith

  square-of : IsSquare s q t
  square-of = record { coarse = coarse; tile = subst (λ k. IsTile (2 ^ k) (2 ^ k) t) same-cuts tile }

  same-place : at ≡ place (cuts_of s q) t
  same-place = there ∙ ap (λ k. place k t) same-cuts

  pub slot-less : at < length s.pages
  slot-less = let less = place-sized s (cuts_of s q) t i (omega arith) square-of.tile in
      let e = same-place in omega arith

  pub slot-side : IfSome (slice_index_or s.pages at None) (λ page. page.field.n ≡ s.n)
  slot-side = sized-slot (slice_index_or s.pages at None) s.n (λ page is.
      i.sides q t page (page_at-square s q t square-of ∙ ap (λ k. slice_index_or s.pages k None) (sym same-place) ∙ is))

  pub raised-square : (area : Area) (dz : ℤ) (ys : List (Option Page)) (found : Bool) →
      ys ≡ slice_set s.pages at (slice_index_or ys at None) →
      is_some (slice_index_or ys at None) ≡ is_some (slice_index_or s.pages at None) →
      IsRaisedAt s.n q t area dz (slice_index_or s.pages at None) (slice_index_or ys at None) →
      (IsTrue found ↔ IsTrue (is_some (slice_index_or s.pages at None)) × HasPointIn s.n q t area) →
      (found ≡ false → ys ≡ s.pages) →
      IsRaisedWhere s (record s { pages = ys }) area dz (λ r u. (r ≡ q) × (u ≡ t)) found
  raised-square area dz ys found = subst (λ k. ys ≡ slice_set s.pages k (slice_index_or ys k None) →
      is_some (slice_index_or ys k None) ≡ is_some (slice_index_or s.pages k None) →
      IsRaisedAt s.n q t area dz (slice_index_or s.pages k None) (slice_index_or ys k None) →
      (IsTrue found ↔ IsTrue (is_some (slice_index_or s.pages k None)) × HasPointIn s.n q t area) →
      (found ≡ false → ys ≡ s.pages) →
      IsRaisedWhere s (record s { pages = ys }) area dz (λ r u. (r ≡ q) × (u ≡ t)) found) (sym same-place)
      (λ written loaded raised is none.
      subst (λ (zs : List (Option Page)). IsRaisedWhere s (record s { pages = zs }) area dz
      (λ r u. (r ≡ q) × (u ≡ t)) found) (sym written)
      (raised-one s i q t area dz square-of (slice_index_or ys (place (cuts_of s q) t) None) found loaded raised is.0 is.1
      (λ off. sym written ∙ none off)))

-- a square more of a row
pub row-step : {a b c : Store} {area : Area} {dz : ℤ} {q y low end x : ℕ} {f g h : Bool} →
    IsRaisedWhere a b area dz (λ r t. (r ≡ q) × (t.y ≡ y) × (low ≤ t.x) × (t.x < end) × (t.x < x)) f →
    IsRaisedWhere b c area dz (λ r t. (r ≡ q) × (t ≡ record { x = x; y = y })) g → low ≤ x → x < end → h ≡ f || g →
    IsRaisedWhere a c area dz (λ r t. (r ≡ q) × (t.y ≡ y) × (low ≤ t.x) × (t.x < end) × (t.x < x + 1)) h
row-step {q = q} {y} {low} {end} {x} first second from to is =
    raised-then (λ r t. (r ≡ q) × (t.y ≡ y) × (low ≤ t.x) × (t.x < end) × (t.x < x + 1)) first second
    (λ r t i j. let e : t.x ≡ x = ap (λ (p : Point). p.x) j.1 in omega (arith, i.4))
    (λ r t i. ⊎_elim
    (λ (less : t.x < x). inl (i.0, i.1, i.2, i.3, less))
    (λ (more : x ≤ t.x). inr (i.0, same_point t.x t.y x y (omega (arith, i.4)) i.1))
    (cases_lt t.x x))
    (λ r t i. (i.0, i.1, i.2, i.3, omega (arith, i.4)))
    (λ r t j. let e : t.x ≡ x = ap (λ (p : Point). p.x) j.1 in
    (j.0, ap (λ (p : Point). p.y) j.1, omega arith, omega arith, omega arith))
    is

-- a row more of a resolution
pub level-step : {a b c : Store} {area : Area} {dz : ℤ} {q cuts y : ℕ} {f g h : Bool} → cuts ≡ cuts_of a q →
    IsRaisedWhere a b area dz (λ r t. (r ≡ q) × IsNear a area r t × (t.y < y)) f →
    IsRaisedWhere b c area dz (λ r t. (r ≡ q) × (t.y ≡ y) × (span_from (a.n + q) area.x0 ≤ t.x)
    × (t.x < span_end (a.n + q) cuts area.x1)) g → span_from (a.n + q) area.y0 ≤ y →
    y < span_end (a.n + q) cuts area.y1 → h ≡ f || g →
    IsRaisedWhere a c area dz (λ r t. (r ≡ q) × IsNear a area r t × (t.y < y + 1)) h
level-step {a} {area = area} {q = q} {cuts} {y} depth first second from to is =
    raised-then (λ r t. (r ≡ q) × IsNear a area r t × (t.y < y + 1)) first second
    (λ r t i j. omega (arith, i.2, j.1))
    (λ r t i. ⊎_elim
    (λ (less : t.y < y). inl (i.0, i.1, less))
    (λ (more : y ≤ t.y).
    let near : IsNear a area q t = subst (λ k. IsNear a area k t) i.0 i.1 in
    inr (
      i.0,
      omega (arith, i.2),
      near.left,
      subst (λ k. t.x < span_end (a.n + q) k area.x1) (sym depth) near.right,
    ))
    (cases_lt t.y y))
    (λ r t i. (i.0, i.1, omega (arith, i.2)))
    (λ r t j. (
      j.0,
      subst (λ k. IsNear a area k t) (sym j.0) (record {
        left = j.2;
        right = subst (λ k. t.x < span_end (a.n + q) k area.x1) depth j.3;
        bottom = subst (λ k. span_from (a.n + q) area.y0 ≤ k) (sym j.1) from;
        top = subst (λ k. k < span_end (a.n + q) (cuts_of a q) area.y1) (sym j.1)
            (subst (λ k. y < span_end (a.n + q) k area.y1) depth to);
      }),
      omega (arith, j.1),
    ))
    is

pub near-end : (s : Store) (area : Area) (q r cuts end : ℕ) (t : Point) → cuts ≡ cuts_of s q →
    end ≡ span_end (s.n + q) cuts area.y1 → r ≡ q → IsNear s area r t → t.y < end
near-end s area q r cuts end t depth is same near = subst (λ k. t.y < k) (sym is)
    (subst (λ k. t.y < span_end (s.n + q) k area.y1) (sym depth) (subst (λ k. IsNear s area k t) same near).top)

-- a resolution more
pub near-same : (a b : Store) (area : Area) (q : ℕ) (t : Point) → b.large ≡ a.large → b.n ≡ a.n → IsNear b area q t →
    IsNear a area q t
near-same a b area q t large n near = record {
  left = subst (λ m. span_from (m + q) area.x0 ≤ t.x) n near.left;
  right = subst (λ l. t.x < span_end (a.n + q) (l - (a.n + q)) area.x1) large
      (subst (λ m. t.x < span_end (m + q) (b.large - (m + q)) area.x1) n near.right);
  bottom = subst (λ m. span_from (m + q) area.y0 ≤ t.y) n near.bottom;
  top = subst (λ l. t.y < span_end (a.n + q) (l - (a.n + q)) area.y1) large
      (subst (λ m. t.y < span_end (m + q) (b.large - (m + q)) area.y1) n near.top);
}

pub pages-step : {a b c : Store} {area : Area} {dz : ℤ} {q : ℕ} {f g h : Bool} →
    IsRaisedWhere a b area dz (λ r t. (r < q) × IsNear a area r t) f →
    IsRaisedWhere b c area dz (λ r t. (r ≡ q) × IsNear b area r t) g → h ≡ f || g →
    IsRaisedWhere a c area dz (λ r t. (r < q + 1) × IsNear a area r t) h
pages-step {a} {b} {area = area} {q = q} first second is =
    raised-then (λ r t. (r < q + 1) × IsNear a area r t) first second
    (λ r t i j. omega (arith, i.0, j.0))
    (λ r t i. ⊎_elim
    (λ (less : r < q). inl (less, i.1))
    (λ (more : q ≤ r). inr (omega (arith, i.0), near-same b a area r t (sym first.large) (sym first.n) i.1))
    (cases_lt r q))
    (λ r t i. (omega (arith, i.0), i.1))
    (λ r t j. (omega (arith, j.0), near-same a b area r t first.large first.n j.1))
    is

-- what the tests of a loop say
pub found-then : (h f g : Bool) → h ≡ true → g ≡ true → h ≡ f || g
found-then h true g is on = is
found-then h false g is on = is ∙ sym on

pub found-else : (h f g : Bool) → h ≡ f → g ≡ false → h ≡ f || g
found-else h true g is off = is
found-else h false g is off = is ∙ sym off

-- a change of heights fits 32 bits
pub small-change : (z : ℤ) → least_change ≤ℤ z → z ≤ℤ greatest_change → FitsSigned w32 z
small-change z low high = fits_signed_from_abs w32 z (omega (arith, ints))

-- A terrain whose pages are raised: what they agree on, and which wedges stay.
use Rattle.std.proofs.Common.{◌≡◌, ℕ, zero, suc, ◌+◌, ◌-◌, ◌*◌, ◌/◌, ◌^◌, ◌<◌, ◌≤◌, ◌⊎◌, inl, inr, sym, ◌∙◌, ap, ap₂}
use Rattle.std.proofs.Common.{subst, arith, refl, ⊎_elim, Bool, true, false, IsTrue, Some, is_some}
use Rattle.std.proofs.Common.{option_map, unwrap_or, if◌then◌else◌, ℤ, pos, negsuc, ◌+ℤ◌, min, pow_pos, ◌↔◌}
use Rattle.std.proofs.Math.Nat.{le-div_iff_mul-le, div-lt_iff_lt-mul}
use Rattle.std.proofs.lemmas.Bool.{cases_lt, cases_Bool, both_ways}
use Rattle.std.proofs.lemmas.Int.{ints}
use Rattle.mesh_defs.specs.declared.point.Point.{Point}
use Rattle.mesh_defs.specs.declared.point.Corners.{Corners}
use Rattle.mesh_defs.specs.HeightField.{HeightField, IsHeightField}
use Rattle.mesh_defs.specs.State.{Area, is_in_area, clamped}
use Rattle.mesh_defs.specs.Thickness.{height_of}
use Rattle.mesh_defs.specs.Triangle.{corners_of, IsAddress}
use Rattle.bintree_laws.specs.Areas.{overlaps}
use Rattle.bintree_laws.proofs.AreaLemmas.{IsBetweenEnds, read-area, made-area, read-overlaps}
use Rattle.bintree_laws.proofs.LatticeLemmas.{same_point}
use Rattle.bintree_laws.proofs.CornerLemmas.{IsWithin-corners_of}
use Rattle.bintree_laws.proofs.LevelLemmas.{level_of-first}
use Rattle.mesh_laws.proofs.DescentLemmas.{IsAddress-level}
use Rattle.mosaic_laws.specs.Tile.{IsTile, in_tile}
use Rattle.mosaic_laws.proofs.AddressLemmas.{in_tile-big}
use Rattle.page_laws.specs.Pages.{Pages, is_known, page_point, page_area, is_turned, IsPyramid, IsLoadedPoint}
use Rattle.page_laws.specs.Loaded.{known_wedge}
use Rattle.page_laws.proofs.AreaLemmas.{point-within}
use Rattle.page_laws.proofs.ClearLemmas.{wedge-clear}
use Rattle.page_laws.proofs.PointLemmas.{page-corners}
use Rattle.page_wedges.specs.Page.{Page, IsAlone}
use Rattle.page_store.specs.Store.{Store, top_of, cuts_of, page_at, pages_of, maxval_of, has_point, local_point}
use Rattle.page_store.specs.Store.{grid_at, height_in, known_in, AreJoined, IsTable, IsStore}
use Rattle.page_store.specs.Edit.{raised_in, HasLoadedPoint, HasPointIn, IsRaisedPage, span_from, span_end}
use Rattle.page_store.specs.Edit.{IsNear, IsSized, IsRaisedWhere, AreJoinedBut, IsRaisedTerrain}
use Rattle.page_store.specs.Change.{AreSameGrids}
use Rattle.page_store.proofs.ChangeLemmas.{same-terrain}
use Rattle.page_store.proofs.TableLemmas.{IsSquare, page_at-some, loaded-page, page-loaded}
use Rattle.page_store.proofs.HeightLemmas.{IsHeightAt, HasNone, AreAgreed, point-parts, agreed-samples, height-cases}
use Rattle.page_store.proofs.HeightLemmas.{height-small}
use Rattle.page_store.proofs.PutLemmas.{height-at, loaded-has}
use Rattle.page_store.proofs.AloneLemmas.{quarter-alone}
use Rattle.page_store.proofs.EditLemmas.{raised-loaded, near-same}

-- squares that do not meet the area

-- one coordinate of a square of side 2 ^ m and the ends of the area
abbrev IsNearAt : ℕ → ℕ → ℕ → ℕ → ℕ → Type 0
IsNearAt m cuts low high c = (span_from m low ≤ c) × (c < span_end m cuts high)

near-or-far : (m cuts low high c : ℕ) → c < 2 ^ cuts → IsNearAt m cuts low high c
    ⊎ ((IsNearAt m cuts low high c → ⊥) × ((2 ^ m * (c + 1) < low) ⊎ (high < 2 ^ m * c)))
near-or-far m cuts low high c less = ⊎_elim
    (λ (before : c < (low - 1) / 2 ^ m).
    let e = (le-div_iff_mul-le {k = 2 ^ m} {x = c + 1} {y = low - 1} (pow_pos m)).0 (omega arith) in
    let swap : 2 ^ m * (c + 1) ≡ (c + 1) * 2 ^ m = omega arith in
    let some = pow_pos m in
    let big : 2 ^ m ≤ (c + 1) * 2 ^ m = omega arith in
    inr ((λ near. omega (arith, near.0)), inl (omega arith)))
    (λ (from : (low - 1) / 2 ^ m ≤ c). ⊎_elim
    (λ (to : c < min (high / 2 ^ m) (2 ^ cuts - 1) + 1). inl (from, to))
    (λ (after : min (high / 2 ^ m) (2 ^ cuts - 1) + 1 ≤ c).
    let e = (div-lt_iff_lt-mul {k = 2 ^ m} {x = high} {y = c} (pow_pos m)).0 (omega arith) in
    let swap : 2 ^ m * c ≡ c * 2 ^ m = omega arith in
    inr ((λ near. omega (arith, near.1)), inr (omega arith)))
    (cases_lt c (min (high / 2 ^ m) (2 ^ cuts - 1) + 1)))
    (cases_lt c ((low - 1) / 2 ^ m))

-- the square lies beside the area
pub record IsFar (w : Pages) (area : Area) (q : ℕ) (t : Point) : Type 0 where
  pub apart : (p : Point) → IsBetweenEnds (page_area w q t) p.x p.y → is_in_area area p.x p.y ≡ true → ⊥
  pub clear : (c : Corners) → IsBetweenEnds (page_area w q t) c.apex.x c.apex.y →
      IsBetweenEnds (page_area w q t) c.v0.x c.v0.y → IsBetweenEnds (page_area w q t) c.v1.x c.v1.y →
      overlaps c area ≡ true → ⊥

module _ (w : Pages) (area : Area) (q : ℕ) (t : Point) where
  far-columns : (2 ^ (w.n + q) * (t.x + 1) < area.x0) ⊎ (area.x1 < 2 ^ (w.n + q) * t.x) → IsFar w area q t
  far-columns (inl left) = record {
    apart = λ p i there. let r = read-area area p.x p.y there in let a = i.right in let b = r.left in omega arith;
    clear = λ c i j k over. let r = read-overlaps c area over in
        let x = i.right in let y = j.right in let z = k.right in let b = r.right in omega arith;
  }
  far-columns (inr right) = record {
    apart = λ p i there. let r = read-area area p.x p.y there in let a = i.left in let b = r.right in omega arith;
    clear = λ c i j k over. let r = read-overlaps c area over in
        let x = i.left in let y = j.left in let z = k.left in let b = r.left in omega arith;
  }

  far-rows : (2 ^ (w.n + q) * (t.y + 1) < area.y0) ⊎ (area.y1 < 2 ^ (w.n + q) * t.y) → IsFar w area q t
  far-rows (inl below) = record {
    apart = λ p i there. let r = read-area area p.x p.y there in let a = i.top in let b = r.bottom in omega arith;
    clear = λ c i j k over. let r = read-overlaps c area over in
        let x = i.top in let y = j.top in let z = k.top in let b = r.top in omega arith;
  }
  far-rows (inr above) = record {
    apart = λ p i there. let r = read-area area p.x p.y there in let a = i.bottom in let b = r.top in omega arith;
    clear = λ c i j k over. let r = read-overlaps c area over in
        let x = i.bottom in let y = j.bottom in let z = k.bottom in let b = r.bottom in omega arith;
  }

pub near-cases : (s : Store) (area : Area) (q : ℕ) (t : Point) → IsSquare s q t →
    IsNear s area q t ⊎ ((IsNear s area q t → ⊥) × IsFar (pages_of s) area q t)
near-cases s area q t square = ⊎_elim
    (λ (x : IsNearAt (s.n + q) (cuts_of s q) area.x0 area.x1 t.x). ⊎_elim
    (λ (y : IsNearAt (s.n + q) (cuts_of s q) area.y0 area.y1 t.y).
    inl (record { left = x.0; right = x.1; bottom = y.0; top = y.1 }))
    (λ far. inr ((λ near. far.0 (near.bottom, near.top)), far-rows (pages_of s) area q t far.1))
    (near-or-far (s.n + q) (cuts_of s q) area.y0 area.y1 t.y square.tile.row))
    (λ far. inr ((λ near. far.0 (near.left, near.right)), far-columns (pages_of s) area q t far.1))
    (near-or-far (s.n + q) (cuts_of s q) area.x0 area.x1 t.x square.tile.column)

-- a page there has no point in the area
far-point : (w : Pages) (area : Area) (q : ℕ) (t : Point) → IsFar w area q t → HasPointIn w.n q t area → ⊥
far-point w area q t far has = far.apart (page_point w.n q t has.point)
    (point-within w q t (page_point w.n q t has.point) (has.point, has.inside, refl)) has.there

-- and its quarters do not meet it
far-quarter : (s : Store) (area : Area) (q k : ℕ) (t : Point) → 1 ≤ s.n → IsSquare s q t → k < 4 →
    IsFar (pages_of s) area q t → overlaps (corners_of s.large (in_tile (cuts_of s q) t (4 + k))) area ≡ false
far-quarter s area q k t some square small far = ⊎_elim
    (λ (over : overlaps (corners_of s.large (in_tile (cuts_of s q) t (4 + k))) area ≡ true).
    let coarse = square.coarse in
    let e : s.n + q + cuts_of s q ≡ s.large = omega arith in
    let one = level_of-first (4 + k) (omega arith) (omega arith) in
    let address : IsAddress s.n (4 + k) = IsAddress-level s.n (4 + k) (omega arith) (omega arith) in
    let c = corners_of s.n (4 + k) in
    let in-c = IsWithin-corners_of s.n (4 + k) in
    let at = page-corners s.n q (cuts_of s q) (4 + k) t square.tile (omega arith) address in
    absurd (far.clear (corners_of s.large (in_tile (cuts_of s q) t (4 + k)))
    (subst (λ (d : Corners). IsBetweenEnds (page_area (pages_of s) q t) d.apex.x d.apex.y)
    (sym at ∙ ap (λ m. corners_of m (in_tile (cuts_of s q) t (4 + k))) e)
    (point-within (pages_of s) q t _ ((corners_of s.n (4 + k)).apex, record { x = in-c.apex_x; y = in-c.apex_y }, refl)))
    (subst (λ (d : Corners). IsBetweenEnds (page_area (pages_of s) q t) d.v0.x d.v0.y)
    (sym at ∙ ap (λ m. corners_of m (in_tile (cuts_of s q) t (4 + k))) e)
    (point-within (pages_of s) q t _ ((corners_of s.n (4 + k)).v0, record { x = in-c.v0_x; y = in-c.v0_y }, refl)))
    (subst (λ (d : Corners). IsBetweenEnds (page_area (pages_of s) q t) d.v1.x d.v1.y)
    (sym at ∙ ap (λ m. corners_of m (in_tile (cuts_of s q) t (4 + k))) e)
    (point-within (pages_of s) q t _ ((corners_of s.n (4 + k)).v1, record { x = in-c.v1_x; y = in-c.v1_y }, refl)))
    over))
    (λ not. not)
    (cases_Bool (overlaps (corners_of s.large (in_tile (cuts_of s q) t (4 + k))) area))

-- all pages are raised

raised-out : (maxval : ℕ) (area : Area) (dz : ℤ) (p : Point) (h : ℕ) → is_in_area area p.x p.y ≡ false →
    raised_in maxval area dz p h ≡ h
raised-out maxval area dz p h out = ap (λ (b : Bool). if b then clamped maxval (pos h +ℤ dz) else h) out

module _ {a b : Store} (i : IsStore a) {area : Area} {dz : ℤ} {found : Bool}
    (r : IsRaisedWhere a b area dz (λ q t. (q ≤ top_of a) × IsNear a area q t) found) where
  -- what a page of the terrain was before
  pub record IsRaisedFrom (q : ℕ) (t : Point) (page : Page) : Type 0 where
    pub old : Page
    pub at : page_at a q t ≡ Some old
    pub raised : IsRaisedPage a.n q t area dz old page
    pub near : (page ≡ old) ⊎ IsNear a area q t

  loaded : (q : ℕ) (t : Point) → is_some (page_at b q t) ≡ is_some (page_at a q t)
  loaded = raised-loaded r

  unchanged : (q : ℕ) (t : Point) (page : Page) → page_at a q t ≡ Some page → IsFar (pages_of a) area q t →
      IsRaisedPage a.n q t area dz page page
  unchanged q t page at far =
      let p = i.table.placed q t page at in
      record {
        side = refl;
        bound = refl;
        turned = refl;
        field = p.field;
        heights = λ v inside. ⊎_elim
            (λ (there : is_in_area area (page_point a.n q t v).x (page_point a.n q t v).y ≡ true).
            absurd (far-point (pages_of a) area q t far record { point = v; inside = inside; there = there }))
            (λ out. sym (raised-out page.field.maxval area dz (page_point a.n q t v)
            (height_of a.n page.field.heights v) out))
            (cases_Bool (is_in_area area (page_point a.n q t v).x (page_point a.n q t v).y));
        quarters = inl refl;
      }

  pub raised-from : (q : ℕ) (t : Point) (page : Page) → page_at b q t ≡ Some page → IsRaisedFrom q t page
  raised-from q t page at =
      let old = loaded-page a q t (sym (loaded q t) ∙ page-loaded b q t page at) in
      let square = page_at-some a q t old.0 old.1 in
      let coarse = square.coarse in
      ⊎_elim
      (λ (near : IsNear a area q t). record {
        old = old.0;
        at = old.1;
        raised = r.there q t (omega arith, near) old.0 page old.1 at;
        near = inr near;
      })
      (λ (far : (IsNear a area q t → ⊥) × IsFar (pages_of a) area q t).
      let same = r.others q t (λ due. far.0 due.1) in
      let e : Some old.0 ≡ Some page = sym old.1 ∙ sym same ∙ at in
      let f : old.0 ≡ page = cc in
      record {
        old = old.0;
        at = old.1;
        raised = subst (IsRaisedPage a.n q t area dz old.0) f (unchanged q t old.0 old.1 far.1);
        near = inl (sym f);
      })
      (near-cases a area q t square)

  -- heights

  samples : (q : ℕ) (t : Point) (page : Page) → page_at a q t ≡ Some page → (p : Point) →
      IsTrue (has_point a.n q t p) → height_of a.n page.field.heights (local_point a.n q t p) ≡ height_in a p
  samples q t page at p has = height-at a q t p page (i.table.placed q t page at).heights has

  -- the height of a page at one of its points
  raised-height : (q : ℕ) (t : Point) (page : Page) → page_at b q t ≡ Some page → (p : Point) →
      IsTrue (has_point a.n q t p) → height_of a.n page.field.heights (local_point a.n q t p)
      ≡ raised_in (maxval_of a) area dz p (height_in a p)
  raised-height q t page at p has =
      let from = raised-from q t page at in
      let point = point-parts a.n q t p has in
      from.raised.heights (local_point a.n q t p) point.inside
      ∙ ap (λ m. raised_in m area dz (page_point a.n q t (local_point a.n q t p))
      (height_of a.n from.old.field.heights (local_point a.n q t p))) (i.table.placed q t from.old from.at).bound
      ∙ ap₂ (raised_in (maxval_of a) area dz) point.is (samples q t from.old from.at p has)

  at-n : (q : ℕ) (t : Point) (page : Page) → page_at b q t ≡ Some page → (p : Point) → IsTrue (has_point b.n q t p) →
      height_of b.n page.field.heights (local_point b.n q t p) ≡ raised_in (maxval_of a) area dz p (height_in a p)
  at-n q t page at p = subst (λ m. IsTrue (has_point m q t p) →
      height_of m page.field.heights (local_point m q t p) ≡ raised_in (maxval_of a) area dz p (height_in a p)) (sym r.n)
      (raised-height q t page at p)

  agreed : AreAgreed b
  agreed q u t v page other p at there has has' = at-n q t page at p has ∙ sym (at-n u v other there p has')

  -- pages

  pub same-pages : pages_of b ≡ pages_of a
  same-pages = λ j. record {
    large = r.large j;
    n = r.n j;
    top = r.large j - r.n j;
    loaded = λ q t. loaded q t j;
  }

  pub same-bound : maxval_of b ≡ maxval_of a
  same-bound =
      let fits = i.table.fits in
      let root = i.table.pyramid.coarsest (record { x = 0; y = 0 }) (let e : cuts_of a (top_of a) ≡ 0 = omega arith in
      subst (λ k. IsTile (2 ^ k) (2 ^ k) (record { x = 0; y = 0 })) (sym e) record { column = omega arith; row = omega arith })
      in
      let was = loaded-page a (top_of a) (record { x = 0; y = 0 }) root in
      let is = loaded-page b (top_of a) (record { x = 0; y = 0 })
      (loaded (top_of a) (record { x = 0; y = 0 }) ∙ root) in
      let from = raised-from (top_of a) (record { x = 0; y = 0 }) is.0 is.1 in
      let e : Some from.old ≡ Some was.0 = sym from.at ∙ was.1 in
      ap₂ (λ l m. unwrap_or (option_map (λ (g : HeightField). g.maxval) (grid_at b (l - m) (record { x = 0; y = 0 }))) 0)
      r.large r.n
      ∙ ap (λ o. unwrap_or (option_map (λ (g : HeightField). g.maxval) (option_map (λ (g : Page). g.field) o)) 0) is.1
      ∙ from.raised.bound
      ∙ sym (ap (λ o. unwrap_or (option_map (λ (g : HeightField). g.maxval) (option_map (λ (g : Page). g.field) o)) 0) from.at)

  pub raised-table : IsTable b
  raised-table =
      let large = r.large in
      let n = r.n in
      let some = i.table.some in
      let fits = i.table.fits in
      let small = i.table.small in
      record {
        some = omega arith;
        fits = omega arith;
        small = omega arith;
        places = r.places ∙ i.table.places ∙ ap₂ (λ l m. 2 ^ (2 * (l - m + 1)) / 3) (sym large) (sym n);
        pyramid = subst IsPyramid (sym same-pages) i.table.pyramid;
        placed = λ q t page at.
            let from = raised-from q t page at in
            let p = i.table.placed q t from.old from.at in
            record {
              side = from.raised.side ∙ p.side ∙ sym n;
              bound = from.raised.bound ∙ p.bound ∙ sym same-bound;
              field = from.raised.field;
              turned = from.raised.turned ∙ p.turned ∙ ap₂ (λ l m. is_turned (l - (m + q)) t) (sym large) (sym n);
              heights = agreed-samples b q t page agreed at;
            };
      }

  -- the height of a loaded point
  pub raised-loaded-height : (p : Point) → IsLoadedPoint (pages_of a) p →
      height_in b p ≡ raised_in (maxval_of a) area dz p (height_in a p)
  raised-loaded-height p l =
      let is = subst (λ w. IsLoadedPoint w p) (sym same-pages) l in
      let page = loaded-page b is.q is.square is.page in
      let has = loaded-has b p is in
      sym (height-at b is.q is.square p page.0 (raised-table.placed is.q is.square page.0 page.1).heights has)
      ∙ at-n is.q is.square page.0 page.1 p has

  -- and of a point that does not lie in the area
  pub outside-height : (p : Point) → is_in_area area p.x p.y ≡ false → height_in b p ≡ height_in a p
  outside-height p out = ⊎_elim
      (λ (h : IsHeightAt b p (height_in b p)). h.is ∙ at-n h.q h.square h.page h.loaded p h.point
      ∙ raised-out (maxval_of a) area dz p (height_in a p) out)
      (λ (none : (height_in b p ≡ 0) × HasNone b p). ⊎_elim
      (λ (h : IsHeightAt a p (height_in a p)).
      let page = loaded-page b h.q h.square (loaded h.q h.square ∙ page-loaded a h.q h.square h.page h.loaded) in
      let has : IsTrue (has_point b.n h.q h.square p) = subst (λ m. IsTrue (has_point m h.q h.square p)) (sym r.n) h.point in
      absurd (both_ways (has_point b.n h.q h.square p) (none.1 h.q h.square page.0 page.1) has))
      (λ (zero : (height_in a p ≡ 0) × HasNone a p). none.0 ∙ sym zero.0)
      (height-cases a p))
      (height-cases b p)

  -- what was found
  pub found-some : IsTrue found → HasLoadedPoint a area
  found-some on =
      let z = r.some on in
      let page = loaded-page a z.0 z.1 z.2 in
      let square = page_at-some a z.0 z.1 page.0 page.1 in
      let coarse = square.coarse in
      record {
        point = page_point a.n z.0 z.1 z.3.point;
        loaded = record { q = z.0; square = z.1; coarse = omega arith; page = z.2; point = (z.3.point, z.3.inside, refl) };
        there = z.3.there;
      }

  found-point : (q : ℕ) (t : Point) → IsTrue (is_some (page_at a q t)) → HasPointIn a.n q t area → found ≡ false → ⊥
  found-point q t is has off =
      let page = loaded-page a q t is in
      let square = page_at-some a q t page.0 page.1 in
      let coarse = square.coarse in
      ⊎_elim
      (λ (near : IsNear a area q t). r.none off q t (omega arith, near) is has)
      (λ (far : (IsNear a area q t → ⊥) × IsFar (pages_of a) area q t). far-point (pages_of a) area q t far.1 has)
      (near-cases a area q t square)

  pub found-all : HasLoadedPoint a area → IsTrue found
  found-all has = ⊎_elim
      (λ (on : found ≡ true). on)
      (λ (off : found ≡ false). let l = has.loaded in let z = l.point in
      absurd (found-point l.q l.square l.page record {
        point = z.0;
        inside = z.1;
        there = sym (ap (λ (p : Point). is_in_area area p.x p.y) z.2) ∙ has.there;
      } off))
      (cases_Bool found)

  -- wedges

  same-known : known_in b ≡ known_in a
  same-known = ap is_known same-pages

  far-joined : (q : ℕ) (t : Point) (page : Page) → IsFar (pages_of a) area q t → page_at a q t ≡ Some page →
      AreJoined b q t page
  far-joined q t page far at k small =
      let square = page_at-some a q t page at in
      let big = in_tile-big (cuts_of a q) t (4 + k) (omega arith) in
      let x : ℕ = in_tile (cuts_of a q) t (4 + k) in
      i.joined q t page at k small
      ∙ wedge-clear a.large (height_in a) (height_in b) (known_in a) area (λ p out. sym (outside-height p out))
      (in_tile (cuts_of a q) t (4 + k)) (omega arith)
      (far-quarter a area q k t i.table.some square small far)
      ∙ ap (λ f. known_wedge a.large (height_in b) f (in_tile (cuts_of a q) t (4 + k))) (sym same-known)
      ∙ ap₂ (λ l m. known_wedge l (height_in b) (known_in b) (in_tile (l - (m + q)) t (4 + k))) (sym r.large) (sym r.n)

  -- a finest page is alone
  alone-before : (t : Point) (page : Page) → page_at a 0 t ≡ Some page → IsAlone page
  alone-before t page at k small =
      let p = i.table.placed 0 t page at in
      i.joined 0 t page at k small
      ∙ sym (quarter-alone a 0 t page i.table.some i.table.pyramid (page_at-some a 0 t page at) at p.side p.heights
      (λ u finer above. absurd (omega (arith, finer))) k small)

  finest-joined : (t : Point) (page : Page) → page_at b 0 t ≡ Some page → AreJoined b 0 t page
  finest-joined t page at k small =
      let from = raised-from 0 t page at in
      let p = raised-table.placed 0 t page at in
      let alone : IsAlone page = ⊎_elim
      (λ (same : page ≡ from.old). subst IsAlone (sym same) (alone-before t from.old from.at))
      (λ (alone : IsAlone page). alone)
      from.raised.quarters in
      alone k small
      ∙ quarter-alone b 0 t page raised-table.some raised-table.pyramid (page_at-some b 0 t page at) at p.side p.heights
      (λ u finer above. absurd (omega (arith, finer))) k small

  -- all pages but those that meet the area are joined
  pub raised-joined : AreJoinedBut b (λ q t. (1 ≤ q) × IsNear b area q t)
  raised-joined zero t page not at = finest-joined t page at
  raised-joined (suc q) t page not at =
      let from = raised-from (suc q) t page at in
      ⊎_elim
      (λ (near : IsNear a area (suc q) t). absurd (not (
        omega arith,
        near-same b a area (suc q) t (sym r.large) (sym r.n)
            near,
      )))
      (λ (far : (IsNear a area (suc q) t → ⊥) × IsFar (pages_of a) area (suc q) t).
      let same : page ≡ from.old = ⊎_elim (λ (e : page ≡ from.old). e)
      (λ (near : IsNear a area (suc q) t). absurd (far.0 near)) from.near in
      far-joined (suc q) t page far.1 (from.at ∙ ap Some (sym same)))
      (near-cases a area (suc q) t (page_at-some a (suc q) t from.old from.at))

-- what the code has done then
pub record IsAllRaised (a b : Store) (area : Area) (dz : ℤ) (found : Bool) : Type 0 where
  pub terrain : IsRaisedTerrain a b area dz
  pub is_found : IsTrue found ↔ HasLoadedPoint a area
  pub none : found ≡ false → b ≡ a
  pub joined : AreJoinedBut b (λ q t. (1 ≤ q) × IsNear b area q t)
  pub valid : IsTable b

pub all-raised : {v a b : Store} {area : Area} {dz : ℤ} {found : Bool} → v ≡ a → IsStore a →
    IsRaisedWhere v b area dz (λ q t. (q ≤ top_of v) × IsNear v area q t) found → IsAllRaised a b area dz found
all-raised {a = a} {b} {area} {dz} {found} same i r =
    let z : IsRaisedWhere a b area dz (λ q t. (q ≤ top_of a) × IsNear a area q t) found =
    subst (λ (w : Store). IsRaisedWhere w b area dz (λ q t. (q ≤ top_of w) × IsNear w area q t) found) same r in
    record {
      terrain = record {
        large = z.large;
        n = z.n;
        pages = same-pages i z;
        bound = same-bound i z;
        heights = raised-loaded-height i z;
        others = outside-height i z;
      };
      is_found = (found-some i z, found-all i z);
      none = z.same;
      joined = raised-joined i z;
      valid = raised-table i z;
    }

-- a table has pages of one side
pub table-sized : {v s : Store} → v ≡ s → IsTable s → IsSized v
table-sized same i = subst IsSized (sym same) (record {
  some = i.some;
  fits = i.fits;
  small = i.small;
  places = i.places;
  sides = λ q t page at. (i.placed q t page at).side;
})

-- and so it is after its pages were joined again
pub raised-again : {a b c : Store} {area : Area} {dz : ℤ} → IsRaisedTerrain a b area dz → AreSameGrids b c →
    IsRaisedTerrain a c area dz
raised-again {b = b} {c} r g =
    let same = same-terrain b c g.large g.n g.grids in
    record {
      large = g.large ∙ r.large;
      n = g.n ∙ r.n;
      pages = same.pages ∙ r.pages;
      bound = ap₂ (λ l m. unwrap_or (option_map (λ (h : HeightField). h.maxval)
          (grid_at c (l - m) (record { x = 0; y = 0 }))) 0) g.large g.n
          ∙ ap (λ o. unwrap_or (option_map (λ (h : HeightField). h.maxval) o) 0)
          (g.grids (top_of b) (record { x = 0; y = 0 }))
          ∙ r.bound;
      heights = λ p l. ap (λ h. h p) same.heights ∙ r.heights p l;
      others = λ p out. ap (λ h. h p) same.heights ∙ r.others p out;
    }

-- one point

clamped-down : (m h : ℕ) → h ≤ 65535 → clamped m (pos h +ℤ negsuc 65534) ≡ 0
clamped-down m h small = grind (arith, ints)

clamped-up : (m h : ℕ) → h ≤ m → clamped m (pos 0 +ℤ pos h) ≡ h
clamped-up m h small = grind (arith, ints)

abbrev one : Point → Area
one p = record { x0 = p.x; y0 = p.y; x1 = p.x; y1 = p.y }

one-has : (p : Point) → is_in_area (one p) p.x p.y ≡ true
one-has p = made-area (one p) p.x p.y
    record { left = omega arith; right = omega arith; bottom = omega arith; top = omega arith }

-- a loaded point there is this one
pub one-loaded : (s : Store) (p : Point) → HasLoadedPoint s (one p) ↔ IsLoadedPoint (pages_of s) p
one-loaded s p = (
  (λ has. let r = read-area (one p) has.point.x has.point.y has.there in
      let left = r.left in let right = r.right in let bottom = r.bottom in let top = r.top in
      subst (IsLoadedPoint (pages_of s)) (same_point has.point.x has.point.y p.x p.y (omega arith) (omega arith)) has.loaded),
  (λ l. record { point = p; loaded = l; there = one-has p }),
)

raised-there : (m : ℕ) (dz : ℤ) (p : Point) (h : ℕ) → raised_in m (one p) dz p h ≡ clamped m (pos h +ℤ dz)
raised-there m dz p h = ap (λ (b : Bool). if b then clamped m (pos h +ℤ dz) else h) (one-has p)

-- it is lowered to 0, and raised from there
pub put-height : {a m b : Store} (p : Point) {h : ℕ} {down up : ℤ} → down ≡ negsuc 65534 → up ≡ pos h → h ≤ maxval_of a →
    IsStore a → IsLoadedPoint (pages_of a) p → IsRaisedTerrain a m (one p) down → IsRaisedTerrain m b (one p) up →
    height_in b p ≡ h
put-height {a} {m} {b} p {h} {down} {up} falls rises small i l first second =
    let fields : (q : ℕ) (t : Point) (page : Page) → page_at a q t ≡ Some page → IsHeightField page.field = λ q t page at.
    (i.table.placed q t page at).field in
    let low : height_in m p ≡ 0 =
    first.heights p l ∙ raised-there (maxval_of a) down p (height_in a p)
    ∙ ap (λ z. clamped (maxval_of a) (pos (height_in a p) +ℤ z)) falls
    ∙ clamped-down (maxval_of a) (height_in a p) (height-small a p fields) in
    second.heights p (subst (λ w. IsLoadedPoint w p) (sym first.pages) l)
    ∙ raised-there (maxval_of m) up p (height_in m p)
    ∙ ap₂ (λ (k : ℕ) (z : ℤ). clamped (maxval_of m) (pos k +ℤ z)) low rises
    ∙ clamped-up (maxval_of m) h (subst (λ k. h ≤ k) (sym first.bound) small)

-- The quarter of a page, joined again.
use Rattle.std.proofs.Common.{unwrap_or}
use Rattle.std.proofs.Common.{◌≡◌, ℕ, zero, suc, ◌+◌, ◌-◌, ◌*◌, ◌^◌, ◌<◌, ◌≤◌, sym, ◌∙◌, ap, ap₂, subst, arith, refl}
use Rattle.std.proofs.Common.{⊎_elim, Bool, IsTrue, Option, Some, None, option_map, List, length, slice_index_or}
use Rattle.std.proofs.Common.{slice_set}
use Rattle.std.proofs.Math.ListN.{length-set}
use Rattle.mesh_defs.specs.declared.point.Point.{Point}
use Rattle.mesh_defs.specs.HeightField.{HeightField, IsHeightField}
use Rattle.mesh_defs.specs.Triangle.{corners_of}
use Rattle.mosaic_laws.specs.Tile.{IsTile, in_tile}
use Rattle.page_laws.specs.Pages.{IsPyramid, square_above}
use Rattle.page_laws.specs.Loaded.{known_wedge, AreSamples}
use Rattle.page_laws.specs.declared.wedge.KnownWedge.{KnownWedge}
use Rattle.page_wedges.specs.Page.{Page, with_quarter, joined_in}
use Rattle.page_store.specs.Store.{maxval_of}
use Rattle.page_store.specs.Store.{Store, top_of, cuts_of, place, page_at, grid_at, height_in, known_in}
use Rattle.page_store.specs.Store.{AreJoined, joined_page, IsTable}
use Rattle.page_store.specs.Change.{quarter_wedge, IsQuarterJoined, IsPageJoined}
use Rattle.page_store.proofs.TableLemmas.{IsSquare, page_at-some}
use Rattle.page_store.proofs.WalkLemmas.{place-in, page-there}
use Rattle.page_store.proofs.AloneLemmas.{quarter-known}
use Rattle.page_store.proofs.ChangeLemmas.{same-or-other, AreSameTerrain, same-terrain, grids-but, set-here, set-others}

-- the wedge of a quarter, as `terrain_laws` of `page_wedges` says
pub record QuarterLaw : Type 0 where
  pub quarter : (g : HeightField) (q p k : ℕ) (t : Point) (height : Point → ℕ) (known : ℕ → Bool) →
      1 ≤ g.n → k < 4 → IsTile (2 ^ p) (2 ^ p) t → AreSamples g.n q t height g.heights →
      IsTrue (known (in_tile p t (4 + k))) → known_wedge (g.n + q + p) height known (in_tile p t (4 + k))
      ≡ joined_in g (corners_of g.n (4 + k)) (known_wedge (g.n + q + p) height known (2 * in_tile p t (4 + k)))
      (known_wedge (g.n + q + p) height known (2 * in_tile p t (4 + k) + 1))

-- other wedges change no grid, and no diagonal
pub quarter-field : (page : Page) (k : ℕ) (w : KnownWedge) → (with_quarter page k w).field ≡ page.field
quarter-field page zero w = refl
quarter-field page (suc zero) w = refl
quarter-field page (suc (suc zero)) w = refl
quarter-field page (suc (suc (suc _))) w = refl

pub quarter-turned : (page : Page) (k : ℕ) (w : KnownWedge) → (with_quarter page k w).turned ≡ page.turned
quarter-turned page zero w = refl
quarter-turned page (suc zero) w = refl
quarter-turned page (suc (suc zero)) w = refl
quarter-turned page (suc (suc (suc _))) w = refl

-- so the table stays one
table-kept : (s : Store) (ys : List (Option Page)) → IsTable s → length ys ≡ length s.pages →
    AreSameTerrain s (record s { pages = ys }) → maxval_of (record s { pages = ys }) ≡ maxval_of s →
    ((r : ℕ) (u : Point) (new : Page) → page_at (record s { pages = ys }) r u ≡ Some new →
    (old : Page) × (page_at s r u ≡ Some old) × (new.field ≡ old.field) × (new.turned ≡ old.turned)) →
    IsTable (record s { pages = ys })
table-kept s ys i count same bound olds = record {
  some = i.some;
  fits = i.fits;
  small = i.small;
  places = count ∙ i.places;
  pyramid = subst IsPyramid (sym same.pages) i.pyramid;
  placed = λ r u new at.
      let o = olds r u new at in
      let p = i.placed r u o.0 o.1 in
      record {
        side = ap (λ (g : HeightField). g.n) o.2 ∙ p.side;
        bound = ap (λ (g : HeightField). g.maxval) o.2 ∙ p.bound ∙ sym bound;
        field = subst IsHeightField (sym o.2) p.field;
        turned = o.3 ∙ p.turned;
        heights = subst (λ (h : Point → ℕ). AreSamples s.n r u h new.field.heights) (sym same.heights)
            (subst (λ (g : HeightField). AreSamples s.n r u (height_in s) g.heights) (sym o.2) p.heights);
      };
}

pub record AreChanged (s : Store) (ys : List (Option Page)) (q : ℕ) (t : Point) (k : ℕ) : Type 0 where
  pub joined : IsQuarterJoined s (record s { pages = ys }) q t k
  pub valid : IsTable (record s { pages = ys })

-- a page with another wedge of a quarter
module _ {s : Store} (i : IsTable s) (q : ℕ) (t : Point) (k : ℕ) (page : Page) (at : page_at s q t ≡ Some page) where
  square : IsSquare s q t
  square = page_at-some s q t page at

  abbrev written : List (Option Page)
  written = slice_set s.pages (place (cuts_of s q) t) (Some (with_quarter page k (quarter_wedge s q t k)))

  here : page_at (record s { pages = written }) q t ≡ Some (with_quarter page k (quarter_wedge s q t k))
  here =
      let coarse = square.coarse in
      set-here s.large s.n s.pages q t (Some (with_quarter page k (quarter_wedge s q t k))) square
      (place-in s (cuts_of s q) t i (omega arith) square.tile)

  others : (r : ℕ) (u : Point) → (r ≡ q → u ≡ t → ⊥) → page_at (record s { pages = written }) r u ≡ page_at s r u
  others = set-others s.large s.n s.pages q t (Some (with_quarter page k (quarter_wedge s q t k))) square

  written-here : page_at (record s { pages = written }) q t
      ≡ option_map (λ (g : Page). with_quarter g k (quarter_wedge s q t k)) (page_at s q t)
  written-here = here ∙ sym (ap (option_map (λ (g : Page). with_quarter g k (quarter_wedge s q t k))) at)

  grids : (r : ℕ) (u : Point) → grid_at (record s { pages = written }) r u ≡ grid_at s r u
  grids = grids-but s (record s { pages = written }) q t (λ g. with_quarter g k (quarter_wedge s q t k))
      (λ g. quarter-field g k (quarter_wedge s q t k)) written-here others

  pub quarter-written : AreChanged s written q t k
  quarter-written = record {
    joined = record {
      large = refl;
      n = refl;
      here = written-here;
      others = others;
    };
    valid = table-kept s written i
        (length-set s.pages (place (cuts_of s q) t) (Some (with_quarter page k (quarter_wedge s q t k))))
        (same-terrain s (record s { pages = written }) refl refl grids)
        (ap (λ o. unwrap_or (option_map (λ (g : HeightField). g.maxval) o) 0)
        (grids (top_of s) (record { x = 0; y = 0 })))
        (λ r u new there. ⊎_elim
        (λ (same : (r ≡ q) × (u ≡ t)).
        let e : Some (with_quarter page k (quarter_wedge s q t k)) ≡ Some new =
        sym here ∙ sym (ap₂ (λ j v. page_at (record s { pages = written }) j v) same.0 same.1) ∙ there in
        let f : with_quarter page k (quarter_wedge s q t k) ≡ new = cc in (
          page,
          ap₂ (λ j v. page_at s j v) same.0 same.1 ∙ at,
          ap (λ (g : Page). g.field) (sym f) ∙ quarter-field page k (quarter_wedge s q t k),
          ap (λ (g : Page). g.turned) (sym f) ∙ quarter-turned page k (quarter_wedge s q t k),
        ))
        (λ (other : r ≡ q → u ≡ t → ⊥). (new, sym (others r u other) ∙ there, refl, refl))
        (same-or-other q r t u));
  }

-- as the code joins it
module _ {s : Store} (i : IsTable s) (p : ℕ) {t : Point} (k : ℕ) {page : Page} (coarse : p ≤ top_of s) (small : k < 4)
    (tile : IsTile (2 ^ p) (2 ^ p) t) (at : page_at s (top_of s - p) t ≡ Some page) where
  cuts : cuts_of s (top_of s - p) ≡ p
  cuts = let fits = i.fits in omega arith

  joined-wedge : QuarterLaw → {left right : KnownWedge} →
      left ≡ known_wedge s.large (height_in s) (known_in s) (2 * in_tile p t (4 + k) + 0) →
      right ≡ known_wedge s.large (height_in s) (known_in s) (2 * in_tile p t (4 + k) + 1) →
      joined_in page.field (corners_of page.field.n (4 + k)) left right ≡ quarter_wedge s (top_of s - p) t k
  joined-wedge law first second =
      let placed = i.placed (top_of s - p) t page at in
      let side = placed.side in
      let some = i.some in
      let fits = i.fits in
      let e : page.field.n + (top_of s - p) + p ≡ s.large = omega arith in
      let none : 2 * in_tile p t (4 + k) + 0 ≡ 2 * in_tile p t (4 + k) = omega arith in
      let known : IsTrue (known_in s (in_tile p t (4 + k))) =
      subst (λ c. IsTrue (known_in s (in_tile c t (4 + k)))) cuts
      (quarter-known s (top_of s - p) t page some i.pyramid (page_at-some s (top_of s - p) t page at) at side
      placed.heights k small) in
      ap₂ (joined_in page.field (corners_of page.field.n (4 + k)))
      (first ∙ ap (known_wedge s.large (height_in s) (known_in s)) none
      ∙ ap (λ l. known_wedge l (height_in s) (known_in s) (2 * in_tile p t (4 + k))) (sym e))
      (second ∙ ap (λ l. known_wedge l (height_in s) (known_in s) (2 * in_tile p t (4 + k) + 1)) (sym e))
      ∙ sym (law.quarter page.field (top_of s - p) p k t (height_in s) (known_in s) (omega arith) small tile
      (subst (λ m. AreSamples m (top_of s - p) t (height_in s) page.field.heights) (sym side) placed.heights) known)
      ∙ ap (λ l. known_wedge l (height_in s) (known_in s) (in_tile p t (4 + k))) e
      ∙ ap (λ c. known_wedge s.large (height_in s) (known_in s) (in_tile c t (4 + k))) (sym cuts)

  pub join-written : QuarterLaw → {left right : KnownWedge} {ys : List (Option Page)} →
      left ≡ known_wedge s.large (height_in s) (known_in s) (2 * in_tile p t (4 + k) + 0) →
      right ≡ known_wedge s.large (height_in s) (known_in s) (2 * in_tile p t (4 + k) + 1) →
      ys ≡ slice_set s.pages (place p t) (option_map
      (λ (g : Page). with_quarter g k (joined_in g.field (corners_of g.field.n (4 + k)) left right))
      (slice_index_or s.pages (place p t) None)) → AreChanged s ys (top_of s - p) t k
  join-written law {left} {right} {ys} first second is =
      let there : slice_index_or s.pages (place p t) None ≡ Some page =
      sym (page-there s p t i.fits coarse tile) ∙ at in
      let e : ys ≡ slice_set s.pages (place (cuts_of s (top_of s - p)) t)
      (Some (with_quarter page k (quarter_wedge s (top_of s - p) t k))) =
      is
      ∙ ap (λ o. slice_set s.pages (place p t) (option_map
      (λ (g : Page). with_quarter g k (joined_in g.field (corners_of g.field.n (4 + k)) left right)) o)) there
      ∙ ap (λ w. slice_set s.pages (place p t) (Some (with_quarter page k w))) (joined-wedge law first second)
      ∙ ap (λ c. slice_set s.pages (place c t) (Some (with_quarter page k (quarter_wedge s (top_of s - p) t k)))) (sym
      cuts) in
      subst (λ zs. AreChanged s zs (top_of s - p) t k) (sym e) (quarter-written i (top_of s - p) t k page at)

-- a table with one quarter joined is over the same terrain
quarter-terrain : {s s' : Store} {q : ℕ} {t : Point} {k : ℕ} → IsQuarterJoined s s' q t k → AreSameTerrain s s'
quarter-terrain {s} {s'} {q} {t} {k} j = same-terrain s s' j.large j.n
    (grids-but s s' q t (λ g. with_quarter g k (quarter_wedge s q t k)) (λ g. quarter-field g k (quarter_wedge s q t k))
    j.here j.others)

-- so quarters have the same wedges
pub terrain-wedge : {s s' : Store} (q : ℕ) (t : Point) (k : ℕ) → AreSameTerrain s s' → s'.large ≡ s.large → s'.n ≡ s.n →
    quarter_wedge s' q t k ≡ quarter_wedge s q t k
terrain-wedge {s} {s'} q t k same large n =
    ap (λ l. known_wedge l (height_in s') (known_in s') (in_tile (cuts_of s' q) t (4 + k))) large
    ∙ ap (λ h. known_wedge s.large h (known_in s') (in_tile (cuts_of s' q) t (4 + k))) same.heights
    ∙ ap (λ f. known_wedge s.large (height_in s) f (in_tile (cuts_of s' q) t (4 + k))) same.known
    ∙ ap₂ (λ l m. known_wedge s.large (height_in s) (known_in s) (in_tile (l - (m + q)) t (4 + k))) large n

-- and a page stays joined
pub joined-kept : {s s' : Store} (q : ℕ) (t : Point) (page : Page) → AreSameTerrain s s' → s'.large ≡ s.large →
    s'.n ≡ s.n → AreJoined s q t page → AreJoined s' q t page
joined-kept q t page same large n joined k small =
    joined k small ∙ sym (terrain-wedge q t k same large n)

-- the pages finer than one that is written
abbrev pub AreFinerJoined : Store → ℕ → Point → Type 0
AreFinerJoined s p t = (u : Point) (finer : Page) → square_above u ≡ t →
    page_at s (top_of s - (p + 1)) u ≡ Some finer → AreJoined s (top_of s - (p + 1)) u finer

pub finer-kept : {s s' : Store} (p : ℕ) {t : Point} {k : ℕ} → p < top_of s → IsQuarterJoined s s' (top_of s - p) t k →
    AreFinerJoined s p t → AreFinerJoined s' p t
finer-kept {s} {s'} p coarse j joined u finer above at =
    let e : top_of s' - (p + 1) ≡ top_of s - (p + 1) = ap₂ (λ l m. l - m - (p + 1)) j.large j.n in
    let at' : page_at s' (top_of s - (p + 1)) u ≡ Some finer = ap (λ r. page_at s' r u) (sym e) ∙ at in
    subst (λ r. AreJoined s' r u finer) (sym e)
    (joined-kept (top_of s - (p + 1)) u finer (quarter-terrain j) j.large j.n
    (joined u finer above (sym (j.others (top_of s - (p + 1)) u (λ same. omega arith)) ∙ at')))

-- four quarters make a page
pub page-joined : {s a b c d : Store} {q : ℕ} {t : Point} → IsQuarterJoined s a q t 0 → IsQuarterJoined a b q t 1 →
    IsQuarterJoined b c q t 2 → IsQuarterJoined c d q t 3 → IsPageJoined s d q t
page-joined {s} {a} {b} {c} {d} {q} {t} one two three four =
    let a-same = quarter-terrain one in
    let b-same = quarter-terrain two in
    let c-same = quarter-terrain three in
    let first : quarter_wedge a q t 1 ≡ quarter_wedge s q t 1 = terrain-wedge q t 1 a-same one.large one.n in
    let second : quarter_wedge b q t 2 ≡ quarter_wedge s q t 2 =
    terrain-wedge q t 2 b-same two.large two.n ∙ terrain-wedge q t 2 a-same one.large one.n in
    let third : quarter_wedge c q t 3 ≡ quarter_wedge s q t 3 =
    terrain-wedge q t 3 c-same three.large three.n ∙ terrain-wedge q t 3 b-same two.large two.n
    ∙ terrain-wedge q t 3 a-same one.large one.n in
    record {
      large = four.large ∙ three.large ∙ two.large ∙ one.large;
      n = four.n ∙ three.n ∙ two.n ∙ one.n;
      here = four.here
          ∙ ap (λ w. option_map (λ (g : Page). with_quarter g 3 w) (page_at c q t)) third
          ∙ ap (option_map (λ (g : Page). with_quarter g 3 (quarter_wedge s q t 3)))
          (three.here
          ∙ ap (λ w. option_map (λ (g : Page). with_quarter g 2 w) (page_at b q t)) second
          ∙ ap (option_map (λ (g : Page). with_quarter g 2 (quarter_wedge s q t 2)))
          (two.here
          ∙ ap (λ w. option_map (λ (g : Page). with_quarter g 1 w) (page_at a q t)) first
          ∙ ap (option_map (λ (g : Page). with_quarter g 1 (quarter_wedge s q t 1))) one.here))
          ∙ four-parts (page_at s q t);
      others = λ r u other. four.others r u other ∙ three.others r u other ∙ two.others r u other
          ∙ one.others r u other;
    }
  where
    four-parts : (o : Option Page) →
        option_map (λ (g : Page). with_quarter g 3 (quarter_wedge s q t 3))
        (option_map (λ (g : Page). with_quarter g 2 (quarter_wedge s q t 2))
        (option_map (λ (g : Page). with_quarter g 1 (quarter_wedge s q t 1))
        (option_map (λ (g : Page). with_quarter g 0 (quarter_wedge s q t 0)) o))) ≡ option_map (joined_page s q t) o
    four-parts None = refl
    four-parts (Some page) = refl

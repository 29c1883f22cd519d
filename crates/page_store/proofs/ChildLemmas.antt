-- The children of a page's quarters, which are halves of finer squares.
use Rattle.std.proofs.Common.{◌≡◌, ℕ, ◌+◌, ◌-◌, ◌*◌, ◌/◌, ◌%◌, ◌^◌, ◌<◌, ◌≤◌, sym, ◌∙◌, ap, arith}
use Rattle.std.proofs.Common.{IsTrue, Some, None, ⊎_elim, cond, nat_eq, ◌||◌}
use Rattle.std.proofs.lemmas.Bool.{cases_lt}
use Rattle.mesh_defs.specs.declared.point.Point.{Point}
use Rattle.mesh_defs.specs.Triangle.{level_of}
use Rattle.bintree_laws.proofs.LevelLemmas.{level_of-first, level_of-left, level_of-right}
use Rattle.mesh_laws.proofs.DescentLemmas.{IsAddress-level}
use Rattle.mosaic_laws.specs.Tile.{IsTile, quarter, in_tile}
use Rattle.mosaic_laws.specs.Glue.{quarter_of, square_of, prefix_of, tile_of}
use Rattle.mosaic_laws.proofs.AddressLemmas.{in_tile-left, in_tile-right, in_tile-level, in_tile-big, in_tile-quarter}
use Rattle.mosaic_laws.proofs.AddressLemmas.{quarter-back}
use Rattle.page_laws.specs.Pages.{cuts_to, square_at, square_above}
use Rattle.page_laws.specs.Loaded.{known_wedge}
use Rattle.page_laws.proofs.PyramidLemmas.{known-page, square-above}
use Rattle.page_wedges.specs.Page.{Page, own_wedge, half_in}
use Rattle.page_store.specs.Store.{Store, top_of, cuts_of, page_at, pages_of, height_in, known_in, AreJoined, IsTable}
use Rattle.page_store.specs.Walk.{IsFound}
use Rattle.page_store.proofs.TableLemmas.{page_at-some}
use Rattle.page_store.proofs.WalkLemmas.{IsBelow, prefix-is, part-next, square-next}
use Rattle.page_store.proofs.FoundLemmas.{found-cuts, found-loaded, found-deep}
use Rattle.page_store.proofs.AloneLemmas.{deep-own}
use Rattle.page_store.proofs.ValueLemmas.{HalfLaw, half-value}

-- a triangle from the halves down to the last level but one of a page is known
pub found-known-page : {s : Store} {x p k : ℕ} {t : Point} {page : Page} → IsTable s → IsFound s x p k t page → 2 ≤ x →
    level_of x < 2 * (p + s.n) → IsTrue (known_in s x)
found-known-page {s} {x} {p} i f low less =
    let fits = i.fits in
    let c = found-cuts i f in
    known-page (pages_of s) (top_of s - p) x low (omega arith) record {
      first = found-deep i f;
      last = omega arith;
      page = found-loaded i f;
    }

-- a grandchild of the halves is at level 2 of the page's grid
pub grandchild-level : (k side : ℕ) → k < 4 → side < 2 → level_of (2 * (4 + k) + side) ≡ 2
grandchild-level k side small less =
    let one = level_of-first (4 + k) (omega arith) (omega arith) in
    let l = level_of-left (4 + k) (omega arith) in
    let r = level_of-right (4 + k) (omega arith) in
    ⊎_elim
    (λ (left : side < 1). let a : 2 * (4 + k) + side ≡ 2 * (4 + k) = omega arith in ap level_of a ∙ omega arith)
    (λ (right : 1 ≤ side).
    let a : 2 * (4 + k) + side ≡ 2 * (4 + k) + 1 = omega arith in ap level_of a ∙ omega arith)
    (cases_lt side 1)

-- a child of a quarter
module _ {s : Store} (p k side : ℕ) {t : Point} {page : Page} (i : IsTable s) (coarse : p < top_of s)
    (tile : IsTile (2 ^ p) (2 ^ p) t) (small : k < 4) (less : side < 2)
    (at : page_at s (top_of s - p) t ≡ Some page) where
  abbrev pub child : ℕ
  child = 2 * in_tile p t (4 + k) + side

  pub child-low : 4 ≤ child
  child-low = let big = in_tile-big p t (4 + k) (omega arith) in omega arith

  pub child-level : level_of child ≡ 2 * p + 2
  child-level =
      let big = in_tile-big p t (4 + k) (omega arith) in
      let level = in_tile-level p t (4 + k) (omega arith) in
      let one = level_of-first (4 + k) (omega arith) (omega arith) in
      let l = level_of-left (in_tile p t (4 + k)) (omega arith) in
      let r = level_of-right (in_tile p t (4 + k)) (omega arith) in
      ⊎_elim
      (λ (left : side < 1).
      let e : child ≡ 2 * in_tile p t (4 + k) = omega arith in ap level_of e ∙ omega arith)
      (λ (right : 1 ≤ side).
      let e : child ≡ 2 * in_tile p t (4 + k) + 1 = omega arith in ap level_of e ∙ omega arith)
      (cases_lt side 1)

  child-prefix : prefix_of p (2 * child) ≡ quarter p t.x t.y k
  child-prefix =
      let level = child-level in
      let low = child-low in
      let e : level_of child - 2 * p ≡ 2 = omega arith in
      let up : 2 * child / 2 ^ 2 ≡ in_tile p t (4 + k) = omega arith in
      let bits : (4 + k) % 4 ≡ k = omega arith in
      prefix-is p child (omega arith) (omega arith)
      ∙ ap (λ j. 2 * child / 2 ^ j) e
      ∙ up
      ∙ in_tile-quarter p t (4 + k) (omega arith) (omega arith)
      ∙ ap (quarter p t.x t.y) bits

  -- it lies in its quarter of the page
  pub child-found : IsFound s child p k t page
  child-found =
      let level = child-level in
      let back = quarter-back p t.x t.y k tile.column tile.row small in
      record {
        coarse = omega arith;
        deep = omega arith;
        part = ap (quarter_of p) child-prefix ∙ back.number;
        square = ap (square_of p) child-prefix ∙ back.square;
        loaded = at;
      }

  module _ {k' : ℕ} {t' : Point} (b : IsBelow child p k t (2 * side) k' t') where
    -- and in a quarter of a finer square
    pub child-square : tile_of (p + 1) (2 * child) ≡ t'
    child-square =
        let f = child-found in
        let level = child-level in
        let low = child-low in
        square-next b (omega arith) (omega arith) f.part f.square

    child-part : quarter_of (p + 1) (prefix_of (p + 1) (2 * child)) ≡ k'
    child-part =
        let f = child-found in
        let level = child-level in
        let low = child-low in
        part-next b (omega arith) (omega arith) f.part f.square

    -- which lies in the page's
    pub child-above : square_above t' ≡ t
    child-above =
        let f = child-found in
        let fits = i.fits in
        let level = child-level in
        let low = child-low in
        let q : top_of s - (p + 1) + 1 ≡ top_of s - p = omega arith in
        let c : cuts_to (pages_of s) (top_of s - (p + 1)) ≡ p + 1 = omega arith in
        let d : cuts_to (pages_of s) (top_of s - p) ≡ p = omega arith in
        ap square_above (sym child-square ∙ ap (λ j. tile_of j (2 * child)) (sym c))
        ∙ sym (square-above (pages_of s) i.pyramid (top_of s - (p + 1)) child (omega arith) (omega arith) (omega arith))
        ∙ ap (λ r. square_at (pages_of s) r child) q
        ∙ ap (λ j. tile_of j (2 * child)) d
        ∙ f.square

    -- it is a half of the finer page, if that is loaded
    pub child-half : {finer : Page} → HalfLaw → page_at s (top_of s - (p + 1)) t' ≡ Some finer →
        AreJoined s (top_of s - (p + 1)) t' finer →
        half_in finer (cond (nat_eq k' 1 || nat_eq k' 2) 1 0) ≡ known_wedge s.large (height_in s) (known_in s) child
    child-half {finer} law there joined =
        let level = child-level in
        let low = child-low in
        let some = i.some in
        let f : IsFound s child (p + 1) k' t' finer = record {
          coarse = omega arith;
          deep = omega arith;
          part = child-part;
          square = child-square;
          loaded = there;
        } in
        half-value i f (omega arith) (omega arith) law joined
        (found-known-page i f (omega arith) (omega arith))

    -- else its wedge is that of the page's own grid
    pub child-own : page_at s (top_of s - (p + 1)) t' ≡ None →
        own_wedge page.field (2 * (4 + k) + side) ≡ known_wedge s.large (height_in s) (known_in s) child
    child-own none =
        let some = i.some in
        let fits = i.fits in
        let placed = i.placed (top_of s - p) t page at in
        let cuts : cuts_of s (top_of s - p) ≡ p = omega arith in
        let one = level_of-first (4 + k) (omega arith) (omega arith) in
        let l = level_of-left (4 + k) (omega arith) in
        let r = level_of-right (4 + k) (omega arith) in
        ⊎_elim
        (λ (left : side < 1).
        let a : 2 * (4 + k) + side ≡ 2 * (4 + k) = omega arith in
        let e : child ≡ 2 * in_tile p t (4 + k) = omega arith in
        own-at (2 * (4 + k) + side) (omega arith) (grandchild-level k side small less)
        (ap (in_tile p t) a ∙ in_tile-left p t (4 + k) (omega arith) ∙ sym e))
        (λ (right : 1 ≤ side).
        let a : 2 * (4 + k) + side ≡ 2 * (4 + k) + 1 = omega arith in
        let e : child ≡ 2 * in_tile p t (4 + k) + 1 = omega arith in
        own-at (2 * (4 + k) + side) (omega arith) (grandchild-level k side small less)
        (ap (in_tile p t) a ∙ in_tile-right p t (4 + k) (omega arith) ∙ sym e))
        (cases_lt side 1)
      where
        own-at : (a : ℕ) → 4 ≤ a → level_of a ≡ 2 → in_tile p t a ≡ child →
            own_wedge page.field a ≡ known_wedge s.large (height_in s) (known_in s) child
        own-at a big two is =
            let some = i.some in
            let fits = i.fits in
            let placed = i.placed (top_of s - p) t page at in
            let cuts : cuts_of s (top_of s - p) ≡ p = omega arith in
            let there : in_tile (cuts_of s (top_of s - p)) t a ≡ child = ap (λ j. in_tile j t a) cuts ∙ is in
            let q : top_of s - p - 1 ≡ top_of s - (p + 1) = omega arith in
            let c : cuts_to (pages_of s) (top_of s - (p + 1)) ≡ p + 1 = omega arith in
            sym (deep-own s (top_of s - p) t page some i.pyramid (page_at-some s (top_of s - p) t page at) at
            placed.side placed.heights a big (IsAddress-level s.n a (omega arith) (omega arith)) (omega arith)
            (λ finer.
            ap (λ z. page_at s (top_of s - p - 1) (square_at (pages_of s) (top_of s - p - 1) z)) there
            ∙ ap (λ r. page_at s r (square_at (pages_of s) r child)) q
            ∙ ap (λ j. page_at s (top_of s - (p + 1)) (tile_of j (2 * child))) c
            ∙ ap (page_at s (top_of s - (p + 1))) child-square
            ∙ none))
            ∙ ap (known_wedge s.large (height_in s) (known_in s)) there

  -- its two bits below the quarter
  pub child-bits : 2 * child / 2 ^ (level_of child - 2 * (p + 1)) % 4 ≡ 2 * side
  child-bits =
      let level = child-level in
      let e : level_of child - 2 * (p + 1) ≡ 0 = omega arith in
      let whole : 2 * child / 2 ^ 0 ≡ 2 * child = omega arith in
      ap (λ j. 2 * child / 2 ^ j % 4) e ∙ ap (λ j. j % 4) whole ∙ omega arith

-- A page below which no finer page is loaded has the wedges of its own grid.
use Rattle.std.proofs.Common.{◌≡◌, ℕ, ◌+◌, ◌-◌, ◌*◌, ◌<◌, ◌≤◌, sym, ◌∙◌, ap, ap₂, subst, arith, refl}
use Rattle.std.proofs.Common.{true, IsTrue, Some, None, is_some}
use Rattle.mesh_defs.specs.declared.point.Point.{Point}
use Rattle.mesh_defs.specs.Thickness.{height_of}
use Rattle.mesh_defs.specs.Triangle.{level_of, corners_of, IsAddress, IsSplittable}
use Rattle.bintree_laws.proofs.LevelLemmas.{level_of-first, level_of-left, level_of-right}
use Rattle.mesh_laws.proofs.DescentLemmas.{IsAddress-level}
use Rattle.mosaic_laws.specs.Tile.{in_tile}
use Rattle.mosaic_laws.specs.Glue.{tile_of}
use Rattle.mosaic_laws.proofs.AddressLemmas.{in_tile-left, in_tile-right, in_tile-level, in_tile-big, tile-in_tile}
use Rattle.mosaic_laws.proofs.MateLemmas.{in_tile-splittable}
use Rattle.page_laws.specs.Pages.{square_at, square_above, IsPyramid}
use Rattle.page_laws.specs.Loaded.{known_wedge, joined_wedge, AreSamples}
use Rattle.page_laws.proofs.PyramidLemmas.{known-page, square-above}
use Rattle.page_laws.proofs.LoadedLemmas.{wedge-known, wedge-page, joined-page}
use Rattle.page_wedges.specs.Page.{Page, own_wedge}
use Rattle.page_store.specs.Store.{Store, cuts_of, page_at, pages_of, height_in, known_in}
use Rattle.page_store.proofs.TableLemmas.{IsSquare, page-loaded}

-- no page of the resolution before lies in this square
abbrev pub HasNoFiner : Store → ℕ → Point → Type 0
HasNoFiner s q t = (u : Point) → 1 ≤ q → square_above u ≡ t → page_at s (q - 1) u ≡ None

module _ (s : Store) (q : ℕ) (t : Point) (page : Page) (some : 1 ≤ s.n) (pyramid : IsPyramid (pages_of s))
    (square : IsSquare s q t) (at : page_at s q t ≡ Some page) (side : page.field.n ≡ s.n)
    (samples : AreSamples s.n q t (height_in s) page.field.heights) where
  -- a triangle of the page lies in its square
  there : (a : ℕ) → 4 ≤ a → square_at (pages_of s) q (in_tile (cuts_of s q) t a) ≡ t
  there a big =
      ap (tile_of (cuts_of s q)) (sym (in_tile-left (cuts_of s q) t a big))
      ∙ tile-in_tile (cuts_of s q) t (2 * a) square.tile (omega arith)

  loaded-there : (a : ℕ) → 4 ≤ a →
      IsTrue ((pages_of s).loaded q (square_at (pages_of s) q (in_tile (cuts_of s q) t a)))
  loaded-there a big = subst (λ u. IsTrue ((pages_of s).loaded q u)) (sym (there a big)) (page-loaded s q t page at)

  -- a quarter is known
  pub quarter-known : (k : ℕ) → k < 4 → IsTrue (known_in s (in_tile (cuts_of s q) t (4 + k)))
  quarter-known k small =
      let level = in_tile-level (cuts_of s q) t (4 + k) (omega arith) in
      let one = level_of-first (4 + k) (omega arith) (omega arith) in
      let coarse = square.coarse in
      known-page (pages_of s) q (in_tile (cuts_of s q) t (4 + k))
      (let big = in_tile-big (cuts_of s q) t (4 + k) (omega arith) in omega arith) (omega arith) record {
        first = omega arith;
        last = omega arith;
        page = loaded-there (4 + k) (omega arith);
      }

  -- two levels below the halves, where no finer page is
  pub deep-own : (a : ℕ) → 4 ≤ a → IsAddress s.n a → 2 ≤ level_of a →
      (1 ≤ q → page_at s (q - 1) (square_at (pages_of s) (q - 1) (in_tile (cuts_of s q) t a)) ≡ None) →
      known_wedge s.large (height_in s) (known_in s) (in_tile (cuts_of s q) t a) ≡ own_wedge page.field a
  deep-own a big address deep none =
      let coarse = square.coarse in
      wedge-page (pages_of s) q t (height_in s) page.field.heights a pyramid (omega arith) square.tile
      (page-loaded s q t page at) samples big address deep (λ finer. ap is_some (none finer))
      ∙ ap (λ m. known_wedge m (height_of m page.field.heights) (λ b. true) a) (sym side)

  -- the square of the resolution before lies in the page's
  finer-square : (a : ℕ) → 4 ≤ a → 2 ≤ level_of a → 1 ≤ q →
      square_above (square_at (pages_of s) (q - 1) (in_tile (cuts_of s q) t a)) ≡ t
  finer-square a big deep finer =
      let coarse = square.coarse in
      let e : q - 1 + 1 ≡ q = omega arith in
      let level = in_tile-level (cuts_of s q) t a big in
      let up = square-above (pages_of s) pyramid (q - 1) (in_tile (cuts_of s q) t a) (omega arith)
      (let large = in_tile-big (cuts_of s q) t a big in omega arith) (omega arith) in
      sym up ∙ ap (λ r. square_at (pages_of s) r (in_tile (cuts_of s q) t a)) e ∙ there a big

  -- so a quarter has the wedge of the page's own grid
  pub quarter-alone : HasNoFiner s q t → (k : ℕ) → k < 4 →
      own_wedge page.field (4 + k) ≡ known_wedge s.large (height_in s) (known_in s) (in_tile (cuts_of s q) t (4 + k))
  quarter-alone none k small =
      let coarse = square.coarse in
      let one = level_of-first (4 + k) (omega arith) (omega arith) in
      let l = level_of-left (4 + k) (omega arith) in
      let r = level_of-right (4 + k) (omega arith) in
      let own : IsSplittable page.field.n (4 + k) = record { low = omega arith; coarse = omega arith } in
      let split : IsSplittable s.n (4 + k) = record { low = omega arith; coarse = omega arith } in
      let wide : IsSplittable (s.n + q) (4 + k) = record { low = omega arith; coarse = omega arith } in
      let left : IsAddress s.n (2 * (4 + k)) = IsAddress-level s.n (2 * (4 + k)) (omega arith) (omega arith) in
      let right : IsAddress s.n (2 * (4 + k) + 1) = IsAddress-level s.n (2 * (4 + k) + 1) (omega arith) (omega arith) in
      let e : s.n + q + cuts_of s q ≡ s.large = omega arith in
      let x : ℕ = in_tile (cuts_of s q) t (4 + k) in
      wedge-known page.field.n (height_of page.field.n page.field.heights) (λ b. true) (4 + k) own refl
      ∙ ap (λ m. joined_wedge (height_of m page.field.heights) (corners_of m (4 + k)) (own_wedge page.field (2 * (4 +
      k)))
      (own_wedge page.field (2 * (4 + k) + 1))) side
      ∙ ap₂ (joined_wedge (height_of s.n page.field.heights) (corners_of s.n (4 + k)))
      (sym (deep-own (2 * (4 + k)) (omega arith) left (omega arith) (λ finer. none (square_at (pages_of s) (q - 1)
      (in_tile (cuts_of s q) t (2 * (4 + k)))) finer (finer-square (2 * (4 + k)) (omega arith) (omega arith) finer)))
      ∙ ap (known_wedge s.large (height_in s) (known_in s)) (in_tile-left (cuts_of s q) t (4 + k) (omega arith)))
      (sym (deep-own (2 * (4 + k) + 1) (omega arith) right (omega arith) (λ finer. none (square_at (pages_of s) (q - 1)
      (in_tile (cuts_of s q) t (2 * (4 + k) + 1))) finer
      (finer-square (2 * (4 + k) + 1) (omega arith) (omega arith) finer)))
      ∙ ap (known_wedge s.large (height_in s) (known_in s)) (in_tile-right (cuts_of s q) t (4 + k) (omega arith)))
      ∙ sym (joined-page s.n q (cuts_of s q) t square.tile (height_in s) page.field.heights samples (4 + k)
      (known_wedge s.large (height_in s) (known_in s) (2 * in_tile (cuts_of s q) t (4 + k)))
      (known_wedge s.large (height_in s) (known_in s) (2 * in_tile (cuts_of s q) t (4 + k) + 1)) (omega arith) split)
      ∙ ap (λ m. joined_wedge (height_in s) (corners_of m (in_tile (cuts_of s q) t (4 + k)))
      (known_wedge s.large (height_in s) (known_in s) (2 * in_tile (cuts_of s q) t (4 + k)))
      (known_wedge s.large (height_in s) (known_in s) (2 * in_tile (cuts_of s q) t (4 + k) + 1))) e
      ∙ sym (wedge-known s.large (height_in s) (known_in s) (in_tile (cuts_of s q) t (4 + k))
      (subst (λ m. IsSplittable m (in_tile (cuts_of s q) t (4 + k))) e
      (in_tile-splittable (s.n + q) (cuts_of s q) t square.tile (4 + k) (omega arith) wide)) (quarter-known k small))

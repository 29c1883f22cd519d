-- A page's quarters and halves over what is known of the terrain.
use Rattle.std.proofs.Common.{◌≡◌, ℕ, ◌+◌, ◌*◌, ◌%◌, ◌^◌, ◌<◌, ◌≤◌, Bool, IsTrue, sym, ◌∙◌, ap, ap₂, arith}
use Rattle.mesh_defs.specs.declared.point.Point.{Point}
use Rattle.mesh_defs.specs.HeightField.{HeightField}
use Rattle.mesh_defs.specs.Triangle.{corners_of, IsSplittable}
use Rattle.bintree_laws.proofs.LevelLemmas.{level_of-first}
use Rattle.mosaic_laws.specs.Tile.{IsTile, in_tile, quarter}
use Rattle.mosaic_laws.proofs.AddressLemmas.{in_tile-quarter}
use Rattle.mosaic_laws.proofs.MateLemmas.{in_tile-splittable}
use Rattle.page_laws.specs.Pages.{half, is_turned, left_quarter, right_quarter, half_corners}
use Rattle.page_laws.specs.Loaded.{known_wedge, AreSamples}
use Rattle.page_laws.proofs.HalfLemmas.{half-level, half-low, half-left, half-right, left_quarter-small}
use Rattle.page_laws.proofs.HalfLemmas.{right_quarter-small}
use Rattle.page_laws.proofs.LoadedLemmas.{wedge-known, joined-page, joined-half}
use Rattle.page_wedges.specs.Page.{Page, joined_in, quarter_in, half_in}

-- a quarter, by its children
pub quarter-joined : (g : HeightField) (q p k : ℕ) (t : Point) (height : Point → ℕ) (known : ℕ → Bool) →
    1 ≤ g.n → k < 4 → IsTile (2 ^ p) (2 ^ p) t → AreSamples g.n q t height g.heights →
    IsTrue (known (in_tile p t (4 + k))) → known_wedge (g.n + q + p) height known (in_tile p t (4 + k))
    ≡ joined_in g (corners_of g.n (4 + k)) (known_wedge (g.n + q + p) height known (2 * in_tile p t (4 + k)))
    (known_wedge (g.n + q + p) height known (2 * in_tile p t (4 + k) + 1))
quarter-joined g q p k t height known some small tile samples is =
    let one = level_of-first (4 + k) (omega arith) (omega arith) in
    let split : IsSplittable g.n (4 + k) = record { low = omega arith; coarse = omega arith } in
    let wide : IsSplittable (g.n + q) (4 + k) = record { low = omega arith; coarse = omega arith } in
    wedge-known (g.n + q + p) height known (in_tile p t (4 + k))
    (in_tile-splittable (g.n + q) p t tile (4 + k) (omega arith) wide) is
    ∙ joined-page g.n q p t tile height g.heights samples (4 + k)
    (known_wedge (g.n + q + p) height known (2 * in_tile p t (4 + k)))
    (known_wedge (g.n + q + p) height known (2 * in_tile p t (4 + k) + 1)) (omega arith) split

-- the triangle of a quarter
quarter-is : (p k : ℕ) (t : Point) → k < 4 → in_tile p t (4 + k) ≡ quarter p t.x t.y k
quarter-is p k t small =
    let bits : (4 + k) % 4 ≡ k = omega arith in
    in_tile-quarter p t (4 + k) (omega arith) (omega arith) ∙ ap (quarter p t.x t.y) bits

-- a half, by its two quarters
pub half-joined : (page : Page) (q p which : ℕ) (t : Point) (height : Point → ℕ) (known : ℕ → Bool) →
    1 ≤ page.field.n → which < 2 → IsTile (2 ^ p) (2 ^ p) t →
    AreSamples page.field.n q t height page.field.heights → page.turned ≡ is_turned p t →
    IsTrue (known (half p t which)) → ((k : ℕ) → k < 4 → quarter_in page k
    ≡ known_wedge (page.field.n + q + p) height known (in_tile p t (4 + k))) →
    half_in page which ≡ known_wedge (page.field.n + q + p) height known (half p t which)
half-joined page q p which t height known some less tile samples turned is quarters =
    let level = half-level p t which less in
    let split : IsSplittable (page.field.n + q + p) (half p t which) =
    record { low = half-low p t which less; coarse = omega arith } in
    let left : quarter_in page (left_quarter (is_turned p t) which)
    ≡ known_wedge (page.field.n + q + p) height known (2 * half p t which) =
    quarters (left_quarter (is_turned p t) which) (left_quarter-small (is_turned p t) which)
    ∙ ap (known_wedge (page.field.n + q + p) height known)
    (quarter-is p (left_quarter (is_turned p t) which) t (left_quarter-small (is_turned p t) which)
    ∙ sym (half-left p t which less)) in
    let right : quarter_in page (right_quarter (is_turned p t) which)
    ≡ known_wedge (page.field.n + q + p) height known (2 * half p t which + 1) =
    quarters (right_quarter (is_turned p t) which) (right_quarter-small (is_turned p t) which)
    ∙ ap (known_wedge (page.field.n + q + p) height known)
    (quarter-is p (right_quarter (is_turned p t) which) t (right_quarter-small (is_turned p t) which)
    ∙ sym (half-right p t which less)) in
    ap (λ b. joined_in page.field (half_corners (2 ^ page.field.n) b which)
    (quarter_in page (left_quarter b which)) (quarter_in page (right_quarter b which))) turned
    ∙ ap₂ (joined_in page.field (half_corners (2 ^ page.field.n) (is_turned p t) which)) left right
    ∙ sym (joined-half page.field.n q p t tile height page.field.heights samples which
    (known_wedge (page.field.n + q + p) height known (2 * half p t which))
    (known_wedge (page.field.n + q + p) height known (2 * half p t which + 1)) some less)
    ∙ sym (wedge-known (page.field.n + q + p) height known (half p t which) split is)

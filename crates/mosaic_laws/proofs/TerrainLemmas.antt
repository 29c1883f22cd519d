-- Terrains of tiles with their own heights: their errors, and that what their tiles' meshes give is the least mosaic.
use Rattle.std.proofs.Common.{◌≡◌, ℕ, ◌+◌, ◌*◌, ◌^◌, ◌<◌, ◌≤◌, Bool, true, false, ◌&&◌, IsTrue, nat_lt, List}
use Rattle.std.proofs.Common.{refl, sym, ◌∙◌, ap, subst, arith, ⊎_elim}
use Rattle.std.proofs.lemmas.Bool.{cases_Bool, and_parts, and_from, ltb-true, lt-ltb, false≢true}
use Rattle.mesh_defs.specs.declared.point.Point.{Point}
use Rattle.mesh_defs.specs.Triangle.{level_of}
use Rattle.fit_laws.specs.Error.{error_of, IsExactAtFinest}
use Rattle.fit_laws.proofs.ErrorLemmas.{error-finest}
use Rattle.fit_laws.specs.Required.{IsLeastMeshWith}
use Rattle.mosaic_laws.specs.Tile.{IsTile, in_tile}
use Rattle.mosaic_laws.specs.Glue.{is_coarse, tile_of, local_of, splits_of, IsPartOf}
use Rattle.mosaic_laws.proofs.AddressLemmas.{level-some, in_tile-level, tile-in_tile, local-in_tile, local-address}
use Rattle.mosaic_laws.proofs.AddressLemmas.{local-level}
use Rattle.mosaic_laws.specs.Rounds.{tile_error, IsRunning, IsSettledDown}
use Rattle.mosaic_laws.specs.Mosaic.{IsLeastMosaic}
use Rattle.mosaic_laws.specs.Terrain.{is_tile, terrain_error}
use Rattle.mosaic_laws.proofs.AlikeLemmas.{error-alike}
use Rattle.mosaic_laws.proofs.RoundLemmas.{tile-wider}
use Rattle.mosaic_laws.proofs.RunLemmas.{tile-parts, tile-from}
use Rattle.mosaic_laws.proofs.MosaicLemmas.{run-mosaic, rectangle-mesh}

-- the value where the test passes
chosen : (b : Bool) (value : ℕ) → b ≡ true → elim b as (λ _. ℕ) [ true ↦ value | false ↦ 0 ] ≡ value
chosen true value is = refl
chosen false value is = absurd (false≢true is)

-- none where it fails
left_out : (b : Bool) (value : ℕ) → b ≡ false → elim b as (λ _. ℕ) [ true ↦ value | false ↦ 0 ] ≡ 0
left_out true value off = absurd (false≢true (sym off))
left_out false value off = refl

module _ (columns rows n p : ℕ) (heights : Point → List ℕ) where
  abbrev error : ℕ → ℕ
  error x = terrain_error columns rows n p heights x

  abbrev own : ℕ → ℕ
  own x = error_of n (heights (tile_of p x)) (local_of p x)

  -- in a tile it is the error by the tile's own heights
  pub terrain-inside : (t : Point) (a : ℕ) → columns ≤ 2 ^ p → rows ≤ 2 ^ p → IsTile columns rows t → 4 ≤ a →
      error (in_tile p t a) ≡ error_of n (heights t) a
  terrain-inside t a wide high tile big =
      let inside = tile-wider columns rows (2 ^ p) t wide high tile in
      let e : tile_of p (in_tile p t a) ≡ t = tile-in_tile p t a inside big in
      let f : local_of p (in_tile p t a) ≡ a = local-in_tile p t a inside big in
      let level = in_tile-level p t a big in
      let some = level-some a big in
      chosen (is_tile columns rows (tile_of p (in_tile p t a)) && nat_lt (2 * p) (level_of (in_tile p t a)))
      (error_of n (heights (tile_of p (in_tile p t a))) (local_of p (in_tile p t a)))
      (and_from (is_tile columns rows (tile_of p (in_tile p t a))) (nat_lt (2 * p) (level_of (in_tile p t a)))
      (subst (λ z. is_tile columns rows z ≡ true) (sym e) (tile-from columns rows t tile))
      (lt-ltb (2 * p) (level_of (in_tile p t a)) (omega arith)))
      ∙ ap (λ z. error_of n (heights z) (local_of p (in_tile p t a))) e
      ∙ ap (error_of n (heights t)) f

  -- and none beyond
  pub terrain-beyond : (t : Point) (a : ℕ) → IsTile (2 ^ p) (2 ^ p) t → (IsTile columns rows t → ⊥) → 4 ≤ a →
      error (in_tile p t a) ≡ 0
  terrain-beyond t a inside out big =
      let e : tile_of p (in_tile p t a) ≡ t = tile-in_tile p t a inside big in
      left_out (is_tile columns rows (tile_of p (in_tile p t a)) && nat_lt (2 * p) (level_of (in_tile p t a)))
      (error_of n (heights (tile_of p (in_tile p t a))) (local_of p (in_tile p t a)))
      (⊎_elim
      (λ is. absurd (out (tile-parts columns rows t (subst (λ z. is_tile columns rows z ≡ true) e
      (and_parts (is_tile columns rows (tile_of p (in_tile p t a)))
      (nat_lt (2 * p) (level_of (in_tile p t a))) is).0))))
      (λ off. off)
      (cases_Bool (is_tile columns rows (tile_of p (in_tile p t a)) && nat_lt (2 * p) (level_of (in_tile p t a)))))

  -- no finest triangle has one
  pub terrain-exact : IsExactAtFinest (n + p) error
  terrain-exact x address fine = ⊎_elim
      (λ is.
      let q = and_parts (is_tile columns rows (tile_of p x)) (nat_lt (2 * p) (level_of x)) is in
      let deep : 2 * p < level_of x = ltb-true (2 * p) (level_of x) q.1 in
      let level = local-level p x address.low deep in
      chosen (is_tile columns rows (tile_of p x) && nat_lt (2 * p) (level_of x)) (own x) is
      ∙ error-finest n (heights (tile_of p x)) (local_of p x) (local-address p x address.low deep n address)
      (omega arith))
      (λ off. left_out (is_tile columns rows (tile_of p x) && nat_lt (2 * p) (level_of x)) (own x) off)
      (cases_Bool (is_tile columns rows (tile_of p x) && nat_lt (2 * p) (level_of x)))

  module _ (tolerance : ℕ) (wide : columns ≤ 2 ^ p) (high : rows ≤ 2 ^ p) where
    -- a tile's least mesh by its own heights is that for the terrain's error
    pub terrain-mesh : (t : Point) (required : ℕ → Bool) (list : List ℕ) → IsTile columns rows t → IsTrue (required 2) →
        IsLeastMeshWith n tolerance (error_of n (heights t)) required list →
        IsLeastMeshWith n tolerance (tile_error p error t) required list
    terrain-mesh t required list tile centre least =
        error-alike n tolerance tolerance (error_of n (heights t)) (tile_error p error t) required list centre
        (λ a big address.
        let e = terrain-inside t a wide high tile big in ((λ le. omega arith), (λ le. omega arith)))
        least

    -- what the rounds end at is the least mosaic
    pub terrain-mosaic : (required : Point → ℕ → Bool) (lists : Point → List ℕ) →
        IsRunning columns rows n p tolerance error required (splits_of lists) →
        ((t : Point) → IsTile columns rows t →
        IsLeastMeshWith n tolerance (error_of n (heights t)) (required t) (lists t)) →
        IsSettledDown columns rows n p (splits_of lists) → IsLeastMosaic columns rows n p tolerance error lists
    terrain-mosaic required lists running meshes down =
        run-mosaic columns rows n p tolerance error required lists wide high running
        (λ t tile. terrain-mesh t (required t) (lists t) tile (running.centre t tile) (meshes t tile)) down

    -- which is what the least mesh of the whole square has in the terrain
    pub terrain-part : (lists : Point → List ℕ) (triangles : List ℕ) →
        IsLeastMosaic columns rows n p tolerance error lists →
        IsLeastMeshWith (n + p) tolerance error (is_coarse p) triangles → (t : Point) → IsTile columns rows t →
        IsPartOf n p t triangles (lists t)
    terrain-part lists triangles least mesh =
        rectangle-mesh columns rows n p tolerance error lists triangles wide high
        (λ t a tile out big address. let e = terrain-beyond t a tile out big in omega arith) least mesh

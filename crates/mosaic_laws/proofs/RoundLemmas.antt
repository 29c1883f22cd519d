-- Rounds: what the tiles' sets have is needed, and where they agree they are the least settled set with all that is
-- coarse.
use Rattle.std.proofs.Common.{◌≡◌, ℕ, zero, suc, ◌+◌, ◌*◌, ◌/◌, ◌^◌, ◌<◌, ◌≤◌, ◌⊎◌, Bool, List}
use Rattle.std.proofs.Common.{IsTrue, sym, ◌∙◌, ap, subst, arith, ⊎_elim}
use Rattle.std.proofs.lemmas.Bool.{cases_lt, false≢true}
use Rattle.mesh_defs.specs.declared.point.Point.{Point}
use Rattle.mesh_defs.specs.Triangle.{level_of, IsAddress}
use Rattle.mesh_defs.specs.Tiling.{IsConforming}
use Rattle.mesh_defs.specs.ClosedSet.{IsClosed, IsSubset}
use Rattle.mesh_defs.specs.Priority.{worst_of}
use Rattle.bintree_laws.proofs.CentreLemmas.{mate_symmetric}
use Rattle.mesh_laws.specs.Ancestors.{ancestors_of}
use Rattle.mesh_laws.proofs.ClosureLemmas.{IsOuter}
use Rattle.fit_laws.specs.Settled.{IsFineEnough}
use Rattle.fit_laws.proofs.SettledLemmas.{settled-outer, outer-settled, settled-ancestors}
use Rattle.fit_laws.specs.Required.{IsLeastSettledWith, IsLeastMeshWith}
use Rattle.fit_laws.proofs.RequiredLemmas.{with-mesh, mesh-with}
use Rattle.mosaic_laws.specs.Tile.{IsTile, in_tile, is_part}
use Rattle.mosaic_laws.specs.Glue.{is_coarse, tile_of, local_of, glue, splits_of, IsAgreed, IsUnionOf}
use Rattle.mosaic_laws.proofs.AddressLemmas.{in_tile-parent, in_tile-address, tile-is}
use Rattle.mosaic_laws.proofs.AddressLemmas.{local-big, local-address, in_tile-local}
use Rattle.mosaic_laws.proofs.MateLemmas.{level-big}
use Rattle.mosaic_laws.proofs.ClosedLemmas.{part-first, part-out, part-from, coarse-parts, coarse-from, coarse-n}
use Rattle.mosaic_laws.proofs.ClosedLemmas.{part-closed}
use Rattle.mosaic_laws.proofs.ClosedLemmas.{glue-parts, glue-coarse, glue-tile, glue-out, glue-closed, closed-second}
use Rattle.mosaic_laws.proofs.UnionLemmas.{part-outer, union-are_leaves}
use Rattle.mosaic_laws.specs.Rounds.{tile_error, IsAsked, IsRedone, IsReachedIn, IsSettledDown}

-- a tile of a rectangle in the square is a tile of the square
pub tile-wider : (columns rows most : ℕ) (t : Point) → columns ≤ most → rows ≤ most → IsTile columns rows t →
    IsTile most most t
tile-wider columns rows most t wide high tile =
    let c = tile.column in let r = tile.row in record { column = omega arith; row = omega arith }

-- the part of a settled set is settled
pub part-fine : (n p : ℕ) (t : Point) (has : ℕ → Bool) → IsTile (2 ^ p) (2 ^ p) t → IsSubset (is_coarse p) has →
    (tolerance : ℕ) (error : ℕ → ℕ) → IsFineEnough (n + p) tolerance error has →
    IsFineEnough n tolerance (tile_error p error t) (is_part p t has)
part-fine n p t has tile coarse tolerance error fine =
    outer-settled n tolerance (tile_error p error t) (is_part p t has)
    (part-closed n p t has tile (coarse-n n p has fine.closed coarse) fine.closed)
    (λ a outer. settled-outer (n + p) tolerance error has (in_tile p t a) fine (part-outer n p t has coarse a outer))

-- settled sets of the tiles that agree are one

module _ (n p tolerance : ℕ) (error : ℕ → ℕ) (sets : Point → ℕ → Bool)
    (fine : (t : Point) → IsTile (2 ^ p) (2 ^ p) t → IsFineEnough n tolerance (tile_error p error t) (sets t))
    (centres : (t : Point) → IsTile (2 ^ p) (2 ^ p) t → IsTrue (sets t 2))
    (agreed : IsAgreed (2 ^ p) (2 ^ p) n p sets) where
  -- all of them together are closed
  whole-closed : IsClosed (n + p) (glue p sets)
  whole-closed = glue-closed n p sets (λ t tile. (fine t tile).closed) centres agreed

  -- an outer triangle of all of them is an outer triangle of its tile
  glue-outer : (x : ℕ) → IsOuter (n + p) (glue p sets) x →
      (2 ≤ x) × (2 * p < level_of x) × IsOuter n (sets (tile_of p x)) (local_of p x)
  glue-outer x outer =
      let low : 2 ≤ x = outer.address.low in
      let deep : 2 * p < level_of x = ⊎_elim
      (λ less. absurd (outer.outside (glue-coarse p sets x low less)))
      (λ (deep : 2 * p + 1 ≤ level_of x). omega arith)
      (cases_lt (level_of x) (2 * p + 1)) in
      let t : Point = tile_of p x in
      let a : ℕ = local_of p x in
      let tile : IsTile (2 ^ p) (2 ^ p) t = tile-is p x low deep in
      let big : 4 ≤ a = local-big p x low deep in (
        low,
        deep,
        record {
          address = local-address p x low deep n outer.address;
          outside = λ is. outer.outside (glue-tile p sets x low is);
          parent = λ parent. ⊎_elim
              (λ (small : a < 8). closed-second n (sets t) (fine t tile).closed (centres t tile) (a / 2) (omega arith)
              (omega arith))
              (λ (large : 8 ≤ a).
              let up = in_tile-parent p t a large in
              let some = level-big x low (omega arith) in
              glue-out n p sets t (a / 2) tile (omega arith)
              (subst (λ z. IsTrue (glue p sets z)) (ap (λ z. z / 2) (sym (in_tile-local p x low deep)) ∙ up.0)
              (outer.parent some)))
              (cases_lt a 8);
        },
      )

  -- so they are settled
  pub glue-fine : IsFineEnough (n + p) tolerance error (glue p sets)
  glue-fine = outer-settled (n + p) tolerance error (glue p sets) whole-closed (λ x outer.
      let q = glue-outer x outer in
      let fits = settled-outer n tolerance (tile_error p error (tile_of p x)) (sets (tile_of p x)) (local_of p x)
      (fine (tile_of p x) (tile-is p x q.0 q.1)) q.2 in
      subst (λ z. error z ≤ tolerance) (in_tile-local p x q.0 q.1) fits)

-- what is reached by rounds is needed

module _ (columns rows n p tolerance : ℕ) (error : ℕ → ℕ) (other : ℕ → Bool) (wide : columns ≤ 2 ^ p)
    (high : rows ≤ 2 ^ p) (fine : IsFineEnough (n + p) tolerance error other)
    (coarse : IsSubset (is_coarse p) other) where
  -- each settled set that has all that is coarse has it
  pub reached-needed : (rounds : ℕ) (sets : Point → ℕ → Bool) →
      IsReachedIn rounds columns rows n p tolerance error sets →
      (t : Point) → IsTile columns rows t → IsSubset (sets t) (is_part p t other)
  reached-needed zero sets reached t tile a is = absurd (false≢true (sym (reached t a) ∙ is))
  reached-needed (suc rounds) sets reached t tile a is =
      let before : Point → ℕ → Bool = reached.0 in
      ⊎_elim
      (λ (stays : (a : ℕ) → sets t a ≡ before t a).
      reached-needed rounds before reached.1 t tile a (sym (stays a) ∙ is))
      (λ (redone : IsRedone columns rows n p tolerance error before t (sets t)).
      redone.least.needed (is_part p t other)
      (part-fine n p t other (tile-wider columns rows (2 ^ p) t wide high tile) coarse tolerance error fine)
      (λ c wanted. ⊎_elim
      (λ (first : c ≡ 2). subst (λ z. IsTrue (is_part p t other z)) (sym first)
      (part-first p t other 2 (omega arith) (omega arith)))
      (λ (ask : IsAsked columns rows n p before t c).
      let there : IsTrue (is_part p ask.other other ask.beyond) =
      reached-needed rounds before reached.1 ask.other ask.tile ask.beyond ask.split in
      let address : IsAddress (n + p) (in_tile p t c) = in_tile-address p t n c ask.big ask.address in
      part-from p t other c ask.address.low
      (fine.closed.mate (in_tile p ask.other ask.beyond) (in_tile p t c)
      (part-out p ask.other other ask.beyond ask.large there)
      (mate_symmetric (n + p) (in_tile p t c) (in_tile p ask.other ask.beyond) address ask.mates)))
      (redone.asked c wanted))
      a is)
      (reached.2 t tile)

-- tiles that have all that they ask for agree
pub asked-agreed : (columns rows n p : ℕ) (sets : Point → ℕ → Bool) → IsSettledDown columns rows n p sets →
    IsAgreed columns rows n p sets
asked-agreed columns rows n p sets all t u a c tile tile' other address address' big large mate is =
    all u c tile' record {
      other = t;
      beyond = a;
      tile = tile;
      address = address';
      there = address;
      big = large;
      large = big;
      mates = mate_symmetric (n + p) (in_tile p t a) (in_tile p u c) (in_tile-address p t n a big address) mate;
      split = is;
    }

-- the whole

-- sets that are reached by rounds, settled and agreed are the least settled set with all that is coarse
pub reached-least : (n p tolerance rounds : ℕ) (error : ℕ → ℕ) (sets : Point → ℕ → Bool) →
    IsReachedIn rounds (2 ^ p) (2 ^ p) n p tolerance error sets →
    ((t : Point) → IsTile (2 ^ p) (2 ^ p) t → IsFineEnough n tolerance (tile_error p error t) (sets t)) →
    ((t : Point) → IsTile (2 ^ p) (2 ^ p) t → IsTrue (sets t 2)) → IsAgreed (2 ^ p) (2 ^ p) n p sets →
    IsLeastSettledWith (n + p) tolerance error (is_coarse p) (glue p sets)
reached-least n p tolerance rounds error sets reached fine centres agreed = record {
  settled = glue-fine n p tolerance error sets fine centres agreed;
  splits = λ x is. let q = coarse-parts p x is in glue-coarse p sets x q.0 q.1;
  needed = λ other whole coarse x h.
      let q = glue-parts p sets x h in
      ⊎_elim
      (λ less. coarse x (coarse-from p x q.0 less))
      (λ (r : (2 * p < level_of x) × IsTrue (sets (tile_of p x) (local_of p x))).
      subst (λ z. IsTrue (other z)) (in_tile-local p x q.0 r.0)
      (part-out p (tile_of p x) other (local_of p x) (local-big p x q.0 r.0)
      (reached-needed (2 ^ p) (2 ^ p) n p tolerance error other (omega arith) (omega arith) whole coarse rounds sets
      reached (tile_of p x) (tile-is p x q.0 r.0) (local_of p x) r.1)))
      q.1;
}

-- a tile's mesh that has its centre and what its neighbours ask for is a tile fitted again
pub redone-mesh : (columns rows n p tolerance : ℕ) (error : ℕ → ℕ) (before : Point → ℕ → Bool) (t : Point)
    (required : ℕ → Bool) (list : List ℕ) → IsTrue (required 2) →
    ((a : ℕ) → IsTrue (required a) → (a ≡ 2) ⊎ IsAsked columns rows n p before t a) →
    IsLeastMeshWith n tolerance (tile_error p error t) required list →
    IsRedone columns rows n p tolerance error before t (ancestors_of list)
redone-mesh columns rows n p tolerance error before t required list centre asked least = record {
  required = required;
  centre = centre;
  asked = asked;
  least = mesh-with n tolerance (tile_error p error t) required list least;
}

-- where the tiles' meshes agree, their union is the least mesh among those as fine as the tiles' quarters
pub union-least : (n p tolerance rounds : ℕ) (error : ℕ → ℕ) (lists : Point → List ℕ) (triangles : List ℕ) →
    IsReachedIn rounds (2 ^ p) (2 ^ p) n p tolerance error (splits_of lists) →
    ((t : Point) → IsTile (2 ^ p) (2 ^ p) t →
    IsConforming n (lists t) × (worst_of (tile_error p error t) (lists t) ≤ tolerance)) →
    ((t : Point) → IsTile (2 ^ p) (2 ^ p) t → IsTrue (ancestors_of (lists t) 2)) →
    IsAgreed (2 ^ p) (2 ^ p) n p (splits_of lists) → IsUnionOf n p lists triangles →
    IsLeastMeshWith (n + p) tolerance error (is_coarse p) triangles
union-least n p tolerance rounds error lists triangles reached meshes centres agreed union =
    let conforming : (t : Point) → IsTile (2 ^ p) (2 ^ p) t → IsConforming n (lists t) = λ t tile. (meshes t tile).0 in
    let least : IsLeastSettledWith (n + p) tolerance error (is_coarse p) (glue p (splits_of lists)) =
    reached-least n p tolerance rounds error (splits_of lists) reached
    (λ t tile. settled-ancestors n tolerance (tile_error p error t) (lists t) (conforming t tile) (meshes t tile).1)
    centres agreed in
    with-mesh (n + p) (glue p (splits_of lists)) triangles least.settled.closed
    (union-are_leaves n p lists conforming centres agreed triangles union) tolerance error (is_coarse p) least

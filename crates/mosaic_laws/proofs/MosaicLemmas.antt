-- Mosaics: rounds end at the least one; over the whole square it is the least mesh as fine as the tiles' quarters, and
-- over a rectangle it is the part of that mesh, where no tile beyond has an error above the tolerance.
use Rattle.std.proofs.Common.{◌≡◌, ◌≢◌, ℕ, zero, suc, ◌+◌, ◌*◌, ◌^◌, ◌<◌, ◌≤◌, refl, sym, ◌∙◌, ap, subst}
use Rattle.std.proofs.Common.{arith, ⊎_elim, Bool, IsTrue, List, count_by, eqb}
use Rattle.std.proofs.lemmas.Bool.{false≢true}
use Rattle.std.proofs.lemmas.List.Elements.{All-contains}
use Rattle.mesh_defs.specs.declared.point.Point.{Point}
use Rattle.mesh_defs.specs.Triangle.{level_of, IsAddress, IsMate}
use Rattle.mesh_defs.specs.Tiling.{IsConforming}
use Rattle.mesh_defs.specs.ClosedSet.{IsSubset, leaves_of}
use Rattle.mesh_defs.specs.Priority.{worst_of}
use Rattle.mesh_defs.proofs.ListLemmas.{IsIn-contains}
use Rattle.mesh_defs.proofs.TestLemmas.{same_tests}
use Rattle.bintree_laws.proofs.CentreLemmas.{mate_symmetric}
use Rattle.mesh_laws.specs.Ancestors.{ancestors_of}
use Rattle.mesh_laws.proofs.ConformityLemmas.{IsConforming-leaves_of}
use Rattle.mesh_laws.proofs.ConverseLemmas.{IsClosed-ancestors_of, AreLeaves-ancestors_of}
use Rattle.mesh_laws.proofs.ClosureLemmas.{leaves_of-same}
use Rattle.mesh_laws.proofs.LeastLemmas.{above_leaf-member}
use Rattle.fit_laws.specs.Error.{IsExactAtFinest}
use Rattle.fit_laws.specs.Settled.{IsFineEnough}
use Rattle.fit_laws.proofs.OrderLemmas.{member-above_leaf}
use Rattle.fit_laws.proofs.SettledLemmas.{settled-ancestors}
use Rattle.fit_laws.specs.Required.{IsLeastSettledWith, IsMeshWith, IsLeastMeshWith}
use Rattle.fit_laws.proofs.RequiredLemmas.{with-found, with-mesh, mesh-with}
use Rattle.mosaic_laws.specs.Tile.{IsTile, in_tile, is_part}
use Rattle.mosaic_laws.specs.Glue.{is_coarse, tile_of, local_of, glue, splits_of, IsAgreed, IsPartOf, IsUnionOf}
use Rattle.mosaic_laws.proofs.AddressLemmas.{tile-is, in_tile-address, in_tile-local, local-big}
use Rattle.mosaic_laws.proofs.MateLemmas.{mate-out}
use Rattle.mosaic_laws.proofs.ClosedLemmas.{cases_point, part-first, part-out, part-agreed, coarse-parts, coarse-from}
use Rattle.mosaic_laws.proofs.ClosedLemmas.{glue-parts, glue-coarse}
use Rattle.mosaic_laws.proofs.UnionLemmas.{part-leaves, union-are_leaves}
use Rattle.mosaic_laws.specs.Rounds.{tile_error, IsAsked, IsRedone, IsReachedIn, IsRunning, IsSettledDown}
use Rattle.mosaic_laws.specs.Mosaic.{IsMosaic, IsLeastMosaic}
use Rattle.mosaic_laws.proofs.AlikeLemmas.{entry-big}
use Rattle.mosaic_laws.proofs.RoundLemmas.{tile-wider, part-fine, glue-fine, asked-agreed}
use Rattle.mosaic_laws.proofs.RectangleLemmas.{rectangle-most}

-- what rounds reach is in each family of settled sets that agree

module _ (columns rows n p tolerance : ℕ) (error : ℕ → ℕ) (others : Point → ℕ → Bool) (wide : columns ≤ 2 ^ p)
    (high : rows ≤ 2 ^ p)
    (fine : (t : Point) → IsTile columns rows t → IsFineEnough n tolerance (tile_error p error t) (others t))
    (centres : (t : Point) → IsTile columns rows t → IsTrue (others t 2))
    (agreed : IsAgreed columns rows n p others) where
  pub family-needed : (rounds : ℕ) (sets : Point → ℕ → Bool) →
      IsReachedIn rounds columns rows n p tolerance error sets →
      (t : Point) → IsTile columns rows t → IsSubset (sets t) (others t)
  family-needed zero sets reached t tile a is = absurd (false≢true (sym (reached t a) ∙ is))
  family-needed (suc rounds) sets reached t tile a is =
      let before : Point → ℕ → Bool = reached.0 in
      ⊎_elim
      (λ (stays : (a : ℕ) → sets t a ≡ before t a).
      family-needed rounds before reached.1 t tile a (sym (stays a) ∙ is))
      (λ (redone : IsRedone columns rows n p tolerance error before t (sets t)).
      redone.least.needed (others t) (fine t tile)
      (λ c wanted. ⊎_elim
      (λ (first : c ≡ 2). subst (λ z. IsTrue (others t z)) (sym first) (centres t tile))
      (λ (ask : IsAsked columns rows n p before t c).
      let there : IsTrue (others ask.other ask.beyond) =
      family-needed rounds before reached.1 ask.other ask.tile ask.beyond ask.split in
      let back : IsMate (n + p) (in_tile p ask.other ask.beyond) (in_tile p t c) =
      mate_symmetric (n + p) (in_tile p t c) (in_tile p ask.other ask.beyond)
      (in_tile-address p t n c ask.big ask.address) ask.mates in
      ⊎_elim
      (λ (one : ask.other ≡ t).
      let inside : IsMate (n + p) (in_tile p t ask.beyond) (in_tile p t c) =
      subst (λ z. IsMate (n + p) (in_tile p z ask.beyond) (in_tile p t c)) one back in
      (fine t tile).closed.mate ask.beyond c (subst (λ z. IsTrue (others z ask.beyond)) one there)
      (mate-out n p t (tile-wider columns rows
      (2 ^ p) t wide high tile) ask.beyond c ask.large ask.big ask.there inside))
      (λ (two : ask.other ≢ t).
      agreed ask.other t ask.beyond c ask.tile tile two ask.there ask.address ask.large ask.big back there)
      (cases_point ask.other t))
      (redone.asked c wanted))
      a is)
      (reached.2 t tile)

-- the least mosaic

-- a list whose splits are split in another: it has no more triangles, and the other's lie in its own
list-least : (n tolerance : ℕ) (error : ℕ → ℕ) (list : List ℕ) → IsConforming n list → worst_of error list ≤ tolerance →
    IsLeastMeshWith n tolerance error (ancestors_of list) list
list-least n tolerance error list conforming within =
    with-mesh n (ancestors_of list) list (IsClosed-ancestors_of n list conforming)
    (AreLeaves-ancestors_of n list conforming)
    tolerance error (ancestors_of list) record {
      settled = settled-ancestors n tolerance error list conforming within;
      splits = λ a is. is;
      needed = λ other fine splits. splits;
    }

-- a mosaic that is in each other is the least one
pub mosaic-least : (columns rows n p tolerance : ℕ) (error : ℕ → ℕ) (lists : Point → List ℕ) →
    IsMosaic columns rows n p tolerance error lists →
    ((others : Point → List ℕ) → IsMosaic columns rows n p tolerance error others →
    (t : Point) → IsTile columns rows t → IsSubset (ancestors_of (lists t)) (ancestors_of (others t))) →
    IsLeastMosaic columns rows n p tolerance error lists
mosaic-least columns rows n p tolerance error lists mosaic inside = record {
  mosaic = mosaic;
  inside = inside;
  fewest = λ others m t tile. (own t tile).fewest (others t) (there others m t tile);
  refined = λ others m t tile. (own t tile).refined (others t) (there others m t tile);
}
  where
    own : (t : Point) → IsTile columns rows t →
        IsLeastMeshWith n tolerance (tile_error p error t) (ancestors_of (lists t)) (lists t)
    own t tile = list-least n tolerance (tile_error p error t) (lists t) (mosaic.conforming t tile)
        (mosaic.within t tile)

    there : (others : Point → List ℕ) → IsMosaic columns rows n p tolerance error others →
        (t : Point) → IsTile columns rows t →
        IsMeshWith n tolerance (tile_error p error t) (ancestors_of (lists t)) (others t)
    there others m t tile = record {
      conforming = m.conforming t tile;
      within = m.within t tile;
      splits = inside others m t tile;
    }

-- the set of a mosaic's tile is settled
mosaic-fine : (columns rows n p tolerance : ℕ) (error : ℕ → ℕ) (lists : Point → List ℕ) →
    IsMosaic columns rows n p tolerance error lists → (t : Point) → IsTile columns rows t →
    IsFineEnough n tolerance (tile_error p error t) (ancestors_of (lists t))
mosaic-fine columns rows n p tolerance error lists m t tile =
    settled-ancestors n tolerance (tile_error p error t) (lists t) (m.conforming t tile) (m.within t tile)

-- rounds that settle down end at the least mosaic
pub run-mosaic : (columns rows n p tolerance : ℕ) (error : ℕ → ℕ) (required : Point → ℕ → Bool)
    (lists : Point → List ℕ) →
    columns ≤ 2 ^ p → rows ≤ 2 ^ p → IsRunning columns rows n p tolerance error required (splits_of lists) →
    ((t : Point) → IsTile columns rows t →
    IsLeastMeshWith n tolerance (tile_error p error t) (required t) (lists t)) →
    IsSettledDown columns rows n p (splits_of lists) → IsLeastMosaic columns rows n p tolerance error lists
run-mosaic columns rows n p tolerance error required lists wide high running meshes down =
    mosaic-least columns rows n p tolerance error lists record {
      conforming = λ t tile. (meshes t tile).mesh.conforming;
      within = λ t tile. (meshes t tile).mesh.within;
      centre = λ t tile. (meshes t tile).mesh.splits 2 (running.centre t tile);
      agreed = asked-agreed columns rows n p (splits_of lists) down;
    }
    (λ others m. family-needed columns rows n p tolerance error (splits_of others) wide high
    (mosaic-fine columns rows n p tolerance error others m) m.centre m.agreed running.rounds (splits_of lists)
    running.reached)

-- parts of a settled set

module _ (columns rows n p tolerance : ℕ) (error : ℕ → ℕ) (wide : columns ≤ 2 ^ p) (high : rows ≤ 2 ^ p)
    (other : ℕ → Bool) (fine : IsFineEnough (n + p) tolerance error other) (coarse : IsSubset (is_coarse p) other) where
  abbrev parts : Point → List ℕ
  parts t = leaves_of n (is_part p t other)

  parts-fine : (t : Point) → IsTile columns rows t → IsFineEnough n tolerance (tile_error p error t) (is_part p t other)
  parts-fine t tile =
      part-fine n p t other (tile-wider columns rows (2 ^ p) t wide high tile) coarse tolerance error fine

  -- a settled set of the whole with all that is coarse has a mosaic in each rectangle
  pub parts-mosaic : IsMosaic columns rows n p tolerance error parts
  parts-mosaic = record {
    conforming = λ t tile. IsConforming-leaves_of n (is_part p t other) (parts-fine t tile).closed;
    within = λ t tile. (parts-fine t tile).within;
    centre = λ t tile. member-above_leaf n (is_part p t other) (parts-fine t tile).closed 2
        (part-first p t other 2 (omega arith) (omega arith));
    agreed = λ t u a c tile tile' two address address' big large mates is.
        member-above_leaf n (is_part p u other) (parts-fine u tile').closed c
        (part-agreed columns rows n p other fine.closed t u a c tile tile' two address address' big large mates
        (above_leaf-member n (is_part p t other) (parts-fine t tile).closed a is));
  }

  -- so a least mosaic's splits are split in it
  pub mosaic-part : (lists : Point → List ℕ) → IsLeastMosaic columns rows n p tolerance error lists →
      (t : Point) → IsTile columns rows t → IsSubset (ancestors_of (lists t)) (is_part p t other)
  mosaic-part lists least t tile a is =
      above_leaf-member n (is_part p t other) (parts-fine t tile).closed a (least.inside parts parts-mosaic t tile a is)

-- the whole square

-- the union of the least mosaic of all tiles is the least mesh as fine as the tiles' quarters
pub mosaic-union : (n p tolerance : ℕ) (error : ℕ → ℕ) (lists : Point → List ℕ) (triangles : List ℕ) →
    IsLeastMosaic (2 ^ p) (2 ^ p) n p tolerance error lists → IsUnionOf n p lists triangles →
    IsLeastMeshWith (n + p) tolerance error (is_coarse p) triangles
mosaic-union n p tolerance error lists triangles least union =
    with-mesh (n + p) (glue p (splits_of lists)) triangles fine.closed
    (union-are_leaves n p lists m.conforming m.centre m.agreed triangles union) tolerance error (is_coarse p) record {
      settled = fine;
      splits = λ x is. let q = coarse-parts p x is in glue-coarse p (splits_of lists) x q.0 q.1;
      needed = λ other whole coarse x h.
          let q = glue-parts p (splits_of lists) x h in
          ⊎_elim
          (λ less. coarse x (coarse-from p x q.0 less))
          (λ (r : (2 * p < level_of x) × IsTrue (splits_of lists (tile_of p x) (local_of p x))).
          subst (λ z. IsTrue (other z)) (in_tile-local p x q.0 r.0)
          (part-out p (tile_of p x) other (local_of p x) (local-big p x q.0 r.0)
          (mosaic-part (2 ^ p) (2 ^ p) n p tolerance error (omega arith) (omega arith) other whole coarse lists least
          (tile_of p x) (tile-is p x q.0 r.0) (local_of p x) r.1)))
          q.1;
    }
  where
    m : IsMosaic (2 ^ p) (2 ^ p) n p tolerance error lists
    m = least.mosaic

    fine : IsFineEnough (n + p) tolerance error (glue p (splits_of lists))
    fine = glue-fine n p tolerance error (splits_of lists) (mosaic-fine (2 ^ p) (2 ^ p) n p tolerance error lists m)
        m.centre m.agreed

-- there is such a mesh
pub whole-found : (n p tolerance : ℕ) (error : ℕ → ℕ) → 1 ≤ n → IsExactAtFinest (n + p) error →
    (triangles : List ℕ) × IsLeastMeshWith (n + p) tolerance error (is_coarse p) triangles
whole-found n p tolerance error some exact =
    let f : (has : ℕ → Bool) × IsLeastSettledWith (n + p) tolerance error (is_coarse p) has =
    with-found (n + p) (is_coarse p) (λ a is. let q = coarse-parts p a is in record { low = q.0; coarse = omega arith })
    tolerance error exact in (
      leaves_of (n + p) f.0,
      with-mesh (n + p) f.0 (leaves_of (n + p) f.0) f.1.settled.closed record { counts = λ a. refl } tolerance error
          (is_coarse p) f.1,
    )

-- rectangles

module _ (columns rows n p tolerance : ℕ) (error : ℕ → ℕ) (lists : Point → List ℕ) (triangles : List ℕ)
    (wide : columns ≤ 2 ^ p) (high : rows ≤ 2 ^ p)
    (beyond : (t : Point) (a : ℕ) → IsTile (2 ^ p) (2 ^ p) t → (IsTile columns rows t → ⊥) → 4 ≤ a → IsAddress n a →
    error (in_tile p t a) ≤ tolerance)
    (least : IsLeastMosaic columns rows n p tolerance error lists)
    (mesh : IsLeastMeshWith (n + p) tolerance error (is_coarse p) triangles) where
  whole : IsLeastSettledWith (n + p) tolerance error (is_coarse p) (ancestors_of triangles)
  whole = mesh-with (n + p) tolerance error (is_coarse p) triangles mesh

  -- what the least mosaic splits in a tile is what the least mesh of the whole splits there
  pub rectangle-splits : (t : Point) → IsTile columns rows t → (a : ℕ) →
      is_part p t (ancestors_of triangles) a ≡ ancestors_of (lists t) a
  rectangle-splits t tile a =
      let column = tile.column in let row = tile.row in
      same_tests (is_part p t (ancestors_of triangles) a) (ancestors_of (lists t) a)
      (λ h. rectangle-most columns rows n p (omega arith) (omega arith) wide high (splits_of lists)
      (λ t tile. (mosaic-fine columns rows n p tolerance error lists least.mosaic t tile).closed) least.mosaic.centre
      least.mosaic.agreed tolerance error (mosaic-fine columns rows n p tolerance error lists least.mosaic) beyond
      (ancestors_of triangles) whole t tile a h)
      (λ h. mosaic-part columns rows n p tolerance error wide high (ancestors_of triangles) whole.settled whole.splits
      lists least t tile a h)

  -- so its list has the triangles that the least mesh of the whole has there
  pub rectangle-mesh : (t : Point) → IsTile columns rows t → IsPartOf n p t triangles (lists t)
  rectangle-mesh t tile =
      let conforming : IsConforming n (lists t) = least.mosaic.conforming t tile in
      record {
        addresses = λ a listed. (
          All-contains (IsAddress n) (lists t) a conforming.addresses listed,
          entry-big n (lists t) a conforming (least.mosaic.centre t tile) (IsIn-contains a (lists t) listed),
        );
        counts = λ a address big.
            sym ((AreLeaves-ancestors_of n (lists t) conforming).counts a)
            ∙ ap (λ (l : List ℕ). count_by (λ x. eqb x a) l)
            (sym (leaves_of-same n (is_part p t (ancestors_of triangles)) (ancestors_of (lists t))
            (rectangle-splits t tile)))
            ∙ part-leaves n p t (ancestors_of triangles) a (tile-wider columns rows (2 ^ p) t wide high tile)
            whole.settled.closed whole.splits address big
            ∙ (AreLeaves-ancestors_of (n + p) triangles mesh.mesh.conforming).counts (in_tile p t a);
      }

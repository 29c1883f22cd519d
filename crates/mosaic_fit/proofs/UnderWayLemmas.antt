-- A loop over tiles: none at first, one more, and the end.
use Rattle.std.proofs.Common.{◌≡◌, ◌≢◌, ◌⊎◌, ◌↔◌, ℕ, suc, ◌+◌, ◌-◌, ◌*◌, ◌^◌, ◌<◌, ◌≤◌, Bool, true, false, ◌&&◌}
use Rattle.std.proofs.Common.{IsTrue, eqb, List, [], ◌∷◌, length, refl, sym, ◌∙◌, ap, subst, arith, ⊎_elim, inl, inr}
use Rattle.std.proofs.Common.{eq-eqb}
use Rattle.std.proofs.Common.{Result, Ok, Err, All, pow_mono}
use Rattle.std.specs.Prelude.{OnOk, OnErr, IsErr}
use Rattle.std.proofs.lemmas.List.Elements.{All-contains}
use Rattle.std.proofs.lemmas.Nat.{mul-le, mul-pow}
use Rattle.std.proofs.lemmas.Bool.{both_ways, and_parts, and_from, eqb-true}
use Rattle.mesh_defs.specs.declared.point.Point.{Point}
use Rattle.mesh_defs.specs.declared.point.Corners.{Corners}
use Rattle.mesh_defs.specs.Triangle.{corners_of, IsAddress, IsSplittable, HasBorderBase}
use Rattle.mesh_defs.specs.ClosedSet.{leaves_of, among}
use Rattle.mesh_defs.proofs.ListLemmas.{Any-in, Contains-in}
use Rattle.bintree_laws.proofs.LevelLemmas.{level-le}
use Rattle.bintree_laws.proofs.LatticeLemmas.{same_point}
use Rattle.mesh_laws.specs.Ancestors.{ancestors_of}
use Rattle.mesh_laws.proofs.ConverseLemmas.{IsClosed-ancestors_of}
use Rattle.mesh_laws.proofs.LeafLemmas.{leaves-most}
use Rattle.fit_laws.specs.Error.{error_of}
use Rattle.fit_laws.specs.Required.{IsLeastMeshWith, IsLeastSettledWith}
use Rattle.fit_laws.proofs.RequiredLemmas.{mesh-with, with-more, with-grown}
use Rattle.mosaic_laws.specs.Tile.{IsTile}
use Rattle.mosaic_laws.specs.Glue.{splits_of}
use Rattle.mosaic_laws.specs.Mirror.{mirrored, turned_over, IsBeyond}
use Rattle.mosaic_laws.proofs.ClosedLemmas.{cases_point}
use Rattle.mosaic_laws.proofs.MirrorLemmas.{mirrored-corners}
use Rattle.mosaic_laws.proofs.JoinLemmas.{number-small, joined-grown, joined-most}
use Rattle.mosaic_laws.specs.Rounds.{tile_error, IsAsked, IsRedone, IsReachedIn, IsRunning, IsSettledDown}
use Rattle.mosaic_laws.specs.Terrain.{terrain_error}
use Rattle.mosaic_laws.specs.Mosaic.{IsLeastMosaic}
use Rattle.mosaic_laws.proofs.NeighbourLemmas.{beyond-asked, down-from}
use Rattle.mosaic_laws.proofs.TerrainLemmas.{terrain-mesh, terrain-mosaic}
use Rattle.mosaic_rounds.specs.Rounds.{RoundsState, splits, IsAskedIn, Lacks}
use Rattle.mosaic_rounds.specs.BorderPoints.{IsKept}
use Rattle.mosaic_fit.specs.UnderWay.{IsFitted, IsUnderWay}

-- one tile's value in the place of another

abbrev is_point : Point → Point → Bool
is_point u t = eqb u.x t.x && eqb u.y t.y

abbrev pub changed : {A : Type 0} → (Point → A) → Point → A → Point → A
changed {A} old t new u = elim (is_point u t) as (λ _. A) [ true ↦ new | false ↦ old u ]

changed-here : {A : Type 0} (old : Point → A) (t : Point) (new : A) → changed old t new t ≡ new
changed-here {A} old t new =
    at (is_point t t) (and_from (eqb t.x t.x) (eqb t.y t.y) (eq-eqb t.x t.x refl) (eq-eqb t.y t.y refl))
  where
    at : (b : Bool) → b ≡ true → elim b as (λ _. A) [ true ↦ new | false ↦ old t ] ≡ new
    at true e = refl
    at false e = absurd (both_ways false refl e)

changed-there : {A : Type 0} (old : Point → A) (t : Point) (new : A) (u : Point) → u ≢ t → changed old t new u ≡ old u
changed-there {A} old t new u other =
    at (is_point u t) (λ is.
    let p = and_parts (eqb u.x t.x) (eqb u.y t.y) is in
    other (same_point u.x u.y t.x t.y (eqb-true u.x t.x p.0) (eqb-true u.y t.y p.1)))
  where
    at : (b : Bool) → (b ≡ true → ⊥) → elim b as (λ _. A) [ true ↦ new | false ↦ old u ] ≡ old u
    at true e = absurd (e refl)
    at false e = refl

-- what lies beyond a side

-- both have their bases on the border
beyond-base : (n : ℕ) (t u : Point) (a c : ℕ) → IsBeyond n t u a c → HasBorderBase n a
beyond-base n t u a c (inl h) = inl (h.0, h.1)
beyond-base n t u a c (inr (inl h)) = inr (inl (h.0, h.1))
beyond-base n t u a c (inr (inr (inl h))) = inr (inr (inl (h.0, h.1)))
beyond-base n t u a c (inr (inr (inr h))) = inr (inr (inr (h.0, h.1)))

image-corners : (n which a c : ℕ) → 4 ≤ a → IsAddress n a → c ≡ mirrored which a →
    corners_of n c ≡ turned_over which (2 ^ n) (corners_of n a)
image-corners n which a c big address is =
    ap (corners_of n) is ∙ mirrored-corners which n a big (level-le n a address)

image-base : (n : ℕ) (t u : Point) (a c : ℕ) → 4 ≤ a → IsAddress n a → IsBeyond n t u a c → HasBorderBase n c
image-base n t u a c big address (inl h) =
    let e = image-corners n 0 a c big address h.4 in
    let p = h.0 in
    let q = h.1 in
    inr (inl (
      ap (λ (k : Corners). k.v0.x) e ∙ (let z : 2 ^ n - (corners_of n a).v1.x ≡ 2 ^ n = omega arith in z),
      ap (λ (k : Corners). k.v1.x) e ∙ (let z : 2 ^ n - (corners_of n a).v0.x ≡ 2 ^ n = omega arith in z),
    ))
image-base n t u a c big address (inr (inl h)) =
    let e = image-corners n 0 a c big address h.4 in
    let p = h.0 in
    let q = h.1 in
    inl (
      ap (λ (k : Corners). k.v0.x) e ∙ (let z : 2 ^ n - (corners_of n a).v1.x ≡ 0 = omega arith in z),
      ap (λ (k : Corners). k.v1.x) e ∙ (let z : 2 ^ n - (corners_of n a).v0.x ≡ 0 = omega arith in z),
    )
image-base n t u a c big address (inr (inr (inl h))) =
    let e = image-corners n 1 a c big address h.4 in
    let p = h.0 in
    let q = h.1 in
    inr (inr (inr (
      ap (λ (k : Corners). k.v0.y) e ∙ (let z : 2 ^ n - (corners_of n a).v1.y ≡ 2 ^ n = omega arith in z),
      ap (λ (k : Corners). k.v1.y) e ∙ (let z : 2 ^ n - (corners_of n a).v0.y ≡ 2 ^ n = omega arith in z),
    )))
image-base n t u a c big address (inr (inr (inr h))) =
    let e = image-corners n 1 a c big address h.4 in
    let p = h.0 in
    let q = h.1 in
    inr (inr (inl (
      ap (λ (k : Corners). k.v0.y) e ∙ (let z : 2 ^ n - (corners_of n a).v1.y ≡ 0 = omega arith in z),
      ap (λ (k : Corners). k.v1.y) e ∙ (let z : 2 ^ n - (corners_of n a).v0.y ≡ 0 = omega arith in z),
    )))

-- nothing is above no entry
nothing-above : (list : List ℕ) (a : ℕ) → list ≡ [] → IsTrue (ancestors_of list a) → ⊥
nothing-above list a none is =
    both_ways (ancestors_of list a) (ap (λ (l : List ℕ). ancestors_of l a) none) is

-- no tile is fitted

pub under-way-first : (columns rows n tolerance : ℕ) (has : Point → ℕ → Bool) (heights meshes : Point → List ℕ) →
    ((t : Point) (a : ℕ) → has t a ≡ false) → IsUnderWay columns rows n tolerance 0 has heights meshes
under-way-first columns rows n tolerance has heights meshes none = record {
  lists = λ t. [];
  required = λ t a. false;
  each = λ t. inl refl;
  only = λ t a tile is. absurd (both_ways (has t a) (none t a) is);
  kept = λ t a tile kept is. absurd (both_ways false refl is);
  reached = λ p wide high. (0, λ t a. refl);
  count = omega arith;
}

module _ (columns rows n tolerance steps : ℕ) (has : Point → ℕ → Bool) (heights meshes : Point → List ℕ)
    (w : IsUnderWay columns rows n tolerance steps has heights meshes) where
  -- what the lists have split can be split
  list-splittable : (t : Point) (a : ℕ) → IsTrue (ancestors_of (w.lists t) a) → IsSplittable n a
  list-splittable t a is = ⊎_elim
      (λ none. absurd (nothing-above (w.lists t) a none is))
      (λ (f : IsFitted columns rows n tolerance has (heights t) t (w.required t) (meshes t) (w.lists t)).
      (IsClosed-ancestors_of n (w.lists t) f.least.mesh.conforming).splittable a is)
      (w.each t)

  -- what is asked for, by the lists
  asked-lists : (p : ℕ) → columns ≤ 2 ^ p → rows ≤ 2 ^ p → (t : Point) (a : ℕ) → IsTile columns rows t →
      IsAskedIn columns rows n has t a → (a ≡ 2) ⊎ IsAsked columns rows n p (splits_of w.lists) t a
  asked-lists p wide high t a tile (inl two) = inl two
  asked-lists p wide high t a tile (inr (u, c, tile', big, address, beyond, is)) =
      inr (beyond-asked columns rows n p (splits_of w.lists) wide high t u a c tile tile' big address beyond
      (w.only u c tile' is))

  module _ (t : Point) (tile : IsTile columns rows t) (required : ℕ → Bool) (leaves : List ℕ)
      (just : (a : ℕ) → IsTrue (required a) ↔ IsAskedIn columns rows n has t a)
      (splittable : (a : ℕ) → IsTrue (required a) → IsSplittable n a)
      (least : IsLeastMeshWith n tolerance (error_of n (heights t)) required leaves)
      (order : leaves_of n (ancestors_of leaves) ≡ leaves) where
    -- the new mesh has all that the list before had
    pub more-split : (a : ℕ) → IsTrue (ancestors_of (w.lists t) a) → IsTrue (ancestors_of leaves a)
    more-split a is = ⊎_elim
        (λ none. absurd (nothing-above (w.lists t) a none is))
        (λ (f : IsFitted columns rows n tolerance has (heights t) t (w.required t) (meshes t) (w.lists t)).
        with-more n tolerance (error_of n (heights t)) (w.required t) required (ancestors_of (w.lists t))
        (ancestors_of leaves) (λ c r. (just c).1 (f.asked c r))
        (mesh-with n tolerance (error_of n (heights t)) (w.required t) (w.lists t) f.least)
        (mesh-with n tolerance (error_of n (heights t)) required leaves least) a is)
        (w.each t)

    -- so it is not refused
    pub not-shrunk : (a : ℕ) → IsTrue (has t a) → ancestors_of leaves a ≡ false → ⊥
    not-shrunk a is off = both_ways (ancestors_of leaves a) off (more-split a (w.only t a tile is))

    centre-split : IsTrue (ancestors_of leaves 2)
    centre-split = least.mesh.splits 2 ((just 2).1 (inl refl))

    -- and has more triangles, if the tile lacked something
    more-triangles : (a : ℕ) → IsAskedIn columns rows n has t a → has t a ≡ false → length (w.lists t) < length leaves
    more-triangles a asked off = ⊎_elim
        (λ none.
        let some = entries leaves centre-split in
        let zero_is : length (w.lists t) ≡ 0 = ap (λ (l : List ℕ). length l) none in omega arith)
        (λ (f : IsFitted columns rows n tolerance has (heights t) t (w.required t) (meshes t) (w.lists t)).
        let r = (just a).1 asked in
        let grown = with-grown n tolerance (error_of n (heights t)) (w.required t) required (ancestors_of (w.lists t))
        (ancestors_of leaves) a (λ c q. (just c).1 (f.asked c q))
        (mesh-with n tolerance (error_of n (heights t)) (w.required t) (w.lists t) f.least)
        (mesh-with n tolerance (error_of n (heights t)) required leaves least) (least.mesh.splits a r)
        (λ is. both_ways (has t a) off (w.kept t a tile (kept-asked asked r) is)) in
        let old = ap (λ (l : List ℕ). length l) f.order in
        let new = ap (λ (l : List ℕ). length l) order in omega arith)
        (w.each t)
      where
        entries : (list : List ℕ) → IsTrue (ancestors_of list 2) → 0 < length list
        entries [] is = absurd (both_ways false refl is)
        entries (x ∷ xs) is = omega arith

        kept-asked : IsAskedIn columns rows n has t a → IsTrue (required a) → IsKept n a
        kept-asked (inl two) r = inl two
        kept-asked (inr (u, c, tile', big, address, beyond, is)) r =
            inr (splittable a r, beyond-base n t u a c beyond)

    module _ (has' : Point → ℕ → Bool) (meshes' : Point → List ℕ)
        (ok : (a : ℕ) → IsKept n a → has' t a ≡ ancestors_of leaves a)
        (only' : (a : ℕ) → IsTrue (has' t a) → IsTrue (ancestors_of leaves a))
        (others : (u : Point) (a : ℕ) → IsTile columns rows u → u ≢ t → has' u a ≡ has u a)
        (stored : meshes' t ≡ leaves)
        (beside : (u : Point) → IsTile columns rows u → u ≢ t → meshes' u ≡ meshes u) where
      abbrev lists' : Point → List ℕ
      lists' = changed w.lists t leaves

      abbrev required' : Point → ℕ → Bool
      required' = changed w.required t required

      lists-here : lists' t ≡ leaves
      lists-here = changed-here w.lists t leaves

      lists-there : (u : Point) → u ≢ t → lists' u ≡ w.lists u
      lists-there u other = changed-there w.lists t leaves u other

      -- what is asked for stays asked for
      asked-more : (v : Point) (a : ℕ) → IsAskedIn columns rows n has v a → IsAskedIn columns rows n has' v a
      asked-more v a (inl two) = inl two
      asked-more v a (inr (u, c, tile', big, address, beyond, is)) =
          inr (
            u,
            c,
            tile',
            big,
            address,
            beyond,
            ⊎_elim
                (λ (same : u ≡ t).
                let here : IsTrue (has t c) = subst (λ z. IsTrue (has z c)) same is in
                let split : IsTrue (ancestors_of (w.lists t) c) = w.only t c tile here in
                let kept : IsKept n c = inr (list-splittable t c split, image-base n v u a c big address beyond) in
                subst (λ z. IsTrue (has' z c)) (sym same) (ok c kept ∙ more-split c split))
                (λ (other : u ≢ t). others u c tile' other ∙ is)
                (cases_point u t),
          )

      fitted-here : IsFitted columns rows n tolerance has' (heights t) t required (meshes' t) leaves
      fitted-here = record {
        tile = tile;
        stored = stored;
        least = least;
        order = order;
        centre = (just 2).1 (inl refl);
        asked = λ a r. asked-more t a ((just a).0 r);
      }

      fitted-there : (u : Point) → u ≢ t →
          (lists' u ≡ [])
          ⊎ IsFitted columns rows n tolerance has' (heights u) u (required' u) (meshes' u) (lists' u)
      fitted-there u other = ⊎_elim
          (λ none. inl (lists-there u other ∙ none))
          (λ (f : IsFitted columns rows n tolerance has (heights u) u (w.required u) (meshes u) (w.lists u)).
          inr (subst (λ (l : List ℕ). IsFitted columns rows n tolerance has' (heights u) u (required' u) (meshes' u) l)
          (sym (lists-there u other))
          (subst (λ (q : ℕ → Bool). IsFitted columns rows n tolerance has' (heights u) u q (meshes' u) (w.lists u))
          (sym (changed-there w.required t required u other)) record {
            tile = f.tile;
            stored = beside u f.tile other ∙ f.stored;
            least = f.least;
            order = f.order;
            centre = f.centre;
            asked = λ a r. asked-more u a (f.asked a r);
          })))
          (w.each u)

      each' : (u : Point) → (lists' u ≡ [])
          ⊎ IsFitted columns rows n tolerance has' (heights u) u (required' u) (meshes' u) (lists' u)
      each' u = ⊎_elim
          (λ (same : u ≡ t).
          subst (λ v. (lists' v ≡ [])
          ⊎ IsFitted columns rows n tolerance has' (heights v) v (required' v) (meshes' v) (lists' v)) (sym same)
          (inr (subst (λ (l : List ℕ). IsFitted columns rows n tolerance has' (heights t) t (required' t) (meshes' t) l)
          (sym lists-here)
          (subst (λ (q : ℕ → Bool). IsFitted columns rows n tolerance has' (heights t) t q (meshes' t) leaves)
          (sym (changed-here w.required t required)) fitted-here))))
          (λ (other : u ≢ t). fitted-there u other)
          (cases_point u t)

      splits-here : (a : ℕ) → ancestors_of (lists' t) a ≡ ancestors_of leaves a
      splits-here a = ap (λ (l : List ℕ). ancestors_of l a) lists-here

      splits-there : (u : Point) (a : ℕ) → u ≢ t → ancestors_of (lists' u) a ≡ ancestors_of (w.lists u) a
      splits-there u a other = ap (λ (l : List ℕ). ancestors_of l a) (lists-there u other)

      only-more : (u : Point) (a : ℕ) → IsTile columns rows u → IsTrue (has' u a) → IsTrue (ancestors_of (lists' u) a)
      only-more u a tile' is = ⊎_elim
          (λ (same : u ≡ t). subst (λ v. IsTrue (ancestors_of (lists' v) a)) (sym same)
          (splits-here a ∙ only' a (subst (λ v. IsTrue (has' v a)) same is)))
          (λ (other : u ≢ t). splits-there u a other ∙ w.only u a tile' (sym (others u a tile' other) ∙ is))
          (cases_point u t)

      kept-more : (u : Point) (a : ℕ) → IsTile columns rows u → IsKept n a → IsTrue (ancestors_of (lists' u) a) →
          IsTrue (has' u a)
      kept-more u a tile' kept is = ⊎_elim
          (λ (same : u ≡ t). subst (λ v. IsTrue (has' v a)) (sym same)
          (ok a kept ∙ sym (splits-here a) ∙ subst (λ v. IsTrue (ancestors_of (lists' v) a)) same is))
          (λ (other : u ≢ t). others u a tile' other ∙ w.kept u a tile' kept (sym (splits-there u a other) ∙ is))
          (cases_point u t)

      reached-more : (p : ℕ) → columns ≤ 2 ^ p → rows ≤ 2 ^ p → (k : ℕ) ×
          IsReachedIn k columns rows n p tolerance (terrain_error columns rows n p heights) (splits_of lists')
      reached-more p wide high =
          let r = w.reached p wide high in (
            suc r.0,
            (
              splits_of w.lists,
              r.1,
              λ u tile'. ⊎_elim
                  (λ (same : u ≡ t). inr (subst (λ v. IsRedone columns rows n p tolerance
                  (terrain_error columns rows n p heights) (splits_of w.lists) v (splits_of lists' v))
                  (sym same) record {
                    required = required;
                    centre = (just 2).1 (inl refl);
                    asked = λ a q. asked-lists p wide high t a tile ((just a).0 q);
                    least = subst (λ (l : List ℕ). IsLeastSettledWith n tolerance
                        (tile_error p (terrain_error columns rows n p heights) t) required (ancestors_of l))
                        (sym lists-here)
                        (mesh-with n tolerance (tile_error p (terrain_error columns rows n p heights) t) required leaves
                        (terrain-mesh columns rows n p heights tolerance wide high t required leaves tile
                        ((just 2).1 (inl refl)) least));
                  }))
                  (λ (other : u ≢ t). inl (λ a. splits-there u a other))
                  (cases_point u t),
            ),
          )

      -- one tile more is fitted
      pub under-way-step : (a : ℕ) → IsAskedIn columns rows n has t a → has t a ≡ false →
          IsUnderWay columns rows n tolerance (steps + 1) has' heights meshes'
      under-way-step a asked off = record {
        lists = lists';
        required = required';
        each = each';
        only = only-more;
        kept = kept-more;
        reached = reached-more;
        count =
            let less = more-triangles a asked off in
            let here = ap (λ (l : List ℕ). length l) lists-here in
            let top = number-small columns rows t tile in
            let few = w.count in
            let grown = joined-grown 0 columns rows t w.lists lists' tile
            (λ u tile'. ⊎_elim
            (λ (same : u ≡ t). subst (λ v. length (w.lists v) ≤ length (lists' v)) (sym same) (omega arith))
            (λ (other : u ≢ t). let e = ap (λ (l : List ℕ). length l) (lists-there u other) in omega arith)
            (cases_point u t))
            (omega arith) (columns * rows) top (omega arith) in omega arith;
      }

  -- there are not more triangles than finest ones of all tiles
  pub under-way-few : steps ≤ 2 * 4 ^ n * (columns * rows)
  under-way-few =
      let count = w.count in
      let most = joined-most 0 columns (2 * 4 ^ n) w.lists (λ t. ⊎_elim
      (λ none. let e : length (w.lists t) ≡ 0 = ap (λ (l : List ℕ). length l) none in omega arith)
      (λ (f : IsFitted columns rows n tolerance has (heights t) t (w.required t) (meshes t) (w.lists t)).
      let e = ap (λ (l : List ℕ). length l) f.order in
      let few = leaves-most n (ancestors_of (w.lists t)) in omega arith)
      (w.each t)) (columns * rows) in omega arith

  -- the end
  module _ (settled : (t : Point) (a : ℕ) → IsTile columns rows t → IsAskedIn columns rows n has t a → IsTrue (has t a))
    where
      all-fitted : (t : Point) → IsTile columns rows t →
          IsFitted columns rows n tolerance has (heights t) t (w.required t) (meshes t) (w.lists t)
      all-fitted t tile = ⊎_elim
          (λ none. absurd (nothing-above (w.lists t) 2 none (w.only t 2 tile (settled t 2 tile (inl refl)))))
          (λ f. f)
          (w.each t)

      stored-splits : (t : Point) → IsTile columns rows t → (a : ℕ) → splits_of meshes t a ≡ splits_of w.lists t a
      stored-splits t tile a = ap (λ (l : List ℕ). ancestors_of l a) (all-fitted t tile).stored

      module _ (p : ℕ) (wide : columns ≤ 2 ^ p) (high : rows ≤ 2 ^ p) where
        mesh-least : (t : Point) → IsTile columns rows t →
            IsLeastMeshWith n tolerance (error_of n (heights t)) (w.required t) (meshes t)
        mesh-least t tile =
            let f = all-fitted t tile in
            subst (λ (l : List ℕ). IsLeastMeshWith n tolerance (error_of n (heights t)) (w.required t) l) (sym f.stored)
            f.least

        mesh-split : (t : Point) (a : ℕ) → IsTile columns rows t → IsTrue (splits_of meshes t a) →
            IsTrue (splits_of w.lists t a)
        mesh-split t a tile is = sym (stored-splits t tile a) ∙ is

        running : IsRunning columns rows n p tolerance (terrain_error columns rows n p heights) w.required
            (splits_of meshes)
        running =
            let r = w.reached p wide high in record {
              rounds = suc r.0;
              reached = (splits_of w.lists, r.1, λ t tile. inl (stored-splits t tile));
              least = λ t tile. mesh-with n tolerance (tile_error p (terrain_error columns rows n p heights) t)
                  (w.required t)
                  (meshes t) (terrain-mesh columns rows n p heights tolerance wide high t (w.required t) (meshes t) tile
                  (all-fitted t tile).centre (mesh-least t tile));
              centre = λ t tile. (all-fitted t tile).centre;
              asked = λ t a tile q. meshes-asked t a tile ((all-fitted t tile).asked a q);
            }
          where
            meshes-asked : (t : Point) (a : ℕ) → IsTile columns rows t → IsAskedIn columns rows n has t a →
                (a ≡ 2) ⊎ IsAsked columns rows n p (splits_of meshes) t a
            meshes-asked t a tile (inl two) = inl two
            meshes-asked t a tile (inr (u, c, tile', big, address, beyond, is)) =
                inr (beyond-asked columns rows n p (splits_of meshes) wide high t u a c tile tile' big address beyond
                (stored-splits u tile' c ∙ w.only u c tile' is))

        down : IsSettledDown columns rows n p (splits_of meshes)
        down = down-from columns rows n p (splits_of meshes) wide high
            (λ t tile. IsClosed-ancestors_of n (meshes t) (mesh-least t tile).mesh.conforming)
            (λ t u a c tile tile' big address beyond is.
            let split = mesh-split u c tile' is in
            let kept : IsKept n c = inr (list-splittable u c split, image-base n t u a c big address beyond) in
            stored-splits t tile a ∙ w.only t a tile (settled t a tile
            (inr (u, c, tile', big, address, beyond, w.kept u c tile' kept split))))

        -- is the least mosaic
        pub under-way-end : IsLeastMosaic columns rows n p tolerance (terrain_error columns rows n p heights) meshes
        under-way-end =
            terrain-mosaic columns rows n p heights tolerance wide high w.required meshes running mesh-least down

-- the same of other rounds that keep the same

asked-same : (columns rows n : ℕ) (has has' : Point → ℕ → Bool) → ((u : Point) (a : ℕ) → has' u a ≡ has u a) →
    (t : Point) (a : ℕ) → IsAskedIn columns rows n has t a → IsAskedIn columns rows n has' t a
asked-same columns rows n has has' same t a (inl two) = inl two
asked-same columns rows n has has' same t a (inr (u, c, tile, big, address, beyond, is)) =
    inr (u, c, tile, big, address, beyond, same u c ∙ is)

under-way-same : (columns rows n tolerance steps : ℕ) (has has' : Point → ℕ → Bool) (heights meshes : Point → List ℕ) →
    ((u : Point) (a : ℕ) → has' u a ≡ has u a) → IsUnderWay columns rows n tolerance steps has heights meshes →
    IsUnderWay columns rows n tolerance steps has' heights meshes
under-way-same columns rows n tolerance steps has has' heights meshes same w = record {
  lists = w.lists;
  required = w.required;
  each = λ t. ⊎_elim
      (λ none. inl none)
      (λ (f : IsFitted columns rows n tolerance has (heights t) t (w.required t) (meshes t) (w.lists t)). inr record {
        tile = f.tile;
        stored = f.stored;
        least = f.least;
        order = f.order;
        centre = f.centre;
        asked = λ a r. asked-same columns rows n has has' same t a (f.asked a r);
      })
      (w.each t);
  only = λ t a tile is. w.only t a tile (sym (same t a) ∙ is);
  kept = λ t a tile kept is. same t a ∙ w.kept t a tile kept is;
  reached = w.reached;
  count = w.count;
}

module _ (r q : RoundsState) (columns : q.columns ≡ r.columns) (rows : q.rows ≡ r.rows) (n : q.n ≡ r.n) where
  -- a loop over the one is a loop over the other
  pub under-way-moved : (tolerance steps : ℕ) (heights meshes : Point → List ℕ) →
      ((u : Point) (a : ℕ) → splits q u a ≡ splits r u a) →
      IsUnderWay r.columns r.rows r.n tolerance steps (splits r) heights meshes →
      IsUnderWay q.columns q.rows q.n tolerance steps (splits q) heights meshes
  under-way-moved tolerance steps heights meshes same w =
      subst (λ k. IsUnderWay k q.rows q.n tolerance steps (splits q) heights meshes) (sym columns)
      (subst (λ k. IsUnderWay r.columns k q.n tolerance steps (splits q) heights meshes) (sym rows)
      (subst (λ k. IsUnderWay r.columns r.rows k tolerance steps (splits q) heights meshes) (sym n)
      (under-way-same r.columns r.rows r.n tolerance steps (splits r) (splits q) heights meshes same w)))

  -- and with the same set, too
  pub under-way-renamed : (tolerance steps : ℕ) (has : Point → ℕ → Bool) (heights meshes : Point → List ℕ) →
      IsUnderWay r.columns r.rows r.n tolerance steps has heights meshes →
      IsUnderWay q.columns q.rows q.n tolerance steps has heights meshes
  under-way-renamed tolerance steps has heights meshes w =
      subst (λ k. IsUnderWay k q.rows q.n tolerance steps has heights meshes) (sym columns)
      (subst (λ k. IsUnderWay r.columns k q.n tolerance steps has heights meshes) (sym rows)
      (subst (λ k. IsUnderWay r.columns r.rows k tolerance steps has heights meshes) (sym n) w))

  -- so is a tile that lacks something
  pub lacks-moved : (t : Point) → ((u : Point) (a : ℕ) → splits q u a ≡ splits r u a) → Lacks r t → Lacks q t
  lacks-moved t same (a, asked, off) = (
    a,
    subst (λ k. IsAskedIn k q.rows q.n (splits q) t a) (sym columns)
        (subst (λ k. IsAskedIn r.columns k q.n (splits q) t a) (sym rows)
        (subst (λ k. IsAskedIn r.columns r.rows k (splits q) t a) (sym n)
        (asked-same r.columns r.rows r.n (splits r) (splits q) same t a asked))),
    same t a ∙ off,
  )

  -- and the end
  pub end-moved : (tolerance : ℕ) (heights meshes : Point → List ℕ) →
      ((p : ℕ) → q.columns ≤ 2 ^ p → q.rows ≤ 2 ^ p → IsLeastMosaic q.columns q.rows q.n p tolerance
      (terrain_error q.columns q.rows q.n p heights) meshes) →
      (p : ℕ) → r.columns ≤ 2 ^ p → r.rows ≤ 2 ^ p → IsLeastMosaic r.columns r.rows r.n p tolerance
      (terrain_error r.columns r.rows r.n p heights) meshes
  end-moved tolerance heights meshes h =
      subst (λ k. (p : ℕ) → k ≤ 2 ^ p → r.rows ≤ 2 ^ p → IsLeastMosaic k r.rows r.n p tolerance
      (terrain_error k r.rows r.n p heights) meshes) columns
      (subst (λ k. (p : ℕ) → q.columns ≤ 2 ^ p → k ≤ 2 ^ p → IsLeastMosaic q.columns k r.n p tolerance
      (terrain_error q.columns k r.n p heights) meshes) rows
      (subst (λ k. (p : ℕ) → q.columns ≤ 2 ^ p → q.rows ≤ 2 ^ p → IsLeastMosaic q.columns q.rows k p tolerance
      (terrain_error q.columns q.rows k p heights) meshes) n h))

-- a loop ends long before its count does
pub few-steps : (columns rows n : ℕ) → columns ≤ 65536 → rows ≤ 65536 → n ≤ 14 →
    2 * 4 ^ n * (columns * rows) < 18446744073709551615
few-steps columns rows n wide high deep =
    let square : 4 ^ n ≡ 2 ^ n * 2 ^ n = mul-pow 2 2 n in
    let side : 2 ^ n ≤ 2 ^ 14 = pow_mono deep in
    let points : 2 ^ n * 2 ^ n ≤ 2 ^ 14 * 2 ^ 14 = mul-le (2 ^ n) (2 ^ n) (2 ^ 14) (2 ^ 14) side side in
    let tiles : columns * rows ≤ 65536 * 65536 = mul-le columns rows 65536 65536 wide high in
    let most : 2 * 4 ^ n ≤ 536870912 = omega arith in
    let all : 2 * 4 ^ n * (columns * rows) ≤ 536870912 * 4294967296 =
    mul-le (2 * 4 ^ n) (columns * rows) 536870912 4294967296 most (omega arith) in omega arith

-- what holds of all entries of a list holds of each
pub entry-of : (P : ℕ → Type 0) (list : List ℕ) → All P list → (a : ℕ) → IsTrue (among list a) → P a
entry-of P list all a is =
    let e = Any-in (λ t. eqb t a) list is in
    subst P (eqb-true e.0 a e.2) (All-contains P list e.0 all (Contains-in e.0 list e.1))

-- an answer that is no error is the other one
pub from_ok : {A E : Type 0} (r : Result A E) (P : Type 0) → OnOk r P → (IsErr r → ⊥) → P
from_ok (Ok x) P h fails = h
from_ok (Err e) P h fails = absurd (fails refl)

-- a fact is one on each error
pub on_err_from : {A E : Type 0} (r : Result A E) (P : Type 0) → P → OnErr r P
on_err_from (Ok x) P h = tt
on_err_from (Err e) P h = h

-- One tile more.
use Rattle.std.proofs.Common.{◌≡◌, ℕ, ◌*◌, ◌≤◌, All, List, IsTrue, sym, ◌∙◌, ap, subst, take, false}
use Rattle.std.specs.Prelude.{IsErr}
use Rattle.std.proofs.lemmas.List.Elements.{All-weaker}
use Rattle.mesh_defs.specs.Triangle.{level_of, IsAddress, IsSplittable}
use Rattle.mesh_defs.specs.HeightField.{HeightField}
use Rattle.mesh_defs.specs.Tiling.{IsConforming}
use Rattle.mesh_defs.specs.ClosedSet.{leaves_of, among}
use Rattle.bintree_laws.proofs.LevelLemmas.{level-le}
use Rattle.mesh_laws.specs.Ancestors.{ancestors_of}
use Rattle.fit_laws.specs.Error.{error_of}
use Rattle.fit_laws.specs.Required.{IsLeastMeshWith}
use Rattle.mosaic_laws.specs.Tile.{IsTile}
use Rattle.mosaic_rounds.specs.Rounds.{splits}
use Rattle.mosaic_rounds.specs.BorderPoints.{IsKept}
use Rattle.mosaic_fit.proofs.UnderWayLemmas.{under-way-step, not-shrunk, entry-of, from_ok}
use Rattle.mosaic_fit.proofs.fit.fit_tile.Goals as goal

pub load-requires : goal.load-requires
load-requires g c = record {
  tile = subst (λ k. IsTile k (g.T.Tiles.rows c.args.tiles.now) c.args.t) (sym c.requires.columns)
      (subst (λ k. IsTile c.args.rounds.now.columns k c.args.t) (sym c.requires.rows) c.requires.tile);
}

pub keep-requires : goal.keep-requires
keep-requires g c = record {
  tile =
      subst (λ k. IsTile k (g.T.Tiles.rows c.load.new.self) c.args.t)
      (sym (c.in_ok-load.ensures.columns ∙ c.requires.columns))
      (subst (λ k. IsTile c.args.rounds.now.columns k c.args.t)
      (sym (c.in_ok-load.ensures.rows ∙ c.requires.rows)) c.requires.tile);
}

pub frame_with-requires-clause-grid : goal.frame_with-requires-clause-grid
frame_with-requires-clause-grid g c =
    ap (λ (f : HeightField). f.n) c.grid.ensures.value ∙ c.in_ok-load.ensures.n ∙ c.requires.exponent ∙ sym c.requires.fit

pub frame_with-requires-clause-splittable : goal.frame_with-requires-clause-splittable
frame_with-requires-clause-splittable g c =
    let n_is : c.grid.result.now.n ≡ c.args.rounds.now.n =
    ap (λ (f : HeightField). f.n) c.grid.ensures.value ∙ c.in_ok-load.ensures.n ∙ c.requires.exponent in
    subst (λ k. All (IsSplittable k) (take c.required-count.result c.required-count.new.list)) (sym n_is)
    c.required-count.ensures.splittable

pub put-taken-requires-clause-levels : goal.put-taken-requires-clause-levels
put-taken-requires-clause-levels g c =
    let n_is : c.frame_with.new.self.n ≡ c.args.rounds.now.n = c.frame_with.ensures.n ∙ c.requires.fit in
    let conforming : IsConforming c.args.rounds.now.n c.frame_with.new.self.leaves =
    subst (λ k. IsConforming k c.frame_with.new.self.leaves) n_is c.leaves-2.ensures.conforming in
    subst (λ (l : List ℕ). All (λ a. level_of a ≤ 2 * c.args.rounds.now.n) l) (sym c.leaves-2.ensures.value)
    (All-weaker (IsAddress c.args.rounds.now.n) (λ a. level_of a ≤ 2 * c.args.rounds.now.n)
    (level-le c.args.rounds.now.n) c.frame_with.new.self.leaves conforming.addresses)

pub returns-clause-under_way : goal.returns-clause-under_way
returns-clause-under_way g c steps given same lacks w =
    let n_is : c.grid.result.now.n ≡ c.args.rounds.now.n =
    ap (λ (f : HeightField). f.n) c.grid.ensures.value ∙ c.in_ok-load.ensures.n ∙ c.requires.exponent in
    let heights_are : c.grid.result.now.heights ≡ given c.args.t =
    ap (λ (f : HeightField). f.heights) c.grid.ensures.value ∙ c.in_ok-load.ensures.ok ∙ same c.args.t in
    let least : IsLeastMeshWith c.args.rounds.now.n c.args.tolerance
    (error_of c.args.rounds.now.n (given c.args.t)) (among (take c.required-count.result c.required-count.new.list))
    c.frame_with.new.self.leaves =
    subst (λ k. IsLeastMeshWith k c.args.tolerance (error_of k (given c.args.t))
    (among (take c.required-count.result c.required-count.new.list)) c.frame_with.new.self.leaves) n_is
    (subst (λ (h : List ℕ). IsLeastMeshWith c.grid.result.now.n c.args.tolerance (error_of c.grid.result.now.n h)
    (among (take c.required-count.result c.required-count.new.list)) c.frame_with.new.self.leaves) heights_are
    c.frame_with.ensures.least) in
    let order : leaves_of c.args.rounds.now.n (ancestors_of c.frame_with.new.self.leaves)
    ≡ c.frame_with.new.self.leaves =
    subst (λ k. leaves_of k (ancestors_of c.frame_with.new.self.leaves) ≡ c.frame_with.new.self.leaves) n_is
    c.frame_with.ensures.order in
    let splittable : (a : ℕ) → IsTrue (among (take c.required-count.result c.required-count.new.list) a) →
    IsSplittable c.args.rounds.now.n a =
    entry-of (IsSplittable c.args.rounds.now.n) (take c.required-count.result c.required-count.new.list)
    c.required-count.ensures.splittable in
    let refused : IsErr c.put-taken.result → ⊥ = λ fails.
    let s = c.put-taken.ensures.shrunk.0 fails in
    not-shrunk c.args.rounds.now.columns c.args.rounds.now.rows c.args.rounds.now.n c.args.tolerance steps
    (splits c.args.rounds.now) given (g.T.Tiles.meshes c.args.tiles.now) w c.args.t c.requires.tile
    (among (take c.required-count.result c.required-count.new.list)) c.frame_with.new.self.leaves
    c.required-count.ensures.just splittable least order s.0 s.1
    (subst (λ (l : List ℕ). ancestors_of l s.0 ≡ false) c.leaves-2.ensures.value s.2) in
    let ok : (a : ℕ) → IsKept c.args.rounds.now.n a →
    splits c.put-taken.new.self c.args.t a ≡ ancestors_of c.leaves-2.result.now a =
    from_ok c.put-taken.result ((a : ℕ) → IsKept c.args.rounds.now.n a →
    splits c.put-taken.new.self c.args.t a ≡ ancestors_of c.leaves-2.result.now a) c.put-taken.ensures.ok refused in
    let only : (a : ℕ) → IsTrue (splits c.put-taken.new.self c.args.t a) →
    IsTrue (ancestors_of c.leaves-2.result.now a) =
    from_ok c.put-taken.result ((a : ℕ) → IsTrue (splits c.put-taken.new.self c.args.t a) →
    IsTrue (ancestors_of c.leaves-2.result.now a)) c.put-taken.ensures.only refused in
    under-way-step c.args.rounds.now.columns c.args.rounds.now.rows c.args.rounds.now.n c.args.tolerance steps
    (splits c.args.rounds.now) given (g.T.Tiles.meshes c.args.tiles.now) w c.args.t c.requires.tile
    (among (take c.required-count.result c.required-count.new.list)) c.frame_with.new.self.leaves
    c.required-count.ensures.just splittable least order (splits c.put-taken.new.self)
    (g.T.Tiles.meshes c.keep.new.self)
    (subst (λ (l : List ℕ). (a : ℕ) → IsKept c.args.rounds.now.n a →
    splits c.put-taken.new.self c.args.t a ≡ ancestors_of l a) c.leaves-2.ensures.value ok)
    (subst (λ (l : List ℕ). (a : ℕ) → IsTrue (splits c.put-taken.new.self c.args.t a) → IsTrue (ancestors_of l a))
    c.leaves-2.ensures.value only)
    c.put-taken.ensures.others
    (c.in_ok-keep.ensures.ok ∙ c.leaves.ensures.value)
    (λ u tile' other. c.in_ok-keep.ensures.others u
    (subst (λ k. IsTile k (g.T.Tiles.rows c.load.new.self) u) (sym (c.in_ok-load.ensures.columns ∙ c.requires.columns))
    (subst (λ k. IsTile c.args.rounds.now.columns k u) (sym (c.in_ok-load.ensures.rows ∙ c.requires.rows)) tile')) other
    ∙ c.in_ok-load.ensures.meshes u)
    lacks.0 lacks.1 lacks.2

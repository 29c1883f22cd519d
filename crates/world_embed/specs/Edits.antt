-- What the calls do that change heights of pages and of worlds, and when each answer comes. Where several causes hold, the
-- answer is the one with the least number; after an answer other than Done all is as before.
-- All of it is this project's own.
-- Words: IsPageHeightPut, IsPageRaised, IsWorldHeightPut, IsWorldRaised.
use Rattle.std.specs.Prelude.{◌≡◌, ℕ, ◌<◌, ◌≤◌, ◌↔◌, ℤ, unsigned_abs, slice_set}
use Rattle.mesh_defs.specs.declared.point.Point.{Point}
use Rattle.mesh_defs.specs.HeightField.{HeightField, place_of}
use Rattle.mesh_defs.specs.State.{raised_heights}
use Rattle.mesh_defs.specs.Triangle.{corners_of}
use Rattle.bintree_laws.specs.Areas.{overlaps}
use Rattle.wedgie_tree.specs.Edits.{area_between}
use Rattle.page_laws.specs.Pages.{IsLoadedPoint}
use Rattle.page_store.specs.Store.{pages_of, maxval_of, height_in}
use Rattle.page_store.specs.Edit.{HasLoadedPoint, IsRaisedTerrain}
use Rattle.view_mesh.specs.Expiry.{IsExpired}
use Rattle.world_loop.specs.World.{WorldState}
use Rattle.roam_embed.specs.declared.answer.Answer.{Answer}
use Rattle.roam_embed.specs.declared.answer.Answer.TheVariants.{Done, OutsideGrid, BadChange, NotThere}
use Rattle.roam_embed.specs.declared.ground.TheConstants.{GREATEST_CHANGE}
use Rattle.roam_embed.specs.Grid.{IsPointOf, IsAreaOf}

-- the height of the point (x, y) of a page is replaced
pub record IsPageHeightPut (before after : HeightField) (x y height : ℕ) (answer : Answer) : Type 0 where
  pub done : (answer ≡ Done) ↔ (IsPointOf before.n x y × (height ≤ before.maxval))
  pub outside_grid : (answer ≡ OutsideGrid) ↔ (IsPointOf before.n x y → ⊥)
  pub bad_change : (answer ≡ BadChange) ↔ (IsPointOf before.n x y × (before.maxval < height))
  pub put : answer ≡ Done → after ≡ record before {
    heights = slice_set before.heights (place_of before.n x y) height;
  }
  pub kept : (answer ≡ Done → ⊥) → after ≡ before

-- each height of the area of a page is raised
pub record IsPageRaised (before after : HeightField) (x0 y0 x1 y1 : ℕ) (dz : ℤ) (answer : Answer) : Type 0 where
  pub done : (answer ≡ Done) ↔ (IsAreaOf before.n x0 y0 x1 y1 × (unsigned_abs dz ≤ GREATEST_CHANGE))
  pub outside_grid : (answer ≡ OutsideGrid) ↔ (IsAreaOf before.n x0 y0 x1 y1 → ⊥)
  pub bad_change : (answer ≡ BadChange) ↔ (IsAreaOf before.n x0 y0 x1 y1 × (GREATEST_CHANGE < unsigned_abs dz))
  pub raised : answer ≡ Done → after ≡ record before {
    heights = raised_heights before (area_between x0 y0 x1 y1) dz;
  }
  pub kept : (answer ≡ Done → ⊥) → after ≡ before

-- The height of the point (x, y) of a terrain is replaced in all loaded pages that have it, and just the stamps of the
-- triangles whose bounding rectangle has it are expired.
pub record IsWorldHeightPut (before after : WorldState) (x y height : ℕ) (answer : Answer) : Type 0 where
  pub done : (answer ≡ Done) ↔ (IsPointOf before.store.large x y × (height ≤ maxval_of before.store)
      × IsLoadedPoint (pages_of before.store) (record { x = x; y = y }))
  pub outside_grid : (answer ≡ OutsideGrid) ↔ (IsPointOf before.store.large x y → ⊥)
  pub bad_change : (answer ≡ BadChange) ↔ (IsPointOf before.store.large x y × (maxval_of before.store < height))
  pub not_there : (answer ≡ NotThere) ↔ (IsPointOf before.store.large x y × (height ≤ maxval_of before.store)
      × (IsLoadedPoint (pages_of before.store) (record { x = x; y = y }) → ⊥))
  pub put : answer ≡ Done → height_in after.store (record { x = x; y = y }) ≡ height
  pub others : (r : Point) → (r ≡ record { x = x; y = y } → ⊥) → height_in after.store r ≡ height_in before.store r
  pub pages : pages_of after.store ≡ pages_of before.store
  pub bound : maxval_of after.store ≡ maxval_of before.store
  pub rest : after ≡ record before { store = after.store; mesh = after.mesh }
  pub expired : answer ≡ Done → IsExpired before.mesh after.mesh
      (λ a. overlaps (corners_of before.store.large a) (area_between x y x y))
  pub kept : (answer ≡ Done → ⊥) → after ≡ before

-- Each loaded height of the area is raised, and just the stamps of the triangles whose bounding rectangle meets it are
-- expired.
pub record IsWorldRaised (before after : WorldState) (x0 y0 x1 y1 : ℕ) (dz : ℤ) (answer : Answer) : Type 0 where
  pub done : (answer ≡ Done) ↔ (IsAreaOf before.store.large x0 y0 x1 y1 × (unsigned_abs dz ≤ GREATEST_CHANGE)
      × HasLoadedPoint before.store (area_between x0 y0 x1 y1))
  pub outside_grid : (answer ≡ OutsideGrid) ↔ (IsAreaOf before.store.large x0 y0 x1 y1 → ⊥)
  pub bad_change : (answer ≡ BadChange)
      ↔ (IsAreaOf before.store.large x0 y0 x1 y1 × (GREATEST_CHANGE < unsigned_abs dz))
  pub not_there : (answer ≡ NotThere) ↔ (IsAreaOf before.store.large x0 y0 x1 y1 × (unsigned_abs dz ≤ GREATEST_CHANGE)
      × (HasLoadedPoint before.store (area_between x0 y0 x1 y1) → ⊥))
  pub raised : answer ≡ Done → IsRaisedTerrain before.store after.store (area_between x0 y0 x1 y1) dz
  pub rest : after ≡ record before { store = after.store; mesh = after.mesh }
  pub expired : answer ≡ Done → IsExpired before.mesh after.mesh
      (λ a. overlaps (corners_of before.store.large a) (area_between x0 y0 x1 y1))
  pub kept : (answer ≡ Done → ⊥) → after ≡ before

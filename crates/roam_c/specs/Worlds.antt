-- A page that goes out of its handle, into a world in another one, and comes back. All of it is this project's own.
-- Words: IsKeptOpened, IsWorldMade, IsKeptLoaded, IsPagePut, IsPageHanded.
use Rattle.std.specs.Prelude.{◌≡◌, ◌≢◌, ℕ, Option, None, Some}
use Rattle.mesh_defs.specs.HeightField.{HeightField}
use Rattle.mesh_defs.specs.declared.point.Point.{Point}
use Rattle.world_loop.specs.World.{WorldState}
use Rattle.roam_embed.specs.declared.answer.Answer.{Answer}
use Rattle.roam_embed.specs.declared.answer.Answer.TheVariants.{Done, NoMemory}
use Rattle.world_embed.specs.Worlds.{IsWorldAnswer, IsWorldOpened, IsLoadAnswer, IsPageLoaded}
use Rattle.world_embed.specs.Worlds.{IsUnloadAnswer, IsPageUnloaded}
use Rattle.roam_c.specs.declared.kept.Kept.{Kept}
use Rattle.roam_c.specs.declared.kept.Kept.TheVariants.{Page, World}

-- a page that is kept becomes the world that it covers; after a refusal it stays, but where memory ran out
pub record IsKeptOpened (page : HeightField) (large budget spacing : ℕ) (after : Kept) (answer : Answer) : Type 0 where
  pub cause : IsWorldAnswer page.n large budget spacing answer
  pub opened : answer ≡ Done → (now : WorldState) × (after ≡ World now)
      × IsWorldOpened page large budget spacing now
  pub kept : answer ≢ Done → answer ≢ NoMemory → after ≡ Page page

-- The page of a handle goes into a world in another one. After a refusal both handles are as before, but where memory ran
-- out the page is gone.
pub record IsWorldMade (page : HeightField) (large budget spacing : ℕ) (root before after : Option Kept)
    (answer : Answer) : Type 0 where
  pub cause : IsWorldAnswer page.n large budget spacing answer
  pub opened : answer ≡ Done → (now : WorldState) × (after ≡ Some (World now))
      × IsWorldOpened page large budget spacing now
  pub taken : answer ≡ Done → root ≡ None
  pub gone : answer ≡ NoMemory → root ≡ None
  pub page_kept : answer ≢ Done → answer ≢ NoMemory → root ≡ Some (Page page)
  pub kept : answer ≢ Done → after ≡ before

-- a page that is kept goes into a square of a world; after a refusal it stays, and the world is as before
pub record IsKeptLoaded (before after : WorldState) (q : ℕ) (t : Point) (page : HeightField) (kept_after : Kept)
    (answer : Answer) : Type 0 where
  pub cause : IsLoadAnswer before.store q t page answer
  pub loaded : answer ≡ Done → IsPageLoaded before after q t page
  pub kept : answer ≢ Done → (after ≡ before) × (kept_after ≡ Page page)

-- The page of a handle goes into a square of a world. After a refusal both are as before.
pub record IsPagePut (before after : WorldState) (q : ℕ) (t : Point) (page : HeightField) (handle : Option Kept)
    (answer : Answer) : Type 0 where
  pub cause : IsLoadAnswer before.store q t page answer
  pub loaded : answer ≡ Done → IsPageLoaded before after q t page
  pub taken : answer ≡ Done → handle ≡ None
  pub kept : answer ≢ Done → (after ≡ before) × (handle ≡ Some (Page page))

-- The page of a square goes into a handle. After a refusal both are as before.
pub record IsPageHanded (before after : WorldState) (q : ℕ) (t : Point) (handle_before handle : Option Kept)
    (answer : Answer) : Type 0 where
  pub cause : answer ≢ NoMemory → IsUnloadAnswer before.store q t answer
  pub handed : answer ≡ Done → (page : HeightField) × (handle ≡ Some (Page page)) × IsPageUnloaded before after q t page
  pub kept : answer ≢ Done → (after ≡ before) × (handle ≡ handle_before)

-- A store of pages and a view of it, of which the code has a value, and what is loaded there.
-- Words: TerrainState, loaded_in.
use Rattle.mesh_defs.specs.View.{View}
use Rattle.page_store.specs.Store.{Store, pages_of, height_in}
use Rattle.page_priority.specs.Loaded.{LoadedState}

-- the pages of a terrain, and the view of them
pub record TerrainState : Type 0 where
  pub store : Store
  pub view : View

-- what is loaded there, and its heights
abbrev pub loaded_in : TerrainState → LoadedState
loaded_in s = record { pages = pages_of s.store; height = height_in s.store; view = s.view }

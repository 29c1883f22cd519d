use Rattle.std.proofs.Common.{◌≡◌, ℕ, ◌*◌, ◌^◌, Bool, ◌&&◌, IsTrue, nat_le, nat_lt, cond, true, false, refl, sym, ap, subst, ⊎_elim, arith}
use Rattle.std.specs.Option.{is_some}
use Rattle.std.proofs.lemmas.Bool.{cases_Bool, and_parts, ltb-true}
use Rattle.mesh_defs.specs.declared.point.Point.{Point}
use Rattle.mesh_defs.specs.Triangle.{level_of}
use Rattle.mesh_defs.specs.ClosedSet.{IsLeastClosed, leaves_of}
use Rattle.mesh_laws.specs.Least.{is_worse}
use Rattle.mosaic_laws.specs.Tile.{IsTile}
use Rattle.page_store.specs.Store.{Store, page_at, is_square, cuts_of}
use Rattle.page_priority.specs.Loaded.{LoadedState, is_open, loaded_priority}
use Rattle.world_loop.specs.World.{loaded_above}
use Rattle.world_loop.proofs.ThresholdLemmas.{least-above, on-terrain}
use Rattle.world_loop.proofs.WholeLemmas.{whole-priority}
use Rattle.world_loop.proofs.laws.loaded_mesh_laws.Goals as goal

pub returns-clause-least : goal.returns-clause-least
returns-clause-least c s budget has blocked pyramid frame =
    c.least_laws.ensures.mesh s.pages.large s.view.threshold (loaded_priority (loaded_above 0 s))
    (leaves_of s.pages.large has) (c.loaded_laws.ensures.falls (loaded_above 0 s) pyramid) record {
      has = has;
      closure = least-above s has (c.least_laws.ensures.frame s.pages.large budget (loaded_priority s) has blocked frame
          (c.loaded_laws.ensures.falls s pyramid));
      leaves = refl;
    }

pub returns-clause-surface : goal.returns-clause-surface
returns-clause-surface c s heights has r pyramid agree closed loaded =
    c.surface_laws.ensures.mesh _ _ heights has r pyramid (on-terrain s) agree closed loaded

pub returns-clause-whole : goal.returns-clause-whole
returns-clause-whole c s heights a pyramid all agree address = whole-priority record {
  finest_thickness = c.wedge_laws.ensures.finest_thickness;
  finest_low = c.wedge_laws.ensures.finest_low;
  finest_high = c.wedge_laws.ensures.finest_high;
  thickness = c.wedge_laws.ensures.thickness;
  low = c.wedge_laws.ensures.low;
  high = c.wedge_laws.ensures.high;
} s heights a pyramid all agree address (c.priority_laws.ensures.finest s.pages.large heights s.view a)

-- That an area of a world is raised.
use Rattle.std.proofs.Common.{◌≡◌, ℕ, ◌≤◌, ℤ, unsigned_abs, refl, arith}
use Rattle.mesh_defs.specs.Triangle.{corners_of}
use Rattle.bintree_laws.specs.Areas.{overlaps}
use Rattle.wedgie_tree.specs.Edits.{area_between}
use Rattle.page_store.specs.Edit.{HasLoadedPoint, IsRaisedTerrain}
use Rattle.view_mesh.specs.Expiry.{IsExpired}
use Rattle.world_loop.specs.World.{WorldState}
use Rattle.roam_embed.specs.declared.answer.Answer.{Answer}
use Rattle.roam_embed.specs.declared.answer.Answer.TheVariants.{Done, OutsideGrid, BadChange, NotThere}
use Rattle.roam_embed.specs.declared.ground.TheConstants.{GREATEST_CHANGE}
use Rattle.roam_embed.specs.Grid.{IsAreaOf}
use Rattle.world_embed.specs.Edits.{IsWorldRaised}

pub world-raised : (before after : WorldState) (x0 y0 x1 y1 : ℕ) (dz : ℤ) →
    IsAreaOf before.store.large x0 y0 x1 y1 → unsigned_abs dz ≤ GREATEST_CHANGE →
    HasLoadedPoint before.store (area_between x0 y0 x1 y1) →
    IsRaisedTerrain before.store after.store (area_between x0 y0 x1 y1) dz →
    after ≡ record before { store = after.store; mesh = after.mesh } → IsExpired before.mesh after.mesh
    (λ a. overlaps (corners_of before.store.large a) (area_between x0 y0 x1 y1)) →
    IsWorldRaised before after x0 y0 x1 y1 dz Done
world-raised before after x0 y0 x1 y1 dz area small there raised rest expired = record {
  done = ((λ _. (area, small, there)), (λ _. refl));
  outside_grid = ((λ (e : Done ≡ OutsideGrid). absurd cc), (λ no. absurd (no area)));
  bad_change = ((λ (e : Done ≡ BadChange). absurd cc), (λ big. absurd (omega (arith, big.1))));
  not_there = ((λ (e : Done ≡ NotThere). absurd cc), (λ none. absurd (none.2 there)));
  raised = λ _. raised;
  rest = rest;
  expired = λ _. expired;
  kept = λ no. absurd (no refl);
}

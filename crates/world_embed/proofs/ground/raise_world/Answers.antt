-- As the world's call says.
use Rattle.std.proofs.Common.{rules, ◌≤◌, unsigned_abs}
use Rattle.wedgie_tree.specs.Edits.{area_between}
use Rattle.page_store.specs.Edit.{IsRaisedTerrain}
use Rattle.roam_embed.specs.declared.ground.TheConstants.{GREATEST_CHANGE}
use Rattle.roam_embed.specs.Grid.{IsAreaOf}
use Rattle.world_embed.proofs.EditLemmas.{world-raised}
use Rattle.world_embed.proofs.ground.raise_world.Goals as goal

pub returns-then-raise : goal.returns-then-raise
returns-then-raise c =
    let area : IsAreaOf c.args.world.now.store.large c.args.x0 c.args.y0 c.args.x1 c.args.y1 = search rules in
    let small : unsigned_abs c.args.dz ≤ GREATEST_CHANGE = search rules in
    let raised : IsRaisedTerrain c.args.world.now.store c.raise.new.self.store
    (area_between c.args.x0 c.args.y0 c.args.x1 c.args.y1) c.args.dz = search rules in
    world-raised c.args.world.now c.raise.new.self c.args.x0 c.args.y0 c.args.x1 c.args.y1 c.args.dz area small
    (c.raise.ensures.found.0 c.if-raise.true) raised c.raise.ensures.rest (c.raise.ensures.mesh c.if-raise.true)

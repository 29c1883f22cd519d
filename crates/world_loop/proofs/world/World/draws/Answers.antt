use Rattle.world_loop.proofs.DrawLemmas.{seen-levels, seen-few}
use Rattle.world_loop.proofs.world.World.draws.Goals as goal

pub write_draws-requires-clause-levels : goal.write_draws-requires-clause-levels
write_draws-requires-clause-levels c = seen-levels c.self.view_is c.leaves.ensures.leaves

pub write_draws-requires-clause-few : goal.write_draws-requires-clause-few
write_draws-requires-clause-few c =
    seen-few c.self.view_is c.leaves.ensures.leaves c.large-valid.ensures.valid.table.small

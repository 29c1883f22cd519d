use Rattle.world_loop.proofs.world.World.pool.Goals as goal

pub returns-clause-kept : goal.returns-clause-kept
returns-clause-kept c = rw (← c.self.view_is) c.self.invariant.0.kept

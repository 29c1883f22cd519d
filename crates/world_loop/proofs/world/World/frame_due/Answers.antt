use Rattle.world_loop.proofs.world.World.frame_due.Goals as goal

pub returns-in-Some : goal.returns-in-Some
returns-in-Some c = rw (← c.self.view_is) (c.self.invariant.3 c.in-Some.note c.in-Some.is)

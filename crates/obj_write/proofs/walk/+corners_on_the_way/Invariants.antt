use Rattle.obj_write.proofs.walk.+corners_on_the_way.Given as goal

abbrev pub decreases-corners_on_the_way : goal.decreases-corners_on_the_way
decreases-corners_on_the_way l = l.t

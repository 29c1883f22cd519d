use Rattle.roam_mesh.proofs.find.+find.Given as goal

abbrev pub decreases-find : goal.decreases-find
decreases-find l = l.t

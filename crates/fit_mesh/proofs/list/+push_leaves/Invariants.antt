use Rattle.fit_mesh.proofs.list.+push_leaves.Given as goal

abbrev pub decreases-push_leaves : goal.decreases-push_leaves
decreases-push_leaves l = l.levels

use Rattle.address_flags.proofs.list.+put_leaves.Given as goal

abbrev pub decreases-put_leaves : goal.decreases-put_leaves
decreases-put_leaves l = l.levels

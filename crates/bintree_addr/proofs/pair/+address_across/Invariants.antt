use Rattle.bintree_addr.proofs.pair.+address_across.Given as goal

abbrev pub decreases-address_across : goal.decreases-address_across
decreases-address_across l = l.number

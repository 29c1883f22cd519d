-- The order of ranks: by priority, and of equal priorities by address.
use Rattle.std.specs.Ordering.{nat_cmp, on, flip_args, then_cmp}
use Rattle.std.specs.declared.cmp.Ordering.{Ordering}
use Rattle.mesh_defs.specs.Ranking.{IsBefore}
use Rattle.bintree_addr.specs.declared.rank.Rank.{Rank}

-- the comparison that `cmp` answers: the greater priority first, and then the lesser address
abbrev pub rank_cmp : Rank → Rank → Ordering
rank_cmp = then_cmp (flip_args (on (λ r. r.p) nat_cmp)) (on (λ r. r.tri) nat_cmp)

-- r ranks before s
abbrev pub ComesFirst : Rank → Rank → Type 0
ComesFirst r s = IsBefore r.p r.tri s.p s.tri

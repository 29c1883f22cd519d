-- The sort of what was picked is the ranking.
use Rattle.mesh_defs.specs.State.{priority_seen}
use Rattle.plain_mesh.proofs.PickLemmas.{IsRanked-sorted}
use Rattle.plain_mesh.proofs.ranking.ranking_of.Goals as goal

pub returns : goal.returns
returns c =
    IsRanked-sorted c.args.scene.now.grid.n (priority_seen c.args.scene.now)
    c.in_ok-ranking.ranking.items c.sort_unstable.new.self.items c.rank_laws.ensures
    c.level_laws.ensures.below c.in_ok-ranking.ensures
    c.sort_unstable.ensures.permutation c.sort_unstable.ensures.sorted

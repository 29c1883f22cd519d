use Rattle.bintree_laws.proofs.AreaLemmas.{overlaps-meets, meets-overlaps}
use Rattle.wedgie_tree.proofs.area.Area.meets.Goals as goal

pub returns : goal.returns
returns c =
    rw c.overlaps.ensures.value (
      overlaps-meets c.args.corners c.args.self c.overlaps.ensures.columns c.overlaps.ensures.rows,
      meets-overlaps c.args.corners c.args.self,
    )

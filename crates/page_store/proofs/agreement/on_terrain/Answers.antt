-- Nothing is shifted out.
use Rattle.bintree_laws.proofs.LatticeLemmas.{same_point}
use Rattle.page_store.proofs.AgreementLemmas.{terrain-step}
use Rattle.page_store.proofs.agreement.on_terrain.Goals as goal

pub returns : goal.returns
returns c = record {
  value = same_point _ _ _ _
      (terrain-step c.args.n c.args.q c.args.square.x c.args.point.x c.requires.small c.requires.column)
      (terrain-step c.args.n c.args.q c.args.square.y c.args.point.y c.requires.small c.requires.row);
}

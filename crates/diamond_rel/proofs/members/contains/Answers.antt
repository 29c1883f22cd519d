-- The binary search answers whether the triangle is there.
use Rattle.std.proofs.Common.{◌∙◌}
use Rattle.diamond_rel.proofs.SearchLemmas.{is_ok-searched}
use Rattle.diamond_rel.proofs.members.contains.Goals as goal

pub returns : goal.returns
returns c = record {
  value = c.is_ok.ensures.value ∙ is_ok-searched c.args.members.now c.args.t c.binary_search.result c.requires.ascending
      c.binary_search.ensures.position;
}

use Rattle.run_files.proofs.InfoLemmas.{least-is, greatest-is}
use Rattle.run_files.proofs.info.extremes.Goals as goal

pub returns-clause-least : goal.returns-clause-least
returns-clause-least c =
    least-is c.args.heights.now c.unwrap.result.0 c.requires (rw c.unwrap.ensures at c.range.ensures.value).least

pub returns-clause-greatest : goal.returns-clause-greatest
returns-clause-greatest c =
    greatest-is c.args.heights.now c.unwrap.result.1 c.requires (rw c.unwrap.ensures at c.range.ensures.value).greatest

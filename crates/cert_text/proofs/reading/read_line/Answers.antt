-- The tests in the order of the definition.
use Rattle.std.proofs.Common.{rules}
use Rattle.cert_text.proofs.reading.read_line.Goals as goal

pub returns-then-bytes-gt-MOST_LINE_BYTES-clause-value : goal.returns-then-bytes-gt-MOST_LINE_BYTES-clause-value
returns-then-bytes-gt-MOST_LINE_BYTES-clause-value g c =
    let is = g.met.L.FromFields.reads c.args.n c.args.bytes.now in search rules

pub returns-clause-value : goal.returns-clause-value
returns-clause-value g c = let is = g.met.L.FromFields.reads c.args.n c.args.bytes.now in search rules

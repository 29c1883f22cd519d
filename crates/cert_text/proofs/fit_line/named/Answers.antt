-- A field that is read as a text is that text.
use Rattle.std.proofs.Common.{rules, arith, sym, ap}
use Rattle.std.specs.Prelude.{codes}
use Rattle.std.proofs.lemmas.Slice.Eq.{text_from_reads}
use Rattle.cert_text.specs.FitLine.{fit_line_word}
use Rattle.cert_text.proofs.fit_line.named.Goals as goal

pub returns-in-tolerance : goal.returns-in-tolerance
returns-in-tolerance c =
    sym (ap fit_line_word (text_from_reads c.args.field.now (codes "tolerance") (omega arith) (search rules)))

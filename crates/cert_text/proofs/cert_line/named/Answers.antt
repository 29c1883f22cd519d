-- A field that is read as a text is that text.
use Rattle.std.proofs.Common.{rules, arith, sym, ap}
use Rattle.std.specs.Prelude.{codes}
use Rattle.std.proofs.lemmas.Slice.Eq.{text_from_reads}
use Rattle.cert_text.specs.CertLine.{line_word}
use Rattle.cert_text.proofs.cert_line.named.Goals as goal

pub returns-in-camera : goal.returns-in-camera
returns-in-camera c =
    sym (ap line_word (text_from_reads c.args.field.now (codes "camera") (omega arith) (search rules)))

pub returns-in-parent : goal.returns-in-parent
returns-in-parent c =
    sym (ap line_word (text_from_reads c.args.field.now (codes "parent") (omega arith) (search rules)))

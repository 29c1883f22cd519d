use Rattle.std.proofs.Common.{Some, sym, ap, ◌∙◌}
use Rattle.roam_script.specs.declared.line.Line.{Line}
use Rattle.roam_gen.proofs.ScriptLemmas.{made-at}
use Rattle.roam_gen.proofs.script.gen_line.Goals as goal

pub returns-clause-value : goal.returns-clause-value
returns-clause-value c =
    made-at c.args.n c.args.seed c.args.i c.requires.first c.requires.last
    ∙ ap (λ (l : Line). Some l) (sym c.line_in_tens.ensures)

use Rattle.std.proofs.Common.{true, sym, ◌∙◌, arith}
use Rattle.std.proofs.lemmas.List.Elements.{All-more}
use Rattle.text_laws.proofs.FieldLemmas.{IsOther, fields-cut, fields-whole, begins-drop, positive-gap}
use Rattle.roam_script.proofs.fields.first_gap.Goals as goal

pub returns-then-separates-clause-cut : goal.returns-then-separates-clause-cut
returns-then-separates-clause-cut c =
    let gap = sym c.separates.ensures ∙ c.if-separates.true in
    fields-cut c.args.bytes.now c.loop-i.i
    (positive-gap c.args.bytes.now c.loop-i.i c.loop-i-test.true gap c.requires.begins)
    (omega arith) c.loop-i.invariant
    (begins-drop c.args.bytes.now c.loop-i.i true c.loop-i-test.true gap)

pub loop-i-preserved : goal.loop-i-preserved
loop-i-preserved c =
    All-more IsOther c.args.bytes.now c.loop-i.i 0 c.loop-i-test.true c.loop-i.invariant
    (sym c.separates.ensures ∙ c.if-separates.false)

pub returns-clause-cut : goal.returns-clause-cut
returns-clause-cut c =
    fields-whole c.args.bytes.now c.loop-i.i c.loop-i-test.false (omega arith) c.loop-i.invariant c.requires.begins

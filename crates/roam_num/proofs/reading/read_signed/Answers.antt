use Rattle.std.proofs.Common.{pos, neg_ℤ, sym, ap, ◌∙◌}
use Rattle.std.specs.Option.{option_map}
use Rattle.text_laws.specs.Numbers.{number_in}
use Rattle.text_laws.proofs.NumberLemmas.{reads-as}
use Rattle.roam_num.proofs.DigitLemmas.{signed-stripped, signed-kept}
use Rattle.roam_num.proofs.reading.read_signed.Goals as goal

pub returns-in-Some-clause-same : goal.returns-in-Some-clause-same
returns-in-Some-clause-same c =
    c.number_behind_minus.ensures.same
    ∙ ap (λ t. option_map (λ n. neg_ℤ (pos n)) (number_in 18 t)) c.in-Some.ensures.cases.1
    ∙ sym (signed-stripped c.args.bytes.now c.in-Some.ensures.cases.0)

pub returns-in-Some-clause-reads : goal.returns-in-Some-clause-reads
returns-in-Some-clause-reads c = reads-as c.args.bytes.now c.number_behind_minus.result (returns-in-Some-clause-same c)

pub returns-in-None-clause-same : goal.returns-in-None-clause-same
returns-in-None-clause-same c =
    c.number_without_sign.ensures.same ∙ sym (signed-kept c.args.bytes.now c.in-None.ensures.cases)

pub returns-in-None-clause-reads : goal.returns-in-None-clause-reads
returns-in-None-clause-reads c = reads-as c.args.bytes.now c.number_without_sign.result (returns-in-None-clause-same c)

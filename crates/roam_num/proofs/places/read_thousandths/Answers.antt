use Rattle.std.proofs.Common.{ℕ, ◌+◌, ◌-◌, ◌*◌, List, length, take, drop, Some, arith, sym, ◌∙◌, ap}
use Rattle.text_laws.specs.Numbers.{number_in}
use Rattle.roam_num.proofs.PlacesLemmas.{thousandths-reads, until-take, whole-refused, whole-alone, slice-rest}
use Rattle.roam_num.proofs.PlacesLemmas.{part-refused, part-added}
use Rattle.roam_num.proofs.places.read_thousandths.Goals as goal

pub returns-in_err-whole-clause-same : goal.returns-in_err-whole-clause-same
returns-in_err-whole-clause-same c =
    let until = until-take c.args.bytes.now c.point_at-at.result c.point_at-at.ensures.value in
    c.from_residual.ensures ∙ whole-refused c.args.bytes.now (ap (number_in 16) (sym until)
    ∙ sym c.number_of_digits.ensures.same ∙ c.in_err-whole.was)

pub returns-in_err-whole-clause-reads : goal.returns-in_err-whole-clause-reads
returns-in_err-whole-clause-reads c =
    thousandths-reads c.args.bytes.now c.from_residual.result (returns-in_err-whole-clause-same c)

pub returns-then-at-bytes-clause-same : goal.returns-then-at-bytes-clause-same
returns-then-at-bytes-clause-same c =
    let until = until-take c.args.bytes.now c.point_at-at.result c.point_at-at.ensures.value in
    whole-alone c.args.bytes.now c.in_ok-whole.whole
    (ap (number_in 16) (sym until) ∙ sym c.number_of_digits.ensures.same ∙ c.in_ok-whole.was)
    (sym c.point_at-at.ensures.value ∙ c.if-at-bytes.true)

pub returns-then-at-bytes-clause-reads : goal.returns-then-at-bytes-clause-reads
returns-then-at-bytes-clause-reads c =
    thousandths-reads c.args.bytes.now (Some (1000 * c.in_ok-whole.whole)) (returns-then-at-bytes-clause-same c)

pub returns-in_err-part-clause-same : goal.returns-in_err-part-clause-same
returns-in_err-part-clause-same c =
    let at : ℕ = c.point_at-at.result in
    let bytes : List ℕ = c.args.bytes.now in
    let until = until-take bytes at c.point_at-at.ensures.value in
    c.from_residual-in_err-part.ensures
    ∙ part-refused bytes (take (length bytes - (at + 1)) (drop (at + 1) bytes)) c.in_ok-whole.whole at
    (ap (number_in 16) (sym until) ∙ sym c.number_of_digits.ensures.same
    ∙ c.in_ok-whole.was) c.point_at-at.ensures.value (omega arith) (slice-rest bytes (at + 1))
    (sym c.thousandths_behind.ensures.value ∙ c.in_err-part.was)

pub returns-in_err-part-clause-reads : goal.returns-in_err-part-clause-reads
returns-in_err-part-clause-reads c =
    thousandths-reads c.args.bytes.now c.from_residual-in_err-part.result (returns-in_err-part-clause-same c)

pub returns-clause-same : goal.returns-clause-same
returns-clause-same c =
    let at : ℕ = c.point_at-at.result in
    let bytes : List ℕ = c.args.bytes.now in
    let until = until-take bytes at c.point_at-at.ensures.value in
    part-added bytes (take (length bytes - (at + 1)) (drop (at + 1) bytes)) c.in_ok-whole.whole c.in_ok-part.part at
    (ap (number_in 16) (sym until) ∙ sym c.number_of_digits.ensures.same
    ∙ c.in_ok-whole.was) c.point_at-at.ensures.value (omega arith) (slice-rest bytes (at + 1))
    (sym c.thousandths_behind.ensures.value ∙ c.in_ok-part.was)

pub returns-clause-reads : goal.returns-clause-reads
returns-clause-reads c =
    thousandths-reads c.args.bytes.now (Some (1000 * c.in_ok-whole.whole + c.in_ok-part.part)) (returns-clause-same c)

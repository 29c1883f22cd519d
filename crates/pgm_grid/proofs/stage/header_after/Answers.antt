use Rattle.std.proofs.lemmas.Grind.{common_steps}
use Rattle.std.proofs.Common.{◌≡◌, ◌+◌, ◌<◌, length, drop, get_or, arith, ◌∙◌, ap, subst}
use Rattle.std.proofs.Math.Seq.{take-length}
use Rattle.std.proofs.lemmas.List.{length-take-le}
use Rattle.std.proofs.lemmas.Result.{IfOk-weaker, IfErr-weaker}
use Rattle.text_laws.proofs.ListLemmas.{cut-at}
use Rattle.pgm_grid.specs.HeaderReading as reading
use Rattle.pgm_grid.specs.Stage.{progress_of}
use Rattle.pgm_grid.proofs.ReaderLemmas.{HasTaken, header-takes, header-stops, header-ends}
use Rattle.pgm_grid.proofs.HeaderEndLemmas.{header-full}
use Rattle.pgm_grid.proofs.stage.header_after.Goals as goal

pub returns-in-Ok-Some-clause-takes : goal.returns-in-Ok-Some-clause-takes
returns-in-Ok-Some-clause-takes c =
    let below : c.loop-i.i < length c.args.piece.now = omega arith in
    let place : c.from-at.result + 1 ≡ reading.header_taken c.loop-i.reader + 1 =
    ap (λ k. k + 1) (c.from-at.ensures ∙ c.place.ensures.value
    ∙ ap reading.header_taken (rw c.in-Ok-Some.field-0-is at c.in-Ok-Some.ensures.ended_same)) in
    IfOk-weaker c.raster_begun.result _ _
    (λ next begins. header-ends c.args.reader c.loop-i.reader c.args.piece.now c.requires c.loop-i.i
    (get_or c.args.piece.now c.loop-i.i 0)
    (drop (c.loop-i.i + 1) c.args.piece.now) c.loop-i.invariant (cut-at c.args.piece.now c.loop-i.i below)
    c.in-Ok-Some.header (rw c.in-Ok-Some.field-0-is at c.in-Ok-Some.ensures.ends)
    (c.from-at.result + 1) place (length-take-le c.loop-i.i c.args.piece.now (omega (arith, below)))
    (progress_of next) begins)
    (rw c.bytes_behind-rest.ensures at c.raster_begun.ensures.takes)

pub returns-in-Ok-Some-clause-stops : goal.returns-in-Ok-Some-clause-stops
returns-in-Ok-Some-clause-stops c =
    let below : c.loop-i.i < length c.args.piece.now = omega arith in
    let place : c.from-at.result + 1 ≡ reading.header_taken c.loop-i.reader + 1 =
    ap (λ k. k + 1) (c.from-at.ensures ∙ c.place.ensures.value
    ∙ ap reading.header_taken (rw c.in-Ok-Some.field-0-is at c.in-Ok-Some.ensures.ended_same)) in
    IfErr-weaker c.raster_begun.result _ _
    (λ fault refusal. header-full c.header_laws.ensures.texts c.header_laws.ensures.read
    c.header_laws.ensures.read_stands c.header_laws.ensures.part_refusable c.args.reader c.loop-i.reader
    c.args.piece.now c.requires c.loop-i.i (get_or c.args.piece.now c.loop-i.i 0)
    (drop (c.loop-i.i + 1) c.args.piece.now) c.loop-i.invariant (cut-at c.args.piece.now c.loop-i.i below)
    c.in-Ok-Some.header (rw c.in-Ok-Some.field-0-is at c.in-Ok-Some.ensures.ends)
    (c.from-at.result + 1) place (length-take-le c.loop-i.i c.args.piece.now (omega (arith, below))) fault refusal)
    (rw c.bytes_behind-rest.ensures at c.raster_begun.ensures.stops)

pub returns-in-Err-clause-stops : goal.returns-in-Err-clause-stops
returns-in-Err-clause-stops c =
    let below : c.loop-i.i < length c.args.piece.now = omega arith in
    rw c.fault_of_header.ensures (header-stops c.args.reader c.loop-i.reader c.args.piece.now c.requires c.loop-i.i
    (get_or c.args.piece.now c.loop-i.i 0)
    (drop (c.loop-i.i + 1) c.args.piece.now) c.loop-i.invariant
    (cut-at c.args.piece.now c.loop-i.i below) c.in-Err.fault c.in-Err.ensures.refusal)

pub returns-clause-takes : goal.returns-clause-takes
returns-clause-takes c =
    let all : c.loop-i.i ≡ length c.args.piece.now = omega arith in
    header-takes c.args.reader c.loop-i.reader c.args.piece.now c.requires
    (subst (λ k. HasTaken c.args.reader c.loop-i.reader c.args.piece.now k) all c.loop-i.invariant)
    (take-length c.args.piece.now)

pub loop-i-preserved : goal.loop-i-preserved
loop-i-preserved c = grind (arith, common_steps)

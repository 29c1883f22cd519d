use Rattle.std.proofs.Common.{Err, ◌∙◌, ap, arith}
use Rattle.run_laws.proofs.PointFileLemmas.{refusal_at}
use Rattle.run_laws.proofs.KeepRunLemmas.{points-opened, points-refused-runs, points-fault}
use Rattle.run_laws.proofs.RunLemmas.{spent-runs}
use Rattle.run_certify.proofs.points.points_or_end.Goals as goal

pub returns-in_default-clause-err : goal.returns-in_default-clause-err
returns-in_default-clause-err g c before grid_name job keeps read =
    spent-runs before _ grid_name job c.args.grid.now read

pub returns-in-Ok-read_points-clause-ok : goal.returns-in-Ok-read_points-clause-ok
returns-in-Ok-read_points-clause-ok g c =
    let r = c.in-Ok-read_points.ensures in
    let level = c.n-2.ensures.value in
    record {
      opened = points-opened _ _ (omega (arith, c.requires.opens)) r.only r.opens (r.no_fault (λ e. cc)) r.in_time;
      ended = r.ended;
      are_points = λ files told. rw level at (r.ok files told);
      inside = rw level at r.inside;
      few = rw level at r.few;
    }

pub returns-in-Err-Refused-clause-err : goal.returns-in-Err-Refused-clause-err
returns-in-Err-Refused-clause-err g c before grid_name job keeps read =
    let r = c.in-Err-Refused.ensures in
    let why = refusal_at c.in-Err-Refused.line c.in-Err-Refused.fault in
    points-refused-runs before _ grid_name _ job c.args.grid.now c.n-2.result keeps c.n-2.ensures.value read _ _
    c.end_with_text.result why c.as_slice.result.now (c.as_slice.ensures.value ∙ c.line_report.ensures)
    (points-opened _ _ (omega (arith, c.requires.opens)) r.only r.opens (r.no_fault (λ e. cc)) r.in_time)
    (r.refused why (ap Err c.in-Err-Refused.field-0-is)) c.end_with_text.ensures.tells

pub returns-in-Err-Failed-clause-err : goal.returns-in-Err-Failed-clause-err
returns-in-Err-Failed-clause-err g c before grid_name job keeps read =
    let r = c.in-Err-Failed.ensures in
    points-fault before _ grid_name _ job c.args.grid.now c.n-2.result keeps c.n-2.ensures.value read _
    (omega (arith, c.requires.opens)) r.only r.opens (r.failed (ap Err c.in-Err-Failed.field-0-is)) r.in_time
    (r.undecided (ap Err c.in-Err-Failed.field-0-is))

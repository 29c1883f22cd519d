use Rattle.std.proofs.Common.{refl, Err, ◌∙◌, ap}
use Rattle.run_words.specs.Words.{Keeping, Keep}
use Rattle.run_words.specs.FitView.{keeping_seen}
use Rattle.run_laws.proofs.DoesLemmas.{ends-done, ends-cut}
use Rattle.run_laws.proofs.PointFileLemmas.{refusal_at}
use Rattle.run_laws.proofs.KeepRunLemmas.{keep-keeps, points-opened, points-refused-runs, points-fault}
use Rattle.run_meshes.proofs.KeptLemmas.{fit-ends}
use Rattle.run_meshes.proofs.keep.keep_points.Goals as goal

pub returns-in-Ok-show-clause-same : goal.returns-in-Ok-show-clause-same
returns-in-Ok-show-clause-same g c =
    g.met.O.Outside.is_same_then _ _ _ c.read_points.ensures.same c.show.ensures.same

pub returns-in-Ok-clause-same : goal.returns-in-Ok-clause-same
returns-in-Ok-clause-same g c =
    g.met.O.Outside.is_same_then _ _ _ c.read_points.ensures.same c.show.ensures.same

pub returns-in-Ok-show-clause-runs : goal.returns-in-Ok-show-clause-runs
returns-in-Ok-show-clause-runs g c before read =
    let r = c.in-Ok.ensures in
    let level = c.n-n.ensures.value in
    fit-ends before _ _ _ _ (keeping_seen c.args.words.now) c.args.room.grid c.n-n.result _ level read
    c.in-Ok.points.items c.deref.result.now c.fit_kept-kept.result c.deref.ensures.value
    (points-opened _ _ c.requires.opens r.only r.opens (r.no_fault (λ e. cc)) r.in_time) r.ended r.ok
    c.fit_kept-kept.ensures (ends-done _ _ _ _ _ refl c.in-Ok-show.ensures.does)

pub returns-in-Ok-clause-runs : goal.returns-in-Ok-clause-runs
returns-in-Ok-clause-runs g c before read =
    let r = c.in-Ok.ensures in
    let level = c.n-n.ensures.value in
    fit-ends before _ _ _ _ (keeping_seen c.args.words.now) c.args.room.grid c.n-n.result _ level read
    c.in-Ok.points.items c.deref.result.now c.fit_kept-kept.result c.deref.ensures.value
    (points-opened _ _ c.requires.opens r.only r.opens (r.no_fault (λ e. cc)) r.in_time) r.ended r.ok
    c.fit_kept-kept.ensures (ends-cut _ _ _ _ _ c.in-Err.ensures.does)

pub returns-in-Err-Refused-clause-runs : goal.returns-in-Err-Refused-clause-runs
returns-in-Err-Refused-clause-runs g c before read =
    let r = c.in-Err-Refused.ensures in
    let level = c.n-n.ensures.value in
    let why = refusal_at c.in-Err-Refused.line c.in-Err-Refused.fault in
    let k : Keeping = keeping_seen c.args.words.now in
    points-refused-runs before _ _ _ (Keep k) c.args.room.grid c.n-n.result (keep-keeps _ k) level read _ _
    c.end_with_text.result why c.as_slice.result.now (c.as_slice.ensures.value ∙ c.line_report.ensures)
    (points-opened _ _ c.requires.opens r.only r.opens (r.no_fault (λ e. cc)) r.in_time)
    (r.refused why (ap Err c.in-Err-Refused.field-0-is)) c.end_with_text.ensures.tells

pub returns-clause-runs : goal.returns-clause-runs
returns-clause-runs g c before read =
    let r = c.in-Err-Failed.ensures in
    let level = c.n-n.ensures.value in
    let k : Keeping = keeping_seen c.args.words.now in
    points-fault before _ _ _ (Keep k) c.args.room.grid c.n-n.result (keep-keeps _ k) level read _
    c.requires.opens r.only r.opens (r.failed (ap Err c.in-Err-Failed.field-0-is)) r.in_time
    (r.undecided (ap Err c.in-Err-Failed.field-0-is))

use Rattle.std.proofs.Common.{◌≡◌, Err, inl, inr, rules, arith, ap, ◌∙◌}
use Rattle.std.proofs.lemmas.Grind.{common_steps}
use Rattle.run_files.specs.GridStop.{stop_for}
use Rattle.run_files.specs.declared.grid_file.GridStop.TheVariants.{Refused, NoMemory}
use Rattle.pgm_grid.specs.Progress.{grid_of}
use Rattle.run_laws.proofs.FileLemmas.{stops-unopened, read-begin, read-gives, read-on, read-settles}
use Rattle.run_laws.proofs.FileLemmas.{none-unread, read-ended}
use Rattle.run_files.proofs.ReadingLemmas.{taken-more, taken-refused, reading-unsettled}
use Rattle.run_files.proofs.ReadingLemmas.{reading-failed, start-unsettled, nothing-undecided, reading-header}
use Rattle.run_files.proofs.ReadingLemmas.{grid-header, stop_for-refused, stop_for-memory}
use Rattle.run_files.proofs.grid_file.read_grid.Goals as goal

pub pieces-init : goal.pieces-init
pieces-init g c = record {
  reading = read-begin (record { means = c.new-reader.ensures.value; counted = c.new-reader.ensures.count })
      c.in-Ok.ensures.opened.chosen;
  unsettled = start-unsettled _ c.new-reader.ensures.value;
  few = omega (arith, c.new-reader.ensures.count);
  opened = search rules;
  same = search rules;
}

pub returns-in-Err-clause-refused : goal.returns-in-Err-clause-refused
returns-in-Err-clause-refused g c fault is all told =
    let found = stop_for-refused c.in-Err.fault fault (let e : stop_for c.in-Err.fault ≡ Refused fault = cc in e) in
    read-settles c.pieces.invariant.reading c.in-Ok-read.ensures.bytes grid_of (Err fault)
    (taken-refused _ _ _ fault c.pieces.invariant.reading.come (rw found.0 at (c.in-Err.ensures.refusal found.1)))
    all told

pub pieces-preserved : goal.pieces-preserved
pieces-preserved g c = record {
  reading = read-on c.pieces.invariant.reading c.in-Ok-read.ensures.bytes _
      (taken-more _ _ _ _ c.pieces.invariant.reading.come c.in_default-feed.ensures.ok c.in_default-feed.ensures.count);
  unsettled = c.in_default-feed.ensures.unsettled;
  few = c.in_default-feed.ensures.limit;
  opened = search rules;
  same = g.met.O.Outside.is_same_then _ _ _ c.pieces.invariant.same c.in-Ok-read.ensures.same;
}

pub returns-in-Err-clause-no_memory : goal.returns-in-Err-clause-no_memory
returns-in-Err-clause-no_memory g c is all told =
    let wanted = stop_for-memory c.in-Err.fault (let e : stop_for c.in-Err.fault ≡ NoMemory = cc in e) in
    elim (c.in-Err.ensures.no_memory (ap Err wanted)) [
      | inl settled ↦
          absurd (reading-unsettled _ _ _ _ c.grids_and_texts.ensures.others c.pieces.invariant.reading settled)
      | inr ends ↦ reading-header _ _ _ _ _ c.in-Ok-read.count _ c.pieces.invariant.reading
          c.in-Ok-read.ensures.bytes.takes (read-gives c.pieces.invariant.reading c.in-Ok-read.ensures.bytes)
          ends all told
    ]

pub returns-then-count-eq0-clause-header : goal.returns-then-count-eq0-clause-header
returns-then-count-eq0-clause-header g c =
    grid-header _ _ _ _ c.pieces.invariant.reading
    (none-unread c.pieces.invariant.reading c.in-Ok-read.ensures.bytes c.if-count-eq0.true)
    c.finished.result c.grids_and_texts.ensures.headers c.finished.ensures.ok _ c.in-Ok-read.count c.if-count-eq0.true
    c.in-Ok-read.ensures.bytes.takes

pub returns-then-count-eq0-clause-ended : goal.returns-then-count-eq0-clause-ended
returns-then-count-eq0-clause-ended g c =
    read-ended c.pieces.invariant.reading c.in-Ok-read.ensures.bytes c.finished.result _ _ _
    (c.in-Ok-read.ensures.only.files ∙ c.pieces.invariant.opened.only.files) c.if-count-eq0.true
    (c.in-Ok-read.ensures.ends.at_end c.if-count-eq0.true)

pub returns-in_default-read-clause-undecided : goal.returns-in_default-read-clause-undecided
returns-in_default-read-clause-undecided g c is all told =
    reading-failed _ _ _ _ _ _ c.pieces.invariant.reading c.pieces.invariant.unsettled
    c.in_default-read.ensures.bytes.kept
    (c.in_default-read.ensures.ends.failed ∙ c.pieces.invariant.opened.open_file) all told

pub returns-in_default-clause-undecided : goal.returns-in_default-clause-undecided
returns-in_default-clause-undecided g c is all told =
    stops-unopened _ _ _ _ (grind (arith, common_steps)) nothing-undecided

use Rattle.std.proofs.Common.{◌≡◌, ◌&&◌, [], List, Some, Option, option_map, sym, ◌∙◌, ap, subst, arith}
use Rattle.roam_edge.specs.Shelf.{NamedFile}
use Rattle.run_words.specs.Words.{Show, Frames, Scripted}
use Rattle.run_laws.specs.Outcome.{Outcome}
use Rattle.run_laws.specs.Maker.{TellsFrames, Begins, LeavesEngine}
use Rattle.run_laws.proofs.GridLemmas.{first_walk, first-begins}
use Rattle.run_laws.proofs.RunLemmas.{spent-runs, script-runs}
use Rattle.run_words.specs.WordView.{scripted_seen}
use Rattle.run_engine.specs.EngineSeen.{engine_seen}
use Rattle.run_engine.specs.EngineFrames.{EngineHasFollowed}
use Rattle.roam_run.proofs.LeftLemmas.{left-some, left-of-engine, sum-none, leaves-engine}
use Rattle.roam_run.proofs.run.run_engine.Goals as goal

pub returns-in-Ok-made-clause-runs : goal.returns-in-Ok-made-clause-runs
returns-in-Ok-made-clause-runs g c =
    let s : Scripted = scripted_seen c.args.command.now in
    let run = c.run_script-status in
    let frames = c.in-Ok-made.frames in
    let made = run.new.frames in
    let read = c.in-Ok.ensures.ok in
    let shown = c.requires.shown in
    let P : Show → Type 0 =
    λ show. EngineHasFollowed frames.showing frames.engine show (first_walk s c.in-Ok.grid) [] in
    let begins : (files : List NamedFile) → (g.O.Outside.moment c.args.outside.now).shelf.files ≡ Some files
    → Begins s.show (EngineHasFollowed frames.showing frames.engine) (first_walk s c.in-Ok.grid) =
    λ files told. (let range = c.state_laws.ensures.levels c.in-Ok.grid _ (read.is_grid files told) in
    first-begins s c.in-Ok.grid c.requires.accepted.budget_low range.0 (omega (arith, range.1))
    (EngineHasFollowed frames.showing frames.engine)
    (subst P (sym shown) c.in-Ok-made.ensures.begins) (subst TellsFrames (sym shown) (sum-none c.args.showing))) in
    rw c.of_script.ensures.status (script-runs _ _ _ _ s c.in-Ok.grid c.requires.opens read
    (EngineHasFollowed made.showing made.engine) _ run.result run.ensures.status run.ensures.leaves
    (left-of-engine c.args.showing c.args.command.now.grid.now s run.result c.of_script.result.engine shown
    c.of_script.ensures.left)
    (λ end complete leaves.
    (let Q : Show → Type 0 = λ show. LeavesEngine show (EngineHasFollowed made.showing made.engine) end in
    ap (option_map engine_seen) (c.of_script.ensures.engine
    ∙ left-some run.result made.engine run.ensures.status complete)
    ∙ leaves-engine c.args.showing made.showing made.engine end (subst Q shown leaves)))
    (λ files told not_read. run.ensures.ends _ _ (begins files told) files (read.opened.only.files ∙ told) not_read)
    (λ fault files told. run.ensures.read_fault fault _ _ (begins files told) files (read.opened.only.files ∙ told)))

pub returns-in_default-clause-runs : goal.returns-in_default-clause-runs
returns-in_default-clause-runs g c =
    rw (c.without_engine.ensures.status, c.without_engine.ensures.engine)
    (spent-runs _ _ _ (Frames (scripted_seen c.args.command.now)) c.in-Ok.grid c.in-Ok.ensures.ok)

pub returns-in-Err-clause-runs : goal.returns-in-Err-clause-runs
returns-in-Err-clause-runs g c =
    rw (c.without_engine-in-Err.ensures.status, c.without_engine-in-Err.ensures.engine)
    (c.in-Err.ensures.err (Frames (scripted_seen c.args.command.now)))

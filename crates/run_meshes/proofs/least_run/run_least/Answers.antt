use Rattle.std.proofs.Common.{◌≡◌, ◌&&◌, List, [], Some, refl, ap, sym, ◌∙◌, subst, arith}
use Rattle.roam_edge.specs.Shelf.{NamedFile}
use Rattle.run_words.specs.Words.{Show, OnGrid, Frames, Scripted, is_of_engine}
use Rattle.run_laws.specs.Promise.{ends_script}
use Rattle.run_laws.specs.Outcome.{Outcome}
use Rattle.run_laws.specs.Maker.{TellsFrames, Begins, LeavesEngine}
use Rattle.run_laws.proofs.GridLemmas.{first_walk, first-begins}
use Rattle.run_laws.proofs.RunLemmas.{spent-runs, script-runs, none-left}
use Rattle.run_words.specs.WordView.{scripted_seen}
use Rattle.run_meshes.specs.LeastSeen.{LeastFollows}
use Rattle.run_meshes.proofs.LeastLemmas.{least-leaves}
use Rattle.run_meshes.proofs.least_run.run_least.Goals as goal

pub returns-in-Ok-made-clause-runs : goal.returns-in-Ok-made-clause-runs
returns-in-Ok-made-clause-runs g c =
    let s : Scripted = scripted_seen c.args.command.now in
    let run = c.run_script in
    let frames = c.in-Ok-made.frames in
    let read = c.in-Ok.ensures.ok in
    let shown = c.requires.shown in
    let P : Show → Type 0 = λ show. LeastFollows frames show (first_walk s c.in-Ok.grid) [] in
    let Q : Show → Outcome → Type 0 = λ show end. LeavesEngine show (LeastFollows run.new.frames) end in
    let begins : (files : List NamedFile) → (g.O.Outside.moment c.args.outside.now).shelf.files ≡ Some files
    → Begins s.show (LeastFollows frames) (first_walk s c.in-Ok.grid) =
    λ files told. (let range = c.state_laws.ensures.levels c.in-Ok.grid _ (read.is_grid files told) in
    first-begins s c.in-Ok.grid c.requires.accepted.budget_low range.0 (omega (arith, range.1)) (LeastFollows frames)
    (subst P (sym shown) c.in-Ok-made.ensures.begins) (subst TellsFrames (sym shown) (λ ps. refl))) in
    script-runs _ _ _ _ s c.in-Ok.grid c.requires.opens read (LeastFollows run.new.frames) _ run.result
    run.ensures.status run.ensures.leaves (none-left (Some (OnGrid c.args.command.now.grid.now (Frames s))) run.result
    (ap (λ (show : Show). is_of_engine show && ends_script run.result) shown))
    (λ end complete leaves. least-leaves c.args.prefix.now c.args.tolerance (LeastFollows run.new.frames) end
    (subst (λ (show : Show). Q show end) shown leaves))
    (λ files told not_read. run.ensures.ends _ _ (begins files told) files (read.opened.only.files ∙ told) not_read)
    (λ fault files told. run.ensures.read_fault fault _ _ (begins files told) files (read.opened.only.files ∙ told))

pub returns-in_default-clause-runs : goal.returns-in_default-clause-runs
returns-in_default-clause-runs g c =
    spent-runs _ _ _ (Frames (scripted_seen c.args.command.now)) c.in-Ok.grid c.in-Ok.ensures.ok

pub returns-in-Err-clause-runs : goal.returns-in-Err-clause-runs
returns-in-Err-clause-runs g c = c.in-Err.ensures.err (Frames (scripted_seen c.args.command.now))

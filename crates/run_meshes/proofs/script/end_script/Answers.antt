use Rattle.std.proofs.Common.{◌≡◌, ◌≢◌, [], ◌∷◌, ◌++◌, ◌∙◌, ap, sym, arith, append-nil}
use Rattle.std.proofs.lemmas.Grind.{common_steps}
use Rattle.run_laws.specs.Walk.{walk_of}
use Rattle.run_meshes.proofs.EndLemmas.{ends-empty, ends-stop, ends-same, last-line}
use Rattle.run_meshes.proofs.OnlyLemmas.{only-nothing, ends-taken, ends-stopped}
use Rattle.run_meshes.proofs.script.end_script.Goals as goal

pub returns-then-is_empty-clause-ends : goal.returns-then-is_empty-clause-ends
returns-then-is_empty-clause-ends g c before show start read keeps at =
    let none : c.args.stage.now.part.items ≡ [] = grind (arith, common_steps) in
    ends-empty before _ show (g.K.FrameMaker.follows c.args.frames.now) start read c.args.stage.now at none

pub returns-in-Ok-clause-ends : goal.returns-in-Ok-clause-ends
returns-in-Ok-clause-ends g c before show start read keeps at =
    let some : c.args.stage.now.part.items ≢ [] = grind (arith, common_steps) in
    ends-same before _ show (g.K.FrameMaker.follows c.take_line.new.frames) start read (read ++ 10 ∷ []) _
    (last-line before _ show (g.K.FrameMaker.follows c.args.frames.now) start read c.args.stage.now at some)
    (ends-empty before _ show (g.K.FrameMaker.follows c.take_line.new.frames) start (read ++ 10 ∷ [])
    c.take_line.new.stage (c.in-Ok.ensures.outcome before show start read keeps at).ok c.in-Ok.ensures.part)

pub returns-in-Err-clause-ends : goal.returns-in-Err-clause-ends
returns-in-Err-clause-ends g c before show start read keeps at =
    let some : c.args.stage.now.part.items ≢ [] = grind (arith, common_steps) in
    rw c.status_of.ensures
    (ends-same before _ show (g.K.FrameMaker.follows c.take_line.new.frames) start read ((read ++ 10 ∷ []) ++ []) _
    (last-line before _ show (g.K.FrameMaker.follows c.args.frames.now) start read c.args.stage.now at some
    ∙ ap (walk_of start) (sym (append-nil (read ++ 10 ∷ []))))
    (ends-stop before _ show (g.K.FrameMaker.follows c.take_line.new.frames) start at.alone (read ++ 10 ∷ []) []
    c.take_line.new.stage c.in-Err.stop (c.in-Err.ensures.outcome before show start read keeps at)))

pub returns-then-is_empty-clause-only : goal.returns-then-is_empty-clause-only
returns-then-is_empty-clause-only g c = ends-taken _ _ (only-nothing _)

pub returns-in-Ok-clause-only : goal.returns-in-Ok-clause-only
returns-in-Ok-clause-only g c = ends-taken _ _ c.in-Ok.ensures.only

pub returns-in-Err-clause-only : goal.returns-in-Err-clause-only
returns-in-Err-clause-only g c = rw c.status_of.ensures (ends-stopped _ _ c.in-Err.stop c.in-Err.ensures.only)

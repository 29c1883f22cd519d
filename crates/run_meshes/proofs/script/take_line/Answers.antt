use Rattle.std.proofs.Common.{◌≡◌, ◌≢◌, ◌<◌, Ok, Err, sym, ap, ◌∙◌, arith}
use Rattle.std.proofs.lemmas.Grind.{common_steps}
use Rattle.roam_script.specs.declared.limits.TheConstants.{MOST_LINES}
use Rattle.roam_script.specs.declared.line.Line.{Line}
use Rattle.roam_script.specs.declared.line.Line.TheVariants.{Frame}
use Rattle.roam_script.specs.LineText.{line_in}
use Rattle.run_meshes.proofs.StageLemmas.{line-shown, takes-shown, takes-frame-cut, takes-change, takes-refusal}
use Rattle.run_meshes.proofs.StageLemmas.{takes-cut, line-settles}
use Rattle.run_meshes.proofs.OnlyLemmas.{only-nothing, only-shown, only-refused, only-cut}
use Rattle.run_meshes.proofs.script.take_line.Goals as goal

pub take_frame-requires-clause-ready : goal.take_frame-requires-clause-ready
take_frame-requires-clause-ready g c =
    let few : c.args.stage.now.lines < MOST_LINES = grind (arith, common_steps) in
    (c.args.stage.now.lines, c.requires.ready, few)

pub take_frame-requires-clause-ranges : goal.take_frame-requires-clause-ranges
take_frame-requires-clause-ranges g c =
    let is : line_in c.limits.result c.as_slice.result.now ≡ Ok Frame =
    sym c.read_line.ensures.same ∙ (c.in-Ok-Frame.is ∙ ap (λ (l : Line). Ok l) c.in-Ok-Frame.field-0-is) in
    (c.limits.result, c.limits.ensures.under, c.line_laws.ensures.ranges c.limits.result c.as_slice.result.now Frame is)

pub apply_line-requires-clause-ready : goal.apply_line-requires-clause-ready
apply_line-requires-clause-ready g c =
    let few : c.args.stage.now.lines < MOST_LINES = grind (arith, common_steps) in
    (c.args.stage.now.lines, c.requires.ready, few)

pub apply_line-requires-clause-ranges : goal.apply_line-requires-clause-ranges
apply_line-requires-clause-ranges g c =
    let is : line_in c.limits.result c.as_slice.result.now ≡ Ok c.in-Ok.line =
    sym c.read_line.ensures.same ∙ c.in-Ok.is in (
      c.limits.result,
      c.limits.ensures.under,
      c.line_laws.ensures.ranges c.limits.result c.as_slice.result.now c.in-Ok.line is,
    )

pub returns-in-Ok-take_frame-clause-outcome : goal.returns-in-Ok-take_frame-clause-outcome
returns-in-Ok-take_frame-clause-outcome g c before show start read starts at =
    let is : line_in c.limits.result c.as_slice.result.now ≡ Ok Frame =
    sym c.read_line.ensures.same ∙ (c.in-Ok-Frame.is ∙ ap (λ (l : Line). Ok l) c.in-Ok-Frame.field-0-is) in
    let did = c.in-Ok-take_frame.ensures.outcome show at.here.walk at.here.pictures at.shows.followed in
    record {
      ok = takes-shown before _ show (g.K.FrameMaker.follows c.args.frames.now) start read
          c.args.stage.now at (g.K.FrameMaker.follows c.take_frame.new.self)
          c.end_line.new.self c.end_line.ensures.lines c.end_line.ensures.part
          (line-shown before _ show (g.K.FrameMaker.follows c.args.frames.now) start read
          c.args.stage.now at c.limits.result c.as_slice.result.now (Ok Frame)
          (c.limits.ensures.value show at.here.walk at.here.pictures at.shows.followed at.shows.lines)
          c.as_slice.ensures.value is)
          did.picture did.is_picture did.followed _ did.shown;
      refused = λ e. cc;
      failed = λ e. cc;
    }

pub returns-in-Ok-take_frame-clause-ready : goal.returns-in-Ok-take_frame-clause-ready
returns-in-Ok-take_frame-clause-ready g c =
    rw c.end_line.ensures.lines (c.take_frame.ensures.ready c.args.stage.now.lines c.requires.ready)

pub returns-in-Err-take_frame-clause-outcome : goal.returns-in-Err-take_frame-clause-outcome
returns-in-Err-take_frame-clause-outcome g c before show start read starts at =
    let is : line_in c.limits.result c.as_slice.result.now ≡ Ok Frame =
    sym c.read_line.ensures.same ∙ (c.in-Ok-Frame.is ∙ ap (λ (l : Line). Ok l) c.in-Ok-Frame.field-0-is) in
    let did = c.in-Err-take_frame.ensures.outcome show at.here.walk at.here.pictures at.shows.followed in
    takes-frame-cut before _ show (g.K.FrameMaker.follows c.args.frames.now) start read
    c.args.stage.now at (g.K.FrameMaker.follows c.take_frame.new.self) c.args.stage.now
    c.state_laws.ensures.budgets c.state_laws.ensures.frames c.state_laws.ensures.sets starts
    (line-shown before _ show (g.K.FrameMaker.follows c.args.frames.now) start read c.args.stage.now at c.limits.result
    c.as_slice.result.now (Ok Frame)
    (c.limits.ensures.value show at.here.walk at.here.pictures at.shows.followed at.shows.lines)
    c.as_slice.ensures.value is)
    did.picture did.is_picture _ did.cut_short

pub returns-in-Ok-clause-outcome : goal.returns-in-Ok-clause-outcome
returns-in-Ok-clause-outcome g c before show start read starts at =
    let other : c.in-Ok.line ≢ Frame = grind (arith, common_steps) in
    let is : line_in c.limits.result c.as_slice.result.now ≡ Ok c.in-Ok.line =
    sym c.read_line.ensures.same ∙ c.in-Ok.is in
    record {
      ok = takes-change before _ show (g.K.FrameMaker.follows c.args.frames.now) start read
          c.args.stage.now at (g.K.FrameMaker.follows c.apply_line.new.self)
          c.end_line-in-Ok.new.self c.end_line-in-Ok.ensures.lines c.end_line-in-Ok.ensures.part c.in-Ok.line
          (line-shown before _ show (g.K.FrameMaker.follows c.args.frames.now) start read
          c.args.stage.now at c.limits.result c.as_slice.result.now (Ok c.in-Ok.line)
          (c.limits.ensures.value show at.here.walk at.here.pictures at.shows.followed at.shows.lines)
          c.as_slice.ensures.value is)
          other (c.apply_line.ensures.followed show at.here.walk at.here.pictures at.shows.followed);
      refused = λ e. cc;
      failed = λ e. cc;
    }

pub returns-in-Ok-clause-ready : goal.returns-in-Ok-clause-ready
returns-in-Ok-clause-ready g c =
    rw c.end_line-in-Ok.ensures.lines (c.apply_line.ensures.ready c.args.stage.now.lines c.requires.ready)

pub returns-in-Ok-refuse-clause-outcome : goal.returns-in-Ok-refuse-clause-outcome
returns-in-Ok-refuse-clause-outcome g c before show start read starts at =
    let is : line_in c.limits.result c.as_slice.result.now ≡ Err c.in-Err.fault =
    sym c.read_line.ensures.same ∙ c.in-Err.is in
    takes-refusal before _ show (g.K.FrameMaker.follows c.args.frames.now) start read
    c.args.stage.now at _ c.in-Err.fault
    (line-settles before _ show (g.K.FrameMaker.follows c.args.frames.now) start read c.args.stage.now at c.in-Err.fault
    (line-shown before _ show (g.K.FrameMaker.follows c.args.frames.now) start read c.args.stage.now at c.limits.result
    c.as_slice.result.now (Err c.in-Err.fault)
    (c.limits.ensures.value show at.here.walk at.here.pictures at.shows.followed at.shows.lines)
    c.as_slice.ensures.value is))
    c.args.stage.now _ c.in-Ok-refuse.ensures.does.done

pub returns-in-Err-refuse-clause-outcome : goal.returns-in-Err-refuse-clause-outcome
returns-in-Err-refuse-clause-outcome g c before show start read starts at =
    let is : line_in c.limits.result c.as_slice.result.now ≡ Err c.in-Err.fault =
    sym c.read_line.ensures.same ∙ c.in-Err.is in
    takes-cut before _ show (g.K.FrameMaker.follows c.args.frames.now) start read c.args.stage.now at _ c.in-Err.fault
    (line-settles before _ show (g.K.FrameMaker.follows c.args.frames.now) start read c.args.stage.now at c.in-Err.fault
    (line-shown before _ show (g.K.FrameMaker.follows c.args.frames.now) start read c.args.stage.now at c.limits.result
    c.as_slice.result.now (Err c.in-Err.fault)
    (c.limits.ensures.value show at.here.walk at.here.pictures at.shows.followed at.shows.lines)
    c.as_slice.ensures.value is))
    c.args.stage.now _ c.in-Err-refuse.ensures.does.cut_short

pub returns-in-Ok-take_frame-clause-only : goal.returns-in-Ok-take_frame-clause-only
returns-in-Ok-take_frame-clause-only g c = only-shown _ _ _ c.in-Ok-take_frame.ensures.only

pub returns-in-Err-take_frame-clause-only : goal.returns-in-Err-take_frame-clause-only
returns-in-Err-take_frame-clause-only g c = only-cut _ _ _ c.in-Err-take_frame.ensures.only

pub returns-in-Ok-clause-only : goal.returns-in-Ok-clause-only
returns-in-Ok-clause-only g c = only-nothing _

pub returns-in-Ok-refuse-clause-only : goal.returns-in-Ok-refuse-clause-only
returns-in-Ok-refuse-clause-only g c = only-refused _ _ _ c.in-Ok-refuse.ensures.does.only

pub returns-in-Err-refuse-clause-only : goal.returns-in-Err-refuse-clause-only
returns-in-Err-refuse-clause-only g c = only-cut _ _ _ c.in-Err-refuse.ensures.does.only

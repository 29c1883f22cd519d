use Rattle.std.proofs.Common.{refl}
use Rattle.run_meshes.proofs.StageLemmas.{takes-byte, byte-settles, takes-refusal, takes-cut, longer-line}
use Rattle.run_meshes.proofs.OnlyLemmas.{only-nothing, only-refused, only-cut}
use Rattle.run_meshes.proofs.script.take_byte.Goals as goal

pub returns-then-byte-eq10-clause-longer : goal.returns-then-byte-eq10-clause-longer
returns-then-byte-eq10-clause-longer g c =
    longer-line c.take_line.result _ _ _ _ c.take_line.ensures.lines c.take_line.ensures.part c.requires.stage.short

pub returns-in-Ok-clause-outcome : goal.returns-in-Ok-clause-outcome
returns-in-Ok-clause-outcome g c before show start read keeps at =
    takes-refusal before _ show (g.K.FrameMaker.follows c.args.frames.now) start read
    c.args.stage.now at _ c.in-Some.fault
    (byte-settles before _ show (g.K.FrameMaker.follows c.args.frames.now) start read c.args.stage.now at c.args.byte
    c.in-Some.fault c.if-byte-eq10.false c.in-Some.ensures.some)
    c.args.stage.now _ c.in-Ok.ensures.does.done

pub returns-in-Err-clause-outcome : goal.returns-in-Err-clause-outcome
returns-in-Err-clause-outcome g c before show start read keeps at =
    takes-cut before _ show (g.K.FrameMaker.follows c.args.frames.now) start read c.args.stage.now at _ c.in-Some.fault
    (byte-settles before _ show (g.K.FrameMaker.follows c.args.frames.now) start read c.args.stage.now at c.args.byte
    c.in-Some.fault c.if-byte-eq10.false c.in-Some.ensures.some)
    c.args.stage.now _ c.in-Err.ensures.does.cut_short

pub returns-in-None-clause-outcome : goal.returns-in-None-clause-outcome
returns-in-None-clause-outcome g c before show start read keeps at = record {
  ok = takes-byte before _ show (g.K.FrameMaker.follows c.args.frames.now) start read c.args.stage.now at _ c.args.byte
      c.if-byte-eq10.false (c.settled_fault.ensures.room c.in-None.is)
      (c.settled_fault.ensures.lines c.in-None.is) refl c.push.ensures.items;
  refused = λ e. cc;
  failed = λ e. cc;
}

pub returns-in-Ok-clause-only : goal.returns-in-Ok-clause-only
returns-in-Ok-clause-only g c = only-refused _ _ _ c.in-Ok.ensures.does.only

pub returns-in-Err-clause-only : goal.returns-in-Err-clause-only
returns-in-Err-clause-only g c = only-cut _ _ _ c.in-Err.ensures.does.only

pub returns-in-None-clause-only : goal.returns-in-None-clause-only
returns-in-None-clause-only g c = only-nothing _

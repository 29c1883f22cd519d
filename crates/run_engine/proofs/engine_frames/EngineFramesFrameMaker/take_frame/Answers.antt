use Rattle.run_engine.proofs.FrameLemmas.{done-noted}
use Rattle.run_engine.proofs.ShowingLemmas.{frame-room, engine-takes}
use Rattle.run_engine.proofs.engine_frames.EngineFramesFrameMaker.take_frame.Goals as goal

pub show_frame-requires-clause-noted : goal.show_frame-requires-clause-noted
show_frame-requires-clause-noted g c =
    done-noted c.args.self.now.engine c.frame-note.new.self c.frame-note.result c.frame-note.ensures.done

pub show_frame-requires-clause-room : goal.show_frame-requires-clause-room
show_frame-requires-clause-room g c strip =
    let ready = c.requires.ready in
    rw c.as_mut_slice-room.ensures.value (frame-room c.args.self.now.showing c.args.self.now.engine
    c.frame-note.new.self c.args.self.now.room.items c.frame-note.result ready.0 ready.1
    c.frame-note.ensures.done strip)

pub returns-clause-outcome : goal.returns-clause-outcome
returns-clause-outcome g c show walk pictures follows =
    engine-takes _ _ c.args.self.now.showing c.args.self.now.engine c.frame-note.new.self c.frame-note.result
    c.show_frame.result c.frame-note.ensures.done
    c.show_frame.ensures.does.done c.show_frame.ensures.does.cut_short show walk pictures follows

pub returns-clause-only : goal.returns-clause-only
returns-clause-only g c = c.show_frame.ensures.does.only

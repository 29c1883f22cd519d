use Rattle.run_meshes.proofs.LeastLemmas.{least-takes}
use Rattle.run_meshes.proofs.least_frames.LeastFramesFrameMaker.take_frame.Goals as goal

pub returns-clause-outcome : goal.returns-clause-outcome
returns-clause-outcome g c show walk pictures follows =
    let made = c.make_mesh-note.ensures in
    least-takes c.args.self.now c.make_mesh-note.new.self made.prefix made.tolerance made.state made.most made.frames _
    _ c.make_mesh-note.result c.show.result
    made.list made.worst made.noted c.show.ensures.does.done c.show.ensures.does.cut_short show walk pictures follows

pub returns-clause-only : goal.returns-clause-only
returns-clause-only g c = c.show.ensures.does.only

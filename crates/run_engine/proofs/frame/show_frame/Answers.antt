use Rattle.run_engine.specs.NoteSeen.{picture_seen}
use Rattle.run_engine.proofs.ShowLemmas.{shown-does}
use Rattle.run_engine.proofs.frame.show_frame.Goals as goal

pub returns-in-Meshes-clause-does : goal.returns-in-Meshes-clause-does
returns-in-Meshes-clause-does g c =
    shown-does _ _ c.args.showing _ c.args.engine.now.frames
    (picture_seen c.args.engine.now c.args.note.now) c.write_frame.result c.in-Meshes.is
    c.write_frame.ensures.does

pub returns-in-Strips-clause-does : goal.returns-in-Strips-clause-does
returns-in-Strips-clause-does g c =
    shown-does _ _ c.args.showing _ c.args.engine.now.frames
    (picture_seen c.args.engine.now c.args.note.now) c.write_strip.result c.in-Strips.is
    (c.write_strip.ensures.does c.args.note.now)

pub returns-in-Measures-clause-does : goal.returns-in-Measures-clause-does
returns-in-Measures-clause-does g c =
    shown-does _ _ c.args.showing _ c.args.engine.now.frames
    (picture_seen c.args.engine.now c.args.note.now) c.write_measure.result c.in-Measures.is
    (c.write_measure.ensures.does c.args.note.now)

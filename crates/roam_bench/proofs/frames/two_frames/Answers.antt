use Rattle.std.proofs.Common.{arith}
use Rattle.roam_mesh.specs.Mesh.{seen_of}
use Rattle.roam_bench.proofs.frames.two_frames.Goals as goal

pub advance-steps-requires-clause-readings : goal.advance-steps-requires-clause-readings
advance-steps-requires-clause-readings c =
    c.gauge_laws.ensures.hold c.args.wedges.now.n c.args.wedges.now.heights c.args.from 0

pub advance-steps-requires-2-clause-readings : goal.advance-steps-requires-2-clause-readings
advance-steps-requires-2-clause-readings c =
    c.gauge_laws.ensures.hold c.args.wedges.now.n c.args.wedges.now.heights c.args.to c.args.odometer

pub advance-steps-requires-2-clause-stamps : goal.advance-steps-requires-2-clause-stamps
advance-steps-requires-2-clause-stamps c =
    c.gauge_laws.ensures.stamps c.args.wedges.now.n c.args.wedges.now.heights c.args.from c.args.to 0 c.args.odometer
    (seen_of c.args.mesh.now) (seen_of c.advance-steps.new.self)
    (let way = c.requires.way in
    omega (arith, way)) c.requires.stamps c.advance-steps.ensures.stamps c.advance-steps.ensures.only

use Rattle.std.proofs.Common.{refl}
use Rattle.run_engine.proofs.EngineLemmas.{followed-begins}
use Rattle.run_engine.proofs.engine_frames.EngineFrames.make.Goals as goal

pub returns-clause-begins : goal.returns-clause-begins
returns-clause-begins c =
    let e = c.in_ok-engine.ensures in
    record {
      same_show = refl;
      followed = followed-begins c.args.grid c.args.spacing c.args.budget c.in_ok-engine.engine e.state e.most e.base
          e.odometer e.frames e.splits e.merges;
    }

use Rattle.std.proofs.Common.{rules, arith}
use Rattle.std.proofs.lemmas.Grind.{common_steps}
use Rattle.run_engine.proofs.CameraLemmas.{way-short}
use Rattle.run_engine.proofs.applying.move_camera.Goals as goal

pub new-requires : goal.new-requires
new-requires c = search rules

pub unwrap-requires : goal.unwrap-requires
unwrap-requires c = search rules

pub camera-requires : goal.camera-requires
camera-requires c =
    grind (
      arith,
      common_steps,
      way-short c.args.engine.now.state.view.camera
          (record { x = c.args.x; y = c.args.y; z = c.args.z }) c.requires.near c.requires.valid,
    )

pub returns : goal.returns
returns c =
    grind (
      arith,
      common_steps,
      way-short c.args.engine.now.state.view.camera
          (record { x = c.args.x; y = c.args.y; z = c.args.z }) c.requires.near c.requires.valid,
    )

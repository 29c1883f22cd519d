-- As the world answers.
use Rattle.std.proofs.Common.{subst, sym, refl}
use Rattle.std.proofs.lemmas.Int.{to_z-of_z}
use Rattle.mesh_defs.specs.BoundingBox.{CameraAt}
use Rattle.view_priority.specs.Camera.{IsCamera}
use Rattle.roam_embed.specs.declared.answer.Answer.TheVariants.{Done}
use Rattle.world_embed.specs.Worlds.{IsWorldCameraMoved}
use Rattle.world_embed.proofs.WorldLemmas.{camera-moved}
use Rattle.world_embed.proofs.world.move_world_camera.Goals as goal

pub returns-in-Some : goal.returns-in-Some
returns-in-Some c =
    let value = simp (to_z-of_z, c.ranges.x, c.ranges.y, c.ranges.z) at c.in-Some.ensures.value in
    let valid = simp (to_z-of_z, c.ranges.x, c.ranges.y, c.ranges.z) at c.in-Some.ensures.valid in
    subst (λ (p : CameraAt). IsWorldCameraMoved c.args.world.now c.camera.new.self p Done) value
    (camera-moved c.args.world.now c.camera.new.self c.in-Some.place (subst IsCamera (sym value) (valid.0 refl))
    c.camera.ensures.rest c.camera.ensures.near c.camera.ensures.far)

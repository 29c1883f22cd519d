-- As the world's note says.
use Rattle.std.proofs.Common.{false, refl}
use Rattle.std.proofs.lemmas.Bool.{both_ways}
use Rattle.world_embed.proofs.WorldLemmas.{frame-made}
use Rattle.world_embed.proofs.world.make_world_frame.Goals as goal

pub returns-in-Ok : goal.returns-in-Ok
returns-in-Ok c =
    frame-made c.args.world.now c.frame.new.self c.args.out.now c.frame_of_world.result
    (λ worn. both_ways false refl (c.in-Ok.ensures.worn.1 worn)) c.in-Ok.ensures.best c.in-Ok.ensures.vertices
    (c.draw_laws.ensures.reach c.frame.new.self c.in-Ok.ensures.«open»)
    c.frame_of_world.ensures.unneeded c.frame_of_world.ensures.spare c.in-Ok.note c.frame_of_world.ensures.note
    (c.in-Ok.ensures.done, c.in-Ok.ensures.unblocked, c.in-Ok.ensures.certificate)

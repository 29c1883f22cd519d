use Rattle.obj_write.proofs.FaceLemmas.{AreFaces-put}
use Rattle.obj_write.proofs.faces.+known.Goals as goal

pub renew_face-returns-in-Some-clause-known : goal.renew_face-returns-in-Some-clause-known
renew_face-returns-in-Some-clause-known t c =
    AreFaces-put c.args.n c.args.numbers.now c.make_known.new.faces c.split_at_mut-coarse.result.0.now
    c.split_at_mut-coarse.result.1.now
    c.level-level.result c.put_child.new.face c.split_at_mut-coarse.ensures.value
    c.split_at_mut-coarse.ensures.front_len
    c.put_child.ensures.face c.make_known.ensures.known

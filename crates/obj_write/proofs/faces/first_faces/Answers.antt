use Rattle.std.proofs.Common.{sym, subst}
use Rattle.std.proofs.lemmas.List.{get_or-replicate}
use Rattle.obj_write.specs.Faces.{IsFace}
use Rattle.obj_write.proofs.faces.first_faces.Goals as goal

pub returns-clause-known : goal.returns-clause-known
returns-clause-known c k d below =
    subst (IsFace c.args.n c.args.numbers.now)
    (sym (get_or-replicate 29 k c.half_face-half.result d below)) c.half_face-half.ensures.face

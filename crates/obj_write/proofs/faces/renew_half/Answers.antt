use Rattle.std.proofs.Common.{ℕ, ◌<◌, ◌∙◌, ap, arith, length, set, slice_index_or, get_or-set_same}
use Rattle.std.proofs.lemmas.List.Elements.{All-set}
use Rattle.obj_write.specs.declared.faces.Face.{Face}
use Rattle.obj_write.specs.Faces.{IsFace}
use Rattle.obj_write.proofs.FaceLemmas.{level_of-small}
use Rattle.obj_write.proofs.faces.renew_half.Goals as goal

pub returns-clause-known : goal.returns-clause-known
returns-clause-known c =
    All-set (IsFace c.args.n c.args.numbers.now) c.args.faces.now 0 c.half_face.result
    c.half_face.ensures.face c.requires.known

pub returns-clause-there : goal.returns-clause-there
returns-clause-there c d =
    let below : 0 < length c.args.faces.now = omega arith in
    ap (λ (k : ℕ). (slice_index_or (set c.args.faces.now 0 c.half_face.result) k d).tri)
    (level_of-small c.args.half c.requires.half)
    ∙ ap (λ (f : Face). f.tri) (get_or-set_same c.args.faces.now 0 c.half_face.result d below) ∙ c.half_face.ensures.tri

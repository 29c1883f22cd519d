use Rattle.std.proofs.Common.{refl}
use Rattle.run_meshes.proofs.KeptLemmas.{required-corner, required-more}
use Rattle.run_meshes.proofs.required.list_centred.Goals as goal

pub returns-in-Ok-clause-listed : goal.returns-in-Ok-clause-listed
returns-in-Ok-clause-listed c points so_far =
    rw c.in-Ok.ensures.items (required-more c.args.n points _ c.args.point so_far c.in-Some.t
    c.in-Some.ensures.splittable c.in-Some.ensures.centre c.in-Some.ensures.vertex)

pub returns-in_default-clause-listed : goal.returns-in_default-clause-listed
returns-in_default-clause-listed c points so_far =
    required-corner c.args.n points _ c.args.point so_far (c.in_default.ensures.corner.0 refl)

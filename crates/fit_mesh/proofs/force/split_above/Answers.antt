-- The parent of a triangle of the grid may be split.
use Rattle.std.proofs.Common.{◌≡◌, ◌/◌, ◌<◌, ◌≤◌, sym, subst, ⊎_elim}
use Rattle.std.proofs.lemmas.Bool.{cases_lt}
use Rattle.mesh_defs.specs.Triangle.{IsSplittable}
use Rattle.fit_mesh.proofs.ForceLemmas.{parent-splittable}
use Rattle.fit_mesh.proofs.force.split_above.Goals as goal

pub force-requires-clause-splittable : goal.force-requires-clause-splittable
force-requires-clause-splittable c =
    let half : c.in-Some.parent ≡ c.args.t / 2 = c.in-Some.ensures.half in
    let large : 4 ≤ c.args.t = ⊎_elim
    (λ (small : c.args.t < 4). absurd (let no = c.in-Some.ensures.base.1 small in cc))
    (λ (big : 4 ≤ c.args.t). big)
    (cases_lt c.args.t 4) in
    subst (IsSplittable c.args.n) (sym half) (parent-splittable c.args.n c.args.t c.requires.address large)

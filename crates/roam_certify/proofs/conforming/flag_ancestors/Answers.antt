-- What is climbed down to the first address are the ancestors.
use Rattle.std.proofs.Common.{arith}
use Rattle.mesh_laws.specs.Sweep.{is_flagged}
use Rattle.roam_certify.proofs.ClimbLemmas.{climbed-last}
use Rattle.roam_certify.proofs.conforming.flag_ancestors.Goals as goal

pub returns-clause-value : goal.returns-clause-value
returns-clause-value c =
    climbed-last c.args.n c.args.triangles.now c.requires.addresses (is_flagged c.climb.new.flags) 2 (omega arith)
    (c.climb.ensures.climbed c.args.triangles.now c.requires.addresses c.flag_parents.ensures.entered)

-- The flags are the ancestors; each part of the test is what a conforming list has, and all parts together are enough.
use Rattle.std.proofs.Common.{◌+◌, ◌*◌, ◌^◌, length, sym, ◌∙◌, eq-eqb}
use Rattle.std.proofs.lemmas.Bool.{both_ways, false≢true, eqb-true}
use Rattle.mesh_laws.specs.Sweep.{is_flagged}
use Rattle.mesh_laws.proofs.SweepLemmas.{splittable-lt}
use Rattle.certificate_laws.proofs.CutLemmas.{ancestor-splittable}
use Rattle.roam_certify.proofs.ClimbLemmas.{conforming-counted, conforming-mates, conforming-leaves}
use Rattle.roam_certify.proofs.ClimbLemmas.{conforming-fits}
use Rattle.roam_certify.proofs.conforming.is_conforming.Goals as goal

pub count_splits-requires-clause-splittable : goal.count_splits-requires-clause-splittable
count_splits-requires-clause-splittable c a h =
    ancestor-splittable c.args.n c.args.triangles.now c.requires.addresses a
    (sym (c.flag_ancestors.ensures.value a) ∙ h)

pub returns-in-None : goal.returns-in-None
returns-in-None c =
    let bad = c.in-None.ensures.none in
    record {
      value = (
        (λ h. absurd (false≢true h)),
        (λ conforming. absurd (both_ways (is_flagged c.flag_ancestors.new.flags bad.1) bad.4
            (conforming-mates c.args.n c.args.triangles.now
            (is_flagged c.flag_ancestors.new.flags) c.flag_ancestors.ensures.value conforming bad.0 bad.1 bad.2 bad.3))),
      );
    }

pub returns-then-are_leaves : goal.returns-then-are_leaves
returns-then-are_leaves c =
    record {
      value = (
        (λ h. conforming-counted c.args.n c.args.triangles.now (is_flagged c.flag_ancestors.new.flags)
            (2 ^ (2 * c.args.n + 1)) c.in-Some.count c.requires.addresses c.flag_ancestors.ensures.value
            (splittable-lt c.args.n) c.in-Some.ensures.some (c.are_leaves.ensures.value.0 c.if-are_leaves.true)
            (eqb-true (length c.args.triangles.now) (c.in-Some.count + 2) h)),
        (λ conforming. eq-eqb (length c.args.triangles.now) (c.in-Some.count + 2)
            (conforming-fits c.args.n c.args.triangles.now (is_flagged c.flag_ancestors.new.flags) c.flag_ancestors.ensures.value conforming
            (2 ^ (2 * c.args.n + 1)) c.in-Some.count
            (splittable-lt c.args.n) c.in-Some.ensures.some)),
      );
    }

pub returns-else-are_leaves : goal.returns-else-are_leaves
returns-else-are_leaves c =
    record {
      value = (
        (λ h. absurd (both_ways c.are_leaves.result c.if-are_leaves.false h)),
        (λ conforming. c.are_leaves.ensures.value.1
            (conforming-leaves c.args.n c.args.triangles.now (is_flagged c.flag_ancestors.new.flags) c.flag_ancestors.ensures.value conforming)),
      );
    }

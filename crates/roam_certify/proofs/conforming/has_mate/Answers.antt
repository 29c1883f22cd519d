-- The one mate is not flagged.
use Rattle.std.proofs.Common.{◌≡◌, Some, refl, sym, ◌∙◌}
use Rattle.roam_certify.proofs.conforming.has_mate.Goals as goal

pub returns-in-Some-clause-lacks : goal.returns-in-Some-clause-lacks
returns-in-Some-clause-lacks c unset =
    let e : Some c.in-Some.mate ≡ Some c.in-Some.mate = refl in
    (c.in-Some.mate, (c.in-Some.ensures.mate c.in-Some.mate).0 e, sym c.is_set.ensures.value ∙ unset)

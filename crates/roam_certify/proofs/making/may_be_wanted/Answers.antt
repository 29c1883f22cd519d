-- The parent is half of the address, where there is one.
use Rattle.std.proofs.Common.{◌≡◌, ◌≤◌, ◌/◌, sym, ◌∙◌, ap, ⊎_elim}
use Rattle.std.proofs.lemmas.Bool.{cases_lt, false≢true}
use Rattle.mesh_laws.specs.Sweep.{is_flagged}
use Rattle.roam_certify.proofs.making.may_be_wanted.Goals as goal

pub returns-in-Some : goal.returns-in-Some
returns-in-Some c =
    let half : is_flagged c.args.flags.now c.in-Some.parent ≡ is_flagged c.args.flags.now (c.args.t / 2) =
    ap (is_flagged c.args.flags.now) c.in-Some.ensures.half in
    let big : 4 ≤ c.args.t = ⊎_elim (λ small. absurd (false≢true (sym (c.in-Some.ensures.base.1 small))))
    (λ large. large) (cases_lt c.args.t 4) in
    record {
      value = (
        (λ none. (big, sym half ∙ sym c.is_set.ensures.value ∙ none)),
        (λ both. c.is_set.ensures.value ∙ half ∙ both.1),
      );
    }

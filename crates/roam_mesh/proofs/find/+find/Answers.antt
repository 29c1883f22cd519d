use Rattle.std.proofs.Common.{◌≤◌, ◌<◌, true, refl, sym, ◌∙◌, ⊎_elim}
use Rattle.std.proofs.lemmas.Bool.{cases_lt, both_ways}
use Rattle.roam_mesh.proofs.PlaceLemmas.{none_above}
use Rattle.roam_mesh.proofs.find.+find.Goals as goal

pub returns-in_err-above-clause-none : goal.returns-in_err-above-clause-none
returns-in_err-above-clause-none t c none s live own =
    let big : 4 ≤ c.args.t =
    ⊎_elim (λ (low : c.args.t < 4). absurd (both_ways true (c.in-Some.ensures.base.1 low) refl)) (λ rest. rest)
    (cases_lt c.args.t 4) in
    none_above c.args.pool.now.n c.args.pool.now.pairs c.args.t s c.n-n.ensures.valid big
    (λ q there at. c.in_err-above.ensures.none refl q there (at ∙ sym c.in-Some.ensures.half)) live own

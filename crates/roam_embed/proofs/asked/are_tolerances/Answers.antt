-- As many as points, and each of them a tolerance.
use Rattle.std.proofs.Common.{◌≡◌, ℕ, ◌*◌, ◌<◌, List, length, sym, ◌∙◌, ap₂, arith, ⊎_elim, eq-eqb, ◌==◌, Bool, true, false}
use Rattle.std.proofs.lemmas.Bool.{false≢true, both_ways, cases_lt}
use Rattle.mesh_defs.specs.HeightField.{side_of}
use Rattle.roam_embed.proofs.AskedLemmas.{tolerances-some}
use Rattle.roam_embed.proofs.asked.are_tolerances.Goals as goal

-- a list that is not empty has an entry
some-entry : (own : List ℕ) (b : Bool) → b ≡ (length own == 0) → b ≡ false → 0 < length own
some-entry own b test none_else = ⊎_elim
    (λ some. some)
    (λ none. absurd (both_ways b none_else (test ∙ eq-eqb (length own) 0 (omega arith))))
    (cases_lt 0 (length own))

pub returns-then-tolerances-side_for : goal.returns-then-tolerances-side_for
returns-then-tolerances-side_for c =
    let own : List ℕ = c.args.tolerances.now in
    let both = tolerances-some c.args.n c.args.thousandths own
    (some-entry own c.is_empty.result c.is_empty.ensures c.if-is_empty.false) in (
      λ is. absurd (false≢true is),
      λ h. absurd (c.if-tolerances-side_for.true ((both.1 h).0
          ∙ sym (ap₂ (λ x y. x * y) c.side_for.ensures.value c.side_for-2.ensures.value))),
    )

pub returns : goal.returns
returns c =
    let own : List ℕ = c.args.tolerances.now in
    let both = tolerances-some c.args.n c.args.thousandths own
    (some-entry own c.is_empty.result c.is_empty.ensures c.if-is_empty.false) in (
      λ is. both.0 (
        c.if-tolerances-side_for.false
            ∙ ap₂ (λ x y. x * y) c.side_for.ensures.value c.side_for-2.ensures.value,
        c.are_each.ensures.0 is,
      ),
      λ h. c.are_each.ensures.1 (both.1 h).1,
    )

use Rattle.std.proofs.Common.{◌≡◌, ◌+◌, ◌∙◌, ◌∷◌, sym, subst, arith}
use Rattle.pgm_grid.specs.declared.header_fault.HeaderFault.TheVariants.{HeaderTooLong}
use Rattle.pgm_grid.specs.AcceptedHeader.{Whole, Bad}
use Rattle.pgm_grid.specs.HeaderReading.{HeaderProgress, resume_header}
use Rattle.pgm_grid.specs.HeaderInside.{header_progress_of}
use Rattle.pgm_grid.proofs.HeaderReadingLemmas.{resume_long, resume_ends, resume_judged, resume_refused}
use Rattle.pgm_grid.proofs.header_reader.HeaderReader.take.Goals as goal
use Rattle.pgm_grid.proofs.header_reader.HeaderReader.take.Goals.{in-Ok, in-Err}

pub returns-then-self-eq-LAST_PLACE-clause-refusal : goal.returns-then-self-eq-LAST_PLACE-clause-refusal
returns-then-self-eq-LAST_PLACE-clause-refusal c = λ more.
    subst (λ (p : HeaderProgress). resume_header p (c.args.byte ∷ more) ≡ Bad HeaderTooLong) c.self.view_is
    (resume_long (header_progress_of c.self.inside) c.in-Goes.state c.args.byte more
    (sym c.step_from.ensures.value ∙ c.in-Goes.is) c.if-self-eq-LAST_PLACE.true)

pub returns-after-judge-clause-ends : goal.returns-after-judge-clause-ends
returns-after-judge-clause-ends c =
    elim c.match-judge.branch [
      | in-Ok w ↦ rw w.result-is (λ more.
          subst (λ (p : HeaderProgress). resume_header p (c.args.byte ∷ more)
          ≡ Whole w.in-Ok.header more) c.self.view_is
          (resume_ends (header_progress_of c.self.inside) c.in-Ends.values w.in-Ok.header c.args.byte more
          (sym c.step_from.ensures.value ∙ c.in-Ends.is) (sym c.judge.ensures ∙ w.in-Ok.is)))
      | in-Err w ↦ rw w.result-is tt
    ]

pub returns-after-judge-clause-refusal : goal.returns-after-judge-clause-refusal
returns-after-judge-clause-refusal c =
    elim c.match-judge.branch [
      | in-Ok w ↦ rw w.result-is tt
      | in-Err w ↦ rw w.result-is (λ more.
          subst (λ (p : HeaderProgress). resume_header p (c.args.byte ∷ more) ≡ Bad w.in-Err.fault) c.self.view_is
          (resume_judged (header_progress_of c.self.inside) c.in-Ends.values w.in-Err.fault c.args.byte more
          (sym c.step_from.ensures.value ∙ c.in-Ends.is) (sym c.judge.ensures ∙ w.in-Err.is)))
    ]

pub returns-else-self-eq-LAST_PLACE-clause-refusable : goal.returns-else-self-eq-LAST_PLACE-clause-refusable
returns-else-self-eq-LAST_PLACE-clause-refusable c =
    resume_refused (record { state = c.in-Goes.state; place = c.self.inside.place + 1 })
    (omega (arith, c.self.invariant.within, c.if-self-eq-LAST_PLACE.false))

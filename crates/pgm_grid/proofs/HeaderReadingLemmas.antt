-- Facts about a reader: one byte, and then more.
use Rattle.std.proofs.Common.{◌≡◌, ℕ, zero, suc, ◌+◌, ◌-◌, ◌≤◌, ◌⊎◌, inl, inr, arith, List, [], ◌∷◌, ◌++◌, Result, Ok}
use Rattle.std.proofs.Common.{Err, refl, sym, ap, ◌∙◌, eq-eqb, ne_eqb}
use Rattle.pgm_grid.specs.declared.accepted_header.Header.{Header}
use Rattle.pgm_grid.specs.declared.header_fault.HeaderFault.{HeaderFault}
use Rattle.pgm_grid.specs.declared.header_fault.HeaderFault.TheVariants.{HeaderTooLong}
use Rattle.pgm_grid.specs.declared.header_machine.HeaderValues.{HeaderValues}
use Rattle.pgm_grid.specs.declared.header_machine.State.{State}
use Rattle.pgm_grid.specs.declared.header_machine.Fields.{Fields}
use Rattle.pgm_grid.specs.declared.header_machine.State.TheVariants.{Start, Letter, Named, Gap, Comment, Number}
use Rattle.pgm_grid.specs.declared.header_machine.Step.{Step}
use Rattle.pgm_grid.specs.declared.header_machine.Step.TheVariants.{Goes, Ends, Fails}
use Rattle.std.proofs.lemmas.Bool.{cases_eq}
use Rattle.pgm_grid.specs.AcceptedHeader.{Part, Whole, Bad, judged}
use Rattle.pgm_grid.specs.HeaderMachine.{step_of}
use Rattle.pgm_grid.specs.HeaderReading.{HeaderProgress, unfit, whole_answer, run, resume_header, header_of, header_taken}
use Rattle.pgm_grid.specs.HeaderLaws.{PartsAreRefusable}

-- the header goes on
pub run_goes : (s t : State) (place b : ℕ) (more : List ℕ) → step_of s b ≡ Goes t → (place ≡ 65535 → ⊥) →
    run (b ∷ more) s place ≡ run more t (place + 1)
run_goes s t place b more e on = rw (e, ne_eqb place 65535 on) refl

-- the header goes on where it may not
pub run_long : (s t : State) (place b : ℕ) (more : List ℕ) → step_of s b ≡ Goes t → place ≡ 65535 →
    run (b ∷ more) s place ≡ Bad HeaderTooLong
run_long s t place b more e last = rw (e, eq-eqb place 65535 last) refl

-- the byte ends the header
pub run_ends : (s : State) (v : HeaderValues) (place b : ℕ) (more : List ℕ) → step_of s b ≡ Ends v →
    run (b ∷ more) s place ≡ whole_answer (judged v) more
run_ends s v place b more e = rw e refl

-- the byte continues no header
pub run_fails : (s : State) (place b : ℕ) (more : List ℕ) → step_of s b ≡ Fails →
    run (b ∷ more) s place ≡ Bad (unfit place)
run_fails s place b more e = rw e refl

-- The same of a reader as clauses see it.

-- a byte with which the header goes on is taken, and the reader comes to the next place
pub resume_goes : (p q : HeaderProgress) (b : ℕ) (more : List ℕ) → step_of p.state b ≡ Goes q.state →
    (p.place ≡ 65535 → ⊥) → q.place ≡ p.place + 1 → resume_header p (b ∷ more) ≡ resume_header q more
unfolding resume_header
resume_goes p q b more e on next = run_goes p.state q.state p.place b more e on ∙ ap (run more q.state) (sym next)

-- where the header goes on at the last place that it may have, it is too long
pub resume_long : (p : HeaderProgress) (t : State) (b : ℕ) (more : List ℕ) → step_of p.state b ≡ Goes t →
    p.place ≡ 65535 → resume_header p (b ∷ more) ≡ Bad HeaderTooLong
unfolding resume_header
resume_long p t b more e last = run_long p.state t p.place b more e last

-- a byte that ends the header gives it, and leaves what follows, where its values are accepted
pub resume_ends : (p : HeaderProgress) (v : HeaderValues) (h : Header) (b : ℕ) (more : List ℕ) →
    step_of p.state b ≡ Ends v → judged v ≡ Ok h → resume_header p (b ∷ more) ≡ Whole h more
unfolding resume_header
resume_ends p v h b more e fine =
    run_ends p.state v p.place b more e ∙ ap (λ (r : Result Header HeaderFault). whole_answer r more) fine

-- where its values are refused, so is the header
pub resume_judged : (p : HeaderProgress) (v : HeaderValues) (f : HeaderFault) (b : ℕ) (more : List ℕ) →
    step_of p.state b ≡ Ends v → judged v ≡ Err f → resume_header p (b ∷ more) ≡ Bad f
unfolding resume_header
resume_judged p v f b more e bad =
    run_ends p.state v p.place b more e ∙ ap (λ (r : Result Header HeaderFault). whole_answer r more) bad

-- a byte that continues no header is refused, at the reader's place
pub resume_fails : (p : HeaderProgress) (b : ℕ) (more : List ℕ) → step_of p.state b ≡ Fails →
    resume_header p (b ∷ more) ≡ Bad (unfit p.place)
unfolding resume_header
resume_fails p b more e = run_fails p.state p.place b more e

-- where no byte comes, there is a part of a header
pub resume_none : (p : HeaderProgress) → resume_header p [] ≡ Part
unfolding resume_header
resume_none p = refl

-- a reader has taken as many bytes as its place says
pub taken_place : (p : HeaderProgress) → header_taken p ≡ p.place
unfolding header_taken
taken_place p = refl

-- a reader at the start answers what the bytes mean from their beginning
pub resume_start : (more : List ℕ) → resume_header (record { state = Start; place = 0 }) more ≡ header_of more
unfolding resume_header header_of
resume_start more = refl

pub ruleset reads =
    (resume_goes, resume_long, resume_ends, resume_judged, resume_fails, resume_none, taken_place, resume_start)

-- From each state some bytes are refused: a `#` continues no header, or a comment, which may be too long.

comment_refused : (room place : ℕ) (before : Fields) → place + room ≡ 65535 →
    (more : List ℕ) × (fault : HeaderFault) × (run more (Comment before) place ≡ Bad fault)
comment_refused zero place before e =
    (35 ∷ [], HeaderTooLong, run_long (Comment before) (Comment before) place 35 [] refl (omega (arith, e)))
comment_refused (suc room) place before e =
    let rest = comment_refused room (place + 1) before (omega (arith, e)) in (
      35 ∷ rest.0,
      rest.1,
      run_goes (Comment before) (Comment before) place 35 rest.0 refl (λ last. omega (arith, e, last)) ∙ rest.2,
    )

gap_refused : (room place : ℕ) (before : Fields) → place + room ≡ 65535 →
    (more : List ℕ) × (fault : HeaderFault) × (run more (Gap before) place ≡ Bad fault)
gap_refused zero place before e =
    (35 ∷ [], HeaderTooLong, run_long (Gap before) (Comment before) place 35 [] refl (omega (arith, e)))
gap_refused (suc room) place before e =
    let rest = comment_refused room (place + 1) before (omega (arith, e)) in (
      35 ∷ rest.0,
      rest.1,
      run_goes (Gap before) (Comment before) place 35 rest.0 refl (λ last. omega (arith, e, last)) ∙ rest.2,
    )

state_refused : (room place : ℕ) (s : State) → place + room ≡ 65535 →
    (more : List ℕ) × (fault : HeaderFault) × (run more s place ≡ Bad fault)
state_refused room place Start e = (35 ∷ [], unfit place, run_fails Start place 35 [] refl)
state_refused room place Letter e = (35 ∷ [], unfit place, run_fails Letter place 35 [] refl)
state_refused room place (Named plain) e = (35 ∷ [], unfit place, run_fails (Named plain) place 35 [] refl)
state_refused room place (Gap before) e = gap_refused room place before e
state_refused room place (Comment before) e = comment_refused room place before e
state_refused room place (Number before digits value) e =
    (35 ∷ [], unfit place, run_fails (Number before digits value) place 35 [] refl)

-- from each state, at a place that a header may have, some bytes are refused
pub resume_refused : (p : HeaderProgress) → p.place ≤ 65535 →
    (more : List ℕ) × (fault : HeaderFault) × (resume_header p more ≡ Bad fault)
unfolding resume_header
resume_refused p within = state_refused (65535 - p.place) p.place p.state (omega (arith, within))

-- a whole header or a refusal is no part of a header
whole_no-part : (r : Result Header HeaderFault) (rest : List ℕ) → whole_answer r rest ≡ Part → ⊥
whole_no-part (Ok h) rest e = cc
whole_no-part (Err f) rest e = cc

bad_no-part : (f : HeaderFault) → Bad f ≡ Part → ⊥
bad_no-part f e = cc

-- bytes that are a part of a header from a state on are refused with some that follow
part_refused : (bytes : List ℕ) (s : State) (place : ℕ) → place ≤ 65535 → run bytes s place ≡ Part →
    (more : List ℕ) × (fault : HeaderFault) × (run (bytes ++ more) s place ≡ Bad fault)
part_refused [] s place within part = state_refused (65535 - place) place s (omega (arith, within))
part_refused (b ∷ bytes) s place within part =
    by_step (λ t next rest. part_refused bytes t (place + 1) next rest) (step_of s b) refl (cases_eq place 65535)
  where
    by_step : ((t : State) → place + 1 ≤ 65535 → run bytes t (place + 1) ≡ Part →
        (more : List ℕ) × (fault : HeaderFault) × (run (bytes ++ more) t (place + 1) ≡ Bad fault))
        → (r : Step) → step_of s b ≡ r → ((place ≡ 65535) ⊎ (place ≡ 65535 → ⊥)) →
        (more : List ℕ) × (fault : HeaderFault) × (run ((b ∷ bytes) ++ more) s place ≡ Bad fault)
    by_step later (Goes t) is (inl last) =
        absurd (bad_no-part HeaderTooLong (sym (run_long s t place b bytes is last) ∙ part))
    by_step later (Goes t) is (inr on) =
        let found = later t (omega (arith, within, on)) (sym (run_goes s t place b bytes is on) ∙ part) in
        (found.0, found.1, run_goes s t place b (bytes ++ found.0) is on ∙ found.2)
    by_step later (Ends v) is limit =
        absurd (whole_no-part (judged v) bytes (sym (run_ends s v place b bytes is) ∙ part))
    by_step later Fails is limit = absurd (bad_no-part (unfit place) (sym (run_fails s place b bytes is) ∙ part))

-- bytes that are a part of a header are refused with some that follow
pub part_refusable : PartsAreRefusable
unfolding header_of
part_refusable bytes part = part_refused bytes Start 0 (omega arith) part

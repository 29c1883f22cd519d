-- How a run ends where neither the shelf nor the sink of meshes can fail.
use Rattle.std.proofs.Common.{◌≡◌, ◌≢◌, ℕ, ◌<◌, ◌⊎◌, ◌↔◌, refl, inl, inr, arith}
use Rattle.run_laws.specs.declared.status.Status.{Status}
use Rattle.run_laws.specs.declared.status.Status.TheVariants.{Done, NoMemory, Usage, GridRefused, ScriptRefused}
use Rattle.run_laws.specs.declared.status.Status.TheVariants.{ReadFault, WriteFault, Rejected}
use Rattle.run_laws.specs.Cause.{StatusWritesHaveCause}

-- no count is less than itself
none-rose : {A : Type 0} → 0 < 0 → A
none-rose less = absurd (omega (arith, less))

-- where no write failed, the report is as before: so what is accepted is done, or memory ran out
pub calm-complete : (status : Status) (report report' : ℕ) → status ≢ ReadFault →
    StatusWritesHaveCause 0 0 report report' status
    → (report' ≡ report → (status ≡ Done) ⊎ (status ≡ NoMemory)) →
    (status ≡ Done) ⊎ (status ≡ NoMemory) ⊎ (status ≡ WriteFault)
calm-complete Done report report' read cause done = inl refl
calm-complete NoMemory report report' read cause done = inr (inl refl)
calm-complete WriteFault report report' read cause done = inr (inr refl)
calm-complete Usage report report' read cause done =
    elim (done (cause.not_write (λ e. cc)).report_same) [ inl e ↦ cc | inr e ↦ cc ]
calm-complete GridRefused report report' read cause done =
    elim (done (cause.not_write (λ e. cc)).report_same) [ inl e ↦ cc | inr e ↦ cc ]
calm-complete ScriptRefused report report' read cause done =
    elim (done (cause.not_write (λ e. cc)).report_same) [ inl e ↦ cc | inr e ↦ cc ]
calm-complete Rejected report report' read cause done =
    elim (done (cause.not_write (λ e. cc)).report_same) [ inl e ↦ cc | inr e ↦ cc ]
calm-complete ReadFault report report' read cause done = absurd (read refl)

-- no read fails, since the count of the shelf stands still
pub calm-read : (status : Status) → ((status ≡ ReadFault) ↔ (0 < 0)) → status ≢ ReadFault
calm-read status cause failed = none-rose (cause.0 failed)

-- a write fails exactly where the count of the report rose
pub calm-write : (status : Status) (report report' : ℕ) → ((status ≡ WriteFault) ↔ ((0 < 0) ⊎ (report < report')))
    → (status ≡ WriteFault) ↔ (report < report')
calm-write status report report' cause =
    (λ failed. elim (cause.0 failed) [ inl less ↦ none-rose less | inr less ↦ less ], λ less. cause.1 (inr less))

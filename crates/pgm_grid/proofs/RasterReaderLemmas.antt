-- What readers come to.
use Rattle.std.proofs.Common.{◌≡◌, ℕ, ◌^◌, ◌<◌, ◌≤◌, append-nil, Option, Some, None, IfOk, IfErr, OnOk, Vec, Global}
use Rattle.std.proofs.Common.{subst, List, [], length, Result, Ok, Err, refl, sym, ap, ◌∙◌, arith}
use Rattle.std.proofs.lemmas.Bool.{lt-ltb, le-ltb, cond-true, cond-false}
use Rattle.pgm_grid.specs.declared.raster_fault.RasterFault.{RasterFault}
use Rattle.pgm_grid.specs.declared.raster_fault.RasterFault.TheVariants.{Truncated}
use Rattle.pgm_grid.specs.declared.raster_form.RasterForm.{RasterForm}
use Rattle.pgm_grid.specs.declared.raster_part.Limits.{Limits}
use Rattle.pgm_grid.specs.declared.raster_part.Digits.{Digits}
use Rattle.pgm_grid.specs.declared.raster_part.Part.{Part}
use Rattle.pgm_grid.specs.declared.raster_part.Part.TheVariants as part
use Rattle.pgm_grid.specs.RasterProgress.{RasterAnswer, RasterProgress, ReadingSamples, HasRefused, after, rest_of, reads}
use Rattle.pgm_grid.specs.RasterProgress.{nothing_of, raster_of, resume_raster, next_place, refusal_of, ended_then, end_at}
use Rattle.pgm_grid.specs.RasterProgress.{RasterStaysRefused}
use Rattle.pgm_grid.specs.RasterStage.{raster_progress_of, IsPart, IsRasterPlace, IsRasterReader}
use Rattle.pgm_grid.specs.declared.raster_reader.RasterReader.TheInside.{Inside}
use Rattle.pgm_grid.proofs.RasterLemmas.{after-nil}

-- a reader that has refused no byte answers for its samples, a part of the next, and what still comes
pub resume-reading : (l : Limits) (samples : List ℕ) (part : Part) (at : ℕ) (more : List ℕ) →
    resume_raster (ReadingSamples l samples part at) more ≡ reads l samples part at more
unfolding resume_raster
resume-reading l samples part at more = refl

-- a reader that has refused a byte answers its refusal, whatever still comes
pub resume-refused : (fault : RasterFault) (more : List ℕ) → resume_raster (HasRefused fault) more ≡ Err fault
unfolding resume_raster
resume-refused fault more = refl

-- a reader that has refused a byte keeps to its refusal
pub refused-settled : (fault : RasterFault) → RasterStaysRefused (HasRefused fault) fault
unfolding RasterStaysRefused
refused-settled fault more = resume-refused fault more

-- the place of a reader that still reads samples is its own
pub place-reading : (l : Limits) (samples : List ℕ) (part : Part) (at : ℕ) →
    next_place (ReadingSamples l samples part at) ≡ at
unfolding next_place
place-reading l samples part at = refl

-- a reader that has taken no byte answers what the bytes mean as a raster
pub resume-start : (form : RasterForm) (count maxval at : ℕ) (more : List ℕ) →
    resume_raster (ReadingSamples (record { count = count; maxval = maxval }) [] (nothing_of form) at) more
    ≡ raster_of form count maxval at more
unfolding resume_raster raster_of
resume-start form count maxval at more =
    after-nil (rest_of (record { count = count; maxval = maxval }) 0 (nothing_of form) at more)

-- a reader that still reads samples has refused nothing
pub refusal-reading : (l : Limits) (samples : List ℕ) (part : Part) (at : ℕ) →
    refusal_of (ReadingSamples l samples part at) ≡ None
unfolding refusal_of
refusal-reading l samples part at = refl

-- a reader that has refused a byte tells the refusal
pub refusal-refused : (fault : RasterFault) → refusal_of (HasRefused fault) ≡ Some fault
unfolding refusal_of
refusal-refused fault = refl

-- the file ends
pub end-short : (l : Limits) (samples : List ℕ) → length samples < l.count →
    after samples (end_at l (length samples)) ≡ Err Truncated
end-short l samples short = ap (after samples) (cond-true _ _ _ (lt-ltb (length samples) l.count short))

-- where the file ends behind all samples, they are read
pub end-whole : (l : Limits) (samples : List ℕ) → l.count ≤ length samples →
    after samples (end_at l (length samples)) ≡ Ok samples
end-whole l samples whole =
    ap (after samples) (cond-false _ _ _ (le-ltb (length samples) l.count whole))
    ∙ ap (λ (s : List ℕ). let r : RasterAnswer = Ok s in r) (append-nil samples)

-- ---- a reader's fields

-- a reader that has refused no byte
pub opened : (r : Inside) (self : RasterProgress) →
    raster_progress_of r.refused (ReadingSamples r.limits r.heights.items r.part r.at) ≡ self → r.refused ≡ None →
    self ≡ ReadingSamples r.limits r.heights.items r.part r.at
opened r self v e =
    sym v
    ∙ ap (λ (o : Option RasterFault). raster_progress_of o (ReadingSamples r.limits r.heights.items r.part r.at)) e

-- a reader that has refused one
pub closed : (r : Inside) (self : RasterProgress) (fault : RasterFault) →
    raster_progress_of r.refused (ReadingSamples r.limits r.heights.items r.part r.at) ≡ self →
    r.refused ≡ Some fault → self ≡ HasRefused fault
closed r self fault v e =
    sym v
    ∙ ap (λ (o : Option RasterFault). raster_progress_of o (ReadingSamples r.limits r.heights.items r.part r.at)) e

-- fields without a refusal are those of a reader that has refused nothing
pub opened-refusal : (r : Inside) (self : RasterProgress) →
    raster_progress_of r.refused (ReadingSamples r.limits r.heights.items r.part r.at) ≡ self →
    r.refused ≡ None → refusal_of self ≡ None
opened-refusal r self v e = ap refusal_of (opened r self v e) ∙ refusal-reading r.limits r.heights.items r.part r.at

-- fields with a refusal are those of a reader that has refused so
pub closed-refusal : (r : Inside) (self : RasterProgress) (fault : RasterFault) →
    raster_progress_of r.refused (ReadingSamples r.limits r.heights.items r.part r.at) ≡ self → r.refused ≡ Some fault →
    refusal_of self ≡ Some fault
closed-refusal r self fault v e = ap refusal_of (closed r self fault v e) ∙ refusal-refused fault

-- fields without a refusal answer for their samples, a part of the next, and what still comes
pub opened-resume : (r : Inside) (self : RasterProgress) →
    raster_progress_of r.refused (ReadingSamples r.limits r.heights.items r.part r.at) ≡ self → r.refused ≡ None →
    (bytes : List ℕ) → resume_raster self bytes ≡ reads r.limits r.heights.items r.part r.at bytes
opened-resume r self v e bytes =
    ap (λ (p : RasterProgress). resume_raster p bytes) (opened r self v e)
    ∙ resume-reading r.limits r.heights.items r.part r.at bytes

-- fields with a refusal answer it, whatever still comes
pub closed-resume : (r : Inside) (self : RasterProgress) (fault : RasterFault) →
    raster_progress_of r.refused (ReadingSamples r.limits r.heights.items r.part r.at) ≡ self → r.refused ≡ Some fault →
    (bytes : List ℕ) → resume_raster self bytes ≡ Err fault
closed-resume r self fault v e bytes =
    ap (λ (p : RasterProgress). resume_raster p bytes) (closed r self fault v e) ∙ resume-refused fault bytes

-- the place of fields without a refusal is their own
pub opened-place : (r : Inside) (self : RasterProgress) →
    raster_progress_of r.refused (ReadingSamples r.limits r.heights.items r.part r.at) ≡ self →
    r.refused ≡ None → next_place self ≡ r.at
opened-place r self v e = ap next_place (opened r self v e) ∙ place-reading r.limits r.heights.items r.part r.at

-- ---- digits that the end of the file ends

-- where digits that are ended give new samples, the file that ends behind them ends behind these samples
pub ended-ok : (l : Limits) (old new : List ℕ) (p : Part) (digits : Digits) (r : Result (Unit {0}) RasterFault) →
    p ≡ part.Plain digits
    → OnOk r ((rest : ℕ → RasterAnswer) →
    after old (ended_then l (length old) digits rest) ≡ after new (rest (length new)))
    → OnOk r ((at : ℕ) → reads l old p at [] ≡ after new (end_at l (length new)))
ended-ok l old new p digits (Ok x) e h = λ at. ap (λ (q : Part). reads l old q at []) e ∙ h (λ (i : ℕ). end_at l i)
ended-ok l old new p digits (Err f) e h = tt

-- where digits that are ended are refused, so is the file that ends behind them
pub ended-err : (l : Limits) (old : List ℕ) (p : Part) (digits : Digits) (r : Result (Unit {0}) RasterFault) →
    p ≡ part.Plain digits
    → IfErr r (λ f. (rest : ℕ → RasterAnswer) → after old (ended_then l (length old) digits rest) ≡ Err f)
    → IfErr r (λ f. (at : ℕ) → reads l old p at [] ≡ Err f)
ended-err l old p digits (Ok x) e h = tt
ended-err l old p digits (Err f) e h = λ at. ap (λ (q : Part). reads l old q at []) e ∙ h (λ (i : ℕ). end_at l i)

-- ---- the last answer

-- samples that fields give at the end of the file are what the reader answers there
pub finished-ok : (l : Limits) (old : List ℕ) (part : Part) (self : RasterProgress) (at : ℕ)
    (r : Result (Vec ℕ Global) RasterFault) → ((bytes : List ℕ) → resume_raster self bytes ≡ reads l old part at bytes)
    → IfOk r (λ all. (at : ℕ) → reads l old part at [] ≡ Ok all.items) →
    IfOk r (λ all. resume_raster self [] ≡ Ok all.items)
finished-ok l old part self at (Ok all) e h = e [] ∙ h at
finished-ok l old part self at (Err f) e h = tt

-- a refusal that fields give at the end of the file is what the reader answers there
pub finished-err : (l : Limits) (old : List ℕ) (part : Part) (self : RasterProgress) (at : ℕ)
    (r : Result (Vec ℕ Global) RasterFault) → ((bytes : List ℕ) → resume_raster self bytes ≡ reads l old part at bytes)
    → IfErr r (λ f. (at : ℕ) → reads l old part at [] ≡ Err f) → IfErr r (λ f. resume_raster self [] ≡ Err f)
finished-err l old part self at (Ok all) e h = tt
finished-err l old part self at (Err f) e h = e [] ∙ h at

-- a reader that is known to have refused a byte keeps to its refusal
pub settled-by : (self : RasterProgress) (fault : RasterFault) → self ≡ HasRefused fault → RasterStaysRefused self fault
settled-by self fault e = subst (λ (p : RasterProgress). RasterStaysRefused p fault) (sym e) (refused-settled fault)

-- the place of a reader that has refused a byte is 0
pub place-refused : (fault : RasterFault) → next_place (HasRefused fault) ≡ 0
unfolding next_place
place-refused fault = refl

-- the place of fields with a refusal is 0
pub closed-place : (r : Inside) (self : RasterProgress) (fault : RasterFault) →
    raster_progress_of r.refused (ReadingSamples r.limits r.heights.items r.part r.at) ≡ self →
    r.refused ≡ Some fault → next_place self ≡ 0
closed-place r self fault v e = ap next_place (closed r self fault v e) ∙ place-refused fault

-- a reader that still reads samples, but keeps to a refusal, answers it whatever still comes
pub settled-reading : (l : Limits) (samples : List ℕ) (p : Part) (at : ℕ) (fault : RasterFault) →
    RasterStaysRefused (ReadingSamples l samples p at) fault → (more : List ℕ) → reads l samples p at more ≡ Err fault
unfolding RasterStaysRefused
settled-reading l samples p at fault settled more = sym (resume-reading l samples p at more) ∙ settled more

-- ---- the place of the next byte

-- no place is behind the most bytes that a file has
pub place-within : (l : Limits) (index : ℕ) (p : Part) (at : ℕ) → IsPart l index p →
    IsRasterPlace l index p at → at ≤ 2 ^ 28
place-within l index part.Bytes at part place = omega arith
place-within l index (part.Words None) at part place = omega arith
place-within l index (part.Words (Some high)) at part place = omega arith
place-within l index (part.Plain digits) at part place = place

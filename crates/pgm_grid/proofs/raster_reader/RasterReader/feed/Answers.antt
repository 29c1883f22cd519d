use Rattle.std.proofs.Common.{◌≡◌, ◌∙◌, ◌+◌, ◌^◌, ◌≤◌, subst, vec_len, ◌++◌, ℕ, length, sym, refl, ap, arith, Option}
use Rattle.text_laws.proofs.AnswerLemmas.{at-none, at-some}
use Rattle.pgm_grid.specs.declared.raster_fault.RasterFault.{RasterFault}
use Rattle.pgm_grid.specs.RasterProgress.{RasterProgress, ReadingSamples, resume_raster, next_place, refusal_of}
use Rattle.pgm_grid.specs.RasterProgress.{RasterStaysRefused}
use Rattle.pgm_grid.specs.RasterStage.{raster_progress_of, IsPart, IsRasterPlace}
use Rattle.pgm_grid.proofs.RasterReaderLemmas.{opened-resume, opened-place, opened-refusal, closed, closed-resume}
use Rattle.pgm_grid.proofs.RasterReaderLemmas.{closed-refusal, resume-reading, place-reading, refusal-reading}
use Rattle.pgm_grid.proofs.RasterReaderLemmas.{refusal-refused, refused-settled, settled-by, settled-reading, place-within}
use Rattle.pgm_grid.proofs.OpenLemmas.{still-open}
use Rattle.pgm_grid.proofs.raster_reader.RasterReader.feed.Goals as goal

pub returns-in-Some-clause-refusal : goal.returns-in-Some-clause-refusal
returns-in-Some-clause-refusal c = λ more.
    closed-resume c.self.inside c.args.self.now c.in-Some.fault c.self.view_is c.in-Some.is (c.args.piece.now ++ more)

pub returns-in-Some-clause-err : goal.returns-in-Some-clause-err
returns-in-Some-clause-err c =
    settled-by c.args.self.now c.in-Some.fault
    (closed c.self.inside c.args.self.now c.in-Some.fault c.self.view_is c.in-Some.is)

pub returns-in-Some-clause-bad : goal.returns-in-Some-clause-bad
returns-in-Some-clause-bad c = closed-refusal c.self.inside c.args.self.now c.in-Some.fault c.self.view_is c.in-Some.is

pub returns-in-Some-clause-sticks : goal.returns-in-Some-clause-sticks
returns-in-Some-clause-sticks c =
    at-some (refusal_of c.args.self.now) c.in-Some.fault _
    (closed-refusal c.self.inside c.args.self.now c.in-Some.fault c.self.view_is c.in-Some.is) refl

pub returns-in-Ok-clause-ok : goal.returns-in-Ok-clause-ok
returns-in-Ok-clause-ok c =
    let next : RasterProgress = ReadingSamples c.self.inside.limits c.part_after.new.heights.items c.in-Ok.part
    (c.self.inside.at + length c.args.piece.now) in
    let view : raster_progress_of c.self.inside.refused next ≡ next =
    ap (λ (o : Option RasterFault). raster_progress_of o next) c.in_default.is in
    λ more. opened-resume c.self.inside c.args.self.now c.self.view_is c.in_default.is (c.args.piece.now ++ more)
    ∙ c.in-Ok.ensures.ok more
    ∙ sym (resume-reading c.self.inside.limits c.part_after.new.heights.items c.in-Ok.part
    (c.self.inside.at + length c.args.piece.now) more)
    ∙ ap (λ (p : RasterProgress). resume_raster p more) (sym view)

pub returns-in-Ok-clause-place : goal.returns-in-Ok-clause-place
returns-in-Ok-clause-place c =
    let next : RasterProgress = ReadingSamples c.self.inside.limits c.part_after.new.heights.items c.in-Ok.part
    (c.self.inside.at + length c.args.piece.now) in
    let view : raster_progress_of c.self.inside.refused next ≡ next =
    ap (λ (o : Option RasterFault). raster_progress_of o next) c.in_default.is in
    ap next_place view ∙ place-reading c.self.inside.limits c.part_after.new.heights.items c.in-Ok.part
    (c.self.inside.at + length c.args.piece.now)
    ∙ ap (λ (k : ℕ). k + length c.args.piece.now)
    (sym (opened-place c.self.inside c.args.self.now c.self.view_is c.in_default.is))

pub returns-in-Ok-clause-limit : goal.returns-in-Ok-clause-limit
returns-in-Ok-clause-limit c =
    let next : RasterProgress = ReadingSamples c.self.inside.limits c.part_after.new.heights.items c.in-Ok.part
    (c.self.inside.at + length c.args.piece.now) in
    let view : raster_progress_of c.self.inside.refused next ≡ next =
    ap (λ (o : Option RasterFault). raster_progress_of o next) c.in_default.is in
    let here : next_place (raster_progress_of c.self.inside.refused next) ≡ c.self.inside.at + length c.args.piece.now =
    ap next_place view ∙ place-reading c.self.inside.limits c.part_after.new.heights.items c.in-Ok.part
    (c.self.inside.at + length c.args.piece.now) in
    subst (λ (n : ℕ). n ≤ 2 ^ 28) (sym here)
    (place-within c.self.inside.limits (vec_len c.part_after.new.heights) c.in-Ok.part
    (c.self.inside.at + length c.args.piece.now) c.in-Ok.ensures.part c.in-Ok.ensures.place)

pub returns-in-Ok-clause-good : goal.returns-in-Ok-clause-good
returns-in-Ok-clause-good c =
    let next : RasterProgress = ReadingSamples c.self.inside.limits c.part_after.new.heights.items c.in-Ok.part
    (c.self.inside.at + length c.args.piece.now) in
    let view : raster_progress_of c.self.inside.refused next ≡ next =
    ap (λ (o : Option RasterFault). raster_progress_of o next) c.in_default.is in
    ap refusal_of view ∙ refusal-reading c.self.inside.limits c.part_after.new.heights.items c.in-Ok.part
    (c.self.inside.at + length c.args.piece.now)

pub returns-in-Ok-clause-sticks : goal.returns-in-Ok-clause-sticks
returns-in-Ok-clause-sticks c =
    at-none (refusal_of c.args.self.now) _ (opened-refusal c.self.inside c.args.self.now c.self.view_is c.in_default.is)

pub returns-in-Err-clause-refusal : goal.returns-in-Err-clause-refusal
returns-in-Err-clause-refusal c =
    λ more. opened-resume c.self.inside c.args.self.now c.self.view_is c.in_default.is (c.args.piece.now ++ more)
    ∙ c.in-Err.ensures.err more

pub returns-in-Err-clause-err : goal.returns-in-Err-clause-err
returns-in-Err-clause-err c = refused-settled c.in-Err.fault

pub returns-in-Err-clause-bad : goal.returns-in-Err-clause-bad
returns-in-Err-clause-bad c = refusal-refused c.in-Err.fault

pub returns-in-Err-clause-sticks : goal.returns-in-Err-clause-sticks
returns-in-Err-clause-sticks c =
    at-none (refusal_of c.args.self.now) _ (opened-refusal c.self.inside c.args.self.now c.self.view_is c.in_default.is)

pub returns-in-Ok-clause-unsettled : goal.returns-in-Ok-clause-unsettled
returns-in-Ok-clause-unsettled c =
    let next : RasterProgress = ReadingSamples c.self.inside.limits c.part_after.new.heights.items c.in-Ok.part
    (c.self.inside.at + length c.args.piece.now) in
    let view : raster_progress_of c.self.inside.refused next ≡ next =
    ap (λ (o : Option RasterFault). raster_progress_of o next) c.in_default.is in
    let room : vec_len c.part_after.new.heights ≤ c.self.inside.limits.count = c.in-Ok.ensures.valid.within in
    let within : length c.part_after.new.heights.items ≤ c.self.inside.limits.count = omega arith in
    let size : vec_len c.part_after.new.heights ≡ length c.part_after.new.heights.items = omega arith in
    λ fault. λ settled. still-open c.self.inside.limits c.part_after.new.heights.items c.in-Ok.part
    (c.self.inside.at + length c.args.piece.now) fault within
    (subst (λ (n : ℕ). IsPart c.self.inside.limits n c.in-Ok.part) size c.in-Ok.ensures.part)
    (subst (λ (n : ℕ). IsRasterPlace c.self.inside.limits n c.in-Ok.part (c.self.inside.at + length c.args.piece.now))
    size c.in-Ok.ensures.place)
    (settled-reading c.self.inside.limits c.part_after.new.heights.items c.in-Ok.part
    (c.self.inside.at + length c.args.piece.now) fault
    (subst (λ (p : RasterProgress). RasterStaysRefused p fault) view settled))

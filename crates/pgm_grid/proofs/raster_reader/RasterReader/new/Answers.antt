use Rattle.std.proofs.Common.{◌≡◌, ◌∙◌, ap, ap₂, sym, ℕ, List}
use Rattle.pgm_grid.specs.declared.raster_part.Part.{Part}
use Rattle.pgm_grid.specs.RasterProgress.{ReadingSamples, resume_raster, nothing_of}
use Rattle.pgm_grid.proofs.RasterReaderLemmas.{resume-start, place-reading, refusal-reading}
use Rattle.pgm_grid.proofs.raster_reader.RasterReader.new.Goals.{in-Bytes, in-Words, in-Plain}
use Rattle.pgm_grid.proofs.raster_reader.RasterReader.new.Goals as goal

pub returns-clause-value : goal.returns-clause-value
returns-clause-value c =
    let part : c.match-form.part ≡ nothing_of c.args.form =
    elim c.match-form.branch as (λ _. c.match-form.part ≡ nothing_of c.args.form) [
      | in-Bytes w ↦ w.part-is ∙ ap nothing_of (sym w.in-Bytes.is)
      | in-Words w ↦ w.part-is ∙ ap nothing_of (sym w.in-Words.is)
      | in-Plain w ↦ w.part-is ∙ ap nothing_of (sym w.in-Plain.is)
    ] in
    λ more. ap₂ (λ (s : List ℕ) (p : Part).
    resume_raster (ReadingSamples (record { count = c.args.count; maxval = c.args.maxval }) s p c.args.place) more)
    c.in_ok-with_capacity.ensures.items part
    ∙ resume-start c.args.form c.args.count c.args.maxval c.args.place more

pub returns-clause-place : goal.returns-clause-place
returns-clause-place c =
    place-reading (record { count = c.args.count; maxval = c.args.maxval }) c.in_ok-with_capacity.field-0.items
    c.match-form.part c.args.place

pub returns-clause-good : goal.returns-clause-good
returns-clause-good c =
    refusal-reading (record { count = c.args.count; maxval = c.args.maxval }) c.in_ok-with_capacity.field-0.items
    c.match-form.part c.args.place

use Rattle.std.proofs.Common.{[], ◌++◌, sym, ap, ◌∙◌, subst}
use Rattle.std.specs.List.{flat_map}
use Rattle.std.proofs.lemmas.Result.{err_from_is_err_and}
use Rattle.text_laws.specs.Words.{two_bytes}
use Rattle.roam_gen.specs.Generated.{made_grid}
use Rattle.roam_gen.specs.Written.{header_text, grid_text}
use Rattle.roam_gen.specs.Rows.{Wrote}
use Rattle.roam_gen.proofs.SinkLemmas.{wrote-nothing, wrote-more, wrote-part, wrote-then}
use Rattle.roam_gen.proofs.writing.write_grid.Goals as goal

pub returns-in_err-write-clause-bytes : goal.returns-in_err-write-clause-bytes
returns-in_err-write-clause-bytes g c =
    let p = err_from_is_err_and c.from_residual.result c.from_residual.ensures.1 in
    let raster = flat_map two_bytes (made_grid c.args.n c.args.seed).heights in
    let before = g.S.Sink.contents c.args.out.now in
    rw p.1
    (wrote-part before before _ [] c.as_slice.result.now raster (grid_text c.args.n c.args.seed) _ _
    (wrote-nothing before) c.in_err-write.ensures.bytes
    (ap (λ l. l ++ raster) (sym (c.as_slice.ensures.value ∙ c.header_bytes.ensures))))

pub returns-clause-bytes : goal.returns-clause-bytes
returns-clause-bytes g c =
    let before = g.S.Sink.contents c.args.out.now in
    let mid = g.S.Sink.contents c.write.new.self in
    let header = subst (Wrote before mid) (c.as_slice.ensures.value ∙ c.header_bytes.ensures)
    (wrote-more before before mid [] c.as_slice.result.now _ (wrote-nothing before) c.in_ok-write.ensures.bytes) in
    wrote-then before mid _ (header_text c.args.n) (flat_map two_bytes (made_grid c.args.n c.args.seed).heights)
    c.write_rows.result header c.write_rows.ensures.bytes

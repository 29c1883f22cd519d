use Rattle.std.proofs.Common.{ℕ, ◌^◌, ◌++◌, codes, decimal, ◌∙◌, ap}
use Rattle.roam_num.specs.Places.{exact_decimal}
use Rattle.run_meshes.proofs.TextLemmas.{line-numbers}
use Rattle.run_meshes.proofs.report.fit_report.Goals as goal

pub returns : goal.returns
returns c =
    let note = c.args.note.now in
    let start = c.new-text.result.items in
    let first = c.push_placed.new.text.items in
    line-numbers start first c.push_placed-2.new.text.items c.push_deviation.new.text.items c.push_bytes.new.text.items
    (codes "fit triangles ") (decimal note.triangles) (codes " vertices ") (decimal note.vertices)
    (codes " deviation ") (decimal note.deviation) (codes " over ") (decimal (2 ^ c.args.n)) (codes " error ")
    (exact_decimal note.deviation c.args.n) (codes "\n")
    c.new-text.ensures
    (c.push_placed.ensures.items ∙ ap (λ (k : ℕ). start ++ (codes "fit triangles " ++ decimal k)) c.from.ensures)
    (c.push_placed-2.ensures.items ∙ ap (λ (k : ℕ). first ++ (codes " vertices " ++ decimal k)) c.from-2.ensures)
    c.push_deviation.ensures.items c.push_bytes.ensures.items

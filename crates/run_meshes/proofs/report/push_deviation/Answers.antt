use Rattle.std.proofs.Common.{ℕ, ◌^◌, ◌++◌, codes, decimal, ◌∙◌, ap}
use Rattle.roam_num.specs.Places.{exact_decimal}
use Rattle.run_meshes.proofs.TextLemmas.{words-numbers}
use Rattle.run_meshes.proofs.report.push_deviation.Goals as goal

pub returns-clause-items : goal.returns-clause-items
returns-clause-items c =
    let before = c.args.text.now.items in
    let first = c.push_placed.new.text.items in
    words-numbers before first c.push_placed-2.new.text.items c.push_bytes.new.text.items c.push_decimal.new.text.items
    (codes " deviation ") (decimal c.args.deviation) (codes " over ") (decimal (2 ^ c.args.n)) (codes " error ")
    (exact_decimal c.args.deviation c.args.n)
    (c.push_placed.ensures.items ∙ ap (λ (k : ℕ). before ++ (codes " deviation " ++ decimal k)) c.from.ensures)
    (c.push_placed-2.ensures.items ∙ ap (λ (k : ℕ). first ++ (codes " over " ++ decimal k)) c.pow.ensures)
    c.push_bytes.ensures.items c.push_decimal.ensures.items

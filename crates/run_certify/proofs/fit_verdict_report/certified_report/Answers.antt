use Rattle.std.proofs.Common.{ℕ, ◌^◌, ◌++◌, codes, decimal, ◌∙◌, ap}
use Rattle.roam_num.specs.Places.{exact_decimal}
use Rattle.run_certify.proofs.TextLemmas.{line-parts}
use Rattle.run_certify.proofs.fit_verdict_report.certified_report.Goals as goal

pub returns : goal.returns
returns c =
    let start = c.new-text.result.items in
    let first = c.push_placed.new.text.items in
    let second = c.push_placed-2.new.text.items in
    line-parts start first second c.push_placed-3.new.text.items c.push_bytes.new.text.items
    c.push_decimal.new.text.items c.push_bytes-2.new.text.items
    (codes "certified fit triangles ") (decimal c.args.triangles) (codes " deviation ") (decimal c.args.deviation)
    (codes " over ") (decimal (2 ^ c.args.n))
    (codes " error ") (exact_decimal c.args.deviation c.args.n) (codes "\n")
    c.new-text.ensures
    (c.push_placed.ensures.items
    ∙ ap (λ (k : ℕ). start ++ (codes "certified fit triangles " ++ decimal k)) c.from.ensures)
    (c.push_placed-2.ensures.items ∙ ap (λ (k : ℕ). first ++ (codes " deviation " ++ decimal k)) c.from-2.ensures)
    (c.push_placed-3.ensures.items ∙ ap (λ (k : ℕ). second ++ (codes " over " ++ decimal k)) c.pow.ensures)
    c.push_bytes.ensures.items c.push_decimal.ensures.items c.push_bytes-2.ensures.items

use Rattle.std.proofs.Common.{◌≡◌, ◌+◌, ◌*◌, get_or, ◌∙◌, arith, sym, ap₂, List, ℕ, ◌++◌, ◌∷◌, []}
use Rattle.std.proofs.lemmas.List.{take_more_set}
use Rattle.roam_lanes.proofs.LaneLemmas.{words_more}
use Rattle.roam_lanes.proofs.words.be16_plain.Goals as goal

pub loop-i-preserved : goal.loop-i-preserved
loop-i-preserved c =
    let value : 256 * c.from.result + c.from-in-loop-i.result
    ≡ 256 * get_or c.args.bytes.now (2 * c.loop-i.i) 0 + get_or c.args.bytes.now (2 * c.loop-i.i + 1) 0 =
    ap₂ (λ (a : ℕ) (b : ℕ). 256 * a + b) c.from.ensures c.from-in-loop-i.ensures in
    take_more_set c.loop-i.out c.loop-i.i _ (omega arith)
    ∙ ap₂ (λ (xs : List ℕ) (y : ℕ). xs ++ y ∷ []) c.loop-i.invariant value
    ∙ sym (words_more c.args.bytes.now c.loop-i.i (omega arith))

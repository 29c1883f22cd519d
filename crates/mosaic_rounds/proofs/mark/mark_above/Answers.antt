-- Beside the chain from a quarter down, 2 may lie above the leaf.
use Rattle.std.proofs.Common.{◌≡◌, ℕ, ◌-◌, ◌/◌, ◌^◌, ◌<◌, ◌≤◌, arith, ap, sym, ◌∙◌, subst, ◌||◌, eqb}
use Rattle.std.proofs.lemmas.Nat.{and_mask}
use Rattle.mesh_defs.specs.Triangle.{level_of}
use Rattle.mosaic_rounds.specs.Bits.{has_bit}
use Rattle.mosaic_rounds.specs.Marks.{Marks}
use Rattle.mosaic_rounds.proofs.BorderLemmas.{border-first, side-first, place-first}
use Rattle.mosaic_rounds.proofs.MarkLemmas.{quarter-range, marks-none, marks-two, marks-no_two}
use Rattle.mosaic_rounds.proofs.mark.mark_above.Goals as goal
use Rattle.mosaic_rounds.proofs.mark.mark_above.Goals.{then-number-level-eq2, else-number-level-eq2}

pub returns-then-level-eq0-clause-marks : goal.returns-then-level-eq0-clause-marks
returns-then-level-eq0-clause-marks c =
    let level = c.level-level.ensures.value in
    let zero = c.if-level-eq0.true in marks-none c.args.n c.args.leaf 0 c.args.words.now (omega arith)

-- the quarter that the leaf lies in
quarter-there : (number leaf level : ℕ) → number ≡ leaf → 2 ≤ number → level ≡ level_of leaf → (level ≡ 0 → ⊥) →
    (4 ≤ number / 2 ^ (level - 1)) × (number / 2 ^ (level - 1) < 8)
quarter-there number leaf level same low is some =
    let q = quarter-range number low (let e : level_of number ≡ level_of leaf = ap level_of same in omega arith) in
    let e : level_of number - 1 ≡ level - 1 =
    (let f : level_of number ≡ level_of leaf = ap level_of same in omega arith) in
    subst (λ k. (4 ≤ number / 2 ^ k) × (number / 2 ^ k < 8)) e q

pub mark_below-requires-clause-border : goal.mark_below-requires-clause-border
mark_below-requires-clause-border c =
    let q = quarter-there c.number-number.result c.args.leaf c.level-level.result c.number-number.ensures.value
    c.number-number.ensures.low c.level-level.ensures.value c.if-level-eq0.false in
    border-first (c.number-number.result / 2 ^ (c.level-level.result - 1)) q.0 q.1

pub mark_below-requires-clause-side : goal.mark_below-requires-clause-side
mark_below-requires-clause-side c =
    let q = quarter-there c.number-number.result c.args.leaf c.level-level.result c.number-number.ensures.value
    c.number-number.ensures.low c.level-level.ensures.value c.if-level-eq0.false in
    and_mask (c.number-number.result / 2 ^ (c.level-level.result - 1)) 2
    ∙ sym (side-first (c.number-number.result / 2 ^ (c.level-level.result - 1)) q.0 q.1)

pub mark_below-requires-clause-place : goal.mark_below-requires-clause-place
mark_below-requires-clause-place c =
    let q = quarter-there c.number-number.result c.args.leaf c.level-level.result c.number-number.ensures.value
    c.number-number.ensures.low c.level-level.ensures.value c.if-level-eq0.false in
    sym (place-first (c.number-number.result / 2 ^ (c.level-level.result - 1)) q.0 q.1)

pub returns-clause-marks : goal.returns-clause-marks
returns-clause-marks c =
    let level : c.level-level.result ≡ level_of c.args.leaf = c.level-level.ensures.value in
    let number : c.number-number.result ≡ c.args.leaf = c.number-number.ensures.value in
    let low = c.number-number.ensures.low in
    let some = c.if-level-eq0.false in
    let from : level_of c.number-number.result - (c.level-level.result - 1) ≡ 1 =
    (let e : level_of c.number-number.result ≡ level_of c.args.leaf = ap level_of number in omega arith) in
    let marks : Marks c.args.n c.args.leaf 1 c.if-number-level-eq2.words c.mark_below.new.words =
    subst (λ k. Marks c.args.n k 1 c.if-number-level-eq2.words c.mark_below.new.words) number
    (subst (λ k. Marks c.args.n c.number-number.result k c.if-number-level-eq2.words c.mark_below.new.words) from
    c.mark_below.ensures.marks) in
    let shift : c.number-number.result / 2 ^ c.level-level.result ≡ c.args.leaf / 2 ^ level_of c.args.leaf =
    ap (λ k. k / 2 ^ c.level-level.result) number ∙ ap (λ k. c.args.leaf / 2 ^ k) level in
    elim c.if-number-level-eq2.branch [
      | then-number-level-eq2 w ↦ marks-two c.args.n c.args.leaf (omega arith) (omega arith) c.args.words.now
          c.if-number-level-eq2.words c.mark_below.new.words marks
          (subst (λ k. (j : ℕ) → has_bit k j ≡ (has_bit c.args.words.now j || eqb 0 j)) (sym w.words-is)
          w.set.ensures.added)
          (sym shift ∙ w.if-number-level-eq2.true)
      | else-number-level-eq2 w ↦ marks-no_two c.args.n c.args.leaf (omega arith) (omega arith) c.args.words.now
          c.if-number-level-eq2.words c.mark_below.new.words marks w.words-is
          (λ two. w.if-number-level-eq2.false (shift ∙ two))
    ]

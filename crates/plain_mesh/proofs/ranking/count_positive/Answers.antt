-- Each address counts where its priority is positive, up to the last splittable one.
use Rattle.std.proofs.Common.{◌≡◌, ◌<◌, ◌≤◌, ◌+◌, ◌*◌, ◌^◌, refl, subst, ◌∙◌, arith}
use Rattle.mesh_defs.specs.State.{priority_seen}
use Rattle.plain_mesh.specs.Ranks.{positives_below}
use Rattle.plain_mesh.proofs.PickLemmas.{not_positive, positives-yes, positives-no}
use Rattle.plain_mesh.proofs.ranking.count_positive.Goals.{then-is_positive, else-is_positive}
use Rattle.plain_mesh.proofs.ranking.count_positive.Goals as goal

pub loop-number-preserved : goal.loop-number-preserved
loop-number-preserved c =
    let p = priority_seen c.args.scene.now in
    let value = c.rank_at-entry.ensures.value in
    elim c.if-is_positive.branch [
      | then-is_positive w ↦
          let is = w.count-is in
          let some : 0 < c.rank_at-entry.result.p = w.if-is_positive.ensures.0 refl in
          let few = c.loop-number.invariant.few in
          record {
            counted = is ∙ positives-yes p c.loop-number.number c.loop-number.count c.loop-number.auto.number
                c.loop-number.invariant.counted (omega arith);
            few = omega arith;
          }
      | else-is_positive w ↦
          let is = w.count-is in
          let none : c.rank_at-entry.result.p ≤ 0 =
          not_positive c.rank_at-entry.result.p (w.if-is_positive.ensures.1) in
          let few = c.loop-number.invariant.few in
          record {
            counted = is ∙ positives-no p c.loop-number.number c.loop-number.count c.loop-number.auto.number
                c.loop-number.invariant.counted (omega arith);
            few = omega arith;
          }
    ]

pub returns : goal.returns
returns c =
    let p = priority_seen c.args.scene.now in
    let bound = c.end-number-end.ensures in
    let most = c.loop-number.auto.number-end bound.low in
    let least = c.loop-number-test.false in
    let last : c.loop-number.number ≡ 2 ^ (2 * c.args.scene.now.grid.n + 1) =
    (let value = bound.value in omega arith) in
    subst (λ k. c.loop-number.count ≡ positives_below p k) last c.loop-number.invariant.counted

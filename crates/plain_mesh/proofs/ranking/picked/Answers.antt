-- Each address is taken where its priority is positive, up to the last splittable one.
use Rattle.std.proofs.Common.{◌≡◌, ◌+◌, ◌*◌, ◌^◌, List, ap, refl, subst, sym, ◌∙◌, arith}
use Rattle.mesh_defs.specs.State.{priority_seen}
use Rattle.bintree_addr.specs.declared.rank.Rank.{Rank}
use Rattle.plain_mesh.specs.Ranks.{IsPicked}
use Rattle.plain_mesh.proofs.PickLemmas.{not_positive, IsPicked-push, IsPicked-skip}
use Rattle.plain_mesh.proofs.ranking.picked.Goals.{then-is_positive+in_ok-push, else-is_positive}
use Rattle.plain_mesh.proofs.ranking.picked.Goals as goal

pub loop-number-preserved : goal.loop-number-preserved
loop-number-preserved c =
    let p = priority_seen c.args.scene.now in
    elim c.if-is_positive.branch [
      | then-is_positive+in_ok-push w ↦
          subst (λ (l : List Rank). IsPicked p (c.loop-number.number + 1) l)
          (sym w.in_ok-push.ensures.items ∙ ap (λ v. v.items) (sym w.ranks-is))
          (IsPicked-push p c.loop-number.number c.loop-number.ranks.items c.rank_at-entry.result c.loop-number.invariant
          c.loop-number.auto.number
          c.rank_at-entry.ensures.tri c.rank_at-entry.ensures.value (w.if-is_positive.ensures.0 refl))
      | else-is_positive w ↦
          subst (λ (l : List Rank). IsPicked p (c.loop-number.number + 1) l) (ap (λ v. v.items) (sym w.ranks-is))
          (IsPicked-skip p c.loop-number.number c.loop-number.ranks.items c.loop-number.invariant
          (let none = not_positive c.rank_at-entry.result.p w.if-is_positive.ensures.1 in
          let value = c.rank_at-entry.ensures.value in
          omega arith))
    ]

pub returns : goal.returns
returns c =
    let bound = c.end-number-end.ensures in
    let most = c.loop-number.auto.number-end bound.low in
    let least = c.loop-number-test.false in
    let last : c.loop-number.number ≡ 2 ^ (2 * c.args.scene.now.grid.n + 1) =
    (let value = bound.value in omega arith) in
    subst (λ k. IsPicked (priority_seen c.args.scene.now) k c.loop-number.ranks.items) last c.loop-number.invariant

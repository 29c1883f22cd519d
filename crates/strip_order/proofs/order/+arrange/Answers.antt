-- The first leaf tells whether the triangle is a leaf; the strips of its children, turned round, are its own.
use Rattle.std.proofs.Common.{◌≡◌, ◌∙◌, ◌+◌, ◌*◌, ◌++◌, get_or, sym, ap, subst, reverse, rules}
use Rattle.std.proofs.lemmas.Bool.{eqb-true}
use Rattle.mesh_defs.specs.ClosedSet.{leaves_under}
use Rattle.strip_order.specs.Run.{IsFront}
use Rattle.strip_order.proofs.RunLemmas.{IsFront-some, IsArranged-leaf, IsParted-unequal, IsArranged-same}
use Rattle.strip_order.proofs.RunLemmas.{IsFront-right, IsArranged-parts}
use Rattle.strip_order.proofs.order.+arrange.Goals as goal

pub bounds-run-0 : goal.bounds-run-0
bounds-run-0 t c = IsFront-some c.requires.0 c.requires.1 c.args.t c.requires.2 c.args.run.now c.requires.3

pub returns-then-eq-clause-arranged : goal.returns-then-eq-clause-arranged
returns-then-eq-clause-arranged t c levels has rest front =
    let first : get_or c.args.run.now 0 c.index-run-0.result ≡ c.args.t =
    eqb-true _ _ (sym c.eq.ensures ∙ c.if-eq.true) in
    IsArranged-leaf levels has c.args.t c.index-run-0.result rest c.args.run.now (sym first) front

pub returns-then-eq-clause-within : goal.returns-then-eq-clause-within
returns-then-eq-clause-within t c =
    IsFront-some c.requires.0 c.requires.1 c.args.t c.requires.2 c.args.run.now c.requires.3

pub arrange-left-requires : goal.arrange-left-requires
arrange-left-requires t c =
    let has = c.requires.1 in
    let p = IsParted-unequal c.requires.0 has c.args.t c.index-run-0.result c.requires.2 c.args.run.now
    c.eq.result c.eq.ensures
    c.if-eq.false c.requires.3 in
    let rest = leaves_under p.below has (2 * c.args.t + 1) ++ c.requires.2 in (
      search rules,
      (p.below, has, rest, subst (λ z. IsFront p.below has z rest c.args.run.now) (sym c.left.ensures.value) p.left),
    )

pub arrange-right-requires : goal.arrange-right-requires
arrange-right-requires t c =
    let has = c.requires.1 in
    let p = IsParted-unequal c.requires.0 has c.args.t c.index-run-0.result c.requires.2 c.args.run.now
    c.eq.result c.eq.ensures
    c.if-eq.false c.requires.3 in
    let done = IsArranged-same c.left.result
    (2 * c.args.t) c.args.run.now c.arrange-left.new.run c.arrange-left.result c.left.ensures.value
    c.arrange-left.ensures.arranged p.below has (leaves_under p.below has (2 * c.args.t + 1) ++ c.requires.2) p.left in
    let next = IsFront-right c.requires.0 has c.args.t c.arrange-left.result c.requires.2 c.args.run.now
    c.split_at_mut-front.result.1.now
    c.requires.3 p c.arrange-left.new.run done c.split_at_mut-front.ensures.back in (
      search rules,
      (
        p.below,
        has,
        c.requires.2,
        subst (λ z. IsFront p.below has z c.requires.2 c.split_at_mut-front.result.1.now)
            (sym c.right.ensures.value) next,
      ),
    )

pub returns-clause-arranged : goal.returns-clause-arranged
returns-clause-arranged t c levels has rest front =
    let p = IsParted-unequal levels has c.args.t c.index-run-0.result rest c.args.run.now c.eq.result
    c.eq.ensures c.if-eq.false front in
    let done = IsArranged-same c.left.result
    (2 * c.args.t) c.args.run.now c.arrange-left.new.run c.arrange-left.result c.left.ensures.value
    c.arrange-left.ensures.arranged p.below has (leaves_under p.below has (2 * c.args.t + 1) ++ rest) p.left in
    let next =
    IsFront-right levels has c.args.t c.arrange-left.result rest c.args.run.now c.split_at_mut-front.result.1.now
    front p c.arrange-left.new.run done c.split_at_mut-front.ensures.back in
    let both =
    IsArranged-same c.right.result (2 * c.args.t + 1) c.split_at_mut-front.result.1.now c.arrange-right.new.run
    c.arrange-right.result c.right.ensures.value c.arrange-right.ensures.arranged p.below has rest next in
    IsArranged-parts levels has c.args.t rest c.args.run.now p c.arrange-left.new.run c.arrange-right.new.run
    c.reverse.new.self c.reverse-2.new.self
    c.arrange-left.result c.arrange-right.result done both
    (c.reverse.ensures.after ∙ ap reverse c.split_at_mut-front.ensures.front) c.reverse-2.ensures.after

-- The strips of 2 and of 3 are the strip of the set.
use Rattle.std.proofs.Common.{◌∙◌, ◌*◌, List, [], Contains, ap, eqb, sym, subst, count_by}
use Rattle.mesh_defs.specs.ClosedSet.{leaves_under}
use Rattle.mesh_laws.specs.Strip.{IsRing}
use Rattle.strip_order.specs.Run.{IsFront}
use Rattle.mesh_laws.proofs.StripOrderLemmas.{count-strip_of, once-leaf}
use Rattle.mesh_laws.proofs.StripLemmas.{IsRing-strip_of}
use Rattle.strip_order.proofs.RunLemmas.{IsFront-lower, IsFront-upper, IsArranged-same, strip_of-parts}
use Rattle.strip_order.proofs.order.strip.Goals as goal

pub arrange-lower-requires : goal.arrange-lower-requires
arrange-lower-requires c =
    let n = c.requires.leaves.0 in
    let has = c.requires.leaves.1 in (
      2 * n,
      has,
      leaves_under (2 * n) has 3,
      subst (λ z. IsFront (2 * n) has z (leaves_under (2 * n) has 3) c.copy_from_slice.new.self)
          (sym c.half.ensures.value)
          (IsFront-lower n has c.args.leaves.now c.copy_from_slice.new.self c.requires.leaves.2
          c.copy_from_slice.ensures.after),
    )

pub arrange-requires : goal.arrange-requires
arrange-requires c =
    let n = c.requires.leaves.0 in
    let has = c.requires.leaves.1 in
    let of = c.requires.leaves.2 in
    let lower = IsArranged-same c.half.result 2 c.copy_from_slice.new.self c.arrange-lower.new.run
    c.arrange-lower.result c.half.ensures.value
    c.arrange-lower.ensures.arranged (2 * n) has (leaves_under (2 * n) has 3)
    (IsFront-lower n has c.args.leaves.now c.copy_from_slice.new.self of c.copy_from_slice.ensures.after) in (
      2 * n,
      has,
      [],
      subst (λ z. IsFront (2 * n) has z [] c.split_at_mut-below.result.1.now) (sym c.half-2.ensures.value)
          (IsFront-upper n has c.args.leaves.now c.arrange-lower.new.run c.split_at_mut-below.result.1.now
          c.arrange-lower.result of lower
          c.split_at_mut-below.ensures.back),
    )

pub returns-clause-order : goal.returns-clause-order
returns-clause-order c n has of =
    let lower = IsArranged-same c.half.result 2 c.copy_from_slice.new.self c.arrange-lower.new.run
    c.arrange-lower.result c.half.ensures.value
    c.arrange-lower.ensures.arranged (2 * n) has (leaves_under (2 * n) has 3)
    (IsFront-lower n has c.args.leaves.now c.copy_from_slice.new.self of c.copy_from_slice.ensures.after) in
    let upper = IsArranged-same c.half-2.result 3 c.split_at_mut-below.result.1.now c.arrange.new.run
    c.arrange.result c.half-2.ensures.value
    c.arrange.ensures.arranged (2 * n) has []
    (IsFront-upper n has c.args.leaves.now c.arrange-lower.new.run c.split_at_mut-below.result.1.now
    c.arrange-lower.result of lower
    c.split_at_mut-below.ensures.back) in
    strip_of-parts n has c.arrange-lower.new.run c.split_at_mut-below.result.0.now c.arrange.new.run
    c.arrange-lower.result c.arrange.result
    lower c.split_at_mut-below.ensures.front upper

pub returns-clause-same : goal.returns-clause-same
returns-clause-same c a =
    let n = c.requires.leaves.0 in
    let has = c.requires.leaves.1 in
    let of = c.requires.leaves.2 in
    ap (count_by (λ t. eqb t a)) (returns-clause-order c n has of) ∙ sym (count-strip_of n (λ t. eqb t a) has)
    ∙ ap (count_by (λ t. eqb t a)) (sym of.is)

pub returns-clause-once : goal.returns-clause-once
returns-clause-once c a listed =
    let n = c.requires.leaves.0 in
    let has = c.requires.leaves.1 in
    let of = c.requires.leaves.2 in
    ap (count_by (λ t. eqb t a)) (returns-clause-order c n has of)
    ∙ once-leaf n a has (subst (λ (xs : List _). Contains xs a) of.is listed)

pub returns-clause-ring : goal.returns-clause-ring
returns-clause-ring c n has of =
    subst (λ (xs : List _). IsRing n xs) (sym (returns-clause-order c n has of)) (IsRing-strip_of n has of.closed)

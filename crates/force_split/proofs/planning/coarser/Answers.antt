use Rattle.std.proofs.Common.{arith, ap}
use Rattle.std.proofs.lemmas.Bool.{true≢false}
use Rattle.mesh_defs.specs.Triangle.{level_of}
use Rattle.mesh_laws.proofs.SlotLemmas.{coarse_link}
use Rattle.force_split.proofs.planning.coarser.Goals as goal

pub tri-requires : goal.tri-requires
tri-requires c = record {
  live = (coarse_link c.args.pool.now.n c.args.pool.now.pairs c.args.s.0 c.in_ok-base.base.0 c.in_ok-base.ensures.valid
      c.requires.leaf (λ z. true≢false (c.in_ok-base.ensures.border.1 z)) c.in_ok-base.ensures.owner).live;
}

pub returns-then-level-clause-some : goal.returns-then-level-clause-some
returns-then-level-clause-some c =
    let link =
    coarse_link c.args.pool.now.n c.args.pool.now.pairs c.args.s.0 c.in_ok-base.base.0 c.in_ok-base.ensures.valid
    c.requires.leaf (λ z. true≢false (c.in_ok-base.ensures.border.1 z)) c.in_ok-base.ensures.owner in
    let one = c.tri.ensures.value in let two = c.tri-2.ensures.value in
    let up = c.level.ensures.value in let own = c.level-2.ensures.value in
    let less = c.if-level.true in
    let x = ap level_of one in let y = ap level_of two in
    let found = link.coarser (omega arith) in (link.some, found.0)

pub returns-then-level-clause-leaf : goal.returns-then-level-clause-leaf
returns-then-level-clause-leaf c =
    let link =
    coarse_link c.args.pool.now.n c.args.pool.now.pairs c.args.s.0 c.in_ok-base.base.0 c.in_ok-base.ensures.valid
    c.requires.leaf (λ z. true≢false (c.in_ok-base.ensures.border.1 z)) c.in_ok-base.ensures.owner in
    let one = c.tri.ensures.value in let two = c.tri-2.ensures.value in
    let up = c.level.ensures.value in let own = c.level-2.ensures.value in
    let less = c.if-level.true in
    let x = ap level_of one in let y = ap level_of two in
    (link.coarser (omega arith)).1

pub returns-else-level-clause-none : goal.returns-else-level-clause-none
returns-else-level-clause-none c = λ _ _.
    let link =
    coarse_link c.args.pool.now.n c.args.pool.now.pairs c.args.s.0 c.in_ok-base.base.0 c.in_ok-base.ensures.valid
    c.requires.leaf (λ z. true≢false (c.in_ok-base.ensures.border.1 z)) c.in_ok-base.ensures.owner in
    let one = c.tri.ensures.value in let two = c.tri-2.ensures.value in
    let up = c.level.ensures.value in let own = c.level-2.ensures.value in
    let less = c.if-level.false in
    let x = ap level_of one in let y = ap level_of two in
    link.same (λ z. omega arith)

use Rattle.std.proofs.Common.{refl, ◌∙◌, ap, subst, cond, ◌+◌}
use Rattle.std.proofs.lemmas.List.Elements.{All-more}
use Rattle.page_store.specs.declared.locate.PageTriangle.{PageTriangle}
use Rattle.page_store.specs.Locate.{IsInReach, page_triangle}
use Rattle.world_loop.specs.Draws.{located, draws_from, draws_of, goes_on, with_next}
use Rattle.world_loop.proofs.DrawLemmas.{AreSoFar, with_ended, told-next, located-end, so_far-count}
use Rattle.world_loop.proofs.draws.count_draws.Goals as goal

pub loop-k-preserved : goal.loop-k-preserved
loop-k-preserved c =
    let k = c.loop-k.k in
    let tri = c.index-triangles-k.result in
    let is = c.in_ok-placed.ensures.value in
    record {
      reach = All-more (IsInReach c.args.store.now) c.args.triangles.now k tri c.loop-k-test.true c.loop-k.invariant.reach
          (subst (IsInReach c.args.store.now) c.index-triangles-k.is (c.in_ok-placed.ensures.reach.0 refl));
      ended = with_ended c.loop-k.invariant.ended c.loop-k.last (page_triangle c.args.store.now tri);
      so_far = told-next c.args.store.now c.args.triangles.now c.loop-k-test.true c.index-triangles-k.is
          c.loop-k.invariant.so_far
          (c.next_draw-next.ensures.count ∙ ap (λ (r : PageTriangle). cond (goes_on c.loop-k.last r) c.loop-k.count
          (c.loop-k.count + 1)) is)
          (c.next_draw-next.ensures.draw ∙ ap (λ (r : PageTriangle). with_next c.loop-k.last r k) is);
    }

pub returns-clause-value : goal.returns-clause-value
unfolding draws_of
returns-clause-value c =
    let all = draws_from 0 (located c.args.store.now c.args.triangles.now) in
    so_far-count
    (subst (λ rest. AreSoFar all rest c.loop-k.k c.loop-k.count c.loop-k.last c.loop-k.invariant.ended)
    (located-end c.args.store.now c.args.triangles.now c.loop-k.k c.loop-k-test.false) c.loop-k.invariant.so_far)

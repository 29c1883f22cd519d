use Rattle.std.proofs.Common.{◌≡◌, ℕ, ◌+◌, ◌*◌, ◌++◌, ◌≤◌, refl, sym, ◌∙◌, ap, ap₂, subst, arith, cond, List, [], length, take, drop, Some}
use Rattle.std.specs.List.{flat_map}
use Rattle.std.proofs.lemmas.List.{take_all}
use Rattle.std.proofs.lemmas.List.Elements.{All-more}
use Rattle.mesh_arrays.specs.Indices.{indices_at}
use Rattle.page_store.specs.declared.locate.PageTriangle.{PageTriangle}
use Rattle.page_store.specs.Locate.{page_triangle, IsPageTriangle}
use Rattle.world_loop.specs.declared.draws.Draw.{Draw}
use Rattle.world_loop.specs.Draws.{located, draws_from, draws_of, draw_indices, goes_on, with_next}
use Rattle.world_loop.proofs.DrawLemmas.{AreSoFar, with_ended, told-next, told-written, located-end, so_far-all}
use Rattle.world_loop.proofs.DrawLemmas.{so_far-count, so_far-room, indices-next}
use Rattle.world_loop.proofs.draws.write_draws.Goals.{After-next_draw-next}
use Rattle.world_loop.proofs.draws.write_draws.Goals as goal

-- a triangle more
module _ (c : After-next_draw-next) where
  abbrev all : List Draw
  all = draws_from 0 (located c.args.store.now c.args.triangles.now)

  is : c.unwrap-placed.result ≡ page_triangle c.args.store.now c.index-triangles-k.result
  is = rw c.unwrap-placed.ensures at c.locate.ensures.value

  count-is : c.next_draw-next.result.0
      ≡ cond (goes_on c.loop-k.last (page_triangle c.args.store.now c.index-triangles-k.result)) c.loop-k.count
      (c.loop-k.count + 1)
  count-is = c.next_draw-next.ensures.count
      ∙ ap (λ (r : PageTriangle). cond (goes_on c.loop-k.last r) c.loop-k.count (c.loop-k.count + 1)) is

  draw-is : c.next_draw-next.result.1
      ≡ with_next c.loop-k.last (page_triangle c.args.store.now c.index-triangles-k.result) c.loop-k.k
  draw-is = c.next_draw-next.ensures.draw ∙ ap (λ (r : PageTriangle). with_next c.loop-k.last r c.loop-k.k) is

  abbrev ended : List Draw
  ended = with_ended c.loop-k.invariant.ended c.loop-k.last (page_triangle c.args.store.now c.index-triangles-k.result)

  next : AreSoFar all (drop (c.loop-k.k + 1) (located c.args.store.now c.args.triangles.now)) (c.loop-k.k + 1)
      c.next_draw-next.result.0 (Some c.next_draw-next.result.1) ended
  next = told-next c.args.store.now c.args.triangles.now c.loop-k-test.true c.index-triangles-k.is
      c.loop-k.invariant.so_far count-is draw-is

pub bounds-draws-count : goal.bounds-draws-count
unfolding draws_of
bounds-draws-count c =
    let h = (goal.at.bounds-draws-count c).After-next_draw-next in
    let fits = so_far-room (next h) in
    let some = fits.0 in
    let most = fits.1 in
    let room : length (all h) ≤ length c.args.draws.now = c.requires.room in
    let same = c.loop-k.auto.draws in
    omega arith

pub loop-k-preserved : goal.loop-k-preserved
unfolding draws_of
loop-k-preserved c =
    let h = (goal.at.loop-k-preserved c).After-next_draw-next in
    let k = c.loop-k.k in
    let tri = c.index-triangles-k.result in
    let placed : IsPageTriangle c.args.store.now tri (page_triangle c.args.store.now tri) =
    subst (IsPageTriangle c.args.store.now tri) (is h) (rw c.unwrap-placed.ensures at c.locate.ensures.placed) in
    record {
      placed = All-more (λ a. IsPageTriangle c.args.store.now a (page_triangle c.args.store.now a)) c.args.triangles.now k tri
          c.loop-k-test.true c.loop-k.invariant.placed
          (subst (λ a. IsPageTriangle c.args.store.now a (page_triangle c.args.store.now a)) c.index-triangles-k.is placed);
      indices = indices-next (λ a. indices_at c.args.store.now.n (page_triangle c.args.store.now a).corners)
          c.args.triangles.now k tri (3 * k) c.args.indices.now c.loop-k.indices c.write_corners.new.out (λ b. refl)
          c.loop-k-test.true c.index-triangles-k.is refl c.loop-k.invariant.indices
          (c.write_corners.ensures ∙ ap₂ (λ (n : ℕ) (r : PageTriangle).
          take (3 * k) c.loop-k.indices ++ indices_at n r.corners ++ drop (3 * k + 3) c.loop-k.indices) c.n-n.ensures.value
          (is h));
      ended = ended h;
      so_far = next h;
      draws = told-written c.args.store.now c.args.triangles.now c.loop-k-test.true c.index-triangles-k.is
          c.loop-k.invariant.so_far (count-is h) (draw-is h) c.args.draws.now c.loop-k.draws c.requires.room
          c.loop-k.invariant.draws;
    }

pub returns-clause-draws : goal.returns-clause-draws
unfolding draws_of
returns-clause-draws c =
    let all = draws_from 0 (located c.args.store.now c.args.triangles.now) in
    let h : AreSoFar all [] c.loop-k.k c.loop-k.count c.loop-k.last c.loop-k.invariant.ended =
    subst (λ rest. AreSoFar all rest c.loop-k.k c.loop-k.count c.loop-k.last c.loop-k.invariant.ended)
    (located-end c.args.store.now c.args.triangles.now c.loop-k.k c.loop-k-test.false) c.loop-k.invariant.so_far in
    c.loop-k.invariant.draws
    ∙ ap₂ (λ (xs : List Draw) (j : ℕ). xs ++ drop j c.args.draws.now)
    (sym (so_far-all h))
    (so_far-count h)

pub returns-clause-indices : goal.returns-clause-indices
unfolding draw_indices
returns-clause-indices c =
    let end : c.loop-k.k ≡ length c.args.triangles.now = omega (arith, c.loop-k-test.false, c.loop-k.auto.k-end) in
    let whole : take c.loop-k.k c.args.triangles.now ≡ c.args.triangles.now =
    take_all c.loop-k.k c.args.triangles.now c.loop-k-test.false in
    c.loop-k.invariant.indices
    ∙ ap₂ (λ (xs : List ℕ) (j : ℕ).
    flat_map (λ a. indices_at c.args.store.now.n (page_triangle c.args.store.now a).corners) xs
    ++ drop (3 * j) c.args.indices.now) whole end

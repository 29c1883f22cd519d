use Rattle.std.proofs.Common.{◌≡◌, ◌+◌, subst, arith, length}
use Rattle.world_loop.specs.Draws.{draws_from, AreInTurn}
use Rattle.world_loop.proofs.DrawLawLemmas.{in-turn, apart-from, pages-from, reach-open}
use Rattle.world_loop.proofs.draws.draw_laws.Goals as goal

pub returns : goal.returns
returns c = record {
  cut = λ triangles.
      let none : 0 + length triangles ≡ length triangles = omega arith in
      subst (AreInTurn 0 (draws_from 0 triangles)) none (in-turn 0 triangles);
  pages = pages-from 0;
  apart = apart-from 0;
  reach = reach-open;
}

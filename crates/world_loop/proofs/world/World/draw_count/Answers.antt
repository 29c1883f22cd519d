use Rattle.std.proofs.Common.{ℕ, ◌↔◌, sym, ◌∙◌, ap, subst, List}
use Rattle.std.specs.Option.{IsSome}
use Rattle.world_loop.specs.World.{WorldState, mesh_seen}
use Rattle.world_loop.specs.Draws.{AreInReach}
use Rattle.world_loop.proofs.DrawLemmas.{seen-levels, seen-few}
use Rattle.world_loop.proofs.world.World.draw_count.Goals as goal

pub count_draws-requires-clause-levels : goal.count_draws-requires-clause-levels
count_draws-requires-clause-levels c = seen-levels c.self.view_is c.leaves.ensures.leaves

pub count_draws-requires-clause-few : goal.count_draws-requires-clause-few
count_draws-requires-clause-few c =
    seen-few c.self.view_is c.leaves.ensures.leaves c.large-valid.ensures.valid.table.small

pub returns-clause-reach : goal.returns-clause-reach
returns-clause-reach c =
    subst (λ (w : WorldState). IsSome c.count_draws.result ↔ AreInReach w.store (mesh_seen w)) c.self.view_is
    (subst (λ (xs : List ℕ). IsSome c.count_draws.result ↔ AreInReach c.self.inside.store xs)
    (c.leaves.ensures.leaves ∙ sym (ap mesh_seen c.self.view_is)) c.count_draws.ensures.reach)

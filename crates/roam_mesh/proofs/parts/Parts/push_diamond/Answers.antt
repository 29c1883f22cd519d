use Rattle.std.proofs.Common.{◌≡◌, ◌<◌, ◌*◌, length, sym, ◌∙◌, ap, subst}
use Rattle.triangle_pool.specs.Slots.{PoolState}
use Rattle.roam_mesh.specs.Parts.{PartsState}
use Rattle.roam_mesh.proofs.PlaceLemmas.{live_below}
use Rattle.roam_mesh.proofs.RoleLemmas.{ready_live}
use Rattle.roam_mesh.proofs.FreshLemmas.{pushed-pool}
use Rattle.roam_mesh.proofs.parts.Parts.push_diamond.Goals as goal
use Rattle.roam_mesh.proofs.parts.Parts.push_diamond.Goals.{in-Some, in_default}

pub push_fresh-requires-2 : goal.push_fresh-requires-2
push_fresh-requires-2 c =
    let now = c.args.self.now in
    let below = live_below now.pool.pairs c.args.s.0 (ready_live now.pool.pairs c.args.s.0 c.requires.ready) in
    let pool : c.match-mate.self.pool ≡ now.pool = elim c.match-mate.branch [
      | in-Some w ↦ ap (λ (p : PartsState). p.pool) (w.self-is ∙ w.push_fresh.ensures)
          ∙ pushed-pool now w.in-Some.mate.0
      | in_default w ↦ ap (λ (p : PartsState). p.pool) w.self-is
    ] in
    record { slot = subst (λ (p : PoolState). c.args.s.0 < 2 * length p.pairs) (sym pool) below }

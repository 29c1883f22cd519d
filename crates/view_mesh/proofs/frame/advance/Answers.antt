use Rattle.std.proofs.Common.{◌≡◌, ℕ, ◌+◌, sym, ◌∙◌, subst, arith, inl, inr, ⊎_elim}
use Rattle.mesh_defs.specs.ClosedSet.{among}
use Rattle.mesh_defs.specs.GridSet.{IsGridSet}
use Rattle.mesh_laws.specs.Frame.{IsFrame}
use Rattle.mesh_laws.specs.Stamps.{Readings}
use Rattle.mesh_laws.specs.Steps.{IsFrameRun}
use Rattle.mesh_laws.proofs.MeasureLemmas.{run_small}
use Rattle.mesh_laws.proofs.SlotLemmas.{split_list-closed, among-split_list}
use Rattle.deferred_loop.specs.Choice.{Priorities, IsSparing}
use Rattle.deferred_loop.specs.Promise.{IsAtMost, AreStampsGood}
use Rattle.roam_mesh.specs.Mesh.{pool_members, seen_of}
use Rattle.roam_mesh.specs.Chosen.{SparesChosen}
use Rattle.view_mesh.specs.Sight.{Sight, priority_now, sight_priorities}
use Rattle.view_mesh.proofs.CountLemmas.{run_still, few_asked, same_members_leaves}
use Rattle.view_mesh.proofs.frame.advance.Goals as goal

pub advance-steps-requires-clause-grid : goal.advance-steps-requires-clause-grid
advance-steps-requires-clause-grid g c = let is = c.requires.followed.1 in rw is.priorities (sym is.n)

pub advance-steps-requires-clause-falls : goal.advance-steps-requires-clause-falls
advance-steps-requires-clause-falls g c = let is = c.requires.followed.1 in rw is.priorities is.sound.falls

pub advance-steps-requires-clause-readings : goal.advance-steps-requires-clause-readings
advance-steps-requires-clause-readings g c =
    let is = c.requires.followed.1 in
    rw (is.priorities, is.readings)
    (c.sight_laws.ensures.readings c.requires.followed.0 c.args.odometer is.sound)

pub advance-steps-requires-clause-stamps : goal.advance-steps-requires-clause-stamps
advance-steps-requires-clause-stamps g c =
    let is = c.requires.followed.1 in
    rw is.priorities (c.sight_laws.ensures.stamps c.requires.followed.0 c.args.odometer c.args.mesh.now is.kept)

-- what is said of told priorities, and of the grid of the mesh, is said of the sight and its grid
of_sight : (s : Sight) (priorities : Priorities) (n : ℕ) → priorities ≡ sight_priorities s → n ≡ s.n
    → (Fact : ℕ → (ℕ → ℕ) → Type 0) →
    Fact n priorities.of → Fact s.n (priority_now s)
of_sight s priorities n same size Fact is =
    subst (λ k. Fact k (priority_now s)) size (subst (λ (z : Priorities). Fact n z.of) same is)

pub returns-clause-done : goal.returns-clause-done
returns-clause-done g c s is =
    let priorities = g.G.Gauge.priorities c.args.gauge.now in
    let budget = c.args.budget in
    let before = c.args.mesh.now in
    let after = c.advance-steps.new.self in
    let steps = c.advance-steps.result in
    let count = g.G.Gauge.count c.args.gauge.now in
    let more = g.G.Gauge.count c.advance-steps.new.gauge in
    let did = c.advance-steps.ensures in
    let said = of_sight s priorities before.pool.n is.priorities is.n in
    let set : IsGridSet before.pool.n (pool_members before.pool) =
    split_list-closed before.pool.n before.pool.pairs c.pool-before.ensures.valid in
    let run : IsFrameRun s.n budget (priority_now s) (pool_members before.pool) (pool_members after.pool)
    steps.splits steps.merges =
    said (λ n p. IsFrameRun n budget p (pool_members before.pool) (pool_members after.pool) steps.splits steps.merges)
    did.run in
    let frame : IsFrame s.n budget (priority_now s) (among (pool_members after.pool)) steps.worst steps.blocked =
    said (λ n p. IsFrame n budget p (among (pool_members after.pool)) steps.worst steps.blocked) did.frame in
    let most : IsAtMost (sight_priorities s) s.readings c.args.odometer (seen_of before) budget
    (steps.splits + steps.merges)
    count more =
    subst (λ (r : Readings). IsAtMost (sight_priorities s) r c.args.odometer (seen_of before) budget
    (steps.splits + steps.merges) count more) is.readings
    (subst (λ (z : Priorities). IsAtMost z (g.G.Gauge.readings c.args.gauge.now) c.args.odometer (seen_of before) budget
    (steps.splits + steps.merges) count more) is.priorities did.most) in
    let stamps : AreStampsGood s.readings c.args.odometer (seen_of before) (seen_of after) =
    subst (λ (r : Readings). AreStampsGood r c.args.odometer (seen_of before) (seen_of after)) is.readings
    did.stamps in
    let small = run_small s.n budget (priority_now s) is.sound.falls c.requires.some
    (pool_members before.pool) (pool_members after.pool) steps.splits steps.merges
    (subst (λ n. IsGridSet n (pool_members before.pool)) is.n set) run.run in
    let asked = few_asked (sight_priorities s) s.readings c.args.odometer (seen_of before) budget
    (steps.splits + steps.merges)
    count more set c.requires.some most in
    record {
      n = did.n;
      counters = did.counters;
      run = run;
      frame = frame;
      best = c.frame_laws.ensures.best _ _ _ _ _ _ frame is.sound.falls c.requires.some;
      unblocked = c.frame_laws.ensures.unblocked _ _ _ _ _ _ frame is.sound.falls c.requires.some;
      certificate = c.frame_laws.ensures.certificate _ _ _ _ _ _ frame is.sound.falls c.requires.some;
      sparing = said (λ n p. IsSparing n budget p (pool_members before.pool) (pool_members after.pool)
          steps.splits steps.merges) did.sparing;
      spares = said (λ n p. SparesChosen n budget p (pool_members before.pool) (pool_members after.pool)) did.spares;
      most_asked = most;
      least_asked = did.least;
      stamps = stamps;
      kept = c.sight_laws.ensures.frame s c.args.odometer before after is.sound (did.n ∙ is.n)
          is.kept stamps did.only;
      only = did.only;
      few_asked = omega (arith, small.0, small.1, asked);
      few_splits = small.0;
      few_merges = small.1;
      still = λ none. same_members_leaves before.pool after.pool c.pool-before.ensures.valid
          c.pool-after.ensures.valid did.n
          (run_still s.n budget (priority_now s) (pool_members before.pool) (pool_members after.pool) steps.splits
          steps.merges (subst (λ n. IsGridSet n (pool_members before.pool)) is.n set) run.run
          (omega arith) (omega arith));
      changed = λ a. ⊎_elim
          (λ same. inl (sym (among-split_list before.pool.n before.pool.pairs a c.pool-before.ensures.valid) ∙ sym same
          ∙ among-split_list after.pool.n after.pool.pairs a c.pool-after.ensures.valid))
          (λ listed. inr listed)
          (did.changed.listed a);
    }

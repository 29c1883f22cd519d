use Rattle.std.proofs.Common.{◌≡◌, refl, sym, ◌∙◌, ap, subst}
use Rattle.std.proofs.lemmas.Option.{same_Some}
use Rattle.mesh_defs.specs.ClosedSet.{leaves_of}
use Rattle.mesh_laws.specs.Slots.{split_set}
use Rattle.triangle_pool.specs.Slots.{PoolState}
use Rattle.view_priority.specs.Camera.{view_above}
use Rattle.world_loop.specs.World.{WorldState, world_of, loaded_of, sight_of, IsStill}
use Rattle.world_loop.proofs.ListLemmas.{listed-before}
use Rattle.world_loop.proofs.world.World.frame_anew.Goals as goal

pub list_changed-requires-clause-known : goal.list_changed-requires-clause-known
list_changed-requires-clause-known c =
    let i = c.self.inside in
    let pool = c.advance_mesh-note.new.mesh.pool in
    rw (c.pool.ensures.pool)
    (listed-before i.store.large pool.n (split_set i.mesh.pool.pairs) (split_set pool.pairs) i.list.leaves
    c.advance_mesh-note.new.mesh.log.changed c.changed.result
    (c.advance_mesh-note.ensures.done.n ∙ c.self.invariant.0.n) c.self.invariant.1
    c.advance_mesh-note.ensures.done.changed c.changed.ensures)

pub invariant_of-self : goal.invariant_of-self
invariant_of-self c =
    let i = c.self.inside in
    let is = c.self.invariant.0 in
    let call = c.advance_mesh-note in
    let done = call.ensures.done in
    let mesh = call.new.mesh in
    let n : mesh.pool.n ≡ i.store.large = done.n ∙ is.n in
    let after : WorldState = world_of i.store (view_above i.threshold i.camera i.spacing i.planes) i.budget i.most mesh
    i.odometer i.pace i.way in (
      record {
        n = n;
        most_low = is.most_low;
        most_high = is.most_high;
        room = done.counters.most ∙ is.room;
        budget_low = is.budget_low;
        budget_high = is.budget_high;
        spacing_low = is.spacing_low;
        spacing_high = is.spacing_high;
        far = is.far;
        kept = done.kept;
      },
      c.list_changed.ensures.leaves ∙ ap (λ (p : PoolState). leaves_of p.n (split_set p.pairs)) c.pool.ensures.pool
          ∙ ap (λ k. leaves_of k (split_set mesh.pool.pairs)) n,
      c.list_changed.ensures.most ∙ c.self.invariant.2 ∙ sym done.counters.most,
      λ note is. subst (IsStill after) (sym c.without_steps.ensures ∙ same_Some c.without_steps.result note is) (record {
        store = refl;
        view = refl;
        budget = refl;
        most = refl;
        odometer = refl;
        pace = refl;
        way = refl;
        mesh = c.still_laws.ensures.frame (sight_of i.pace (loaded_of after)) i.budget i.odometer i.mesh mesh call.result.steps 0
            call.result.evaluations 0
            (c.world_laws.ensures.sound i.pace (loaded_of after) c.large-valid.ensures.valid.table.pyramid) n
            c.pool.ensures.valid done;
        triangles = call.ensures.triangles;
      }),
    )

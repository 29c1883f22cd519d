use Rattle.std.proofs.Common.{◌+◌, refl, sym, subst, arith}
use Rattle.std.proofs.lemmas.Option.{none-some}
use Rattle.view_priority.specs.Camera.{view_above}
use Rattle.view_mesh.specs.Sight.{AreBracketed}
use Rattle.page_priority.specs.Scene.{TerrainState, loaded_in}
use Rattle.world_loop.specs.World.{sight_of}
use Rattle.world_loop.proofs.world.World.camera.Goals as goal

pub invariant_of-self-2 : goal.invariant_of-self-2
invariant_of-self-2 c =
    let i = c.self.inside in
    let is = c.self.invariant.0 in
    let before : TerrainState = record { store = i.store; view = view_above i.threshold i.camera i.spacing i.planes } in
    let after : TerrainState = record before { view = view_above i.threshold c.args.camera i.spacing i.planes } in (
      record {
        n = is.n;
        most_low = is.most_low;
        most_high = is.most_high;
        room = is.room;
        budget_low = is.budget_low;
        budget_high = is.budget_high;
        spacing_low = is.spacing_low;
        spacing_high = is.spacing_high;
        far = omega (arith, c.if-self-way-gt-LONGEST_WAY.false);
        kept = subst (λ way. AreBracketed (sight_of i.pace (loaded_in after)) (i.odometer + way) i.mesh)
            (sym c.way_to-way.ensures.value)
            (c.sight_laws.ensures.camera (sight_of i.pace (loaded_in before)) (sight_of i.pace (loaded_in after))
            i.odometer i.mesh (λ a to. refl) is.kept);
      },
      c.self.invariant.1,
      c.self.invariant.2,
      λ note is. absurd (none-some note is),
    )

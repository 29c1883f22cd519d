use Rattle.std.proofs.Common.{refl, ap, subst}
use Rattle.std.proofs.lemmas.Option.{none-some}
use Rattle.mesh_defs.specs.State.{SceneState, scene_of}
use Rattle.view_priority.specs.Scene.{seen_within}
use Rattle.frame_loop.specs.Outlook.{sight_of}
use Rattle.frame_loop.specs.Changes.{changes_of}
use Rattle.frame_loop.specs.Engine.{EngineState, IsExpired}
use Rattle.frame_loop.specs.Turn.{is_turned}
use Rattle.frame_loop.proofs.HeightLemmas.{heights_leaves}
use Rattle.frame_loop.proofs.TurnLemmas.{planes_engine, IsSamePriority-unturned}
use Rattle.frame_loop.proofs.engine.Engine.look.Goals as goal

pub invariant_of-self : goal.invariant_of-self
invariant_of-self c =
    let e = c.self.inside in
    let whole = c.self.invariant in
    let put = c.put_planes.new.self in
    let turned = c.expire_by_turn.ensures in (
      planes_engine e.outlook put c.args.planes.now e.budget e.most e.mesh c.expire_by_turn.new.mesh e.odometer e.frames
          e.meter (changes_of e.list) c.put_planes.ensures turned.pool
          (c.sight_laws.ensures.edited (sight_of e.outlook) (sight_of (seen_within c.args.planes.now e.outlook))
          e.odometer e.mesh c.expire_by_turn.new.mesh (is_turned e.outlook c.args.planes.now) refl whole.0.n whole.0.only
          turned (λ a address out. IsSamePriority-unturned e.outlook c.args.planes.now a out) whole.0.kept)
          (c.expiry_laws.ensures.only e.mesh c.expire_by_turn.new.mesh (is_turned e.outlook c.args.planes.now) turned
          whole.0.only)
          whole.0,
      heights_leaves e.outlook put e.budget e.most e.mesh c.expire_by_turn.new.mesh e.odometer e.frames e.meter
          (changes_of e.list)
          e.list.leaves e.numbers (ap (λ (o : SceneState). o.grid.n) c.put_planes.ensures) turned.pool whole.1,
      (λ all. c.expiry_laws.ensures.all e.mesh c.expire_by_turn.new.mesh
          (is_turned e.outlook c.args.planes.now) turned (whole.2 all)),
      rw c.put_planes.ensures whole.3,
      rw c.put_planes.ensures whole.4,
      rw c.put_planes.ensures whole.5,
      (λ note is. absurd (none-some note is)),
    )

pub returns-clause-mesh : goal.returns-clause-mesh
returns-clause-mesh c =
    subst (λ (e : EngineState). IsExpired e.mesh c.expire_by_turn.new.mesh
    (is_turned (scene_of e.state) c.args.planes.now))
    c.self.view_is c.expire_by_turn.ensures

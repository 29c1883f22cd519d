use Rattle.std.proofs.Common.{subst, sym}
use Rattle.frame_loop.specs.Changes.{changes_of}
use Rattle.frame_loop.specs.Engine.{EngineState, IsRenewable, engine_of}
use Rattle.frame_loop.proofs.StillLemmas.{renewed_engine, still_on}
use Rattle.frame_loop.proofs.engine.Engine.renew.Goals as goal

pub invariant_of-self : goal.invariant_of-self
invariant_of-self c =
    let e : EngineState = engine_of c.self.inside.outlook c.self.inside.budget c.self.inside.most c.self.inside.mesh
    c.self.inside.odometer c.self.inside.frames c.self.inside.meter (changes_of c.self.inside.list) in (
      renewed_engine e c.self.invariant.0
          (subst IsRenewable (sym c.self.view_is) (c.is_renewable.ensures.0 c.if-not-is_renewable.false)),
      record { leaf_list = c.self.invariant.1.leaf_list; vertex_numbers = c.self.invariant.1.vertex_numbers },
      c.self.invariant.2,
      c.self.invariant.3,
      c.self.invariant.4,
      c.self.invariant.5,
      λ note is. still_on e 0 e.changes note (c.self.invariant.6 note is),
    )

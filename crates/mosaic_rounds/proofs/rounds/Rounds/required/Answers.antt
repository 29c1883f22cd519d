-- What is asked for, by bits.
use Rattle.std.proofs.Common.{ℕ, List, sym, subst, take, get_or}
use Rattle.mesh_defs.specs.Triangle.{IsSplittable}
use Rattle.mosaic_rounds.specs.Rounds.{IsAskedOf}
use Rattle.mosaic_rounds.specs.Across.{IsAskedBy}
use Rattle.mosaic_rounds.proofs.AskedLemmas.{among-entry}
use Rattle.mosaic_rounds.proofs.RoundsLemmas.{asked-to, asked-from, asked-splittable}
use Rattle.mosaic_rounds.proofs.rounds.Rounds.required.Goals as goal

pub returns-clause-just : goal.returns-clause-just
returns-clause-just c a = (
  (λ h. subst (λ r. IsAskedOf r c.args.t a) c.self.view_is
      (asked-from c.self.inside.shape c.self.inside.turn c.self.inside.words.items c.args.t a
      (subst (λ (w : List ℕ). IsAskedBy c.self.inside.shape w c.args.t 4 a) c.deref.ensures.value
      ((c.tell.ensures.just a).0 h)))),
  (λ h. (c.tell.ensures.just a).1
      (subst (λ (w : List ℕ). IsAskedBy c.self.inside.shape w c.args.t 4 a) (sym c.deref.ensures.value)
      (asked-to c.self.inside.shape c.self.inside.turn c.self.inside.words.items c.args.t a
      (subst (λ r. IsAskedOf r c.args.t a) (sym c.self.view_is) h)))),
)

pub returns-clause-splittable : goal.returns-clause-splittable
returns-clause-splittable c k d less =
    subst (λ r. IsSplittable r.n (get_or (take c.tell.result c.tell.new.list) k d)) c.self.view_is
    (asked-splittable c.self.inside.shape c.self.inside.turn c.self.inside.words.items c.args.t
    c.self.invariant.shape.n_low (get_or (take c.tell.result c.tell.new.list) k d)
    (subst (λ (w : List ℕ). IsAskedBy c.self.inside.shape w c.args.t 4
    (get_or (take c.tell.result c.tell.new.list) k d))
    c.deref.ensures.value ((c.tell.ensures.just (get_or (take c.tell.result c.tell.new.list) k d)).0
    (among-entry (take c.tell.result c.tell.new.list) k d less))))

-- What lacks, by bits.
use Rattle.std.proofs.Common.{ℕ, List, sym, subst}
use Rattle.mosaic_rounds.specs.Rounds.{Lacks}
use Rattle.mosaic_rounds.specs.Across.{LacksBy}
use Rattle.mosaic_rounds.proofs.RoundsLemmas.{lacks-to, lacks-from}
use Rattle.mosaic_rounds.proofs.rounds.Rounds.lacks.Goals as goal

pub returns : goal.returns
returns c = record {
  value = (
    (λ h. subst (λ r. Lacks r c.args.t) c.self.view_is
        (lacks-from c.self.inside.shape c.self.inside.turn c.self.inside.words.items c.args.t
        (subst (λ (w : List ℕ). LacksBy c.self.inside.shape w c.args.t 4) c.deref.ensures.value
        (c.lacks.ensures.value.0 h)))),
    (λ h. c.lacks.ensures.value.1
        (subst (λ (w : List ℕ). LacksBy c.self.inside.shape w c.args.t 4) (sym c.deref.ensures.value)
        (lacks-to c.self.inside.shape c.self.inside.turn c.self.inside.words.items c.args.t
        (subst (λ r. Lacks r c.args.t) (sym c.self.view_is) h)))),
  );
}

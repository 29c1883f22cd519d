-- No bit is set, over the state.
use Rattle.std.proofs.Common.{List, ℕ, ◌∙◌, ap}
use Rattle.std.proofs.lemmas.List.{with_items_is}
use Rattle.mosaic_rounds.specs.Bits.{splits_at}
use Rattle.mosaic_rounds.proofs.border_points.BorderPoints.clear.Goals as goal

pub returns-clause-none : goal.returns-clause-none
returns-clause-none c a =
    ap (λ (w : List ℕ). splits_at c.self.inside.n w 0 a)
    (with_items_is c.self.inside.words c.clear.new.words (c.clear.ensures.room ∙ c.deref_mut.ensures.len))
    ∙ c.clear.ensures.clear c.self.inside.n a

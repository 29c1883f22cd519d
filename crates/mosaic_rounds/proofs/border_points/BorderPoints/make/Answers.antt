-- No bit is set.
use Rattle.std.proofs.Common.{◌≡◌, false, sym, subst}
use Rattle.mosaic_rounds.specs.Bits.{splits_at}
use Rattle.mosaic_rounds.proofs.PlaceLemmas.{splits-zero}
use Rattle.mosaic_rounds.proofs.border_points.BorderPoints.make.Goals as goal

pub returns-clause-none : goal.returns-clause-none
returns-clause-none c a =
    subst (λ w. splits_at c.args.n w 0 a ≡ false) (sym (c.in_ok-words.ensures.items_if_clones_equal (λ y h. h)))
    (splits-zero c.args.n _ 0 a)

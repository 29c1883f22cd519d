-- No bit is set.
use Rattle.std.proofs.Common.{◌≡◌, false, sym, subst}
use Rattle.mosaic_rounds.specs.Bits.{splits_at}
use Rattle.mosaic_rounds.specs.Shape.{first_of}
use Rattle.mosaic_rounds.proofs.PlaceLemmas.{splits-zero}
use Rattle.mosaic_rounds.proofs.rounds.Rounds.make.Goals as goal

pub returns-clause-splits : goal.returns-clause-splits
returns-clause-splits c t a =
    subst (λ w. splits_at c.args.n w
    (first_of (record { columns = c.args.columns; rows = c.args.rows; n = c.args.n }) t) a
    ≡ false) (sym (c.in_ok-words.ensures.items_if_clones_equal (λ y h. h)))
    (splits-zero c.args.n _ (first_of (record { columns = c.args.columns; rows = c.args.rows; n = c.args.n }) t) a)

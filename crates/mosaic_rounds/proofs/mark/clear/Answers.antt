-- All words are 0.
use Rattle.std.proofs.Common.{◌≡◌, length, false, sym, subst}
use Rattle.mosaic_rounds.specs.Bits.{splits_at}
use Rattle.mosaic_rounds.proofs.PlaceLemmas.{splits-zero}
use Rattle.mosaic_rounds.proofs.mark.clear.Goals as goal

pub returns-clause-clear : goal.returns-clause-clear
returns-clause-clear c n a =
    subst (λ w. splits_at n w 0 a ≡ false) (sym (c.fill.ensures.after (λ y e. e)))
    (splits-zero n (length c.args.words.now) 0 a)

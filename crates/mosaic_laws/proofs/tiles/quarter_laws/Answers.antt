-- Each clause is a lemma, or holds by the definition.
use Rattle.std.proofs.Common.{suc, ◌+◌, ◌*◌, ◌≡◌, arith, refl, ◌∙◌}
use Rattle.bintree_laws.proofs.LevelLemmas.{level_of-at}
use Rattle.mosaic_laws.specs.Tile.{quarter}
use Rattle.mosaic_laws.proofs.AddressLemmas.{quarter-at}
use Rattle.mosaic_laws.proofs.tiles.quarter_laws.Goals as goal

pub returns-clause-level : goal.returns-clause-level
returns-clause-level c p column row k small =
    let e : suc (2 * p) ≡ 2 * p + 1 = omega arith in
    level_of-at (suc (2 * p)) (quarter p column row k) (quarter-at p column row k small) ∙ e

pub returns-clause-one : goal.returns-clause-one
returns-clause-one c k = refl

pub returns-clause-step : goal.returns-clause-step
returns-clause-step c p column row k = refl

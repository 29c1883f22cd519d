-- Each clause is a lemma.
use Rattle.page_laws.proofs.SquareLemmas.{tile-parent}
use Rattle.page_laws.proofs.HalfLemmas.{half-level, half-tile, halves, half-left, half-right, half-mates}
use Rattle.page_laws.proofs.PyramidLemmas.{square-above}
use Rattle.page_laws.proofs.squares.square_laws.Goals as goal

pub returns-clause-level : goal.returns-clause-level
returns-clause-level c p which t less = half-level p t which less

pub returns-clause-square : goal.returns-clause-square
returns-clause-square c p which t less tile = half-tile p t which less tile

pub returns-clause-halves : goal.returns-clause-halves
returns-clause-halves c = halves

pub returns-clause-mates : goal.returns-clause-mates
returns-clause-mates c = half-mates

pub returns-clause-parent : goal.returns-clause-parent
returns-clause-parent c = tile-parent

pub returns-clause-above : goal.returns-clause-above
returns-clause-above c w q x s less low deep = square-above w s q x less low deep

pub returns-clause-left : goal.returns-clause-left
returns-clause-left c p which t less = half-left p t which less

pub returns-clause-right : goal.returns-clause-right
returns-clause-right c p which t less = half-right p t which less

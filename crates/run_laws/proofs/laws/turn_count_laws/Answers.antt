use Rattle.run_laws.proofs.TurnLemmas.{turns-counted}
use Rattle.run_laws.proofs.laws.turn_count_laws.Goals as goal

pub returns : goal.returns
returns c = record { counts = λ n lefts rights has closed turns. turns-counted n has closed lefts rights turns }

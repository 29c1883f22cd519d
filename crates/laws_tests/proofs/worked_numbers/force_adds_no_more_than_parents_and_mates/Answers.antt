-- The sets of the example, by their lemmas.
use Rattle.laws_tests.proofs.CornerExample.{least-by_8, least-with_17}
use Rattle.laws_tests.proofs.worked_numbers.force_adds_no_more_than_parents_and_mates.Goals as goal

pub returns : goal.returns
returns c = record { by_8 = least-by_8; by_four = least-with_17 }

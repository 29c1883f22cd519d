use Rattle.draw_buffer.proofs.TimesLemmas.{permutation-times}
use Rattle.draw_buffer.proofs.laws.times_laws.Goals as goal

pub returns : goal.returns
returns c = record { permutation = permutation-times }

-- The wedge's lemmas.
use Rattle.page_laws.proofs.LoadedLemmas.{wedge-heights}
use Rattle.page_laws.proofs.ClearLemmas.{wedge-clear}
use Rattle.page_laws.proofs.finding.height_laws.Goals as goal

pub returns : goal.returns
returns c = record {
  same_heights = λ w height other x s agree known. wedge-heights w s height other agree x known;
  elsewhere = λ n height other known area x agree low clear. wedge-clear n height other known area agree x low clear;
}

use Rattle.run_laws.proofs.GeneratedLemmas.{low-unblocked}
use Rattle.run_laws.proofs.generated.generated_laws.Goals as goal

pub returns : goal.returns
returns c = record { unblocked = low-unblocked c.run_laws.ensures.certificate }

use Rattle.std.proofs.Common.{refl}
use Rattle.run_laws.proofs.DoesLemmas.{late-in-time, does-text}
use Rattle.run_files.proofs.outside.LentOutside.tell.Goals as goal

pub returns-clause-does : goal.returns-clause-does
returns-clause-does g c =
    does-text _ _ _ c.write.result (record { shelf = refl; faults = refl; late = refl }) refl refl refl refl
    c.write.ensures.bytes c.write.ensures.faults (late-in-time _ _ _ c.write.ensures.late)

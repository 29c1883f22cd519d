use Rattle.std.proofs.Common.{refl}
use Rattle.run_laws.proofs.DoesLemmas.{does-text}
use Rattle.run_files.proofs.outside.LentOutside.tell_kept_cert.Goals as goal

pub returns-clause-does : goal.returns-clause-does
returns-clause-does g c =
    does-text _ _ _ c.write_kept_cert.result (record { shelf = refl; faults = refl; late = refl }) refl refl refl refl
    c.write_kept_cert.ensures.bytes c.write_kept_cert.ensures.faults c.write_kept_cert.ensures.in_time

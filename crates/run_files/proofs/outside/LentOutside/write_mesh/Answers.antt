use Rattle.std.proofs.Common.{refl}
use Rattle.run_laws.proofs.DoesLemmas.{does-mesh}
use Rattle.run_files.proofs.outside.LentOutside.write_mesh.Goals as goal

pub returns-clause-does : goal.returns-clause-does
returns-clause-does g c =
    does-mesh _ _ _ _ _ c.write_sparse.result
    (record { shelf = refl; faults = refl; late = refl }) c.requires.idle refl refl refl
    c.write_sparse.ensures.ok c.write_sparse.ensures.idle c.write_sparse.ensures.err c.write_sparse.ensures.faults
    c.write_sparse.ensures.in_time

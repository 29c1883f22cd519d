use Rattle.mesh_arrays.proofs.IndexLawLemmas.{CoversOnce-indices_of, All-IsCounterclockwise-indices_of}
use Rattle.mesh_arrays.proofs.laws.index_laws.Goals as goal

pub returns-clause-once : goal.returns-clause-once
returns-clause-once c = CoversOnce-indices_of

pub returns-clause-winding : goal.returns-clause-winding
returns-clause-winding c = All-IsCounterclockwise-indices_of

-- That a frame keeps what greedy splitting picks.
-- Source: the dual-queue algorithm of Duchaineau et al., "ROAMing Terrain", IEEE Visualization 1997; the chosen
-- triangles and the steps are those of `mesh_defs` and `mesh_laws`.
-- Words: SparesChosen.
use Rattle.std.specs.Prelude.{ℕ, List}
use Rattle.mesh_defs.specs.ClosedSet.{among}
use Rattle.mesh_defs.specs.Ranking.{IsRanking, IsRankClosure}
use Rattle.mesh_laws.specs.Steps.{IsMergeStep, StepRun, HoldsChosen}

-- Where last is the closure of the chosen triangles: from each set that the steps of the frame come to, no step merges
-- a diamond that holds a chosen triangle.
abbrev pub SparesChosen : (n budget : ℕ) → (ℕ → ℕ) → List ℕ → List ℕ → Type 0
SparesChosen n budget priority start last =
    (ranking : List ℕ) (chosen : ℕ) → IsRanking n priority ranking →
    IsRankClosure n budget ranking chosen (among last) →
    (before after : List ℕ) (added removed : ℕ) → StepRun n budget priority start before added removed →
    (step : IsMergeStep n budget priority before after) → HoldsChosen n ranking chosen step.diamond → ⊥

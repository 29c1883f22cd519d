-- What is split lies above the leaves.
use Rattle.std.proofs.Common.{ℕ, Bool, List, sym, ◌∙◌, ap}
use Rattle.mesh_laws.specs.Ancestors.{ancestors_of}
use Rattle.fit_laws.proofs.OrderLemmas.{ancestors-leaves}
use Rattle.mesh_laws.specs.Sweep.{is_flagged}
use Rattle.fit_mesh.specs.Splits.{SplitMesh}
use Rattle.fit_mesh.proofs.splits.SplitSet.is_split.Goals as goal

pub returns : goal.returns
returns c =
    let n : ℕ = c.self.inside.n in
    let t : ℕ = c.args.t in
    c.is_set.ensures.value ∙ ap (λ (l : List Bool). is_flagged l t) c.deref.ensures.value
    ∙ sym (ancestors-leaves n (is_flagged c.self.inside.flags.items) c.self.invariant.closed t)
    ∙ ap (λ (l : List ℕ). ancestors_of l t) (sym c.self.invariant.listed)
    ∙ ap (λ (s : SplitMesh). ancestors_of s.leaves t) c.self.view_is

-- They are the leaves of a closed set.
use Rattle.std.proofs.Common.{ℕ, ◌*◌, ◌≤◌, List, sym, ap, subst}
use Rattle.std.specs.Prelude.{All}
use Rattle.std.proofs.lemmas.List.Elements.{All-weaker}
use Rattle.mesh_defs.specs.Triangle.{level_of, IsAddress}
use Rattle.bintree_laws.proofs.LevelLemmas.{level-le}
use Rattle.mesh_laws.specs.Sweep.{is_flagged}
use Rattle.fit_mesh.specs.Splits.{SplitMesh, IsMeshListed}
use Rattle.fit_mesh.proofs.SplitLemmas.{leaves-listed}
use Rattle.fit_mesh.proofs.splits.SplitSet.leaves.Goals as goal

pub returns-clause-listed : goal.returns-clause-listed
returns-clause-listed c =
    let n : ℕ = c.self.inside.n in
    subst (λ (s : SplitMesh). IsMeshListed s.n s.leaves) c.self.view_is
    (leaves-listed n c.self.inside.leaves.items (is_flagged c.self.inside.flags.items) c.self.invariant.closed
    (sym c.self.invariant.listed))

pub returns-clause-levels : goal.returns-clause-levels
returns-clause-levels c =
    let n : ℕ = c.self.inside.n in
    let mesh = leaves-listed n c.self.inside.leaves.items (is_flagged c.self.inside.flags.items) c.self.invariant.closed
    (sym c.self.invariant.listed) in
    subst (λ (l : List ℕ). All (λ a. level_of a ≤ 2 * c.args.self.now.n) l) (sym c.deref.ensures.value)
    (subst (λ k. All (λ a. level_of a ≤ 2 * k) c.self.inside.leaves.items) (ap (λ (s : SplitMesh). s.n) c.self.view_is)
    (All-weaker (IsAddress n) (λ a. level_of a ≤ 2 * n) (level-le n) c.self.inside.leaves.items mesh.conforming.addresses))

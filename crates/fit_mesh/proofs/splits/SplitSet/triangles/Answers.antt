-- There are at most as many as finest triangles.
use Rattle.std.proofs.Common.{ℕ, ◌+◌, ◌*◌, ◌^◌, ◌≤◌, List, length, ap, arith}
use Rattle.std.proofs.Math.Pow.{pow_mono}
use Rattle.mesh_laws.specs.Sweep.{is_flagged}
use Rattle.fit_mesh.proofs.SplitLemmas.{leaves-fit}
use Rattle.fit_mesh.proofs.splits.SplitSet.triangles.Goals as goal

pub overflow_cast-result : goal.overflow_cast-result
overflow_cast-result c =
    let n : ℕ = c.self.inside.n in
    let many = leaves-fit n (is_flagged c.self.inside.flags.items) in
    let same = ap (λ (l : List ℕ). length l) c.self.invariant.listed in
    let high = c.self.invariant.n_high in
    let few : 2 * n + 1 ≤ 29 = omega arith in
    let most : 2 ^ (2 * n + 1) ≤ 2 ^ 29 = pow_mono few in
    omega arith

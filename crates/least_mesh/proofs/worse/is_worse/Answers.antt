-- Below what is not worse nothing is; of the others the priority decides.
use Rattle.std.proofs.Common.{◌≡◌, ◌+◌, ◌*◌, ◌^◌, ◌≤◌, IfSome, ltb, ap, sym, ◌∙◌, subst, arith}
use Rattle.std.proofs.Math.Pow.{pow_mono}
use Rattle.mesh_defs.specs.State.{priority_seen}
use Rattle.mesh_laws.specs.Sweep.{is_flagged}
use Rattle.mesh_laws.proofs.SweepLemmas.{lt-splittable}
use Rattle.mesh_laws.proofs.LeastLemmas.{worse-splittable, worse-parent}
use Rattle.least_mesh.proofs.worse.is_worse.Goals as goal

pub returns-then-not-flags-number-clause-value : goal.returns-then-not-flags-number-clause-value
unfolding is_flagged
returns-then-not-flags-number-clause-value c =
    let big = c.if-number-ge4.true in
    let p = priority_seen c.args.scene.now in
    sym (worse-parent c.args.scene.now.grid.n c.args.tolerance p c.args.number (c.falling_laws.ensures _ _ _) big
    (sym (c.requires.parent big) ∙ c.if-not-flags-number.true))

pub unwrap-requires : goal.unwrap-requires
unwrap-requires c =
    let n_high = c.n-valid.ensures.in_grid.1 in
    let few : 2 * c.args.scene.now.grid.n + 1 ≤ 29 = omega arith in
    let deepest : 2 ^ (2 * c.args.scene.now.grid.n + 1) ≤ 2 ^ 29 = pow_mono few in
    c.at.ensures.valid.1 (c.requires.low, omega arith)

pub returns-clause-value : goal.returns-clause-value
returns-clause-value c =
    let p = priority_seen c.args.scene.now in
    let is : c.unwrap.result ≡ c.args.number =
    subst (λ o. IfSome o (λ t. t ≡ c.args.number)) c.unwrap.ensures c.at.ensures.value in
    ap (λ k. ltb c.args.tolerance k) (c.rank.ensures.value ∙ ap p is)
    ∙ sym (worse-splittable c.args.scene.now.grid.n c.args.tolerance p c.args.number
    (lt-splittable c.args.scene.now.grid.n c.args.number c.requires.low c.requires.splittable))

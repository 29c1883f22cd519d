-- The two halves one after the other.
use Rattle.std.proofs.Common.{ℕ, ◌*◌, ◌-◌, Bool, List, All, sym, subst}
use Rattle.mesh_defs.specs.Triangle.{level_of}
use Rattle.mesh_defs.specs.ClosedSet.{leaves_under}
use Rattle.mesh_laws.specs.Sweep.{is_flagged}
use Rattle.mesh_laws.proofs.DescentLemmas.{IsAddress-down, IsDown-2, IsDown-3}
use Rattle.fit_laws.specs.Error.{error_of}
use Rattle.fit_certify.specs.declared.settle.Bounds.{Bounds}
use Rattle.fit_certify.specs.Settling.{IsWithin}
use Rattle.fit_certify.proofs.SettleLemmas.{pass-through, neither, halves-worst}
use Rattle.fit_certify.proofs.settle.Settling.sweep.Goals as goal

pub sweep_under-requires-clause-address : goal.sweep_under-requires-clause-address
sweep_under-requires-clause-address c = let n : ℕ = c.args.bounds.now.grid.now.n in IsAddress-down n (2 * n) 2 (IsDown-2 n)

pub sweep_under-requires-2-clause-address : goal.sweep_under-requires-2-clause-address
sweep_under-requires-2-clause-address c =
    let n : ℕ = c.args.bounds.now.grid.now.n in IsAddress-down n (2 * n) 3 (IsDown-3 n)

pub returns-clause-pass : goal.returns-clause-pass
returns-clause-pass c =
    pass-through c.args.bounds.now c.args.self.now c.sweep_under.new.self c.sweep_under-2.new.self
    c.in_ok-below.below c.in_ok-above.above c.either.result c.either.ensures
    c.in_ok-below.ensures.pass c.in_ok-above.ensures.pass

pub returns-clause-none : goal.returns-clause-none
returns-clause-none c not =
    let b : Bounds = c.args.bounds.now in
    let n : ℕ = b.grid.now.n in
    let both = neither c.in_ok-below.below c.in_ok-above.above c.either.result c.either.ensures not in
    halves-worst n (error_of n b.grid.now.heights) b.tolerance (is_flagged c.sweep_under-2.new.self.flags.now)
    (subst (λ (l : List Bool). All (IsWithin b) (leaves_under (2 * n - level_of 2) (is_flagged l) 2))
    (sym (c.in_ok-above.ensures.pass.same both.1)) (c.in_ok-below.ensures.none both.0))
    (c.in_ok-above.ensures.none both.1)

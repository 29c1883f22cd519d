-- The triangle, and then what lies in its two halves.
use Rattle.std.proofs.Common.{◌≡◌, ℕ, ◌*◌, ◌≤◌, ◌<◌, ◌-◌, Bool, true, false, List, All, sym, ◌∙◌, subst, arith}
use Rattle.mesh_defs.specs.Triangle.{level_of}
use Rattle.mesh_defs.specs.ClosedSet.{leaves_under}
use Rattle.mesh_laws.specs.Sweep.{is_flagged}
use Rattle.fit_certify.specs.declared.settle.Bounds.{Bounds}
use Rattle.fit_certify.specs.Settling.{IsWithin}
use Rattle.fit_certify.proofs.SettleLemmas.{pass-through, neither, half-ready}
use Rattle.fit_certify.proofs.SettleLemmas.{under-both, under-whole, under-finest, finest-none}
use Rattle.fit_certify.proofs.settle.Settling.+sweep_under.Goals as goal

pub returns-then-level-n-clause-none : goal.returns-then-level-n-clause-none
returns-then-level-n-clause-none m c _ =
    let b : Bounds = c.args.bounds.now in
    let n : ℕ = b.grid.now.n in
    let level = c.level.ensures.value in
    let value = c.n.ensures.value in
    let fine : 2 * n ≤ level_of c.args.t = omega arith in
    under-finest n (is_flagged c.args.self.now.flags.now) (IsWithin b) c.args.t (2 * n - level_of c.args.t)
    (omega arith) (finest-none n b.grid.now.heights b.tolerance c.args.t c.requires.address fine)

pub returns-then-not-is_set-clause-none : goal.returns-then-not-is_set-clause-none
returns-then-not-is_set-clause-none m c not =
    let b : Bounds = c.args.bounds.now in
    let n : ℕ = b.grid.now.n in
    let has : ℕ → Bool = is_flagged c.split_leaf.new.self.flags.now in
    let unset : has c.args.t ≡ false = sym c.is_set.ensures.value ∙ c.if-not-is_set.true in
    under-whole n has (IsWithin b) c.args.t (2 * n - level_of c.args.t) unset (c.in_ok-is_off.ensures.none not unset)

pub sweep_under-requires : goal.sweep_under-requires
sweep_under-requires m c =
    let n : ℕ = c.args.bounds.now.grid.now.n in
    let level = c.level.ensures.value in
    let value = c.n.ensures.value in
    let coarse : level_of c.args.t < 2 * n = (let above = c.if-level-n.false in omega arith) in
    let own = c.left.ensures.value in
    let more = c.left.ensures.level in
    let falls = c.decreases in
    let flags : List Bool = c.split_leaf.new.self.flags.now in
    let member : is_flagged flags c.args.t ≡ true = sym c.is_set.ensures.value ∙ c.if-not-is_set.false in
    let half = half-ready n flags c.args.t c.left.result c.requires.address.low coarse (omega arith)
    c.left.ensures.level member in (omega arith, (half.0, (half.1, c.split_leaf.ensures.ready)))

pub sweep_under-requires-2 : goal.sweep_under-requires-2
sweep_under-requires-2 m c =
    let n : ℕ = c.args.bounds.now.grid.now.n in
    let level = c.level.ensures.value in
    let value = c.n.ensures.value in
    let coarse : level_of c.args.t < 2 * n = (let above = c.if-level-n.false in omega arith) in
    let own = c.right.ensures.value in
    let more = c.right.ensures.level in
    let falls = c.decreases in
    let member : is_flagged c.split_leaf.new.self.flags.now c.args.t ≡ true =
    sym c.is_set.ensures.value ∙ c.if-not-is_set.false in
    let half = half-ready n c.sweep_under.new.self.flags.now c.args.t c.right.result c.requires.address.low coarse
    (omega arith) c.right.ensures.level (c.in_ok-left.ensures.pass.kept c.args.t member) in
    (omega arith, (half.0, (half.1, c.sweep_under.ensures.ready)))

pub returns-clause-pass : goal.returns-clause-pass
returns-clause-pass m c =
    pass-through c.args.bounds.now c.args.self.now c.split_leaf.new.self c.sweep_under-2.new.self
    c.in_ok-is_off.is_off c.either.result c.either-2.result c.either-2.ensures c.in_ok-is_off.ensures.pass
    (pass-through c.args.bounds.now c.split_leaf.new.self c.sweep_under.new.self c.sweep_under-2.new.self
    c.in_ok-left.left c.in_ok-right.right c.either.result c.either.ensures
    c.in_ok-left.ensures.pass c.in_ok-right.ensures.pass)

pub returns-clause-none : goal.returns-clause-none
returns-clause-none m c not =
    let P : ℕ → Type 0 = IsWithin c.args.bounds.now in
    let n : ℕ = c.args.bounds.now.grid.now.n in
    let t : ℕ = c.args.t in
    let level = c.level.ensures.value in
    let value = c.n.ensures.value in
    let coarse : level_of t < 2 * n = (let above = c.if-level-n.false in omega arith) in
    let member : is_flagged c.split_leaf.new.self.flags.now t ≡ true =
    sym c.is_set.ensures.value ∙ c.if-not-is_set.false in
    let last : is_flagged c.sweep_under-2.new.self.flags.now t ≡ true =
    c.in_ok-right.ensures.pass.kept t (c.in_ok-left.ensures.pass.kept t member) in
    let all = neither c.in_ok-is_off.is_off c.either.result c.either-2.result c.either-2.ensures not in
    let both = neither c.in_ok-left.left c.in_ok-right.right c.either.result c.either.ensures all.1 in
    under-both n (is_flagged c.sweep_under-2.new.self.flags.now) P t c.requires.address.low coarse last
    (subst (λ (l : List Bool). All P (leaves_under (2 * n - level_of (2 * t)) (is_flagged l) (2 * t)))
    (sym (c.in_ok-right.ensures.pass.same both.1))
    (subst (λ z. All P (leaves_under (2 * n - level_of z) (is_flagged c.sweep_under.new.self.flags.now) z))
    c.left.ensures.value (c.in_ok-left.ensures.none both.0)))
    (subst (λ z. All P (leaves_under (2 * n - level_of z) (is_flagged c.sweep_under-2.new.self.flags.now) z))
    c.right.ensures.value (c.in_ok-right.ensures.none both.1))

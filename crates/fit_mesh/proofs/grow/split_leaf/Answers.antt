-- The number is an address, and the split leaf has an error that no mesh below it may have.
use Rattle.std.proofs.Common.{◌≡◌, ℕ, Bool, IfSome, sym, ◌∙◌, subst, arith}
use Rattle.mesh_defs.specs.Triangle.{IsSplittable}
use Rattle.mesh_defs.specs.ClosedSet.{IsLeastClosed, leaves_of}
use Rattle.mesh_defs.specs.Greedy.{with_triangle}
use Rattle.mesh_defs.proofs.ListLemmas.{IsIn-contains}
use Rattle.mesh_laws.proofs.DescentLemmas.{IsAddress-splittable}
use Rattle.mesh_laws.specs.Sweep.{is_flagged}
use Rattle.fit_laws.specs.Error.{error_of}
use Rattle.fit_laws.proofs.FitLemmas.{step-grown}
use Rattle.fit_laws.proofs.SettledLemmas.{outer-leaf}
use Rattle.fit_mesh.specs.Log.{nothing}
use Rattle.fit_mesh.proofs.GrownLemmas.{below-step, address-small, counted}
use Rattle.fit_mesh.proofs.grow.split_leaf.Goals as goal

pub unwrap-t-requires : goal.unwrap-t-requires
unwrap-t-requires c =
    let n : ℕ = c.args.grid.now.n in
    let high = c.n-level.ensures.high in
    let value = c.n-level.ensures.value in
    c.at.ensures.valid.1 (address-small n c.args.number (omega arith)
    (IsAddress-splittable n c.args.number c.requires.splittable))

pub force-requires-clause-splittable : goal.force-requires-clause-splittable
force-requires-clause-splittable c =
    let at : c.unwrap-t.result ≡ c.args.number =
    subst (λ o. IfSome o (λ t. t ≡ c.args.number)) c.unwrap-t.ensures c.at.ensures.value in
    subst (λ k. IsSplittable k c.unwrap-t.result) (sym c.n.ensures.value)
    (subst (λ z. IsSplittable c.args.grid.now.n z) (sym at) c.requires.splittable)

pub returns-clause-least : goal.returns-clause-least
returns-clause-least c =
    let at : c.unwrap-t.result ≡ c.args.number =
    subst (λ o. IfSome o (λ t. t ≡ c.args.number)) c.unwrap-t.ensures c.at.ensures.value in
    subst (λ z. IsLeastClosed c.args.grid.now.n (with_triangle (is_flagged c.args.flags.now) z) (is_flagged c.force.new.flags))
    at
    (subst (λ k. IsLeastClosed k (with_triangle (is_flagged c.args.flags.now) c.unwrap-t.result) (is_flagged c.force.new.flags))
    c.n.ensures.value c.force.ensures.least)

pub returns-clause-grown : goal.returns-clause-grown
returns-clause-grown c = record {
  room = c.force.ensures.flags ∙ c.requires.grown.room;
  logged = c.force.ensures.log nothing c.requires.grown.logged;
  closed = (returns-clause-least c).closed;
}

pub returns-clause-needed : goal.returns-clause-needed
returns-clause-needed c low above needed =
    let n : ℕ = c.args.grid.now.n in
    below-step n (error_of n c.args.grid.now.heights) low (is_flagged c.args.flags.now)
    (is_flagged c.force.new.flags) c.args.number needed
    (outer-leaf n (is_flagged c.args.flags.now) c.args.number c.requires.grown.closed
    (IsIn-contains c.args.number (leaves_of n (is_flagged c.args.flags.now)) c.requires.leaf)) above
    (returns-clause-least c)

pub returns-clause-more : goal.returns-clause-more
returns-clause-more c =
    let n : ℕ = c.args.grid.now.n in
    let old : ℕ → Bool = is_flagged c.args.flags.now in
    let before = counted n c.args.flags.now c.args.log.now.items c.requires.grown in
    let after = counted n c.force.new.flags c.force.new.log.items (returns-clause-grown c) in
    let grown = step-grown n old (is_flagged c.force.new.flags) c.args.number c.requires.grown.closed
    (outer-leaf n old c.args.number c.requires.grown.closed (IsIn-contains c.args.number (leaves_of n old) c.requires.leaf))
    (returns-clause-least c) in
    omega arith

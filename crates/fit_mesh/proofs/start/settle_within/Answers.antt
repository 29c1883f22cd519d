-- The halves, and then the children of all that is split.
use Rattle.std.proofs.Common.{ℕ, ◌∙◌, arith}
use Rattle.mesh_laws.specs.Sweep.{is_flagged}
use Rattle.fit_laws.specs.Error.{error_of}
use Rattle.fit_laws.proofs.SettledLemmas.{outer-settled}
use Rattle.fit_mesh.specs.Log.{nothing}
use Rattle.fit_mesh.proofs.ForceLemmas.{extends-extends}
use Rattle.fit_mesh.proofs.SettleLemmas.{settled-inside, halves-inside, anew-outer}
use Rattle.fit_mesh.proofs.start.settle_within.Goals as goal

pub ask_halves-requires-clause-log : goal.ask_halves-requires-clause-log
ask_halves-requires-clause-log c = (nothing, c.requires.grown.logged)

pub settle-requires-clause-log : goal.settle-requires-clause-log
settle-requires-clause-log c = (nothing, c.ask_halves.ensures.log nothing c.requires.grown.logged)

pub returns-clause-grown : goal.returns-clause-grown
returns-clause-grown c = record {
  room = c.settle.ensures.flags ∙ c.ask_halves.ensures.flags ∙ c.requires.grown.room;
  logged = c.settle.ensures.log nothing (c.ask_halves.ensures.log nothing c.requires.grown.logged);
  closed = c.settle.ensures.closed;
}

pub returns-clause-kept : goal.returns-clause-kept
returns-clause-kept c =
    extends-extends _ _ _ c.ask_halves.ensures.kept c.settle.ensures.kept

pub returns-clause-within : goal.returns-clause-within
returns-clause-within c is = let few = c.settle.ensures.count.0 is in let some = c.requires.some in omega arith

pub returns-clause-settled : goal.returns-clause-settled
returns-clause-settled c is =
    let n : ℕ = c.args.grid.now.n in
    let e : ℕ → ℕ = error_of n c.args.grid.now.heights in
    let since = c.settle.ensures.log nothing (c.ask_halves.ensures.log nothing c.requires.grown.logged) in
    outer-settled n c.args.tolerance e (is_flagged c.settle.new.flags) c.settle.ensures.closed
    (anew-outer n c.args.tolerance e (is_flagged c.settle.new.flags) c.settle.new.log.items since.same
    (λ above. c.settle.ensures.more 2 (c.ask_halves.ensures.lower above))
    (λ above. c.settle.ensures.more 3 (c.ask_halves.ensures.upper above))
    (c.settle.ensures.settled is))

pub returns-clause-least : goal.returns-clause-least
returns-clause-least c is other fine inside =
    let n : ℕ = c.args.grid.now.n in
    let e : ℕ → ℕ = error_of n c.args.grid.now.heights in
    c.settle.ensures.least is other fine.closed
    (c.ask_halves.ensures.least other fine.closed inside
    (halves-inside n c.args.tolerance e other fine).0 (halves-inside n c.args.tolerance e other fine).1)
    (λ a address big asked parent. settled-inside n c.args.tolerance e other a fine address (λ _. parent))

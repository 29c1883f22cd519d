-- From nothing: what is required, the halves, and then the children of all members.
use Rattle.std.proofs.Common.{◌≡◌, ℕ, ◌+◌, ◌*◌, ◌^◌, replicate, Bool, IsTrue, false, ◌||◌, List, [], length, sym, ◌∙◌, subst, ap, arith}
use Rattle.std.proofs.lemmas.Bool.{or_right}
use Rattle.std.proofs.lemmas.List.{length-replicate}
use Rattle.mesh_defs.specs.ClosedSet.{IsClosed, IsLeastClosed}
use Rattle.mesh_laws.proofs.ClosureLemmas.{nothing_closed}
use Rattle.mesh_laws.specs.Sweep.{is_flagged}
use Rattle.mesh_laws.proofs.FlagLemmas.{flagged-unset}
use Rattle.fit_laws.proofs.FitLemmas.{closed-same}
use Rattle.fit_mesh.specs.Limit.{tolerance_of, error_within}
use Rattle.fit_mesh.specs.Log.{nothing, IsLogSince}
use Rattle.fit_mesh.specs.Required.{is_required}
use Rattle.fit_mesh.proofs.LogLemmas.{log-none}
use Rattle.fit_mesh.proofs.SettleLemmas.{settled-inside, halves-inside, first-needed, settled-with, anew-outer}
use Rattle.fit_mesh.proofs.settle.settle_anew.Goals as goal

-- no flag is set
cleared : (flags next : List Bool) → next ≡ replicate (length flags) false → (a : ℕ) → is_flagged next a ≡ false
cleared flags next same a = subst (λ (l : List Bool). is_flagged l a ≡ false) (sym same) (flagged-unset (length flags) a)

-- so the log of all members is empty
started : (flags next : List Bool) (log : List ℕ) → next ≡ replicate (length flags) false → log ≡ [] →
    IsLogSince nothing next log
started flags next log same none =
    subst (λ (l : List ℕ). IsLogSince nothing next l) (sym none) (log-none next (cleared flags next same))

pub split_required-requires-clause-flags : goal.split_required-requires-clause-flags
split_required-requires-clause-flags c =
    ap (λ (l : List Bool). length l) c.clear.ensures ∙ length-replicate (length c.args.flags.now) false ∙ c.requires.flags
    ∙ ap (λ k. 2 ^ (2 * k + 1)) (sym c.n.ensures.value)

pub split_required-requires-clause-log : goal.split_required-requires-clause-log
split_required-requires-clause-log c = (
  nothing,
  started c.args.flags.now c.clear.new.flags c.clear-2.new.self.items c.clear.ensures c.clear-2.ensures.items,
)

pub split_required-requires-clause-closed : goal.split_required-requires-clause-closed
split_required-requires-clause-closed c =
    closed-same c.n.result (λ a. false) (is_flagged c.clear.new.flags)
    (λ a. sym (cleared c.args.flags.now c.clear.new.flags c.clear.ensures a)) (nothing_closed c.n.result)

pub ask_halves-requires-clause-log : goal.ask_halves-requires-clause-log
ask_halves-requires-clause-log c =
    let first = started c.args.flags.now c.clear.new.flags c.clear-2.new.self.items c.clear.ensures c.clear-2.ensures.items in
    (nothing, c.split_required.ensures.log nothing first)

pub ask_halves-requires-clause-closed : goal.ask_halves-requires-clause-closed
ask_halves-requires-clause-closed c =
    subst (λ k. IsClosed k (is_flagged c.split_required.new.flags)) c.n.ensures.value c.split_required.ensures.least.closed

pub settle-requires-clause-log : goal.settle-requires-clause-log
settle-requires-clause-log c =
    let first = started c.args.flags.now c.clear.new.flags c.clear-2.new.self.items c.clear.ensures c.clear-2.ensures.items in
    (nothing, c.ask_halves.ensures.log nothing (c.split_required.ensures.log nothing first))

pub returns-clause-fit : goal.returns-clause-fit
returns-clause-fit c =
    let n : ℕ = c.args.grid.now.n in
    let all : IsTrue c.settle.result = c.settle.ensures.count.1 (omega arith) in
    let e : ℕ → ℕ = error_within n c.args.grid.now.heights c.args.limit in
    let tolerance : ℕ = tolerance_of c.args.limit in
    let empty : (a : ℕ) → is_flagged c.clear.new.flags a ≡ false =
    cleared c.args.flags.now c.clear.new.flags c.clear.ensures in
    let first : ℕ → Bool = is_flagged c.split_required.new.flags in
    let last : ℕ → Bool = is_flagged c.settle.new.flags in
    let required : ℕ → Bool = is_required n c.args.required in
    let least : IsLeastClosed n (λ a. is_flagged c.clear.new.flags a || required a) first =
    subst (λ k. IsLeastClosed k (λ a. is_flagged c.clear.new.flags a || is_required k c.args.required a) first)
    c.n.ensures.value c.split_required.ensures.least in
    let start = started c.args.flags.now c.clear.new.flags c.clear-2.new.self.items c.clear.ensures c.clear-2.ensures.items in
    let since = c.settle.ensures.log nothing (c.ask_halves.ensures.log nothing
    (c.split_required.ensures.log nothing start)) in
    settled-with n tolerance e required last c.settle.ensures.closed
    (λ a is. c.settle.ensures.more a (c.ask_halves.ensures.more a
    (least.holds a (or_right (is_flagged c.clear.new.flags a) (required a) is))))
    (λ other fine splits. c.settle.ensures.least all other fine.closed
    (c.ask_halves.ensures.least other fine.closed
    (first-needed n tolerance e (is_flagged c.clear.new.flags) required first empty least other fine splits)
    (halves-inside n tolerance e other fine).0 (halves-inside n tolerance e other fine).1)
    (λ a address big asked parent. settled-inside n tolerance e other a fine address (λ _. parent)))
    (anew-outer n tolerance e last c.settle.new.log.items since.same
    (λ above. c.settle.ensures.more 2 (c.ask_halves.ensures.lower above))
    (λ above. c.settle.ensures.more 3 (c.ask_halves.ensures.upper above))
    (c.settle.ensures.settled all))

-- A table of copies of `false` flags nothing.
use Rattle.std.proofs.Common.{◌≡◌, Bool, false, List, sym, subst}
use Rattle.mesh_laws.specs.Sweep.{is_flagged}
use Rattle.mesh_laws.proofs.ClosureLemmas.{nothing_closed}
use Rattle.mesh_laws.proofs.FlagLemmas.{flagged-unset}
use Rattle.fit_laws.proofs.FitLemmas.{closed-same}
use Rattle.fit_certify.proofs.room.no_flags.Goals as goal

pub returns-clause-empty : goal.returns-clause-empty
returns-clause-empty c a =
    subst (λ (l : List Bool). is_flagged l a ≡ false)
    (sym (c.in_ok-flags.ensures.items_if_clones_equal (λ y h. h))) (flagged-unset _ a)

pub returns-clause-closed : goal.returns-clause-closed
returns-clause-closed c =
    closed-same c.args.n (λ a. false) (is_flagged c.in_ok-flags.flags.items)
    (λ a. sym (returns-clause-empty c a)) (nothing_closed c.args.n)

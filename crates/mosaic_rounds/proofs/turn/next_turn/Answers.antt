-- From the turn on, and then from the first one.
use Rattle.std.proofs.Common.{ℕ, ◌<◌, ◌≤◌, arith, ⊎_elim, Option, None, Some}
use Rattle.std.specs.Prelude.{IfNone}
use Rattle.std.proofs.lemmas.Bool.{cases_lt}
use Rattle.std.proofs.lemmas.Option.{IfSome_then}
use Rattle.mosaic_rounds.proofs.turn.next_turn.Goals as goal

-- where there is none, one fact gives another
none_from : (o : Option ℕ) (P Q : Type 0) → IfNone o P → (P → Q) → IfNone o Q
none_from None P Q h f = f h
none_from (Some x) P Q h f = tt

pub returns-in-None-clause-later : goal.returns-in-None-clause-later
returns-in-None-clause-later c =
    let tiles = c.tiles.ensures.value in
    IfSome_then c.first_waiting-in-None.result c.first_waiting-in-None.ensures.first
    (λ at first less v from to. c.in-None.ensures.none v from (omega arith))

pub returns-in-None-clause-wrapped : goal.returns-in-None-clause-wrapped
returns-in-None-clause-wrapped c =
    IfSome_then c.first_waiting-in-None.result c.first_waiting-in-None.ensures.first
    (λ at first less v below. first v (omega arith) below)

pub returns-in-None-clause-none : goal.returns-in-None-clause-none
returns-in-None-clause-none c =
    let tiles = c.tiles.ensures.value in
    none_from c.first_waiting-in-None.result _ _ c.first_waiting-in-None.ensures.none
    (λ none v less waits. ⊎_elim
    (λ (early : v < c.args.turn). none v (omega arith) early waits)
    (λ (late : c.args.turn ≤ v). c.in-None.ensures.none v late (omega arith) waits)
    (cases_lt v c.args.turn))

-- One member more, behind the others.
use Rattle.std.proofs.Common.{◌∷◌, [], List, ℕ, sym, ◌∙◌, subst, arith}
use Rattle.fit_mesh.specs.Log.{IsLogSince}
use Rattle.fit_mesh.proofs.LogLemmas.{log-put, log-room}
use Rattle.fit_mesh.proofs.force.put.Goals as goal

pub push_reserved-requires : goal.push_reserved-requires
push_reserved-requires c =
    let few = log-room c.requires.log.0 c.args.flags.now c.args.log.now.items c.args.t c.requires.log.1
    (sym c.is_set.ensures.value ∙ c.if-is_set.false) c.requires.address in
    let room = c.requires.room in
    omega arith

pub returns-clause-log : goal.returns-clause-log
returns-clause-log c before logged =
    subst (λ (l : List ℕ). IsLogSince before c.flag.new.flags l) (sym c.push_reserved.ensures.items)
    (log-put before c.args.flags.now c.flag.new.flags c.args.log.now.items c.args.t logged
    (sym c.is_set.ensures.value ∙ c.if-is_set.false) c.flag.ensures.added)

pub returns-clause-kept : goal.returns-clause-kept
returns-clause-kept c = (c.args.t ∷ [], c.push_reserved.ensures.items)

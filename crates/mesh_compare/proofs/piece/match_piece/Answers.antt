use Rattle.std.proofs.Common.{◌∙◌, sym, subst}
use Rattle.std.proofs.lemmas.Result.{err_from_is_err_and}
use Rattle.mesh_compare.specs.Differs.{Gives, left_of}
use Rattle.mesh_compare.proofs.FileLemmas.{left-nothing}
use Rattle.mesh_compare.proofs.DifferenceLemmas.{piece-cut, stops-end, stops-other}
use Rattle.mesh_compare.proofs.piece.match_piece.Goals as goal

pub returns-in_err-next-clause-cut : goal.returns-in_err-next-clause-cut
returns-in_err-next-clause-cut g c =
    let p = err_from_is_err_and c.from_residual.result c.from_residual.ensures.1 in
    let unread = g.F.Shelf.rest c.loop-i.shelf in
    rw p.1 (piece-cut c.args.piece.now (left_of c.args.window.now (g.F.Shelf.rest c.args.shelf.now))
    (left_of c.loop-i.window unread) (g.F.Shelf.rest c.next.new.shelf) c.loop-i.i c.loop-i.invariant.has
    (left-nothing c.loop-i.window unread c.in_err-next.ensures.used_up ∙ sym c.in_err-next.ensures.kept))

pub returns-in_default-clause-place : goal.returns-in_default-clause-place
returns-in_default-clause-place g c =
    let left = left_of c.loop-i.window (g.F.Shelf.rest c.loop-i.shelf) in
    let left' = left_of c.next.new.self (g.F.Shelf.rest c.next.new.shelf) in
    stops-other c.args.piece.now (left_of c.args.window.now (g.F.Shelf.rest c.args.shelf.now)) left left' c.loop-i.i _
    c.loop-i-test.true c.loop-i.invariant.has c.in-Some.next
    (subst (λ o. Gives o left left') c.in-Some.is c.in_ok-next.ensures.byte) c.if-next-byte.false

pub returns-in_default-2-clause-place : goal.returns-in_default-2-clause-place
returns-in_default-2-clause-place g c =
    let left = left_of c.loop-i.window (g.F.Shelf.rest c.loop-i.shelf) in
    let left' = left_of c.next.new.self (g.F.Shelf.rest c.next.new.shelf) in
    stops-end c.args.piece.now (left_of c.args.window.now (g.F.Shelf.rest c.args.shelf.now)) left left' c.loop-i.i 0
    c.loop-i-test.true c.loop-i.invariant.has
    (subst (λ o. Gives o left left') c.in_default.is c.in_ok-next.ensures.byte)

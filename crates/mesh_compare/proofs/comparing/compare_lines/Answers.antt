use Rattle.std.proofs.Common.{rules, arith, length, ap, subst}
use Rattle.std.proofs.lemmas.Result.{err_from_is_err_and}
use Rattle.mesh_compare.specs.Differs.{Gives, Matches, left_of}
use Rattle.mesh_compare.proofs.DifferenceLemmas.{piece-first, agrees-more, cut-in, differs-in, differs-end}
use Rattle.mesh_compare.proofs.DifferenceLemmas.{differs-nowhere}
use Rattle.mesh_compare.proofs.comparing.compare_lines.Goals as goal

pub returns-in_err-k-clause-cut : goal.returns-in_err-k-clause-cut
returns-in_err-k-clause-cut g c =
    let p = err_from_is_err_and c.from_residual.result c.from_residual.ensures.1 in
    let piece = piece-first c.as_slice.result.now c.push_next.new.page.items c.lines.piece.items c.lines.lines.text
    c.push_next.new.self.text c.as_slice.ensures.value c.push_next.ensures.text c.lines.invariant.clear in
    rw p.1 (cut-in c.args.lines.text (left_of c.args.window.now (g.F.Shelf.rest c.args.shelf.now)) c.lines.lines.text
    (left_of c.lines.window (g.F.Shelf.rest c.lines.shelf)) c.lines.at c.lines.invariant.agrees
    c.as_slice.result.now c.push_next.new.self.text
    (g.F.Shelf.rest c.match_piece.new.shelf) piece c.in_err-k.ensures.cut)

pub returns-in-Some-clause-place : goal.returns-in-Some-clause-place
returns-in-Some-clause-place g c =
    let piece = piece-first c.as_slice.result.now c.push_next.new.page.items c.lines.piece.items c.lines.lines.text
    c.push_next.new.self.text c.as_slice.ensures.value c.push_next.ensures.text c.lines.invariant.clear in
    let left = left_of c.lines.window (g.F.Shelf.rest c.lines.shelf) in
    let left' = left_of c.match_piece.new.window (g.F.Shelf.rest c.match_piece.new.shelf) in
    differs-in c.args.lines.text (left_of c.args.window.now (g.F.Shelf.rest c.args.shelf.now)) c.lines.lines.text
    left c.lines.at c.lines.invariant.agrees c.as_slice.result.now c.push_next.new.self.text left' c.in-Some.k piece
    (subst (λ o. Matches c.as_slice.result.now left left' o) c.in-Some.is c.in_ok-k.ensures.place)

pub lines-preserved : goal.lines-preserved
lines-preserved g c =
    let piece = piece-first c.as_slice.result.now c.push_next.new.page.items c.lines.piece.items c.lines.lines.text
    c.push_next.new.self.text c.as_slice.ensures.value c.push_next.ensures.text c.lines.invariant.clear in
    let left = left_of c.lines.window (g.F.Shelf.rest c.lines.shelf) in
    let left' = left_of c.match_piece.new.window (g.F.Shelf.rest c.match_piece.new.shelf) in
    record {
      agrees =
          agrees-more c.args.lines.text (left_of c.args.window.now (g.F.Shelf.rest c.args.shelf.now)) c.lines.lines.text
          left c.lines.at c.lines.invariant.agrees c.as_slice.result.now c.push_next.new.self.text left' _ piece
          (subst (λ o. Matches c.as_slice.result.now left left' o) c.in_default.is c.in_ok-k.ensures.place)
          (omega (arith, c.len.ensures.value, ap length c.as_slice.ensures.value));
      clear = search rules;
      room = omega (
        arith,
        c.len.ensures.value,
        c.push_next.ensures.short,
        c.push_next.ensures.fewer c.lines-test.true,
        ap length c.lines.invariant.clear,
        c.lines.invariant.room,
      );
      not_ended = search rules;
      told = search rules;
      files = search rules;
      opens = search rules;
      calm = search rules;
      in_time = search rules;
    }

pub returns-in-Some-2-clause-place : goal.returns-in-Some-2-clause-place
returns-in-Some-2-clause-place g c =
    let left = left_of c.lines.window (g.F.Shelf.rest c.lines.shelf) in
    let left' = left_of c.next.new.self (g.F.Shelf.rest c.next.new.shelf) in
    differs-end c.args.lines.text (left_of c.args.window.now (g.F.Shelf.rest c.args.shelf.now)) c.lines.lines.text
    left c.lines.at c.lines.invariant.agrees c.in-Some-2.field-0 left' (c.push_next.ensures.ended c.lines-test.false).0
    (subst (λ o. Gives o left left') c.in-Some-2.is c.in_ok-next.ensures.byte)

pub returns-in-None-clause-place : goal.returns-in-None-clause-place
returns-in-None-clause-place g c =
    let left = left_of c.lines.window (g.F.Shelf.rest c.lines.shelf) in
    let left' = left_of c.next.new.self (g.F.Shelf.rest c.next.new.shelf) in
    differs-nowhere c.args.lines.text (left_of c.args.window.now (g.F.Shelf.rest c.args.shelf.now)) c.lines.lines.text
    left c.lines.at c.lines.invariant.agrees left' (c.push_next.ensures.ended c.lines-test.false).0
    (subst (λ o. Gives o left left') c.in-None.is c.in_ok-next.ensures.byte)

-- As the rounds answer.
use Rattle.std.proofs.Common.{ℕ, ◌↔◌, IsTrue, false, refl, sym, subst, arith}
use Rattle.std.specs.Prelude.{All}
use Rattle.std.proofs.lemmas.Bool.{both_ways}
use Rattle.mosaic_laws.specs.Tile.{IsTile}
use Rattle.mosaic_rounds.specs.BorderPoints.{has_split}
use Rattle.mosaic_rounds.specs.Place.{IsBorderPlace, IsSaidBy}
use Rattle.roam_embed.specs.declared.answer.Answer.TheVariants.{OutsideGrid}
use Rattle.roam_embed.specs.Mosaics.{IsBorderKept}
use Rattle.roam_embed.proofs.MosaicLemmas.{kept-outside, kept-shrunk, kept-done}
use Rattle.roam_embed.proofs.mosaic.put_tile.Goals as goal
use Rattle.roam_embed.proofs.mosaic.put_tile.Goals.{in-Ok, in-Err}

pub returns-then-not-put : goal.returns-then-not-put
returns-then-not-put c =
    subst (λ b. IsBorderKept b c.mosaic.inside.rounds (record { x = c.args.column; y = c.args.row }) c.args.border.now
    OutsideGrid) c.mosaic.view_is
    (kept-outside c.mosaic.inside.rounds (record { x = c.args.column; y = c.args.row }) c.args.border.now
    (λ all. both_ways c.put.result c.if-not-put.true (c.put.ensures.taken.1
    (subst (λ n. All (IsBorderPlace n) c.args.border.now) (sym c.mosaic.invariant.0) all))))

pub returns : goal.returns
returns c =
    let tile : IsTile c.mosaic.inside.rounds.columns c.mosaic.inside.rounds.rows
    (record { x = c.args.column; y = c.args.row }) =
    (let less = c.if-column-columns.false in let less' = c.if-row-rows.false in
    let columns = c.columns.ensures.value in let rows = c.rows.ensures.value in
    record { column = omega arith; row = omega arith }) in
    let all : All (IsBorderPlace c.mosaic.inside.rounds.n) c.args.border.now =
    subst (λ n. All (IsBorderPlace n) c.args.border.now) c.mosaic.invariant.0
    (c.put.ensures.taken.0 c.if-not-put.false) in
    let says : (a : ℕ) → IsTrue (has_split c.put.new.self a) ↔ IsSaidBy c.mosaic.inside.rounds.n c.args.border.now a =
    subst (λ n. (a : ℕ) → IsTrue (has_split c.put.new.self a) ↔ IsSaidBy n c.args.border.now a) c.mosaic.invariant.0
    (c.put.ensures.says c.if-not-put.false) in
    subst (λ b. IsBorderKept b c.put_border.new.self (record { x = c.args.column; y = c.args.row }) c.args.border.now
    c.match-put_border.result) c.mosaic.view_is
    (elim c.match-put_border.branch [
      | in-Ok w ↦
          subst (IsBorderKept c.mosaic.inside.rounds c.put_border.new.self
          (record { x = c.args.column; y = c.args.row }) c.args.border.now) (sym w.result-is)
          (kept-done c.mosaic.inside.rounds (record { x = c.args.column; y = c.args.row }) c.args.border.now
          c.put_border.new.self c.put.new.self tile all says c.put_border.ensures.others c.put_border.ensures.columns
          c.put_border.ensures.rows c.put_border.ensures.n c.put_border.ensures.turn
          (λ lost. both_ways false refl (w.in-Ok.ensures.shrunk.1 lost)) w.in-Ok.ensures.ok)
      | in-Err w ↦
          subst (IsBorderKept c.mosaic.inside.rounds c.put_border.new.self
          (record { x = c.args.column; y = c.args.row }) c.args.border.now) (sym w.result-is)
          (kept-shrunk c.mosaic.inside.rounds (record { x = c.args.column; y = c.args.row }) c.args.border.now
          c.put_border.new.self c.put.new.self tile all says c.put_border.ensures.others c.put_border.ensures.columns
          c.put_border.ensures.rows c.put_border.ensures.n c.put_border.ensures.turn
          (w.in-Err.ensures.shrunk.0 refl) w.in-Err.ensures.err)
    ])

-- As the rounds answer.
use Rattle.std.proofs.Common.{true, refl, subst}
use Rattle.std.proofs.lemmas.Bool.{both_ways}
use Rattle.roam_embed.specs.declared.answer.Answer.TheVariants.{Done}
use Rattle.roam_embed.specs.Mosaics.{IsNextTold}
use Rattle.roam_embed.proofs.MosaicLemmas.{next-none, next-some}
use Rattle.roam_embed.proofs.mosaic.next_tile.Goals as goal

pub returns-in_default : goal.returns-in_default
returns-in_default c =
    subst (λ b. IsNextTold b c.next.new.self (record { column = 0; row = 0; waits = 0; spare = 0 }) Done)
    c.mosaic.view_is
    (next-none c.mosaic.inside.rounds c.next.new.self
    (record {
      columns = c.next.ensures.columns;
      rows = c.next.ensures.rows;
      n = c.next.ensures.n;
      splits = c.next.ensures.splits;
    })
    (c.in_default.ensures.none.0 refl) c.in_default.ensures.same)

pub returns : goal.returns
returns c =
    subst (λ b. IsNextTold b c.next.new.self (record { column = c.in-Some.t.x; row = c.in-Some.t.y; waits = 1; spare = 0 })
    Done) c.mosaic.view_is
    (next-some c.mosaic.inside.rounds c.next.new.self
    (record {
      columns = c.next.ensures.columns;
      rows = c.next.ensures.rows;
      n = c.next.ensures.n;
      splits = c.next.ensures.splits;
    })
    c.in-Some.t (λ settled. both_ways true (c.in-Some.ensures.none.1 settled) refl) c.in-Some.ensures.tile
    c.in-Some.ensures.order c.in-Some.ensures.turn)

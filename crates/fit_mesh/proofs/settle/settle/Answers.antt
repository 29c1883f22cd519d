-- The children of one member more; and at the end those of all.
use Rattle.std.proofs.Common.{◌≡◌, ℕ, ◌<◌, List, length, take, length-append, refl, sym, ◌∙◌, subst, ap, arith}
use Rattle.std.proofs.lemmas.List.{take_all}
use Rattle.mesh_defs.specs.ClosedSet.{among}
use Rattle.mesh_laws.specs.Sweep.{is_flagged}
use Rattle.fit_mesh.specs.Limit.{tolerance_of, error_within}
use Rattle.fit_mesh.specs.Grown.{AreSettled}
use Rattle.fit_mesh.specs.Splits.{IsSettledIn}
use Rattle.fit_mesh.proofs.ForceLemmas.{extends-same, extends-extends}
use Rattle.fit_mesh.proofs.SettleLemmas.{entry-flagged, asked-next, asked-none, least-next}
use Rattle.fit_mesh.proofs.settle.settle.Goals as goal

pub loop-next-init : goal.loop-next-init
loop-next-init c = record {
  flags = refl;
  capacity = refl;
  place = omega arith;
  log = λ before logged. logged;
  kept = extends-same c.args.log.now.items;
  closed = c.requires.closed;
  more = λ a is. is;
  least = λ other closed inside settled. inside;
  asked = asked-none c.args.grid.now.n (error_within c.args.grid.now.n c.args.grid.now.heights c.args.limit)
      (tolerance_of c.args.limit) (is_flagged c.args.flags.now);
}

pub ask_pair-requires-clause-log : goal.ask_pair-requires-clause-log
ask_pair-requires-clause-log c =
    (c.requires.log.0, c.loop-next.invariant.log c.requires.log.0 c.requires.log.1)

pub ask_pair-requires-clause-member : goal.ask_pair-requires-clause-member
ask_pair-requires-clause-member c =
    let log : List ℕ = c.loop-next.log.items in
    let t : ℕ = c.index-t.result.now in
    let below : c.loop-next.next < length log = omega arith in
    entry-flagged c.requires.log.0 c.loop-next.flags log c.loop-next.next t
    (c.loop-next.invariant.log c.requires.log.0 c.requires.log.1) below c.index-t.ensures

pub ask_pair-requires-clause-splittable : goal.ask_pair-requires-clause-splittable
ask_pair-requires-clause-splittable c =
    c.loop-next.invariant.closed.splittable c.index-t.result.now (ask_pair-requires-clause-member c)

pub loop-next-preserved : goal.loop-next-preserved
loop-next-preserved c =
    let n : ℕ = c.args.grid.now.n in
    let i = c.loop-next.invariant in
    let log : List ℕ = c.loop-next.log.items in
    let next : List ℕ = c.ask_pair.new.log.items in
    let below : c.loop-next.next < length log = omega arith in
    let more = ap (λ (l : List ℕ). length l) c.ask_pair.ensures.kept.1 in
    let sum = length-append log c.ask_pair.ensures.kept.0 in
    let t : ℕ = c.index-t.result.now in
    let member = entry-flagged c.requires.log.0 c.loop-next.flags log c.loop-next.next t
    (i.log c.requires.log.0 c.requires.log.1) below c.index-t.ensures in
    record {
      flags = c.ask_pair.ensures.flags ∙ i.flags;
      capacity = c.ask_pair.ensures.capacity ∙ i.capacity;
      place = omega arith;
      log = λ before logged. c.ask_pair.ensures.log before (i.log before logged);
      kept = extends-extends c.args.log.now.items log next i.kept c.ask_pair.ensures.kept;
      closed = c.ask_pair.ensures.closed;
      more = λ a is. c.ask_pair.ensures.more a (i.more a is);
      least = least-next n (error_within n c.args.grid.now.heights c.args.limit) (tolerance_of c.args.limit)
          (is_flagged c.args.flags.now) (is_flagged c.loop-next.flags) (is_flagged c.ask_pair.new.flags) log next
          c.loop-next.next t c.ask_pair.ensures.kept below c.index-t.ensures (i.closed.splittable t member) member i.least
          c.ask_pair.ensures.least;
      asked = asked-next n (error_within n c.args.grid.now.heights c.args.limit) (tolerance_of c.args.limit)
          (is_flagged c.loop-next.flags) (is_flagged c.ask_pair.new.flags) log next c.loop-next.next t
          c.ask_pair.ensures.more c.ask_pair.ensures.kept below c.index-t.ensures i.asked c.ask_pair.ensures.settled;
    }

pub returns-clause-log : goal.returns-clause-log
returns-clause-log c before logged = c.loop-next.invariant.log before logged

pub returns-clause-settled : goal.returns-clause-settled
returns-clause-settled c few =
    let n : ℕ = c.args.grid.now.n in
    let log : List ℕ = c.loop-next.log.items in
    let all : take c.loop-next.next log ≡ log = take_all c.loop-next.next log (omega arith) in
    subst (λ (l : List ℕ). AreSettled n (error_within n c.args.grid.now.heights c.args.limit) (tolerance_of c.args.limit)
    (is_flagged c.loop-next.flags) l) all c.loop-next.invariant.asked

pub returns-clause-least : goal.returns-clause-least
returns-clause-least c few other closed inside settled =
    let n : ℕ = c.args.grid.now.n in
    let log : List ℕ = c.loop-next.log.items in
    let all : take c.loop-next.next log ≡ log = take_all c.loop-next.next log (omega arith) in
    c.loop-next.invariant.least other closed inside
    (subst (λ (l : List ℕ). IsSettledIn n (error_within n c.args.grid.now.heights c.args.limit)
    (tolerance_of c.args.limit) (among l) other) (sym all) settled)

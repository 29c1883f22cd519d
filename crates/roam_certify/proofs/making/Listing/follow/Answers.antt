-- A turn lists the causes of the next one.
use Rattle.std.proofs.Common.{◌<◌, length, arith}
use Rattle.roam_certify.proofs.MakingLemmas.{named-at, queue-next, grown-trans, length-grown}
use Rattle.roam_certify.proofs.making.Listing.follow.Goals as goal

pub push_causes-requires-clause-named : goal.push_causes-requires-clause-named
push_causes-requires-clause-named c =
    let within : c.loop-next.next < length c.loop-next.self.reasons.items =
    (let less = c.loop-next-test.true in let same = c.len.ensures in omega arith) in
    named-at c.loop-next.self.reasons.items c.loop-next.next c.index.result.now within c.index.ensures

pub loop-next-preserved : goal.loop-next-preserved
loop-next-preserved c =
    let within : c.loop-next.next < length c.loop-next.self.reasons.items =
    (let less = c.loop-next-test.true in let same = c.len.ensures in omega arith) in
    let grown = c.in_ok-push_causes.ensures.grown in
    record {
      listed = c.in_ok-push_causes.ensures.listed;
      grown = grown-trans c.args.self.now.reasons.items c.loop-next.self.reasons.items c.push_causes.new.self.reasons.items
          c.loop-next.invariant.grown grown;
      queue = queue-next c.args.wants.now c.loop-next.next c.loop-next.self.reasons.items
          c.push_causes.new.self.reasons.items c.index.result.now grown within
          c.index.ensures c.loop-next.invariant.queue c.in_ok-push_causes.ensures.causes;
      reached =
          (let more = length-grown c.loop-next.self.reasons.items c.push_causes.new.self.reasons.items grown in omega arith);
    }

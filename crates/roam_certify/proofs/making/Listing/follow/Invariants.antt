-- The causes of the first ones are listed; a turn takes one of at most `limit` reasons.
use Rattle.std.proofs.Common.{◌-◌, ◌≤◌, length}
use Rattle.roam_certify.specs.Making.{IsListed, AreGrownReasons, IsQueue}
use Rattle.roam_certify.proofs.making.Listing.follow.Given as goal

abbrev pub invariant-loop-next : goal.invariant-loop-next
invariant-loop-next l = record {
  listed : IsListed l.wants l.self;
  grown : AreGrownReasons l.fn.self.reasons.items l.self.reasons.items;
  queue : IsQueue l.wants l.next l.self.reasons.items;
  reached : l.next ≤ length l.self.reasons.items;
}

abbrev pub decreases-loop-next : goal.decreases-loop-next
decreases-loop-next l = l.wants.limit - l.next

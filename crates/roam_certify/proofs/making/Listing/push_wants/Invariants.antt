-- What is wanted below the counter is listed.
use Rattle.roam_certify.specs.Making.{IsListed, AreWanted}
use Rattle.roam_certify.proofs.making.Listing.push_wants.Given as goal

abbrev pub invariant-loop-number : goal.invariant-loop-number
invariant-loop-number l = record {
  listed : IsListed l.wants l.self;
  wanted : AreWanted l.wants l.number l.self.reasons.items;
}

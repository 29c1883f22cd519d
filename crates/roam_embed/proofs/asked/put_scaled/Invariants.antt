use Rattle.std.proofs.Common.{◌≡◌, map, take, vec_capacity}
use Rattle.roam_embed.specs.Asked.{own_tolerance_of}
use Rattle.roam_embed.proofs.asked.put_scaled.Given as goal

abbrev pub invariant-loop-own : goal.invariant-loop-own
invariant-loop-own l = record {
  scaled : l.room.items ≡ map (own_tolerance_of l.n) (take l.own-index l.tolerances);
  capacity : vec_capacity l.room ≡ vec_capacity l.fn.room;
}

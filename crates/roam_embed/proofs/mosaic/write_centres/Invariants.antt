-- The places of the centres so far stand in the first places.
use Rattle.std.proofs.Common.{◌≡◌, ◌++◌, map, take, drop}
use Rattle.mosaic_rounds.specs.Place.{centre_place}
use Rattle.roam_embed.proofs.mosaic.write_centres.Given as goal

abbrev pub invariant-loop-k : goal.invariant-loop-k
invariant-loop-k l = l.out ≡ map (centre_place l.fn.n) (take l.k l.triangles) ++ drop l.k l.initial.out

-- The places so far.
use Rattle.std.proofs.Common.{◌≡◌, ℕ, ◌<◌, length}
use Rattle.std.specs.Prelude.{slice_index}
use Rattle.mesh_defs.specs.HeightField.{place_of}
use Rattle.mesh_cover.specs.Conforming.{corner_in}
use Rattle.tin_mesh.proofs.judging.places_of.Given as goal

abbrev pub invariant-loop-h : goal.invariant-loop-h
invariant-loop-h l = record {
  count : length l.places.items ≡ l.h;
  place : (k : ℕ) → k < l.h → slice_index l.places.items k
      ≡ place_of l.n (corner_in l.points l.corners k).x (corner_in l.points l.corners k).y;
}

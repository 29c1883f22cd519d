use Rattle.std.proofs.Common.{◌≡◌, ◌-◌, ◌*◌, ◌≤◌, filter, vec_capacity}
use Rattle.std.specs.List.{range_with_len}
use Rattle.mesh_defs.specs.HeightField.{side_of}
use Rattle.roam_embed.specs.Border.{is_border_vertex}
use Rattle.roam_embed.proofs.border.list_border.Given as goal

abbrev pub invariant-loop-place : goal.invariant-loop-place
invariant-loop-place l = record {
  within : l.place ≤ side_of l.set.n * side_of l.set.n;
  listed : l.border.items ≡ filter (is_border_vertex l.set.n l.set.leaves) (range_with_len 0 l.place);
  capacity : vec_capacity l.border ≡ vec_capacity l.fn.border;
}

abbrev pub decreases-loop-place : goal.decreases-loop-place
decreases-loop-place l = side_of l.set.n * side_of l.set.n - l.place

-- The grown set has fewer than 2 ^ 30 members.
use Rattle.std.proofs.Common.{◌≤◌, ◌^◌, length, rules}
use Rattle.mesh_defs.specs.ClosedSet.{among}
use Rattle.mesh_defs.specs.Greedy.{with_triangle}
use Rattle.mesh_laws.proofs.SizeLemmas.{length-grown}
use Rattle.diamond_rel.proofs.split.Split.split_forced.Goals as goal

pub overflow_cast-gain : goal.overflow_cast-gain
overflow_cast-gain c =
    let few : length c.force.new.members.items ≤ 2 ^ 30 =
    length-grown c.self.inside.n (with_triangle (among c.in_ok-grown.grown.items) c.args.t) c.force.new.members.items
    c.self.invariant.n_low c.self.invariant.n_high c.in_ok-force.ensures.ascending c.in_ok-force.ensures.least in
    search rules

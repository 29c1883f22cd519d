-- The grown set has fewer than 2 ^ 30 members.
use Rattle.std.proofs.Common.{◌-◌, ◌≤◌, ◌^◌, length, subst, rules}
use Rattle.mesh_defs.specs.ClosedSet.{among}
use Rattle.mesh_defs.specs.Greedy.{with_triangle}
use Rattle.mesh_defs.specs.GridSet.{GridSet, IsGridSet, IsGain}
use Rattle.mesh_laws.proofs.MemberLemmas.{gain-member}
use Rattle.mesh_laws.proofs.SizeLemmas.{length-grown}
use Rattle.diamond_rel.proofs.split.Split.gain.Goals as goal

pub overflow_cast-result : goal.overflow_cast-result
overflow_cast-result c =
    let few : length c.force.new.members.items ≤ 2 ^ 30 =
    length-grown c.self.inside.n (with_triangle (among c.in_ok-scratch.scratch.items) c.args.t)
    c.force.new.members.items
    c.self.invariant.n_low c.self.invariant.n_high c.in_ok-force.ensures.ascending c.in_ok-force.ensures.least in
    search rules

pub returns-clause-member : goal.returns-clause-member
returns-clause-member c is =
    let ok : IsGain c.args.self.now.n c.args.self.now.members c.args.t (c.len.result - c.len-2.result) = search rules in
    let valid : IsGridSet c.args.self.now.n c.args.self.now.members =
    subst (λ (z : GridSet). IsGridSet z.n z.members) c.self.view_is c.self.invariant in
    gain-member c.args.self.now.n c.args.self.now.members c.args.t (c.len.result - c.len-2.result) valid is ok

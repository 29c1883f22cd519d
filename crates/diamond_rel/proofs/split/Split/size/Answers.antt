-- A closed set of a grid has at most 2 ^ 30 members, and two leaves more.
use Rattle.std.proofs.Common.{◌≡◌, ◌+◌, ◌≤◌, ◌^◌, ◌∙◌, length, ap, sym, subst, rules}
use Rattle.mesh_defs.specs.GridSet.{GridSet, IsGridSet}
use Rattle.mesh_laws.proofs.SizeLemmas.{length-members, length-leaves_of}
use Rattle.diamond_rel.proofs.split.Split.size.Goals as goal

pub overflow_cast-result : goal.overflow_cast-result
overflow_cast-result c =
    let few : length c.self.inside.members.items ≤ 2 ^ 30 =
    length-members c.self.inside.n c.self.inside.members.items c.self.invariant in
    search rules

pub returns-clause-leaves : goal.returns-clause-leaves
returns-clause-leaves c =
    let value : c.len.result ≡ length c.args.self.now.members = search rules in
    let valid : IsGridSet c.args.self.now.n c.args.self.now.members =
    subst (λ (z : GridSet). IsGridSet z.n z.members) c.self.view_is c.self.invariant in
    length-leaves_of c.args.self.now.n c.args.self.now.members valid.ascending valid.closed
    ∙ ap (λ k. k + 2) (sym value)

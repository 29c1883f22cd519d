-- The leaves are conforming, since the set is closed.
use Rattle.std.proofs.Common.{◌≡◌, ℕ, ◌+◌, ◌∙◌, List, length, ap, subst, sym, rules}
use Rattle.mesh_defs.specs.Tiling.{IsConforming}
use Rattle.mesh_defs.specs.ClosedSet.{leaves_of, among}
use Rattle.mesh_defs.specs.GridSet.{IsGridSet, GridSet}
use Rattle.mesh_laws.proofs.SizeLemmas.{length-leaves_of}
use Rattle.diamond_rel.proofs.split.Split.leaves.Goals as goal

-- the leaves of a set are conforming and are two more than its members
conforming : (s : GridSet) (items : List ℕ) → IsConforming s.n (leaves_of s.n (among s.members)) →
    items ≡ leaves_of s.n (among s.members) → IsConforming s.n items
conforming s items g e = subst (λ (l : List ℕ). IsConforming s.n l) (sym e) g

count : (s : GridSet) (items : List ℕ) → IsGridSet s.n s.members → items ≡ leaves_of s.n (among s.members) →
    length items ≡ length s.members + 2
count s items g e = ap length e ∙ length-leaves_of s.n s.members g.ascending g.closed

pub returns-clause-count : goal.returns-clause-count
returns-clause-count c =
    let value : c.push_all_leaves.new.out.items ≡ leaves_of c.args.self.now.n (among c.args.self.now.members) =
    search rules in
    count c.args.self.now c.push_all_leaves.new.out.items
    (subst (λ (z : GridSet). IsGridSet z.n z.members) c.self.view_is c.self.invariant) value

pub returns-clause-conforming : goal.returns-clause-conforming
returns-clause-conforming c =
    let value : c.push_all_leaves.new.out.items ≡ leaves_of c.args.self.now.n (among c.args.self.now.members) =
    search rules in
    let valid : IsGridSet c.args.self.now.n c.args.self.now.members =
    subst (λ (z : GridSet). IsGridSet z.n z.members) c.self.view_is c.self.invariant in
    conforming c.args.self.now c.push_all_leaves.new.out.items
    (c.conformity_laws.ensures.conforming c.args.self.now.n (among c.args.self.now.members) valid.closed) value

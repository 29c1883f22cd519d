use Rattle.std.proofs.Common.{◌*◌, sym, ◌∙◌, ap, arith}
use Rattle.roam_mesh.specs.Parts.{parts_of}
use Rattle.roam_mesh.proofs.PoolChangeLemmas.{pairs_counted, whole_repooled, root_kept}
use Rattle.roam_mesh.proofs.parts.Parts.split_pool.Goals as goal

pub invariant_of-self : goal.invariant_of-self
invariant_of-self c =
    let own = c.self.invariant in
    let pool = c.carry_out-answers.new.pool in
    let count = pairs_counted pool c.leaf_count-leaves.result c.leaf_count-leaves.ensures.valid
    c.leaf_count-leaves.ensures.value c.leaf_count-leaves.ensures.leaves in
    let root = root_kept c.self.inside.pool.pairs pool.pairs own.0.root
    (c.carry_out-answers.ensures.kept 0 (let r = own.0.root in omega arith)) in
    let whole = whole_repooled (parts_of c.self.inside.pool c.self.inside.entries.items c.self.inside.split_queue
    c.self.inside.merge_queue c.self.inside.deadlines
    c.self.inside.asked.items c.self.inside.asked_count c.self.inside.fresh.items c.self.inside.fresh_count) pool own.0
    c.carry_out-answers.ensures.most count root in
    let same = whole.1 in
    (whole.0, (own.1.0 ∙ ap (λ z. 2 * z) (sym same), own.1.1), (own.2.0 ∙ ap (λ z. 2 * z) (sym same), own.2.1))

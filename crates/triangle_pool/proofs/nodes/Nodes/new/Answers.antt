use Rattle.std.proofs.Common.{◌∙◌, ap, sym, length}
use Rattle.std.proofs.lemmas.List.{length-replicate}
use Rattle.triangle_pool.proofs.NewLemmas.{first_of, first_mesh}
use Rattle.triangle_pool.proofs.nodes.Nodes.new.Goals as goal

pub invariant_of-result : goal.invariant_of-result
invariant_of-result c = first_mesh c.args.n _ _ _ c.requires.n.0 c.requires.n.1
    (first_of c.args.how_many c.in_ok-pairs.pairs.items c.in_ok-parents.parents.items c.in_ok-nodes.nodes.items
    c.half-2.result c.half-3.result c.requires.some c.requires.few
    (c.in_ok-pairs.ensures.items_if_clones_equal (λ y h. h))
    (ap length (c.in_ok-parents.ensures.items_if_clones_equal (λ y h. h)) ∙ length-replicate c.args.how_many 0)
    (sym c.in_ok-nodes.nodes.ok.0 ∙ c.in_ok-nodes.ensures.len) c.half-2.ensures c.half-3.ensures)

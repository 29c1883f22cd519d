use Rattle.mesh_laws.specs.Slots.{address_at}
use Rattle.triangle_pool.proofs.MergeLemmas.{partner_link}
use Rattle.triangle_pool.proofs.nodes.Nodes.partner.Goals as goal

pub returns-clause-some : goal.returns-clause-some
returns-clause-some c =
    (partner_link c.args.self.now.n c.args.self.now.pairs (address_at c.args.self.now.pairs c.args.s) c.base.result
    c.n-n.ensures.valid c.requires.live c.requires.split c.n-n.ensures.short c.base.ensures.base).1

pub returns-clause-none : goal.returns-clause-none
returns-clause-none c =
    (partner_link c.args.self.now.n c.args.self.now.pairs (address_at c.args.self.now.pairs c.args.s) c.base.result
    c.n-n.ensures.valid c.requires.live c.requires.split c.n-n.ensures.short c.base.ensures.base).0

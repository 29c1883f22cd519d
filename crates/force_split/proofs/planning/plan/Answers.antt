use Rattle.std.proofs.Common.{sym, subst}
use Rattle.mesh_laws.specs.Slots.{address_at}
use Rattle.force_split.specs.Chain.{IsGainOf}
use Rattle.force_split.proofs.GainLemmas.{chain_gain, gain_members}
use Rattle.force_split.proofs.planning.plan.Goals as goal

pub returns-clause-gain : goal.returns-clause-gain
returns-clause-gain c =
    let found = c.extend-gain.ensures.chain in
    subst (IsGainOf c.args.pool.now.n c.args.pool.now.pairs (address_at c.args.pool.now.pairs c.args.s.0)) (sym found.3)
    (chain_gain c.args.pool.now.n c.args.pool.now.pairs c.args.s.0 found.0 c.tri.ensures.valid
    found.2 c.requires.coarse)

pub returns-clause-members : goal.returns-clause-members
returns-clause-members c = λ members after ascending same forced.
    let found = c.extend-gain.ensures.chain in
    gain_members c.args.pool.now.n c.args.pool.now.pairs members after
    (address_at c.args.pool.now.pairs c.args.s.0) c.extend-gain.result c.tri.ensures.valid
    (subst (IsGainOf c.args.pool.now.n c.args.pool.now.pairs (address_at c.args.pool.now.pairs c.args.s.0))
    (sym found.3)
    (chain_gain c.args.pool.now.n c.args.pool.now.pairs c.args.s.0 found.0 c.tri.ensures.valid found.2
    c.requires.coarse)) ascending same forced

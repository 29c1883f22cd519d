use Rattle.deferred_loop.proofs.ChoiceLemmas.{end_split}
use Rattle.deferred_loop.proofs.choice.choose_without.Goals as goal

pub returns-in-None-clause-next : goal.returns-in-None-clause-next
returns-in-None-clause-next g c =
    let s = g.M.QueuedMesh.seen c.args.mesh.now in
    let settled = c.requires.1.1.1.1.0 in
    end_split g.w.n g.w.priority c.requires.1.1.0.falling g.w.budget c.requires.1.1.0.low s.set.members settled.valid
    c.requires.1.1.1.1.1.0 c.requires.1.1.1.1.1.1 c.in-None.ensures.last

use Rattle.std.proofs.Common.{◌≡◌, false, sym, ap₂, subst}
use Rattle.mesh_defs.specs.ClosedSet.{among}
use Rattle.mesh_laws.specs.Deferred.{IsEntry}
use Rattle.deferred_loop.specs.Seen.{IsRated}
use Rattle.deferred_loop.proofs.asking.ask.Goals as goal

pub tell-requires-clause-entry : goal.tell-requires-clause-entry
tell-requires-clause-entry g c =
    subst (λ z. IsEntry (g.M.QueuedMesh.seen c.args.mesh.now).set.n
    (among (g.M.QueuedMesh.seen c.args.mesh.now).set.members) z)
    (sym c.rank-rank.ensures.tri) c.requires.entry

pub tell-requires-clause-unknown : goal.tell-requires-clause-unknown
tell-requires-clause-unknown g c =
    subst (λ z. (g.M.QueuedMesh.seen c.args.mesh.now).known z ≡ false) (sym c.rank-rank.ensures.tri)
    c.requires.unknown

pub returns-clause-known : goal.returns-clause-known
returns-clause-known g c =
    subst (IsRated (g.M.QueuedMesh.seen c.args.mesh.now) (g.M.QueuedMesh.seen c.tell.new.self))
    (ap₂ (λ p t. record { p = p; tri = t }) c.rank-rank.ensures.value c.rank-rank.ensures.tri) c.tell.ensures.told

-- what holds of the parts holds of them on the heap
use Rattle.std.proofs.Common.{◌≡◌, ℕ, false, None, Some, [], sym, subst}
use Rattle.mesh_laws.specs.Slots.{split_set}
use Rattle.deferred_loop.specs.Seen.{IsQuiet}
use Rattle.roam_mesh.specs.Mesh.{stamp_of}
use Rattle.roam_mesh.specs.Parts.{QueuedState, mesh_of, seen_parts}
use Rattle.roam_mesh.proofs.MeshLemmas.{blank_quiet, blank_stamps, base_set}
use Rattle.roam_mesh.proofs.mesh.Mesh.make.Goals as goal

pub invariant_of-result : goal.invariant_of-result
invariant_of-result c = subst (λ (q : QueuedState). IsQuiet (seen_parts q.parts)) (sym c.in_ok-new.ensures.ok)
    (blank_quiet c.in_ok-parts.parts c.in_ok-parts.ensures.entries c.in_ok-parts.ensures.fresh)

pub returns-clause-n : goal.returns-clause-n
returns-clause-n c =
    subst (λ (q : QueuedState). q.parts.pool.n ≡ c.args.n) (sym c.in_ok-new.ensures.ok) c.in_ok-parts.ensures.n

pub returns-clause-most : goal.returns-clause-most
returns-clause-most c = subst (λ (q : QueuedState). q.parts.pool.most ≡ c.args.leaves) (sym c.in_ok-new.ensures.ok)
    c.in_ok-parts.ensures.most

pub returns-clause-base : goal.returns-clause-base
returns-clause-base c =
    subst (λ (q : QueuedState). (a : ℕ) → split_set q.parts.pool.pairs a ≡ false) (sym c.in_ok-new.ensures.ok)
    (base_set c.in_ok-parts.parts.pool.pairs c.in_ok-parts.ensures.base)

pub returns-clause-splits : goal.returns-clause-splits
returns-clause-splits c =
    subst (λ (q : QueuedState). q.parts.pool.splits ≡ 0) (sym c.in_ok-new.ensures.ok) c.in_ok-parts.ensures.splits

pub returns-clause-merges : goal.returns-clause-merges
returns-clause-merges c =
    subst (λ (q : QueuedState). q.parts.pool.merges ≡ 0) (sym c.in_ok-new.ensures.ok) c.in_ok-parts.ensures.merges

pub returns-clause-stamps : goal.returns-clause-stamps
returns-clause-stamps c =
    subst (λ (q : QueuedState). (a : ℕ) → stamp_of (mesh_of q.parts q.log) a ≡ None) (sym c.in_ok-new.ensures.ok)
    (blank_stamps c.in_ok-parts.parts c.in_ok-log.log c.in_ok-parts.ensures.entries)

pub returns-clause-log : goal.returns-clause-log
returns-clause-log c =
    subst (λ (q : QueuedState). q.log ≡ record { changed = Some []; room = c.args.leaves }) (sym c.in_ok-new.ensures.ok)
    c.in_ok-log.ensures

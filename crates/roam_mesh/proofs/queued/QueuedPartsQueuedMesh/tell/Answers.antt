use Rattle.std.proofs.Common.{◌≡◌, true, false, [], sym, ◌∙◌, ap, subst, ⊎_elim}
use Rattle.std.proofs.lemmas.Bool.{both_ways}
use Rattle.mesh_defs.specs.ClosedSet.{among}
use Rattle.mesh_laws.specs.Slots.{address_at, IsLive}
use Rattle.mesh_laws.specs.Deferred.{IsEntry}
use Rattle.deferred_loop.specs.Seen.{IsRated}
use Rattle.roam_mesh.specs.Mesh.{pool_members}
use Rattle.roam_mesh.specs.Parts.{QueuedState, PartsState, IsParts, seen_parts, is_leaf_at, is_ready_at}
use Rattle.roam_mesh.specs.Change.{rated}
use Rattle.roam_mesh.proofs.RoleLemmas.{entry_live, entry_cases}
use Rattle.roam_mesh.proofs.PlacedLemmas.{leaf_present, diamond_present}
use Rattle.roam_mesh.proofs.HeadLemmas.{settled_fresh}
use Rattle.roam_mesh.proofs.ToldLemmas.{entry_told, told_parts, told_seen}
use Rattle.roam_mesh.proofs.queued.QueuedPartsQueuedMesh.tell.Goals as goal

pub set_priority-requires-clause-entry : goal.set_priority-requires-clause-entry
set_priority-requires-clause-entry c =
    let entry : IsEntry c.self.inside.parts.pool.n (among (pool_members c.self.inside.parts.pool)) c.args.rank.tri =
    subst (λ (z : PartsState). IsEntry z.pool.n (among (pool_members z.pool)) c.args.rank.tri)
    (sym (ap (λ (z : QueuedState). z.parts) c.self.view_is)) c.requires.entry in
    let at : address_at c.self.inside.parts.pool.pairs c.args.slot.0 ≡ c.args.rank.tri =
    subst (λ (z : PartsState). address_at z.pool.pairs c.args.slot.0 ≡ c.args.rank.tri)
    (sym (ap (λ (z : QueuedState). z.parts) c.self.view_is)) c.requires.at in
    entry_told c.self.inside.parts c.args.slot.0 c.args.rank.tri c.self.invariant entry at

pub set_priority-requires-clause-leaf : goal.set_priority-requires-clause-leaf
set_priority-requires-clause-leaf c leaf =
    let none : c.self.inside.parts.fresh ≡ [] =
    ap (λ (z : PartsState). z.fresh) (ap (λ (z : QueuedState). z.parts) c.self.view_is)
    ∙ settled_fresh c.args.self.now.parts c.requires.settled in
    leaf_present c.self.inside.parts (among c.self.inside.parts.fresh) c.args.slot.0 c.self.invariant.placed leaf
    (ap (λ l. among l c.args.slot.0) none)

pub set_priority-requires-clause-diamond : goal.set_priority-requires-clause-diamond
set_priority-requires-clause-diamond c leaf =
    let none : c.self.inside.parts.fresh ≡ [] =
    ap (λ (z : PartsState). z.fresh) (ap (λ (z : QueuedState). z.parts) c.self.view_is)
    ∙ settled_fresh c.args.self.now.parts c.requires.settled in
    let entry : IsEntry c.self.inside.parts.pool.n (among (pool_members c.self.inside.parts.pool)) c.args.rank.tri =
    subst (λ (z : PartsState). IsEntry z.pool.n (among (pool_members z.pool)) c.args.rank.tri)
    (sym (ap (λ (z : QueuedState). z.parts) c.self.view_is)) c.requires.entry in
    let at : address_at c.self.inside.parts.pool.pairs c.args.slot.0 ≡ c.args.rank.tri =
    subst (λ (z : PartsState). address_at z.pool.pairs c.args.slot.0 ≡ c.args.rank.tri)
    (sym (ap (λ (z : QueuedState). z.parts) c.self.view_is)) c.requires.at in
    let ready : is_ready_at c.self.inside.parts.pool.pairs c.args.slot.0 ≡ true = ⊎_elim
    (λ (there : is_leaf_at c.self.inside.parts.pool.pairs c.args.slot.0 ≡ true). absurd
    (both_ways (is_leaf_at c.self.inside.parts.pool.pairs c.args.slot.0) leaf there))
    (λ (diamond : (is_leaf_at c.self.inside.parts.pool.pairs c.args.slot.0 ≡ false)
    × (is_ready_at c.self.inside.parts.pool.pairs c.args.slot.0 ≡ true)). diamond.1)
    (entry_cases c.self.inside.parts.pool.pairs c.args.slot.0
    (entry_told c.self.inside.parts c.args.slot.0 c.args.rank.tri c.self.invariant entry at)) in
    diamond_present c.self.inside.parts
    (among c.self.inside.parts.fresh) c.args.slot.0 c.self.invariant.pool c.self.invariant.placed ready
    (λ r. ap (λ l. among l r) none)

pub invariant_of-self : goal.invariant_of-self
invariant_of-self c =
    let none : c.self.inside.parts.fresh ≡ [] =
    ap (λ (z : PartsState). z.fresh) (ap (λ (z : QueuedState). z.parts) c.self.view_is)
    ∙ settled_fresh c.args.self.now.parts c.requires.settled in
    let entry : IsEntry c.self.inside.parts.pool.n (among (pool_members c.self.inside.parts.pool)) c.args.rank.tri =
    subst (λ (z : PartsState). IsEntry z.pool.n (among (pool_members z.pool)) c.args.rank.tri)
    (sym (ap (λ (z : QueuedState). z.parts) c.self.view_is)) c.requires.entry in
    let at : address_at c.self.inside.parts.pool.pairs c.args.slot.0 ≡ c.args.rank.tri =
    subst (λ (z : PartsState). address_at z.pool.pairs c.args.slot.0 ≡ c.args.rank.tri)
    (sym (ap (λ (z : QueuedState). z.parts) c.self.view_is)) c.requires.at in
    subst IsParts (sym c.set_priority.ensures.told)
    (told_parts c.self.inside.parts c.args.slot.0 c.args.rank.p c.set_priority.ensures.whole c.self.invariant none
    (entry_told c.self.inside.parts c.args.slot.0 c.args.rank.tri c.self.invariant entry at))

pub returns-clause-told : goal.returns-clause-told
returns-clause-told c =
    let entry : IsEntry c.self.inside.parts.pool.n (among (pool_members c.self.inside.parts.pool)) c.args.rank.tri =
    subst (λ (z : PartsState). IsEntry z.pool.n (among (pool_members z.pool)) c.args.rank.tri)
    (sym (ap (λ (z : QueuedState). z.parts) c.self.view_is)) c.requires.entry in
    let at : address_at c.self.inside.parts.pool.pairs c.args.slot.0 ≡ c.args.rank.tri =
    subst (λ (z : PartsState). address_at z.pool.pairs c.args.slot.0 ≡ c.args.rank.tri)
    (sym (ap (λ (z : QueuedState). z.parts) c.self.view_is)) c.requires.at in
    let live : IsLive c.self.inside.parts.pool.pairs c.args.slot.0 =
    entry_live c.self.inside.parts.pool.pairs c.args.slot.0
    (entry_told c.self.inside.parts c.args.slot.0 c.args.rank.tri c.self.invariant entry at) in
    let seen : IsRated (seen_parts c.self.inside.parts)
    (seen_parts (rated c.self.inside.parts c.args.slot.0 c.args.rank.p)) c.args.rank =
    told_seen c.self.inside.parts c.args.slot.0 c.args.rank c.set_priority.ensures.whole c.self.invariant.pool live at
    in
    subst (λ (z : PartsState). IsRated (seen_parts z) (seen_parts c.set_priority.new.self) c.args.rank)
    (ap (λ (z : QueuedState). z.parts) c.self.view_is)
    (subst (λ (z : PartsState). IsRated (seen_parts c.self.inside.parts) (seen_parts z) c.args.rank)
    (sym c.set_priority.ensures.told) seen)

use Rattle.std.proofs.Common.{List, ◌≡◌, ℕ, ◌≤◌, true, [], sym, ◌∙◌, ap, subst}
use Rattle.mesh_laws.specs.Slots.{address_at, room_of}
use Rattle.force_split.specs.Chain.{IsGainOf}
use Rattle.deferred_loop.specs.Seen.{IsSplitOf}
use Rattle.deferred_loop.specs.Log.{Log, IsLogged}
use Rattle.std.specs.List.{AllByRecursion}
use Rattle.triangle_pool.specs.declared.pool.Born.{Born}
use Rattle.roam_mesh.specs.Splitting.{born_slots}
use Rattle.roam_mesh.specs.Log.{noted_all, parents_of}
use Rattle.roam_mesh.specs.Mesh.{pool_set}
use Rattle.roam_mesh.specs.Parts.{QueuedState, PartsState, seen_parts, is_leaf_at, IsWhole, IsParts}
use Rattle.roam_mesh.proofs.RoleLemmas.{leaf_from}
use Rattle.roam_mesh.proofs.HeadLemmas.{slot_leaf, settled_fresh}
use Rattle.roam_mesh.proofs.LogLemmas.{split_logged}
use Rattle.roam_mesh.proofs.SplitLaws.{split_room}
use Rattle.roam_mesh.proofs.queued.QueuedPartsQueuedMesh.split.Goals as goal

pub split-born-requires-clause-settled : goal.split-born-requires-clause-settled
split-born-requires-clause-settled c =
    subst (λ (z : PartsState). z.fresh ≡ []) (sym (ap (λ (z : QueuedState). z.parts) c.self.view_is))
    (settled_fresh c.args.self.now.parts c.requires.settled)

pub split-born-requires-clause-leaf : goal.split-born-requires-clause-leaf
split-born-requires-clause-leaf c =
    let valid = subst IsParts (ap (λ (z : QueuedState). z.parts) c.self.view_is) c.self.invariant in
    let leaf =
    slot_leaf c.args.self.now.parts.pool c.args.t.slot.0 c.args.t.tri valid.pool c.requires.leaf c.requires.at in
    subst (λ (z : PartsState). is_leaf_at z.pool.pairs c.args.t.slot.0 ≡ true)
    (sym (ap (λ (z : QueuedState). z.parts) c.self.view_is))
    (leaf_from c.args.self.now.parts.pool.pairs c.args.t.slot.0 leaf)

pub split-born-requires-clause-room : goal.split-born-requires-clause-room
split-born-requires-clause-room c =
    let state = ap (λ z. z.parts) c.self-inside.view_is ∙ (ap (λ (z : QueuedState). z.parts) c.self.view_is) in
    let valid = subst IsParts (ap (λ (z : QueuedState). z.parts) c.self.view_is) c.self.invariant in
    let whole = subst IsWhole state c.self-inside.invariant.0 in
    subst (λ (z : PartsState). (gain : ℕ)
    → IsGainOf z.pool.n z.pool.pairs (address_at z.pool.pairs c.args.t.slot.0) gain
    → gain ≤ room_of z.pool.pairs) (sym (ap (λ (z : QueuedState). z.parts) c.self.view_is))
    (λ gain grows. split_room c.args.self.now.parts.pool c.args.t.tri gain valid.pool c.requires.splittable
    whole.pairs c.requires.room
    (subst (λ t. IsGainOf c.args.self.now.parts.pool.n c.args.self.now.parts.pool.pairs t gain) c.requires.at grows))

pub returns-clause-split : goal.returns-clause-split
returns-clause-split c =
    subst (λ t. IsSplitOf (seen_parts c.args.self.now.parts) (seen_parts c.split-born.new.self) t) c.requires.at
    (subst (λ (z : PartsState). IsSplitOf (seen_parts z) (seen_parts c.split-born.new.self)
    (address_at z.pool.pairs c.args.t.slot.0)) (ap (λ (z : QueuedState). z.parts) c.self.view_is)
    c.split-born.ensures.split)

pub note_split-requires : goal.note_split-requires
note_split-requires c = record {
  low = subst (λ (x : List Born). AllByRecursion (λ r. 4 ≤ address_at c.split-born.new.self.pool.pairs r)
      (born_slots x)) (sym c.deref.ensures.0) c.split-born.ensures.born.low;
}

pub returns-clause-log : goal.returns-clause-log
returns-clause-log c =
    let before = c.self.inside.parts.pool in
    let after = c.split-born.new.self.pool in
    let listed = c.note_split.ensures
    ∙ ap (λ (x : List Born). noted_all c.self.inside.log (parents_of after.pairs x)) c.deref.ensures.0 in
    subst (λ (z : QueuedState). IsLogged (pool_set z.parts.pool)
    (pool_set after) z.log c.note_split.new.self) c.self.view_is
    (subst (λ (z : Log). IsLogged (pool_set before) (pool_set after) c.self.inside.log z) (sym listed)
    (split_logged before after c.split-born.result.items c.self.inside.log c.self.invariant.pool
    c.split-born.ensures.parts.pool c.split-born.ensures.born))

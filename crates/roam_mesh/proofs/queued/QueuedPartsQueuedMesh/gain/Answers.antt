use Rattle.std.proofs.Common.{◌≡◌, ◌+◌, ◌*◌, ℕ, List, ◌≤◌, length, sym, ap, ◌∙◌, subst, arith}
use Rattle.std.proofs.lemmas.List.{length-map}
use Rattle.mesh_defs.specs.ClosedSet.{among}
use Rattle.mesh_defs.specs.GridSet.{IsAscending, IsForced}
use Rattle.mesh_laws.proofs.ExistenceLemmas.{forced_list}
use Rattle.mesh_laws.specs.Slots.{address_at, split_set, HasLeaf}
use Rattle.force_split.specs.Chain.{chain_size}
use Rattle.triangle_pool.specs.Answer.{numbers}
use Rattle.triangle_pool.specs.Slots.{PoolState}
use Rattle.roam_mesh.specs.Mesh.{pool_members}
use Rattle.roam_mesh.specs.Parts.{QueuedState, PartsState, IsParts}
use Rattle.mesh_laws.proofs.SlotLemmas.{among-split_list, split_list-closed}
use Rattle.roam_mesh.proofs.HeadLemmas.{slot_leaf, chain_size-le}
use Rattle.roam_mesh.proofs.queued.QueuedPartsQueuedMesh.gain.Goals as goal

pub plan-requires-clause-leaf : goal.plan-requires-clause-leaf
plan-requires-clause-leaf c =
    let state = ap (λ z. z.parts) c.self-inside.view_is ∙ (ap (λ (z : QueuedState). z.parts) c.self.view_is) in
    let valid = subst IsParts (ap (λ (z : QueuedState). z.parts) c.self.view_is) c.self.invariant in
    subst (λ (p : List ℕ). HasLeaf p c.args.t.slot.0) (sym (ap (λ (z : PartsState). z.pool.pairs) state))
    (slot_leaf c.args.self.now.parts.pool c.args.t.slot.0 c.args.t.tri valid.pool c.requires.leaf c.requires.at)

pub returns-clause-gain : goal.returns-clause-gain
returns-clause-gain c =
    let pool : PoolState = c.args.self.now.parts.pool in
    let state = ap (λ z. z.parts) c.self-inside.view_is ∙ (ap (λ (z : QueuedState). z.parts) c.self.view_is) in
    let valid = subst IsParts (ap (λ (z : QueuedState). z.parts) c.self.view_is) c.self.invariant in
    let set = split_list-closed pool.n pool.pairs valid.pool in
    let next = forced_list pool.n (pool_members pool) c.args.t.tri set.closed c.requires.splittable in
    let planned = subst (λ (z : PoolState). (members after : List ℕ) → IsAscending members →
    ((a : ℕ) → among members a ≡ split_set z.pairs a) →
    IsForced z.n members (address_at z.pairs c.args.t.slot.0) after →
    length after ≡ length members + c.plan.result.gain)
    (ap (λ (z : PartsState). z.pool) state) c.plan.ensures.members in
    record {
      after = next.0;
      forced = next.1;
      grown = planned (pool_members pool) next.0 set.ascending (λ a. among-split_list pool.n pool.pairs a valid.pool)
          (subst (λ t. IsForced pool.n (pool_members pool) t next.0) (sym c.requires.at) next.1);
    }

pub returns-clause-small : goal.returns-clause-small
returns-clause-small c =
    let state = ap (λ z. z.parts) c.self-inside.view_is ∙ (ap (λ (z : QueuedState). z.parts) c.self.view_is) in
    let valid = subst IsParts (ap (λ (z : QueuedState). z.parts) c.self.view_is) c.self.invariant in
    let high = valid.pool.n_high in
    let slots : List ℕ = numbers c.plan.result.slots.items in
    let same : length slots ≡ length c.plan.result.slots.items = length-map c.plan.result.slots.items (λ s. s.0) in
    let count = subst (λ (n : ℕ). length c.plan.result.slots.items ≤ 2 * n) (ap (λ (z : PartsState). z.pool.n) state)
    c.plan.ensures.count in
    let size =
    subst (λ (p : List ℕ). c.plan.result.gain ≡ chain_size p slots) (ap (λ (z : PartsState). z.pool.pairs) state)
    c.plan.ensures.size in
    let most = chain_size-le c.args.self.now.parts.pool.pairs slots in omega (arith, high, same, count, size, most)

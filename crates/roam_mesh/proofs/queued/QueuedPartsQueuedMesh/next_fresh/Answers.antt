use Rattle.std.proofs.Common.{◌≡◌, ℕ, ◌+◌, ◌-◌, ◌≤◌, length, map, reverse, take, List, ◌∷◌, arith, sym, ap, subst, ◌∙◌}
use Rattle.mesh_laws.specs.Slots.{address_at, IsLive}
use Rattle.triangle_pool.specs.Slots.{PoolState}
use Rattle.roam_mesh.specs.Parts.{QueuedState, PartsState}
use Rattle.roam_mesh.proofs.SlotListLemmas.{numbers_last}
use Rattle.roam_mesh.proofs.EnterLemmas.{last_entry, last_next}
use Rattle.roam_mesh.proofs.queued.QueuedPartsQueuedMesh.next_fresh.Goals as goal

pub tri-requires : goal.tri-requires
tri-requires c =
    let m = c.self-inside.inside.0.0 in
    let within : m.fresh_count ≤ length m.fresh.items = c.self-inside.invariant.2.1 in
    let some = c.if-self-eq0.false in
    let view = ap (λ i. i.parts) c.self-inside.view_is in
    let last = numbers_last m.fresh.items (m.fresh_count - 1) c.index.result.now (omega arith) c.index.ensures in
    let count : m.fresh_count - 1 + 1 ≡ m.fresh_count = omega arith in
    let list = ap (λ (p : PartsState). p.fresh) (sym view)
    ∙ ap (λ k. map (λ t. t.0) (take k m.fresh.items)) (sym count) ∙ last in
    record {
      live = subst (λ (p : PoolState). IsLive p.pairs c.index.result.now.0) (ap (λ (p : PartsState). p.pool) (sym view))
          (last_entry c.self.inside.parts
          (map (λ t. t.0) (take (m.fresh_count - 1) m.fresh.items)) c.index.result.now.0 c.self.invariant list);
    }

pub returns : goal.returns
returns c =
    let m = c.self-inside.inside.0.0 in
    let now = c.args.self.now.parts in
    let within : m.fresh_count ≤ length m.fresh.items = c.self-inside.invariant.2.1 in
    let some = c.if-self-eq0.false in
    let view = ap (λ i. i.parts) c.self-inside.view_is ∙ (ap (λ (z : QueuedState). z.parts) c.self.view_is) in
    let last = numbers_last m.fresh.items (m.fresh_count - 1) c.index.result.now (omega arith) c.index.ensures in
    let count : m.fresh_count - 1 + 1 ≡ m.fresh_count = omega arith in
    let rest : List ℕ = map (λ t. t.0) (take (m.fresh_count - 1) m.fresh.items) in
    let list = ap (λ (p : PartsState). p.fresh) (sym view)
    ∙ ap (λ k. map (λ t. t.0) (take k m.fresh.items)) (sym count) ∙ last in
    let value = c.tri.ensures.value ∙ ap (λ (p : PartsState). address_at p.pool.pairs c.index.result.now.0) view in (
      reverse (map (address_at now.pool.pairs) rest),
      last_next now.pool.pairs now.fresh rest c.index.result.now.0 list
          ∙ ap (λ t. t ∷ reverse (map (address_at now.pool.pairs) rest)) (sym value),
    )

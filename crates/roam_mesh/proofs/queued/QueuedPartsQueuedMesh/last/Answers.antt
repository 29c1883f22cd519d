use Rattle.std.proofs.Common.{◌≡◌, ℕ, true, MatchOption, IfSome, Option, [], refl, sym, ◌∙◌, ap, subst}
use Rattle.mesh_defs.specs.ClosedSet.{among}
use Rattle.mesh_laws.specs.Diamond.{CanMerge}
use Rattle.mesh_laws.specs.Slots.{address_at, IsLive}
use Rattle.mesh_laws.specs.Chief.{chief_of}
use Rattle.slot_heap.specs.Keys.{IsEmpty}
use Rattle.merge_queue.specs.Last.{IsLastEntry}
use Rattle.bintree_addr.specs.declared.slot.Slot.{Slot}
use Rattle.deferred_loop.specs.Seen.{IsLastHead}
use Rattle.deferred_loop.specs.declared.queued.Last.{Last}
use Rattle.deferred_loop.specs.declared.queued.Located.{Located}
use Rattle.roam_mesh.specs.contracts.parts.Parts.{the_view}
use Rattle.roam_mesh.specs.declared.queued.QueuedParts.TheInside.{Inside}
use Rattle.roam_mesh.specs.Mesh.{pool_members}
use Rattle.roam_mesh.specs.Parts.{QueuedState, PartsState, IsParts, seen_parts, is_ready_at, worst_rank, diamond_rank}
use Rattle.roam_mesh.specs.Keys.{IsKnownRank, IsUnasked}
use Rattle.roam_mesh.proofs.HeadLemmas.{settled_fresh}
use Rattle.roam_mesh.proofs.LastLemmas.{none_merges, ready_chief, of_live, named_at, last_head}
use Rattle.roam_mesh.proofs.queued.QueuedPartsQueuedMesh.last.Goals as goal
use Rattle.roam_mesh.proofs.queued.QueuedPartsQueuedMesh.last.Goals.{in-Some, in-None}

pub returns-in_err-head-clause-head : goal.returns-in_err-head-clause-head
returns-in_err-head-clause-head c =
    let parts : PartsState = c.args.self.now.parts in
    let is : IsParts c.args.self.now.parts =
    subst IsParts (ap (λ (z : QueuedState). z.parts) c.self.view_is) c.self.invariant in
    let view : the_view c.self-inside.inside.0.0 ≡ c.args.self.now.parts =
    ap (λ (z : Inside). z.parts) c.self-inside.view_is ∙ (ap (λ (z : QueuedState). z.parts) c.self.view_is) in
    let none : c.args.self.now.parts.fresh ≡ [] = settled_fresh c.args.self.now.parts c.requires.settled in
    let empty : IsEmpty c.args.self.now.parts.merge =
    subst (λ (z : PartsState). IsEmpty z.merge) view (c.in_err-head.ensures.empty.0 refl) in
    subst (λ (o : Option Last). MatchOption o ((a : ℕ)
    → CanMerge c.args.self.now.parts.pool.n (among (pool_members c.args.self.now.parts.pool)) a
    → ⊥) (IsLastHead (seen_parts c.args.self.now.parts))) (sym c.from_residual.ensures)
    (none_merges parts is none empty)

pub better_and_unasked-next-requires : goal.better_and_unasked-next-requires
better_and_unasked-next-requires c =
    let parts : PartsState = c.args.self.now.parts in
    let is : IsParts c.args.self.now.parts =
    subst IsParts (ap (λ (z : QueuedState). z.parts) c.self.view_is) c.self.invariant in
    let view : the_view c.self-inside.inside.0.0 ≡ c.args.self.now.parts =
    ap (λ (z : Inside). z.parts) c.self-inside.view_is ∙ (ap (λ (z : QueuedState). z.parts) c.self.view_is) in
    let none : c.args.self.now.parts.fresh ≡ [] = settled_fresh c.args.self.now.parts c.requires.settled in
    let last : IsLastEntry c.args.self.now.parts.merge c.in_ok-head.head c.in_ok-head.rank =
    subst (λ (z : PartsState). IsLastEntry z.merge c.in_ok-head.head c.in_ok-head.rank) view
    c.in_ok-head.ensures.last in
    record {
      ready = subst (λ (z : PartsState). is_ready_at z.pool.pairs c.in_ok-head.head.0 ≡ true)
          (sym (ap (λ (z : QueuedState). z.parts) c.self.view_is))
          (ready_chief parts is none c.in_ok-head.head c.in_ok-head.rank last);
    }

pub tri-requires : goal.tri-requires
tri-requires c =
    let parts : PartsState = c.args.self.now.parts in
    let state = ap (λ (z : QueuedState). z.parts) c.self.view_is in
    let is : IsParts parts = subst IsParts state c.self.invariant in
    let view : the_view c.self-inside.inside.0.0 ≡ parts = ap (λ (z : Inside). z.parts) c.self-inside.view_is ∙ state in
    let none : parts.fresh ≡ [] = settled_fresh parts c.requires.settled in
    let last : IsLastEntry parts.merge c.in_ok-head.head c.in_ok-head.rank =
    subst (λ (z : PartsState). IsLastEntry z.merge c.in_ok-head.head c.in_ok-head.rank) view
    c.in_ok-head.ensures.last in
    let unasked : IsUnasked parts c.in_ok-head.head.0 c.in-Some.s =
    subst (λ (o : Option Slot). MatchOption o (IsKnownRank parts c.in_ok-head.head.0)
    (IsUnasked parts c.in_ok-head.head.0)) c.in-Some.is
    (subst (λ (z : PartsState). MatchOption c.better_and_unasked-next.result.1 (IsKnownRank z c.in_ok-head.head.0)
    (IsUnasked z c.in_ok-head.head.0)) state
    c.better_and_unasked-next.ensures.unasked) in
    record {
      live = subst (λ (z : PartsState). IsLive z.pool.pairs c.in-Some.s.0) (sym view)
          (of_live parts c.in_ok-head.head.0 c.in-Some.s.0
          (ready_chief parts is none c.in_ok-head.head c.in_ok-head.rank last)
          unasked.own);
    }

pub returns-clause-head : goal.returns-clause-head
returns-clause-head c =
    let parts : PartsState = c.args.self.now.parts in
    let state = ap (λ (z : QueuedState). z.parts) c.self.view_is in
    let is : IsParts parts = subst IsParts state c.self.invariant in
    let view : the_view c.self-inside.inside.0.0 ≡ parts = ap (λ (z : Inside). z.parts) c.self-inside.view_is ∙ state in
    let none : parts.fresh ≡ [] = settled_fresh parts c.requires.settled in
    let last : IsLastEntry parts.merge c.in_ok-head.head c.in_ok-head.rank =
    subst (λ (z : PartsState). IsLastEntry z.merge c.in_ok-head.head c.in_ok-head.rank) view
    c.in_ok-head.ensures.last in
    let next : MatchOption c.better_and_unasked-next.result.1 (IsKnownRank parts c.in_ok-head.head.0)
    (IsUnasked parts c.in_ok-head.head.0) =
    subst (λ (z : PartsState). MatchOption c.better_and_unasked-next.result.1 (IsKnownRank z c.in_ok-head.head.0)
    (IsUnasked z c.in_ok-head.head.0)) state
    c.better_and_unasked-next.ensures.unasked in
    last_head parts is none c.in_ok-head.head c.in_ok-head.rank last
    c.better_and_unasked-next.result.0 c.match-next.unasked
    (elim c.match-next.branch [
      | in-Some w ↦ subst (λ (o : Option Located). MatchOption o (IsKnownRank parts c.in_ok-head.head.0)
          (λ t. IsUnasked parts c.in_ok-head.head.0 t.slot × (address_at parts.pool.pairs t.slot.0 ≡ t.tri)))
          (sym w.unasked-is) (
            subst (λ (o : Option Slot). MatchOption o (IsKnownRank parts c.in_ok-head.head.0)
                (IsUnasked parts c.in_ok-head.head.0))
                w.in-Some.is next,
            sym (subst (λ (z : PartsState). w.tri.result ≡ address_at z.pool.pairs w.in-Some.s.0)
                view w.tri.ensures.value),
          )
      | in-None w ↦ subst (λ (o : Option Located). MatchOption o (IsKnownRank parts c.in_ok-head.head.0)
          (λ t. IsUnasked parts c.in_ok-head.head.0 t.slot × (address_at parts.pool.pairs t.slot.0 ≡ t.tri)))
          (sym w.unasked-is)
          (subst (λ (o : Option Slot). MatchOption o (IsKnownRank parts c.in_ok-head.head.0)
          (IsUnasked parts c.in_ok-head.head.0))
          w.in-None.is next)
    ])

pub returns-clause-at : goal.returns-clause-at
returns-clause-at c =
    let parts : PartsState = c.args.self.now.parts in
    let state = ap (λ (z : QueuedState). z.parts) c.self.view_is in
    let is : IsParts parts = subst IsParts state c.self.invariant in
    let view : the_view c.self-inside.inside.0.0 ≡ parts = ap (λ (z : Inside). z.parts) c.self-inside.view_is ∙ state in
    let last : IsLastEntry parts.merge c.in_ok-head.head c.in_ok-head.rank =
    subst (λ (z : PartsState). IsLastEntry z.merge c.in_ok-head.head c.in_ok-head.rank) view
    c.in_ok-head.ensures.last in
    named_at parts is (settled_fresh parts c.requires.settled) c.in_ok-head.head c.in_ok-head.rank last
    c.better_and_unasked-next.result.0
    (subst (λ (z : PartsState). worst_rank z (address_at z.pool.pairs c.better_and_unasked-next.result.0.0)
    ≡ diamond_rank z (chief_of (address_at z.pool.pairs c.in_ok-head.head.0))) state
    c.better_and_unasked-next.ensures.better)

pub returns-clause-unasked_at : goal.returns-clause-unasked_at
returns-clause-unasked_at c =
    let parts : PartsState = c.args.self.now.parts in
    let view : the_view c.self-inside.inside.0.0 ≡ parts =
    ap (λ (z : Inside). z.parts) c.self-inside.view_is ∙ ap (λ (z : QueuedState). z.parts) c.self.view_is in
    elim c.match-next.branch [
      | in-Some w ↦ subst (λ (o : Option Located). IfSome o (λ t. address_at parts.pool.pairs t.slot.0 ≡ t.tri))
          (sym w.unasked-is)
          (sym (subst (λ (z : PartsState). w.tri.result ≡ address_at z.pool.pairs w.in-Some.s.0)
          view w.tri.ensures.value))
      | in-None w ↦ subst (λ (o : Option Located). IfSome o (λ t. address_at parts.pool.pairs t.slot.0 ≡ t.tri))
          (sym w.unasked-is) tt
    ]

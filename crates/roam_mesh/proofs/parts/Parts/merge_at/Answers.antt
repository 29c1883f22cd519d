use Rattle.std.proofs.Common.{◌≡◌, ◌*◌, ◌<◌, ◌≤◌, inl, true, length, slice_index, Some, IfSome, IsNone, refl, sym, ◌∙◌}
use Rattle.std.proofs.Common.{ap, subst, arith, ⊎_elim}
use Rattle.std.proofs.lemmas.Bool.{true≢false, cases_lt}
use Rattle.bintree_addr.specs.declared.slot.Slot.{Slot}
use Rattle.mesh_laws.specs.Edge.{mate_of}
use Rattle.mesh_laws.specs.Slots.{address_at, IsMergeReady}
use Rattle.triangle_pool.specs.Slots.{PoolState}
use Rattle.roam_mesh.specs.Parts.{PartsState, is_leaf_at, is_ready_at}
use Rattle.roam_mesh.specs.Change.{with_children, above_slots, left_all, pushed_all}
use Rattle.roam_mesh.specs.Mesh.{slot_of}
use Rattle.roam_mesh.specs.contracts.parts.Parts.{the_view}
use Rattle.roam_mesh.proofs.PlaceLemmas.{live_below}
use Rattle.roam_mesh.proofs.RoleLemmas.{ready_live, leaf_live}
use Rattle.roam_mesh.proofs.MergeAtLemmas.{all_left, slot_merge, IsPooled, kept_leaf, kept_root, mate_kept, merged_at}
use Rattle.roam_mesh.proofs.MergeAtLemmas.{alone_state, both_state}
use Rattle.roam_mesh.proofs.FreshLemmas.{pushed-pool, pushed_all-pool}
use Rattle.roam_mesh.proofs.PlacedLemmas.{left_all-pool}
use Rattle.roam_mesh.proofs.PoolChangeLemmas.{pairs_counted, whole_repooled}
use Rattle.roam_mesh.proofs.parts.Parts.merge_at.Goals as goal
use Rattle.roam_mesh.proofs.parts.Parts.merge_at.Goals.{After-leaf_count-leaves, in-Some, in_default}

pub merge-gone-requires-clause-ready : goal.merge-gone-requires-clause-ready
merge-gone-requires-clause-ready c =
    let gone = c.self.view_is ∙ all_left c.args.self.now c.leave_all_children.new.self c.leave_diamond.new.self
    c.args.s.0 c.leave_all_children.ensures c.leave_diamond.ensures in
    let same : c.self.inside.pool ≡ c.args.self.now.pool = ap (λ (z : PartsState). z.pool) gone
    ∙ left_all-pool c.args.self.now (with_children c.args.self.now.pool.pairs c.args.s.0) in
    subst (λ (z : PoolState). IsMergeReady z.pairs (address_at z.pairs c.args.s.0)) (sym same)
    (slot_merge c.args.self.now.pool.pairs c.args.s.0 c.requires.ready)

-- once the pool has merged the diamond
module _ (c : After-leaf_count-leaves) where
  gone : the_view c.self.inside ≡ left_all c.args.self.now (with_children c.args.self.now.pool.pairs c.args.s.0)
  gone = c.self.view_is ∙ all_left c.args.self.now c.leave_all_children.new.self c.leave_diamond.new.self c.args.s.0
      c.leave_all_children.ensures c.leave_diamond.ensures

  same : c.self.inside.pool ≡ c.args.self.now.pool
  same = ap (λ (z : PartsState). z.pool) gone
      ∙ left_all-pool c.args.self.now (with_children c.args.self.now.pool.pairs c.args.s.0)

  live : 2 ≤ address_at c.self.inside.pool.pairs c.args.s.0
  live = ready_live c.self.inside.pool.pairs c.args.s.0
      (subst (λ (z : PoolState). is_ready_at z.pairs c.args.s.0 ≡ true) (sym same) c.requires.ready)

  pooled : IsPooled c.self.inside.pool c.merge-gone.new.self c.args.s.0
  pooled =
      let m = c.merge-gone.ensures in
      record {
        n = m.n;
        most = m.most;
        splits = m.splits;
        merges = m.merges;
        room = m.room;
        merge = m.merge;
        valid = m.valid;
      }

  -- the triangle is a leaf
  leaf : is_leaf_at c.merge-gone.new.self.pairs c.merge-gone.result.kept.0 ≡ true
  leaf = subst (λ (z : Slot). is_leaf_at c.merge-gone.new.self.pairs z.0 ≡ true) (sym c.merge-gone.ensures.kept)
      (kept_leaf c.self.inside.pool.pairs c.merge-gone.new.self.pairs
      (address_at c.self.inside.pool.pairs c.args.s.0) c.args.s.0 c.merge-gone.ensures.merge live live (inl refl))

  -- and so is its mate, where there is one
  module _ (other : Slot) (is : c.merge-gone.result.other ≡ Some other) where
    some : 1 ≤ mate_of (address_at c.self.inside.pool.pairs c.args.s.0)
    some = ⊎_elim
        (λ (none : mate_of (address_at c.self.inside.pool.pairs c.args.s.0) < 1).
        absurd (true≢false (subst (λ z. IsNone z) is (c.merge-gone.ensures.alone.1
        (let e : mate_of (address_at c.self.inside.pool.pairs c.args.s.0) ≡ 0 = omega arith in e)))))
        (λ h. h) (cases_lt (mate_of (address_at c.self.inside.pool.pairs c.args.s.0)) 1)

    mate_leaf : (is_leaf_at c.merge-gone.new.self.pairs other.0 ≡ true)
        × (slot_of c.merge-gone.new.self.pairs (mate_of (address_at c.self.inside.pool.pairs c.args.s.0)) ≡ other.0)
    mate_leaf = mate_kept c.self.inside.pool c.merge-gone.new.self c.args.s.0 other.0 pooled live some
        (subst (λ z. IfSome z (λ t. address_at c.self.inside.pool.pairs t.0
        ≡ mate_of (address_at c.self.inside.pool.pairs c.args.s.0))) is c.merge-gone.ensures.other)

  -- what is listed above the triangle leaves the pool as it is
  keeps : (after : PartsState) → after ≡ pushed_all (record (the_view c.self.inside) { pool = c.merge-gone.new.self })
      (above_slots c.merge-gone.new.self.pairs c.merge-gone.result.kept.0) →
      after.pool ≡ c.merge-gone.new.self
  keeps after above = ap (λ (z : PartsState). z.pool) above
      ∙ pushed_all-pool (record (the_view c.self.inside) { pool = c.merge-gone.new.self })
      (above_slots c.merge-gone.new.self.pairs c.merge-gone.result.kept.0)

pub invariant_of-self : goal.invariant_of-self
invariant_of-self c =
    let old = c.self.invariant in
    let leaves = c.leaf_count-leaves.ensures in
    let count =
    pairs_counted c.merge-gone.new.self c.leaf_count-leaves.result leaves.valid leaves.value leaves.leaves in
    let root : slice_index c.merge-gone.new.self.pairs 0 ≡ 1 =
    kept_root c.self.inside.pool.pairs c.merge-gone.new.self.pairs
    (address_at c.self.inside.pool.pairs c.args.s.0) c.merge-gone.ensures.merge (live c) old.0.root in
    let is =
    whole_repooled (the_view c.self.inside) c.merge-gone.new.self old.0 c.merge-gone.ensures.most count root in (
      is.0,
      (old.1.0 ∙ ap (λ z. 2 * z) (sym is.1), old.1.1),
      (old.2.0 ∙ ap (λ z. 2 * z) (sym is.1), old.2.1),
    )

pub push_above-requires : goal.push_above-requires
push_above-requires c = record { leaf = leaf (goal.at.push_above-requires c).After-leaf_count-leaves }

pub push_above-requires-in-Some : goal.push_above-requires-in-Some
push_above-requires-in-Some c =
    let merged = (goal.at.push_above-requires-in-Some c).After-leaf_count-leaves in
    record {
      leaf = subst (λ (z : PoolState). is_leaf_at z.pairs c.in-Some.other.0 ≡ true)
          (sym (keeps merged c.push_above.new.self c.push_above.ensures))
          (mate_leaf merged c.in-Some.other c.in-Some.is).0;
    }

pub push_fresh-requires : goal.push_fresh-requires
push_fresh-requires c =
    let merged = (goal.at.push_fresh-requires c).After-leaf_count-leaves in
    let below = live_below c.merge-gone.new.self.pairs c.in-Some.other.0
    (leaf_live c.merge-gone.new.self.pairs c.in-Some.other.0 (mate_leaf merged c.in-Some.other c.in-Some.is).0) in
    let pool : c.push_above-in-Some.new.self.pool ≡ c.merge-gone.new.self =
    ap (λ (z : PartsState). z.pool) c.push_above-in-Some.ensures
    ∙ pushed_all-pool c.push_above.new.self (above_slots c.push_above.new.self.pool.pairs c.in-Some.other.0)
    ∙ keeps merged c.push_above.new.self c.push_above.ensures in
    record { slot = subst (λ (z : PoolState). c.in-Some.other.0 < 2 * length z.pairs) (sym pool) below }

pub push_fresh-requires-2 : goal.push_fresh-requires-2
push_fresh-requires-2 c =
    let merged = (goal.at.push_fresh-requires-2 c).After-leaf_count-leaves in
    let below = live_below c.merge-gone.new.self.pairs c.merge-gone.result.kept.0
    (leaf_live c.merge-gone.new.self.pairs c.merge-gone.result.kept.0 (leaf merged)) in
    let still = keeps merged c.push_above.new.self c.push_above.ensures in
    let pool : c.match-gone.self.pool ≡ c.merge-gone.new.self = elim c.match-gone.branch [
      | in-Some w ↦ ap (λ (z : PartsState). z.pool) (w.self-is ∙ w.push_fresh.ensures)
          ∙ pushed-pool w.push_above-in-Some.new.self w.in-Some.other.0
          ∙ ap (λ (z : PartsState). z.pool) w.push_above-in-Some.ensures ∙ pushed_all-pool c.push_above.new.self
          (above_slots c.push_above.new.self.pool.pairs w.in-Some.other.0) ∙ still
      | in_default w ↦ ap (λ (z : PartsState). z.pool) w.self-is ∙ still
    ] in
    record { slot = subst (λ (z : PoolState). c.merge-gone.result.kept.0 < 2 * length z.pairs) (sym pool) below }

pub returns : goal.returns
returns c =
    let merged = (goal.at.returns c).After-leaf_count-leaves in
    let is = same merged in
    let m = c.merge-gone.ensures in
    merged_at c.args.self.now c.push_fresh-2.new.self c.args.s.0 c.merge-gone.new.self
    (subst (λ (z : PoolState). IsPooled z c.merge-gone.new.self c.args.s.0) is (pooled merged))
    (elim c.match-gone.branch [
      | in-Some w ↦
          let mate_some : 1 ≤ mate_of (address_at c.args.self.now.pool.pairs c.args.s.0) =
          subst (λ (z : PoolState). 1 ≤ mate_of (address_at z.pairs c.args.s.0)) is
          (some merged w.in-Some.other w.in-Some.is) in
          let place : slot_of c.merge-gone.new.self.pairs
          (mate_of (address_at c.args.self.now.pool.pairs c.args.s.0)) ≡ w.in-Some.other.0 =
          subst (λ (z : PoolState). slot_of c.merge-gone.new.self.pairs (mate_of (address_at z.pairs c.args.s.0))
          ≡ w.in-Some.other.0) is (mate_leaf merged w.in-Some.other w.in-Some.is).1 in
          both_state c.args.self.now (the_view c.self.inside) c.push_above.new.self w.push_above-in-Some.new.self
          c.match-gone.self c.push_fresh-2.new.self c.args.s.0 c.merge-gone.result.kept.0
          w.in-Some.other.0 c.merge-gone.new.self (gone merged)
          (ap (λ (z : Slot). z.0) m.kept) mate_some place c.push_above.ensures w.push_above-in-Some.ensures
          (w.self-is ∙ w.push_fresh.ensures) c.push_fresh-2.ensures
      | in_default w ↦
          let none : mate_of (address_at c.self.inside.pool.pairs c.args.s.0) ≡ 0 =
          m.alone.0 (subst (λ z. IsNone z) (sym w.in_default.is) refl) in
          alone_state c.args.self.now (the_view c.self.inside) c.match-gone.self c.push_fresh-2.new.self c.args.s.0
          c.merge-gone.result.kept.0 c.merge-gone.new.self (gone merged) (ap (λ (z : Slot). z.0) m.kept)
          (subst (λ (z : PoolState). mate_of (address_at z.pairs c.args.s.0) ≡ 0) is none)
          (w.self-is ∙ c.push_above.ensures) c.push_fresh-2.ensures
    ])

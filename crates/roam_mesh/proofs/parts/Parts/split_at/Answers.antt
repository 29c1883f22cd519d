use Rattle.std.proofs.Common.{◌≡◌, ◌+◌, ◌*◌, ◌<◌, ◌≤◌, ◌^◌, List, length, true, sym, ◌∙◌, ap, subst, arith}
use Rattle.std.specs.List.{AllByRecursion}
use Rattle.std.proofs.lemmas.List.{length-map}
use Rattle.mesh_defs.specs.Triangle.{level_of}
use Rattle.mesh_laws.specs.Slots.{address_at, room_of, IsLive}
use Rattle.bintree_addr.specs.declared.slot.Slot.{Slot}
use Rattle.triangle_pool.specs.Answer.{numbers}
use Rattle.triangle_pool.specs.Slots.{PoolState}
use Rattle.triangle_pool.specs.declared.pool.Born.{Born}
use Rattle.roam_mesh.specs.Parts.{is_leaf_at, is_ready_at}
use Rattle.roam_mesh.specs.Change.{diamond_slots, with_chain, left_all, pushed_all}
use Rattle.roam_mesh.specs.Splitting.{born_slots, born_leaves}
use Rattle.roam_mesh.proofs.FreshLemmas.{pushed_all-pool}
use Rattle.roam_mesh.proofs.PlacedLemmas.{left_all-pool}
use Rattle.roam_mesh.specs.Log.{IsBornOfSplit}
use Rattle.roam_mesh.proofs.LogLemmas.{carried_born}
use Rattle.roam_mesh.proofs.SplitAtLemmas.{carried_parts, split_own_ready, split_at_end, chain_leaves, answers_live}
use Rattle.roam_mesh.proofs.SplitAtLemmas.{IsPlanned}
use Rattle.roam_mesh.proofs.parts.Parts.split_at.Goals as goal

pub leave_chain-requires : goal.leave_chain-requires
leave_chain-requires c = record {
  leaves = subst (λ (x : List Slot). AllByRecursion (λ s. is_leaf_at c.args.self.now.pool.pairs s ≡ true) (numbers x))
      (sym c.deref.ensures.0)
      (chain_leaves c.args.self.now.pool.pairs (numbers c.plan-chain.result.slots.items)
      (subst (λ (z : PoolState). IsPlanned z c.args.s.0
      (numbers c.plan-chain.result.slots.items) c.plan-chain.result.gain) (ap (λ z. z.pool) c.self.view_is)
      (record {
        first = c.plan-chain.ensures.first;
        linked = c.plan-chain.ensures.chain;
        size = c.plan-chain.ensures.size;
        gains = c.plan-chain.ensures.gain;
      })).linked);
}

-- the pool after the chain has left
mid_pool : (c : goal.After-chain-1) → c.leave_chain.new.self.pool ≡ c.args.self.now.pool
mid_pool c =
    ap (λ z. z.pool) c.leave_chain.ensures
    ∙ left_all-pool c.args.self.now (with_chain c.args.self.now.pool.pairs (numbers c.deref.result.now))

mid_planned : (c : goal.After-chain-1) →
    IsPlanned c.leave_chain.new.self.pool c.args.s.0 (numbers c.plan-chain.result.slots.items) c.plan-chain.result.gain
mid_planned c =
    subst (λ (z : PoolState). IsPlanned z c.args.s.0 (numbers c.plan-chain.result.slots.items) c.plan-chain.result.gain)
    (ap (λ z. z.pool) c.self.view_is ∙ sym (mid_pool c))
    (record {
      first = c.plan-chain.ensures.first;
      linked = c.plan-chain.ensures.chain;
      size = c.plan-chain.ensures.size;
      gains = c.plan-chain.ensures.gain;
    })

pub split_pool-answers-requires-clause-chain : goal.split_pool-answers-requires-clause-chain
split_pool-answers-requires-clause-chain c = (mid_planned c).linked

pub split_pool-answers-requires-clause-size : goal.split_pool-answers-requires-clause-size
split_pool-answers-requires-clause-size c = (mid_planned c).size

pub split_pool-answers-requires-clause-coarse : goal.split_pool-answers-requires-clause-coarse
split_pool-answers-requires-clause-coarse c =
    subst (λ z. level_of (address_at c.leave_chain.new.self.pool.pairs z) < 2 * c.leave_chain.new.self.pool.n)
    (sym (mid_planned c).first)
    (subst (λ (z : PoolState). level_of (address_at z.pairs c.args.s.0) < 2 * z.n) (sym (mid_pool c)) c.requires.coarse)

pub split_pool-answers-requires-clause-room : goal.split_pool-answers-requires-clause-room
split_pool-answers-requires-clause-room c =
    subst (λ (z : PoolState). c.plan-chain.result.gain ≤ room_of z.pairs) (sym (mid_pool c))
    (c.requires.room c.plan-chain.result.gain (subst (λ (z : PoolState). IsPlanned z c.args.s.0
    (numbers c.plan-chain.result.slots.items) c.plan-chain.result.gain) (mid_pool c) (mid_planned c)).gains)

pub split_pool-answers-requires-clause-count : goal.split_pool-answers-requires-clause-count
split_pool-answers-requires-clause-count c =
    subst (λ (z : PoolState). z.splits + (4 * z.n + 4) < 2 ^ 62) (sym (mid_pool c)) c.requires.count

pub push_born-requires : goal.push_born-requires
push_born-requires c = record {
  live =
      subst (λ (x : List Born). AllByRecursion (λ s. IsLive c.split_pool-answers.new.self.pool.pairs s) (born_slots x))
      (sym c.deref-2.ensures.0)
      (answers_live c.leave_chain.new.self.pool.pairs c.split_pool-answers.new.self.pool.pairs
      (numbers c.plan-chain.result.slots.items) c.split_pool-answers.result.items
      (subst (λ (z : PoolState). IsPlanned z c.args.s.0
      (numbers c.plan-chain.result.slots.items) c.plan-chain.result.gain)
      (ap (λ z. z.pool) c.self.view_is ∙ sym (ap (λ z. z.pool) c.leave_chain.ensures
      ∙ left_all-pool c.args.self.now (with_chain c.args.self.now.pool.pairs (numbers c.deref.result.now))))
      (record {
        first = c.plan-chain.ensures.first;
        linked = c.plan-chain.ensures.chain;
        size = c.plan-chain.ensures.size;
        gains = c.plan-chain.ensures.gain;
      })).linked
      c.split_pool-answers.ensures.pool.answered);
}

pub push_diamond-requires : goal.push_diamond-requires
push_diamond-requires c =
    let planned = subst (λ (z : PoolState). IsPlanned z c.args.s.0
    (numbers c.plan-chain.result.slots.items) c.plan-chain.result.gain) (ap (λ z. z.pool) c.self.view_is)
    (record {
      first = c.plan-chain.ensures.first;
      linked = c.plan-chain.ensures.chain;
      size = c.plan-chain.ensures.size;
      gains = c.plan-chain.ensures.gain;
    }) in
    let left = c.leave_chain.ensures ∙ ap (λ (x : List Slot).
    left_all c.args.self.now (with_chain c.args.self.now.pool.pairs (numbers x))) c.deref.ensures.0 in
    let carried = carried_parts c.args.self.now c.leave_chain.new.self c.split_pool-answers.new.self.pool
    (numbers c.plan-chain.result.slots.items) c.split_pool-answers.result.items left
    c.split_pool-answers.ensures.pool in
    let some = c.plan-chain.ensures.some in
    let size : length (numbers c.plan-chain.result.slots.items) ≡ length c.plan-chain.result.slots.items =
    length-map c.plan-chain.result.slots.items (λ (s : Slot). s.0) in
    let ready = split_own_ready c.args.self.now.pool c.split_pool-answers.new.self.pool c.args.s.0
    (numbers c.plan-chain.result.slots.items) c.plan-chain.result.gain c.split_pool-answers.result.items
    (omega arith) planned c.requires.leaf carried in
    let pool = ap (λ z. z.pool) c.push_born.ensures ∙ pushed_all-pool c.split_pool-answers.new.self
    (born_leaves c.split_pool-answers.new.self.pool.pairs c.deref-2.result.now) in
    record { ready = subst (λ (z : PoolState). is_ready_at z.pairs c.args.s.0 ≡ true) (sym pool) ready }

pub returns-clause-split : goal.returns-clause-split
returns-clause-split c =
    let planned = subst (λ (z : PoolState). IsPlanned z c.args.s.0
    (numbers c.plan-chain.result.slots.items) c.plan-chain.result.gain) (ap (λ z. z.pool) c.self.view_is)
    (record {
      first = c.plan-chain.ensures.first;
      linked = c.plan-chain.ensures.chain;
      size = c.plan-chain.ensures.size;
      gains = c.plan-chain.ensures.gain;
    }) in
    let left = c.leave_chain.ensures ∙ ap (λ (x : List Slot).
    left_all c.args.self.now (with_chain c.args.self.now.pool.pairs (numbers x))) c.deref.ensures.0 in
    let some = c.plan-chain.ensures.some in
    let size : length (numbers c.plan-chain.result.slots.items) ≡ length c.plan-chain.result.slots.items =
    length-map c.plan-chain.result.slots.items (λ (s : Slot). s.0) in
    let born = c.push_born.ensures ∙ ap (λ (x : List Born). pushed_all c.split_pool-answers.new.self
    (born_leaves c.split_pool-answers.new.self.pool.pairs x)) c.deref-2.ensures.0 in
    split_at_end c.args.self.now c.leave_chain.new.self c.split_pool-answers.new.self c.push_born.new.self
    c.push_diamond.new.self c.args.s.0 (numbers c.plan-chain.result.slots.items) c.plan-chain.result.gain
    c.split_pool-answers.result.items (omega arith) planned c.requires.leaf left c.split_pool-answers.ensures.pool
    c.split_pool-answers.ensures.rest born c.push_diamond.ensures

pub returns-clause-born : goal.returns-clause-born
returns-clause-born c =
    let planned = subst (λ (z : PoolState). IsPlanned z c.args.s.0 (numbers c.plan-chain.result.slots.items)
    c.plan-chain.result.gain) (ap (λ z. z.pool) c.self.view_is)
    (record {
      first = c.plan-chain.ensures.first;
      linked = c.plan-chain.ensures.chain;
      size =
          c.plan-chain.ensures.size;
      gains = c.plan-chain.ensures.gain;
    }) in
    let left = c.leave_chain.ensures
    ∙ ap (λ (x : List Slot). left_all c.args.self.now (with_chain c.args.self.now.pool.pairs (numbers x)))
    c.deref.ensures.0 in
    let carried = carried_parts c.args.self.now c.leave_chain.new.self c.split_pool-answers.new.self.pool
    (numbers c.plan-chain.result.slots.items) c.split_pool-answers.result.items left
    c.split_pool-answers.ensures.pool in
    let pool : c.push_diamond.new.self.pool ≡ c.split_pool-answers.new.self.pool =
    ap (λ z. z.pool) c.push_diamond.ensures
    ∙ pushed_all-pool c.push_born.new.self (diamond_slots c.push_born.new.self.pool.pairs c.args.s.0)
    ∙ ap (λ z. z.pool) c.push_born.ensures
    ∙ pushed_all-pool c.split_pool-answers.new.self
    (born_leaves c.split_pool-answers.new.self.pool.pairs c.deref-2.result.now) in
    subst (λ (z : PoolState). IsBornOfSplit c.args.self.now.pool z c.split_pool-answers.result.items) (sym pool)
    (carried_born c.args.self.now.pool c.split_pool-answers.new.self.pool (numbers c.plan-chain.result.slots.items)
    c.split_pool-answers.result.items planned.linked carried)

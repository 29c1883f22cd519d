-- The head of the merge queue, as the loop of a frame sees it.
use Rattle.std.proofs.Common.{◌≡◌, ℕ, ◌*◌, ◌<◌, ◌≤◌, ◌⊎◌, ◌&&◌, inl, inr, true, false, nat_eq, nat_lt, [], Option, Some}
use Rattle.std.proofs.Common.{None, MatchOption, slice_index_or, refl, sym, ◌∙◌, ap, subst, arith, ⊎_elim}
use Rattle.std.proofs.lemmas.Bool.{cases_lt, or_from, and_right, and_parts, eqb-true}
use Rattle.mesh_defs.specs.Triangle.{level_of}
use Rattle.mesh_defs.specs.ClosedSet.{among}
use Rattle.mesh_defs.specs.Ranking.{IsBefore}
use Rattle.mesh_laws.specs.Order.{IsNoLater}
use Rattle.mesh_laws.specs.Diamond.{IsInDiamond, CanMerge}
use Rattle.mesh_laws.specs.Edge.{mate_of}
use Rattle.mesh_laws.specs.Slots.{address_at, IsLive}
use Rattle.mesh_laws.proofs.MateLemmas.{mate_of-low, mate_of-back}
use Rattle.mesh_laws.proofs.IsMateLemmas.{mate_of-IsMate, IsMate-mate_of}
use Rattle.bintree_addr.specs.declared.rank.Rank.{Rank}
use Rattle.bintree_addr.specs.declared.slot.Slot.{Slot}
use Rattle.bintree_addr.specs.RankOrder.{ComesFirst}
use Rattle.slot_heap.specs.Keys.{IsEmpty}
use Rattle.mesh_laws.specs.Chief.{chief_of}
use Rattle.merge_queue.specs.Last.{IsLastEntry}
use Rattle.deferred_loop.specs.Seen.{best_key, worst_key, sure, IsDecided, IsToAsk, IsLastHead}
use Rattle.deferred_loop.specs.declared.queued.Located.{Located}
use Rattle.roam_mesh.specs.Mesh.{slot_of, pool_members}
use Rattle.roam_mesh.specs.Parts.{PartsState, entry_at, entry_of, best_of, merging_key, seen_parts, is_ready_at, is_out}
use Rattle.roam_mesh.specs.Parts.{worst_rank, diamond_rank, IsParts}
use Rattle.roam_mesh.specs.Change.{chief_slot}
use Rattle.roam_mesh.specs.Keys.{is_sure, IsOfDiamond, IsKnownRank, IsTurn, IsUnasked}
use Rattle.roam_mesh.proofs.PlaceLemmas.{slot_of-at}
use Rattle.roam_mesh.proofs.RoleLemmas.{ready_live, ready_entry, entry_level, ready_of-at, ready_at-of, ready_mate}
use Rattle.roam_mesh.proofs.RoleLemmas.{chief_ready, diamond_mate, mate_diamond}
use Rattle.roam_mesh.proofs.HeadLemmas.{best_key_seen, worst_key_seen, sure_seen, settled_placed, merge_key}
use Rattle.roam_mesh.proofs.HeadLemmas.{merge_key_of}
use Rattle.roam_mesh.proofs.KeyLemmas.{rank_cases, better_least, diamond_alone, diamond_two, diamond_mate_rank}
use Rattle.roam_mesh.proofs.KeyLemmas.{diamond_chief_rank, diamond_rank_own}

-- no triangle of a diamond is before the one that its key names
diamond_least : (parts : PartsState) (a b : ℕ) → (b ≡ a) ⊎ ((1 ≤ mate_of a) × (b ≡ mate_of a)) →
    IsNoLater (diamond_rank parts a).p (diamond_rank parts a).tri (worst_rank parts b).p b
diamond_least parts a b (inl own) =
    subst (λ z. IsNoLater (diamond_rank parts a).p (diamond_rank parts a).tri (worst_rank parts z).p z)
    (sym own)
    (⊎_elim
    (λ (none : mate_of a < 1). subst (λ (z : Rank). IsNoLater z.p z.tri (worst_rank parts a).p a)
    (sym (diamond_alone parts a (omega arith))) (inr (refl, omega arith)))
    (λ (some : 1 ≤ mate_of a). subst (λ (z : Rank). IsNoLater z.p z.tri (worst_rank parts a).p a)
    (sym (diamond_two parts a some))
    (better_least (worst_rank parts a) (worst_rank parts (mate_of a))).0)
    (cases_lt (mate_of a) 1))
diamond_least parts a b (inr mate) =
    subst (λ z. IsNoLater (diamond_rank parts a).p (diamond_rank parts a).tri (worst_rank parts z).p z)
    (sym mate.1)
    (subst (λ (z : Rank). IsNoLater z.p z.tri (worst_rank parts (mate_of a)).p (mate_of a))
    (sym (diamond_two parts a mate.0))
    (better_least (worst_rank parts a) (worst_rank parts (mate_of a))).1)

-- a rank that is a triangle's names that triangle
own_rank : (parts : PartsState) (rank : Rank) (a : ℕ) → rank ≡ worst_rank parts a → rank ≡ worst_rank parts rank.tri
own_rank parts rank a is = subst (λ z. rank ≡ worst_rank parts z) (sym (ap (λ (z : Rank). z.tri) is)) is

none_some : (q : Rank) → None ≡ Some q → ⊥
none_some q h = cc

-- the other one of two
other_of : (a t x : ℕ) → 2 ≤ a → (t ≡ a) ⊎ ((1 ≤ mate_of a) × (t ≡ mate_of a)) →
    (x ≡ a) ⊎ ((1 ≤ mate_of a) × (x ≡ mate_of a)) → (x ≡ t)
    ⊎ ((1 ≤ mate_of t) × (x ≡ mate_of t))
other_of a t x low (inl own) is = subst (λ z. (x ≡ z) ⊎ ((1 ≤ mate_of z) × (x ≡ mate_of z))) (sym own) is
other_of a t x low (inr mate) (inl own) =
    let back : mate_of t ≡ a = ap mate_of mate.1 ∙ mate_of-back a low mate.0 in
    inr (omega arith, own ∙ sym back)
other_of a t x low (inr mate) (inr both) = inl (both.1 ∙ sym mate.1)

-- the slots of a diamond that can be merged are live
pub of_live : (parts : PartsState) (s t : ℕ) → is_ready_at parts.pool.pairs s ≡ true → IsOfDiamond parts s t →
    IsLive parts.pool.pairs t
of_live parts s t ready (inl own) = subst (λ z. 2 ≤ z) (sym own) (ready_live parts.pool.pairs s ready)
of_live parts s t ready (inr mate) = subst (λ z. 2 ≤ z) (sym mate.1)
    (mate_of-low (address_at parts.pool.pairs s) (ready_live parts.pool.pairs s ready) mate.0)

module _ (parts : PartsState) (is : IsParts parts) (none : parts.fresh ≡ []) where
  -- no diamond is out
  nothing_out : (s : ℕ) → is_out parts.pool.pairs (among parts.fresh) s ≡ false
  nothing_out s =
      let mate : ℕ = slot_of parts.pool.pairs (mate_of (address_at parts.pool.pairs s)) in
      or_from (among parts.fresh s) (nat_lt 0 (mate_of (address_at parts.pool.pairs s)) && among parts.fresh mate)
      (settled_placed parts s none)
      (and_right (nat_lt 0 (mate_of (address_at parts.pool.pairs s))) (among parts.fresh mate)
      (settled_placed parts mate none))

  -- each diamond that can be merged stands in the queue
  merge_queued : (a : ℕ) → CanMerge parts.pool.n (among (pool_members parts.pool)) a →
      (2 ≤ a) × (level_of a ≤ 2 * parts.pool.n)
      × ((s : ℕ) × (slice_index_or parts.merge s None ≡ Some (diamond_rank parts a)))
  merge_queued a can =
      let at = ready_at-of parts.pool a is.pool can in
      let s : ℕ = slot_of parts.pool.pairs a in
      let low : 2 ≤ a = subst (λ z. 2 ≤ z) at.1 (ready_live parts.pool.pairs s at.0) in
      let chief = chief_ready parts.pool.n parts.pool.pairs s is.pool at.0 in
      let rank : diamond_rank parts (address_at parts.pool.pairs (chief_slot parts.pool.pairs s))
      ≡ diamond_rank parts a =
      ap (diamond_rank parts) (chief.1 ∙ ap chief_of at.1) ∙ diamond_chief_rank parts a low in (
        low,
        subst (λ z. level_of z ≤ 2 * parts.pool.n) at.1
            (entry_level parts.pool.n parts.pool.pairs s is.pool (ready_entry parts.pool.pairs s at.0)),
        (
          chief_slot parts.pool.pairs s,
          merge_key_of parts (among parts.fresh) (chief_slot parts.pool.pairs s) is.placed chief.0
              (nothing_out (chief_slot parts.pool.pairs s)) ∙ ap (λ (z : Rank). Some z) rank,
        ),
      )

  -- so where the queue is empty none can be merged
  pub none_merges : IsEmpty parts.merge → (a : ℕ) → CanMerge parts.pool.n (among (pool_members parts.pool)) a → ⊥
  none_merges empty a can =
      let q = merge_queued a can in
      none_some (diamond_rank parts a) (sym (empty (record { 0 = q.2.0 })) ∙ q.2.1)

  -- the head of the queue

  module _ (head : Slot) (rank : Rank) (last : IsLastEntry parts.merge head rank) where
    -- the triangle at its slot
    abbrev top : ℕ
    top = address_at parts.pool.pairs head.0

    -- the head is a chief, with its key
    chief : (is_ready_at parts.pool.pairs head.0 ≡ true) × (chief_of top ≡ top) × (rank ≡ diamond_rank parts top)
    chief =
        let q = merge_key parts (among parts.fresh) head.0 rank is.placed last.0 in
        let both = and_parts (is_ready_at parts.pool.pairs head.0) (nat_eq (chief_of top) top) q.0 in
        (both.0, eqb-true (chief_of top) top both.1, q.2)

    -- so it can be merged
    pub ready_chief : is_ready_at parts.pool.pairs head.0 ≡ true
    ready_chief = chief.0

    top_low : 2 ≤ top
    top_low = ready_live parts.pool.pairs head.0 ready_chief

    -- the rank is the key of the diamond
    key_is : diamond_rank parts (chief_of top) ≡ rank
    key_is = ap (diamond_rank parts) chief.1 ∙ sym chief.2

    -- a triangle of that key is the one that the rank names
    pub named_at : (better : Slot) →
        worst_rank parts (address_at parts.pool.pairs better.0) ≡ diamond_rank parts (chief_of top) →
        address_at parts.pool.pairs better.0 ≡ rank.tri
    named_at better key = ap (λ (z : Rank). z.tri) (key ∙ key_is)

    -- the rank is the worst one of the head's triangle, or of its mate
    worst_of_two : (rank ≡ worst_rank parts top) ⊎ ((1 ≤ mate_of top) × (rank ≡ worst_rank parts (mate_of top)))
    worst_of_two = ⊎_elim
        (λ (own : diamond_rank parts top ≡ worst_rank parts top). inl (chief.2 ∙ own))
        (λ (mate : (1 ≤ mate_of top) × (diamond_rank parts top ≡ worst_rank parts (mate_of top))).
        inr (mate.0, chief.2 ∙ mate.1))
        (diamond_rank_own parts top)

    -- the triangle that the rank names is one of the head's diamond
    named : (rank.tri ≡ top) ⊎ ((1 ≤ mate_of top) × (rank.tri ≡ mate_of top))
    named = ⊎_elim
        (λ (own : rank ≡ worst_rank parts top). inl (ap (λ (z : Rank). z.tri) own))
        (λ (mate : (1 ≤ mate_of top) × (rank ≡ worst_rank parts (mate_of top))).
        inr (mate.0, ap (λ (z : Rank). z.tri) mate.1))
        worst_of_two

    -- and the rank is its worst one
    worst : rank ≡ worst_rank parts rank.tri
    worst = ⊎_elim
        (λ (own : rank ≡ worst_rank parts top). own_rank parts rank top own)
        (λ (mate : (1 ≤ mate_of top) × (rank ≡ worst_rank parts (mate_of top))).
        own_rank parts rank (mate_of top) mate.1)
        worst_of_two

    -- with the key that the loop sees
    value : rank.p ≡ worst_key (seen_parts parts) rank.tri
    value = ap (λ (z : Rank). z.p) worst ∙ sym (worst_key_seen parts rank.tri)

    -- its slot
    at : (s : ℕ) × (IsLive parts.pool.pairs s) × (is_ready_at parts.pool.pairs s ≡ true)
        × (address_at parts.pool.pairs s ≡ rank.tri)
    at = ⊎_elim
        (λ (own : rank.tri ≡ top). (head.0, top_low, ready_chief, sym own))
        (λ (mate : (1 ≤ mate_of top) × (rank.tri ≡ mate_of top)).
        let m = ready_mate parts.pool.n parts.pool.pairs head.0 is.pool ready_chief mate.0 in
        let s : ℕ = slot_of parts.pool.pairs (mate_of top) in
        (s, ready_live parts.pool.pairs s m.0, m.0, m.1 ∙ sym mate.1))
        named

    -- it is an address of the grid
    bounds : (2 ≤ rank.tri) × (level_of rank.tri ≤ 2 * parts.pool.n)
    bounds = (
      subst (λ z. 2 ≤ z) at.3 at.1,
      subst (λ z. level_of z ≤ 2 * parts.pool.n) at.3
          (entry_level parts.pool.n parts.pool.pairs at.0 is.pool (ready_entry parts.pool.pairs at.0 at.2)),
    )

    -- and the key of the diamond is the same from there
    own_diamond : rank ≡ diamond_rank parts rank.tri
    own_diamond = ⊎_elim
        (λ (own : rank.tri ≡ top). chief.2 ∙ ap (diamond_rank parts) (sym own))
        (λ (mate : (1 ≤ mate_of top) × (rank.tri ≡ mate_of top)).
        chief.2 ∙ sym (diamond_mate_rank parts top top_low mate.0) ∙ ap (diamond_rank parts) (sym mate.1))
        named

    -- no triangle of its diamond comes before it
    better_than : (b : ℕ) → IsInDiamond parts.pool.n rank.tri b →
        IsNoLater (worst_key (seen_parts parts) rank.tri) rank.tri (worst_key (seen_parts parts) b) b
    better_than b inside = subst (λ z. IsNoLater z rank.tri (worst_key (seen_parts parts) b) b) value
        (subst (λ z. IsNoLater rank.p rank.tri z b) (sym (worst_key_seen parts b))
        (subst (λ (z : Rank). IsNoLater z.p z.tri (merging_key (entry_of parts b)) b) (sym own_diamond)
        (diamond_least parts rank.tri b (diamond_mate parts.pool.n rank.tri b bounds.0 bounds.1 inside))))

    -- the key of each queued diamond comes no later
    key_no_later : (a s : ℕ) → slice_index_or parts.merge s None ≡ Some (diamond_rank parts a) →
        IsNoLater (diamond_rank parts a).p (diamond_rank parts a).tri (worst_key (seen_parts parts) rank.tri) rank.tri
    key_no_later a s queued =
        subst (λ z. IsNoLater (diamond_rank parts a).p (diamond_rank parts a).tri z rank.tri) value
        (⊎_elim
        (λ (there : IsNoLater (diamond_rank parts a).p (diamond_rank parts a).tri rank.p rank.tri). there)
        (λ (first : ComesFirst rank (diamond_rank parts a)).
        absurd (last.1 (record { 0 = s }) (diamond_rank parts a) queued first))
        (rank_cases (diamond_rank parts a) rank))

    -- so each diamond that can be merged has a triangle that comes no later
    first_of : (a : ℕ) → CanMerge parts.pool.n (among (pool_members parts.pool)) a →
        (e : ℕ) × IsInDiamond parts.pool.n a e
        × IsNoLater (worst_key (seen_parts parts) e) e (worst_key (seen_parts parts) rank.tri) rank.tri
    first_of a can =
        let queued = merge_queued a can in
        let known = key_no_later a queued.2.0 queued.2.1 in
        ⊎_elim
        (λ (own : diamond_rank parts a ≡ worst_rank parts a). (
          a,
          mate_diamond parts.pool.n a a queued.0 queued.1 (inl refl),
          subst (λ z. IsNoLater z a (worst_key (seen_parts parts) rank.tri) rank.tri) (sym (worst_key_seen parts a))
              (subst (λ (z : Rank). IsNoLater z.p z.tri (worst_key (seen_parts parts) rank.tri) rank.tri) own known),
        ))
        (λ (mate : (1 ≤ mate_of a) × (diamond_rank parts a ≡ worst_rank parts (mate_of a))). (
          mate_of a,
          mate_diamond parts.pool.n a (mate_of a) queued.0 queued.1 (inr (mate.0, refl)),
          subst (λ z. IsNoLater z (mate_of a) (worst_key (seen_parts parts) rank.tri) rank.tri)
              (sym (worst_key_seen parts (mate_of a)))
              (subst (λ (z : Rank). IsNoLater z.p z.tri (worst_key (seen_parts parts) rank.tri) rank.tri) mate.1 known),
        ))
        (diamond_rank_own parts a)

    -- where the rank is known, the loop sees a head that is decided
    decided : IsKnownRank parts head.0 → IsDecided (seen_parts parts) rank.tri
    decided known =
        let mate : 1 ≤ mate_of rank.tri → IsNoLater (merging_key (entry_of parts rank.tri)) rank.tri
        (best_of (entry_of parts (mate_of rank.tri))) (mate_of rank.tri) =
        subst (λ (z : Rank). 1 ≤ mate_of z.tri → IsNoLater (merging_key (entry_of parts z.tri)) z.tri
        (best_of (entry_of parts (mate_of z.tri))) (mate_of z.tri)) key_is known.mate in
        record {
          own = sure_seen parts rank.tri ∙ subst (λ (z : Rank). is_sure (entry_of parts z.tri) ≡ true) key_is known.own;
          mate = λ b other.
              let same : mate_of rank.tri ≡ b = mate_of-IsMate parts.pool.n rank.tri b bounds.0 bounds.1 other in
              let some : 2 ≤ b = other.address.low in
              subst (λ z. IsNoLater z rank.tri (best_key (seen_parts parts) b) b) (sym (worst_key_seen parts rank.tri))
              (subst (λ z. IsNoLater (merging_key (entry_of parts rank.tri)) rank.tri z b) (sym (best_key_seen parts b))
              (subst (λ z. IsNoLater (merging_key (entry_of parts rank.tri)) rank.tri
              (best_of (entry_of parts z)) z) same
              (mate (omega arith))));
        }

    -- where the head is decided, the rank of its diamond is known
    known_of : IsDecided (seen_parts parts) rank.tri → IsKnownRank parts head.0
    known_of d = record {
      own = subst (λ (z : Rank). is_sure (entry_of parts z.tri) ≡ true) (sym key_is)
          (sym (sure_seen parts rank.tri) ∙ d.own);
      mate = subst (λ (z : Rank). 1 ≤ mate_of z.tri → IsNoLater (merging_key (entry_of parts z.tri)) z.tri
          (best_of (entry_of parts (mate_of z.tri))) (mate_of z.tri)) (sym key_is)
          (λ some. subst (λ z. IsNoLater (merging_key (entry_of parts rank.tri)) rank.tri z (mate_of rank.tri))
          (best_key_seen parts (mate_of rank.tri))
          (subst (λ z. IsNoLater z rank.tri (best_key (seen_parts parts) (mate_of rank.tri)) (mate_of rank.tri))
          (worst_key_seen parts rank.tri)
          (d.mate (mate_of rank.tri) (IsMate-mate_of parts.pool.n rank.tri bounds.0 bounds.1 some))));
    }

    -- whose turn it is by what is kept of the slots, it is by the keys that the loop sees
    turn_of : (t : ℕ) (s : Slot) → t ≡ address_at parts.pool.pairs s.0 →
        entry_of parts t ≡ entry_at parts s.0 → (t ≡ rank.tri → ⊥) →
        IsTurn parts (diamond_rank parts (chief_of top)) s.0 →
        (sure (seen_parts parts) rank.tri ≡ true)
        ⊎ IsBefore (best_key (seen_parts parts) t) t (best_key (seen_parts parts) rank.tri) rank.tri
    turn_of t s here own differ turn = ⊎_elim
        (λ (known : is_sure (entry_of parts rank.tri) ≡ true). inl (sure_seen parts rank.tri ∙ known))
        (λ (before : IsBefore (best_of (entry_at parts s.0)) (address_at parts.pool.pairs s.0)
        (best_of (entry_of parts rank.tri)) rank.tri).
        inr (subst (λ z. IsBefore z t (best_key (seen_parts parts) rank.tri) rank.tri)
        (sym (best_key_seen parts t ∙ ap best_of own))
        (subst (λ z. IsBefore (best_of (entry_at parts s.0)) z (best_key (seen_parts parts) rank.tri) rank.tri)
        (sym here)
        (subst (λ z. IsBefore (best_of (entry_at parts s.0)) (address_at parts.pool.pairs s.0) z rank.tri)
        (sym (best_key_seen parts rank.tri)) before))))
        (subst (λ (z : Rank). IsTurn parts z s.0) key_is turn (λ same. differ (here ∙ same)))

    -- the triangle of a slot of the diamond that is to be asked is the one that the loop is to ask
    to_ask : (s : Slot) → IsUnasked parts head.0 s →
        IsToAsk (seen_parts parts) rank.tri (address_at parts.pool.pairs s.0)
    to_ask s next =
        let t : ℕ = address_at parts.pool.pairs s.0 in
        let own : entry_of parts t ≡ entry_at parts s.0 =
        ap (entry_at parts)
        (slot_of-at parts.pool.n parts.pool.pairs s.0 is.pool (of_live parts head.0 s.0 ready_chief next.own)) in
        record {
          in_diamond =
              mate_diamond parts.pool.n rank.tri t bounds.0 bounds.1 (other_of top rank.tri t top_low named next.own);
          not_sure = sure_seen parts t ∙ ap is_sure own ∙ next.not_sure;
          undecided = λ d. next.undecided (known_of d);
          turn = λ differ. turn_of t s refl own differ next.turn;
        }

    -- so it is with what the loop is told to ask
    asked : (unasked : Option Located) →
        MatchOption unasked (IsKnownRank parts head.0)
        (λ t. IsUnasked parts head.0 t.slot × (address_at parts.pool.pairs t.slot.0 ≡ t.tri)) →
        MatchOption unasked (IsDecided (seen_parts parts) rank.tri) (λ t. IsToAsk (seen_parts parts) rank.tri t.tri)
    asked None known = decided known
    asked (Some t) next = subst (IsToAsk (seen_parts parts) rank.tri) next.1 (to_ask t.slot next.0)

    -- what stands at the head of the queue is what the loop asks for
    pub last_head : (slot : Slot) (unasked : Option Located) →
        MatchOption unasked (IsKnownRank parts head.0)
        (λ t. IsUnasked parts head.0 t.slot × (address_at parts.pool.pairs t.slot.0 ≡ t.tri)) →
        IsLastHead (seen_parts parts) (record { rank = rank; slot = slot; unasked = unasked })
    last_head slot unasked next = record {
      mergeable = subst (CanMerge parts.pool.n (among (pool_members parts.pool))) at.3
          (ready_of-at parts.pool at.0 is.pool at.2);
      value = value;
      better = better_than;
      last = first_of;
      unasked = asked unasked next;
    }

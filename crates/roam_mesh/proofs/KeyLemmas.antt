-- The keys of the queues: which of two ranks is the better one, and what the key of a diamond is.
use Rattle.std.proofs.Common.{◌≡◌, ℕ, ◌<◌, ◌≤◌, ◌⊎◌, ◌&&◌, ◌||◌, inl, inr, Bool, true, false, cond, nat_eq, nat_le}
use Rattle.std.proofs.Common.{nat_lt, List, get_or, Option, Some, None, refl, sym, ◌∙◌, ap, ap₂, subst, arith, ⊎_elim}
use Rattle.std.proofs.lemmas.Bool.{cases_lt, cases_order, lt-ltb, le-ltb, le-leb, lt-leb, eq-eqb, ne_eqb, eqb-true}
use Rattle.std.proofs.lemmas.Bool.{both_ways, true≢false, cond-true, cond-false, or_left, or_right, or_from}
use Rattle.std.proofs.lemmas.Bool.{and_from, and_left, and_right}
use Rattle.std.proofs.lemmas.List.{get_or_read}
use Rattle.mesh_defs.specs.Ranking.{IsBefore}
use Rattle.mesh_laws.specs.Order.{IsNoLater}
use Rattle.mesh_laws.proofs.OrderLemmas.{no_later_other}
use Rattle.mesh_laws.specs.Edge.{mate_of}
use Rattle.mesh_laws.proofs.MateLemmas.{mate_of-low, mate_of-back, mate_of-other}
use Rattle.bintree_addr.specs.declared.rank.Rank.{Rank}
use Rattle.bintree_addr.specs.RankOrder.{ComesFirst}
use Rattle.mesh_laws.specs.Chief.{chief_of}
use Rattle.mesh_laws.specs.Slots.{address_at, IsLive, IsPool}
use Rattle.bintree_addr.specs.declared.slot.Slot.{Slot}
use Rattle.roam_mesh.specs.Mesh.{slot_of}
use Rattle.roam_mesh.specs.Parts.{PartsState, IsWhole, blank, entry_at, entry_of, is_ready, is_ready_at, best_of}
use Rattle.roam_mesh.specs.Parts.{merging_key, leaf_rank, worst_rank, better_of, diamond_rank}
use Rattle.roam_mesh.specs.Keys.{is_sure, IsOfDiamond, IsBetterFirst, IsKnownRank, IsUnasked}
use Rattle.roam_mesh.specs.declared.entry.Entry.{Entry}
use Rattle.roam_mesh.proofs.PlaceLemmas.{live_below, slot_of-at, one_slot}
use Rattle.roam_mesh.proofs.RoleLemmas.{ready_live, ready_mate}
use Rattle.mesh_laws.proofs.ChiefLemmas.{chief_of-cases}

-- one of two ranks is no later, or the other comes first
pub rank_cases : (r q : Rank) → IsNoLater r.p r.tri q.p q.tri ⊎ ComesFirst q r
rank_cases r q = ⊎_elim
    (λ (same : r.p ≡ q.p). ⊎_elim
    (λ (less : q.tri < r.tri). inr (inr (sym same, less)))
    (λ (rest : r.tri ≤ q.tri). inl (inr (same, rest)))
    (cases_lt q.tri r.tri))
    (λ (apart : (r.p < q.p) ⊎ (q.p < r.p)). ⊎_elim
    (λ (less : r.p < q.p). inr (inl less))
    (λ (more : q.p < r.p). inl (inl more))
    apart)
    (cases_order r.p q.p)

-- the better one is the first where it is no later
better_no_later : (r q : Rank) → IsNoLater r.p r.tri q.p q.tri → better_of r q ≡ r
better_no_later r q (inl more) = cond-true (nat_lt q.p r.p || (nat_eq r.p q.p && nat_le r.tri q.tri)) r q
    (or_left (nat_lt q.p r.p) (nat_eq r.p q.p && nat_le r.tri q.tri) (lt-ltb q.p r.p more))
better_no_later r q (inr tie) = cond-true (nat_lt q.p r.p || (nat_eq r.p q.p && nat_le r.tri q.tri)) r q
    (or_right (nat_lt q.p r.p) (nat_eq r.p q.p && nat_le r.tri q.tri)
    (and_from (nat_eq r.p q.p) (nat_le r.tri q.tri) (eq-eqb r.p q.p tie.0) (le-leb r.tri q.tri tie.1)))

-- and the second where that comes first
better_first : (r q : Rank) → ComesFirst q r → better_of r q ≡ q
better_first r q (inl more) = cond-false (nat_lt q.p r.p || (nat_eq r.p q.p && nat_le r.tri q.tri)) r q
    (or_from (nat_lt q.p r.p) (nat_eq r.p q.p && nat_le r.tri q.tri) (le-ltb q.p r.p (omega arith))
    (and_left (nat_eq r.p q.p) (nat_le r.tri q.tri) (ne_eqb r.p q.p (λ same. omega arith))))
better_first r q (inr tie) = cond-false (nat_lt q.p r.p || (nat_eq r.p q.p && nat_le r.tri q.tri)) r q
    (or_from (nat_lt q.p r.p) (nat_eq r.p q.p && nat_le r.tri q.tri) (le-ltb q.p r.p (omega arith))
    (and_right (nat_eq r.p q.p) (nat_le r.tri q.tri) (lt-leb r.tri q.tri tie.1)))

-- what comes first is no later
first_no_later : (r q : Rank) → ComesFirst r q → IsNoLater r.p r.tri q.p q.tri
first_no_later r q (inl more) = inl more
first_no_later r q (inr tie) = inr (tie.0, omega arith)

-- the order of the two does not matter
better_swap : (r q : Rank) → better_of q r ≡ better_of r q
better_swap r q = ⊎_elim
    (λ (no_later : IsNoLater r.p r.tri q.p q.tri). ⊎_elim
    (λ (back : IsNoLater q.p q.tri r.p r.tri). both r q no_later back)
    (λ (first : ComesFirst r q). better_first q r first ∙ sym (better_no_later r q no_later))
    (rank_cases q r))
    (λ (first : ComesFirst q r). better_no_later q r (first_no_later q r first) ∙ sym (better_first r q first))
    (rank_cases r q)
  where
    rank : ℕ → ℕ → Rank
    rank p tri = record { p = p; tri = tri }

    both : (r q : Rank) → IsNoLater r.p r.tri q.p q.tri → IsNoLater q.p q.tri r.p r.tri → better_of q r ≡ better_of r q
    both r q there back =
        let value : r.p ≡ q.p =
        ⊎_elim (λ more. ⊎_elim (λ other. omega arith) (λ tie. omega arith) back) (λ tie. omega arith) there in
        let tri : r.tri ≡ q.tri = ⊎_elim (λ more. absurd (omega arith))
        (λ tie. ⊎_elim (λ other. absurd (omega arith)) (λ other. omega arith) back) there in
        let same : r ≡ q = ap₂ rank value tri in
        better_no_later q r back ∙ sym same ∙ sym (better_no_later r q there)

-- neither of two ranks comes before the better one
pub better_least : (r q : Rank) → IsNoLater (better_of r q).p (better_of r q).tri r.p r.tri
    × IsNoLater (better_of r q).p (better_of r q).tri q.p q.tri
better_least r q = ⊎_elim
    (λ (no_later : IsNoLater r.p r.tri q.p q.tri). subst (λ (z : Rank). IsNoLater z.p z.tri r.p r.tri
    × IsNoLater z.p z.tri q.p q.tri) (sym (better_no_later r q no_later)) (inr (refl, omega arith), no_later))
    (λ (first : ComesFirst q r). subst (λ (z : Rank). IsNoLater z.p z.tri r.p r.tri × IsNoLater z.p z.tri q.p q.tri)
    (sym (better_first r q first)) (first_no_later q r first, inr (refl, omega arith)))
    (rank_cases r q)

-- the key of a triangle without a mate
pub diamond_alone : (parts : PartsState) (a : ℕ) → mate_of a ≡ 0 → diamond_rank parts a ≡ worst_rank parts a
diamond_alone parts a none =
    cond-true (nat_eq (mate_of a) 0) (worst_rank parts a)
    (better_of (worst_rank parts a) (worst_rank parts (mate_of a))) (eq-eqb (mate_of a) 0 none)

-- and of one with a mate
pub diamond_two : (parts : PartsState) (a : ℕ) → 1 ≤ mate_of a →
    diamond_rank parts a ≡ better_of (worst_rank parts a) (worst_rank parts (mate_of a))
diamond_two parts a some =
    cond-false (nat_eq (mate_of a) 0) (worst_rank parts a)
    (better_of (worst_rank parts a) (worst_rank parts (mate_of a))) (ne_eqb (mate_of a) 0 (λ none. omega arith))

-- the key of a diamond is that of its mate
pub diamond_mate_rank : (parts : PartsState) (a : ℕ) → 2 ≤ a → 1 ≤ mate_of a →
    diamond_rank parts (mate_of a) ≡ diamond_rank parts a
diamond_mate_rank parts a low some =
    let back : mate_of (mate_of a) ≡ a = mate_of-back a low some in
    diamond_two parts (mate_of a) (subst (λ z. 1 ≤ z) (sym back) (omega arith))
    ∙ ap (λ z. better_of (worst_rank parts (mate_of a)) (worst_rank parts z)) back
    ∙ better_swap (worst_rank parts a) (worst_rank parts (mate_of a))
    ∙ sym (diamond_two parts a some)

-- and that of its chief
pub diamond_chief_rank : (parts : PartsState) (a : ℕ) → 2 ≤ a → diamond_rank parts (chief_of a) ≡ diamond_rank parts a
diamond_chief_rank parts a low = ⊎_elim
    (λ (own : chief_of a ≡ a). ap (diamond_rank parts) own)
    (λ (mate : (1 ≤ mate_of a) × (chief_of a ≡ mate_of a)). ap (diamond_rank parts) mate.1
    ∙ diamond_mate_rank parts a low mate.0)
    (chief_of-cases a)

-- the key of a diamond is that of one of its triangles
pub diamond_rank_own : (parts : PartsState) (a : ℕ) → (diamond_rank parts a ≡ worst_rank parts a)
    ⊎ ((1 ≤ mate_of a) × (diamond_rank parts a ≡ worst_rank parts (mate_of a)))
diamond_rank_own parts a = ⊎_elim
    (λ (none : mate_of a < 1). inl (diamond_alone parts a (omega arith)))
    (λ (some : 1 ≤ mate_of a). ⊎_elim
    (λ (no_later : IsNoLater (worst_rank parts a).p a (worst_rank parts (mate_of a)).p (mate_of a)).
    inl (diamond_two parts a some ∙ better_no_later (worst_rank parts a) (worst_rank parts (mate_of a)) no_later))
    (λ (first : ComesFirst (worst_rank parts (mate_of a)) (worst_rank parts a)).
    inr (some, diamond_two parts a some ∙ better_first (worst_rank parts a) (worst_rank parts (mate_of a)) first))
    (rank_cases (worst_rank parts a) (worst_rank parts (mate_of a))))
    (cases_lt (mate_of a) 1)

-- the keys of a sure entry are one
sure_keys : (e : Entry) → is_sure e ≡ true → best_of e ≡ merging_key e
sure_keys e sure = by_cases e.known e.stamped e.exact e.upper e.lower sure
  where
    by_cases : (known stamped : Bool) (exact upper lower : ℕ) →
        (known || nat_eq (cond stamped upper 0) (cond stamped lower 0)) ≡ true →
        cond known exact (cond stamped upper 0) ≡ cond known exact (cond stamped lower 0)
    by_cases true stamped exact upper lower sure = refl
    by_cases false stamped exact upper lower sure = eqb-true (cond stamped upper 0) (cond stamped lower 0) sure

-- the key of a diamond is that of each of its slots
diamond_same : (parts : PartsState) (s b : ℕ) → IsLive parts.pool.pairs s → IsOfDiamond parts s b →
    diamond_rank parts (address_at parts.pool.pairs b) ≡ diamond_rank parts (chief_of (address_at parts.pool.pairs s))
diamond_same parts s b live (inl own) =
    ap (diamond_rank parts) own ∙ sym (diamond_chief_rank parts (address_at parts.pool.pairs s) live)
diamond_same parts s b live (inr mate) =
    ap (diamond_rank parts) mate.1 ∙ diamond_mate_rank parts (address_at parts.pool.pairs s) live mate.0
    ∙ sym (diamond_chief_rank parts (address_at parts.pool.pairs s) live)

-- what is read of a slot that has a triangle
pub read_entry : (entries : List Entry) (parts : PartsState) (s : ℕ) (e : Entry) → IsWhole parts →
    entries ≡ parts.entries → is_ready_at parts.pool.pairs s ≡ true → e ≡ get_or entries s e → e ≡ entry_at parts s
read_entry entries parts s e whole same ready read =
    get_or_read parts.entries s e
    (subst (λ z. s < z) (sym whole.entries) (live_below parts.pool.pairs s (ready_live parts.pool.pairs s ready)))
    (subst (λ (z : List Entry). e ≡ get_or z s e) same read) blank

-- the pair of the better one, where it is known whether there is another
pub better_pair : (parts : PartsState) (s : ℕ) (pair : Slot × Option Slot) (other : Option Slot) → pair.1 ≡ other →
    IsBetterFirst parts s pair → IsBetterFirst parts s (pair.0, other)
better_pair parts s pair other is better = subst (λ (z : Option Slot). IsBetterFirst parts s (pair.0, z)) is better

module _ (parts : PartsState) (pool : IsPool parts.pool.n parts.pool.pairs) where
  -- a slot with the mate of a diamond that can be merged has a triangle of it
  mate_ready : (s t : ℕ) → is_ready_at parts.pool.pairs s ≡ true → 1 ≤ mate_of (address_at parts.pool.pairs s) →
      address_at parts.pool.pairs t ≡ mate_of (address_at parts.pool.pairs s) →
      is_ready_at parts.pool.pairs t ≡ true
  mate_ready s t ready some at =
      let m = ready_mate parts.pool.n parts.pool.pairs s pool ready some in
      subst (λ z. (nat_le 2 z && is_ready parts.pool.pairs z) ≡ true) (m.1 ∙ sym at) m.0

  -- the slot itself is the better one
  pub better_own : (s t : Slot) → is_ready_at parts.pool.pairs s.0 ≡ true →
      1 ≤ mate_of (address_at parts.pool.pairs s.0) →
      address_at parts.pool.pairs t.0 ≡ mate_of (address_at parts.pool.pairs s.0) →
      (ComesFirst (worst_rank parts (address_at parts.pool.pairs t.0))
      (worst_rank parts (address_at parts.pool.pairs s.0)) → ⊥) → IsBetterFirst parts s.0 (s, Some t)
  better_own s t ready some at not_first =
      let a : ℕ = address_at parts.pool.pairs s.0 in
      let live : 2 ≤ address_at parts.pool.pairs s.0 = ready_live parts.pool.pairs s.0 ready in
      let no_later : IsNoLater (worst_rank parts (address_at parts.pool.pairs s.0)).p (address_at parts.pool.pairs s.0)
      (worst_rank parts (mate_of (address_at parts.pool.pairs s.0))).p (mate_of (address_at parts.pool.pairs s.0)) =
      ⊎_elim (λ there. there) (λ (first : ComesFirst (worst_rank parts (mate_of a)) (worst_rank parts a)).
      absurd (not_first (subst (λ z. ComesFirst (worst_rank parts z) (worst_rank parts a)) (sym at) first)))
      (rank_cases (worst_rank parts a) (worst_rank parts (mate_of a))) in
      record {
        key = sym (diamond_chief_rank parts a live ∙ diamond_two parts a some
            ∙ better_no_later (worst_rank parts a) (worst_rank parts (mate_of a)) no_later);
        ready = ready;
        own = inl refl;
        alone = (λ none. absurd (true≢false none), λ none. absurd (omega arith));
        other = (at, mate_ready s.0 t.0 ready some at);
      }

  -- its mate is the better one
  pub better_mate : (s t : Slot) → is_ready_at parts.pool.pairs s.0 ≡ true →
      1 ≤ mate_of (address_at parts.pool.pairs s.0) →
      address_at parts.pool.pairs t.0 ≡ mate_of (address_at parts.pool.pairs s.0) →
      ComesFirst (worst_rank parts (address_at parts.pool.pairs t.0))
      (worst_rank parts (address_at parts.pool.pairs s.0)) → IsBetterFirst parts s.0 (t, Some s)
  better_mate s t ready some at first =
      let a : ℕ = address_at parts.pool.pairs s.0 in
      let live : 2 ≤ address_at parts.pool.pairs s.0 = ready_live parts.pool.pairs s.0 ready in
      let back : mate_of (address_at parts.pool.pairs t.0) ≡ address_at parts.pool.pairs s.0 =
      ap mate_of at ∙ mate_of-back a live some in
      let before : ComesFirst (worst_rank parts (mate_of a)) (worst_rank parts a) =
      subst (λ z. ComesFirst (worst_rank parts z) (worst_rank parts a)) at first in
      record {
        key = ap (worst_rank parts) at ∙ sym (diamond_chief_rank parts a live ∙ diamond_two parts a some
            ∙ better_first (worst_rank parts a) (worst_rank parts (mate_of a)) before);
        ready = mate_ready s.0 t.0 ready some at;
        own = inr (some, at);
        alone = (λ none. absurd (true≢false none), λ none. absurd (omega arith));
        other = (sym back, ready);
      }

  -- where the rank of a diamond is known, its better one is sure
  known_sure : (s : ℕ) (b : Slot) →
      address_at parts.pool.pairs b.0 ≡ (diamond_rank parts (chief_of (address_at parts.pool.pairs s))).tri →
      IsLive parts.pool.pairs b.0 →
      IsKnownRank parts s → is_sure (entry_at parts b.0) ≡ true
  known_sure s b named live known =
      subst (λ z. is_sure (entry_at parts z) ≡ true) (slot_of-at parts.pool.n parts.pool.pairs b.0 pool live)
      (subst (λ z. is_sure (entry_of parts z) ≡ true) (sym named) known.own)

  -- the better one of two is asked where it is not sure
  pub unasked_first : (s : ℕ) (b : Slot) (other : Option Slot) → IsBetterFirst parts s (b, other) →
      is_sure (entry_at parts b.0) ≡ false → IsUnasked parts s b
  unasked_first s b other better unsure =
      let named : address_at parts.pool.pairs b.0
      ≡ (diamond_rank parts (chief_of (address_at parts.pool.pairs s))).tri = ap (λ (z : Rank). z.tri) better.key in
      let live : IsLive parts.pool.pairs b.0 = ready_live parts.pool.pairs b.0 better.ready in
      record {
        own = better.own;
        not_sure = unsure;
        undecided = λ known. both_ways (is_sure (entry_at parts b.0)) unsure (known_sure s b named live known);
        turn = λ differ. absurd (differ named);
      }

  -- the other one is asked where it is not sure, and either the better one is and does not come before it, or it may
  -- come first itself
  pub unasked_second : (s : ℕ) (b m : Slot) → is_ready_at parts.pool.pairs s ≡ true →
      IsBetterFirst parts s (b, Some m) → is_sure (entry_at parts m.0) ≡ false →
      ((is_sure (entry_at parts b.0) ≡ true)
      × (ComesFirst (worst_rank parts (address_at parts.pool.pairs b.0)) (leaf_rank parts m.0) → ⊥))
      ⊎ ((is_sure (entry_at parts b.0) ≡ false) × ComesFirst (leaf_rank parts m.0) (leaf_rank parts b.0)) →
      IsUnasked parts s m
  unasked_second s b m ready better unsure why = record {
    own = ⊎_elim
        (λ (own : address_at parts.pool.pairs b.0 ≡ address_at parts.pool.pairs s).
        inr (subst (λ z. 1 ≤ mate_of z) own some, better.other.0 ∙ ap mate_of own))
        (λ (mate : (1 ≤ mate_of (address_at parts.pool.pairs s))
        × (address_at parts.pool.pairs b.0 ≡ mate_of (address_at parts.pool.pairs s))).
        inl (better.other.0 ∙ ap mate_of mate.1
        ∙ mate_of-back (address_at parts.pool.pairs s) (ready_live parts.pool.pairs s ready) mate.0))
        better.own;
    not_sure = unsure;
    undecided = λ known. ⊎_elim
        (λ (sure : (is_sure (entry_at parts b.0) ≡ true)
        × (ComesFirst (worst_rank parts (address_at parts.pool.pairs b.0)) (leaf_rank parts m.0) → ⊥)).
        sure.1 (first known))
        (λ (open_b : (is_sure (entry_at parts b.0) ≡ false) × ComesFirst (leaf_rank parts m.0) (leaf_rank parts b.0)).
        both_ways (is_sure (entry_at parts b.0)) open_b.0 (known_sure s b named live known))
        why;
    turn = λ differ. ⊎_elim
        (λ (sure : (is_sure (entry_at parts b.0) ≡ true)
        × (ComesFirst (worst_rank parts (address_at parts.pool.pairs b.0)) (leaf_rank parts m.0) → ⊥)).
        inl (subst (λ z. is_sure (entry_of parts z) ≡ true) named
        (subst (λ z. is_sure (entry_at parts z) ≡ true) (sym slot) sure.0)))
        (λ (open_b : (is_sure (entry_at parts b.0) ≡ false) × ComesFirst (leaf_rank parts m.0) (leaf_rank parts b.0)).
        inr (subst (λ z. IsBefore (best_of (entry_at parts m.0)) (address_at parts.pool.pairs m.0)
        (best_of (entry_of parts z)) z) named
        (subst (λ z. IsBefore (best_of (entry_at parts m.0)) (address_at parts.pool.pairs m.0)
        (best_of (entry_at parts z)) (address_at parts.pool.pairs b.0)) (sym slot) open_b.1)))
        why;
  }
    where
      some : 1 ≤ mate_of (address_at parts.pool.pairs b.0)
      some = ⊎_elim
          (λ (none : mate_of (address_at parts.pool.pairs b.0) < 1). absurd (true≢false (better.alone.1 (omega arith))))
          (λ rest. rest)
          (cases_lt (mate_of (address_at parts.pool.pairs b.0)) 1)

      live : IsLive parts.pool.pairs b.0
      live = ready_live parts.pool.pairs b.0 better.ready

      slot : slot_of parts.pool.pairs (address_at parts.pool.pairs b.0) ≡ b.0
      slot = slot_of-at parts.pool.n parts.pool.pairs b.0 pool live

      named : address_at parts.pool.pairs b.0 ≡ (diamond_rank parts (chief_of (address_at parts.pool.pairs s))).tri
      named = ap (λ (z : Rank). z.tri) better.key

      -- the better one comes before the best that the other one can be
      first : IsKnownRank parts s →
          ComesFirst (worst_rank parts (address_at parts.pool.pairs b.0)) (leaf_rank parts m.0)
      first known =
          let a : ℕ = address_at parts.pool.pairs b.0 in
          let no_later : IsNoLater (merging_key (entry_of parts a)) a
          (best_of (entry_of parts (mate_of a))) (mate_of a) =
          subst (λ z. 1 ≤ mate_of z →
          IsNoLater (merging_key (entry_of parts z)) z (best_of (entry_of parts (mate_of z))) (mate_of z))
          (sym named) known.mate some in
          let there : slot_of parts.pool.pairs (mate_of a) ≡ m.0 =
          one_slot parts.pool.n parts.pool.pairs m.0 (mate_of a) pool (mate_of-low a live some) better.other.0 in
          subst (λ z. IsBefore (merging_key (entry_of parts a)) a (best_of (entry_at parts m.0)) z) (sym better.other.0)
          (subst (λ z. IsBefore (merging_key (entry_of parts a)) a (best_of (entry_at parts z)) (mate_of a)) there
          (no_later_other no_later (λ same. mate_of-other a live some (sym same))))

  -- the key of a diamond of one triangle is known
  pub known_alone : (s : ℕ) (b : Slot) → IsBetterFirst parts s (b, None) →
      is_sure (entry_at parts b.0) ≡ true → IsKnownRank parts s
  known_alone s b better sure =
      let live : 2 ≤ address_at parts.pool.pairs b.0 = ready_live parts.pool.pairs b.0 better.ready in
      let own : is_sure (entry_of parts (address_at parts.pool.pairs b.0)) ≡ true =
      subst (λ z. is_sure (entry_at parts z) ≡ true)
      (sym (slot_of-at parts.pool.n parts.pool.pairs b.0 pool live)) sure in
      let none : mate_of (address_at parts.pool.pairs b.0) ≡ 0 = better.alone.0 refl in
      record {
        own = subst (λ (z : Rank). is_sure (entry_of parts z.tri) ≡ true) better.key own;
        mate = subst (λ (z : Rank). 1 ≤ mate_of z.tri → IsNoLater (merging_key (entry_of parts z.tri)) z.tri
            (best_of (entry_of parts (mate_of z.tri))) (mate_of z.tri)) better.key (λ some. absurd (omega arith));
      }

  -- and so is that of two where the other one is sure, or comes later by the best that it can be
  pub known_two : (s : ℕ) (b m : Slot) → is_ready_at parts.pool.pairs s ≡ true → IsBetterFirst parts s (b, Some m) →
      is_sure (entry_at parts b.0) ≡ true →
      (is_sure (entry_at parts m.0) ≡ true)
      ⊎ IsBefore (merging_key (entry_of parts (address_at parts.pool.pairs b.0))) (address_at parts.pool.pairs b.0)
      (best_of (entry_at parts m.0)) (address_at parts.pool.pairs m.0) → IsKnownRank parts s
  known_two s b m ready better sure decided =
      let a : ℕ = address_at parts.pool.pairs b.0 in
      let live : 2 ≤ address_at parts.pool.pairs b.0 = ready_live parts.pool.pairs b.0 better.ready in
      let own : is_sure (entry_of parts (address_at parts.pool.pairs b.0)) ≡ true =
      subst (λ z. is_sure (entry_at parts z) ≡ true)
      (sym (slot_of-at parts.pool.n parts.pool.pairs b.0 pool live)) sure in
      record {
        own = subst (λ (z : Rank). is_sure (entry_of parts z.tri) ≡ true) better.key own;
        mate = subst (λ (z : Rank). 1 ≤ mate_of z.tri → IsNoLater (merging_key (entry_of parts z.tri)) z.tri
            (best_of (entry_of parts (mate_of z.tri))) (mate_of z.tri)) better.key
            (λ some. no_later some (one_slot parts.pool.n parts.pool.pairs m.0 (mate_of a) pool
            (mate_of-low a live some) better.other.0) decided);
      }
    where
      no_later : 1 ≤ mate_of (address_at parts.pool.pairs b.0) →
          slot_of parts.pool.pairs (mate_of (address_at parts.pool.pairs b.0)) ≡ m.0 →
          (is_sure (entry_at parts m.0) ≡ true)
          ⊎ IsBefore (merging_key (entry_of parts (address_at parts.pool.pairs b.0)))
          (address_at parts.pool.pairs b.0) (best_of (entry_at parts m.0)) (address_at parts.pool.pairs m.0) →
          IsNoLater (merging_key (entry_of parts (address_at parts.pool.pairs b.0))) (address_at parts.pool.pairs b.0)
          (best_of (entry_of parts (mate_of (address_at parts.pool.pairs b.0))))
          (mate_of (address_at parts.pool.pairs b.0))
      no_later some there (inl other) =
          let a : ℕ = address_at parts.pool.pairs b.0 in
          let same : better_of (worst_rank parts a) (worst_rank parts (mate_of a)) ≡ worst_rank parts a =
          sym (diamond_two parts a some) ∙ diamond_same parts s b.0 (ready_live parts.pool.pairs s ready) better.own
          ∙ sym better.key in
          let least : IsNoLater (worst_rank parts a).p a (worst_rank parts (mate_of a)).p (mate_of a) =
          subst (λ (z : Rank). IsNoLater z.p z.tri (worst_rank parts (mate_of a)).p (mate_of a)) same
          (better_least (worst_rank parts a) (worst_rank parts (mate_of a))).1 in
          subst (λ z. IsNoLater (merging_key (entry_of parts a)) a z (mate_of a)) (sym (sure_keys
          (entry_of parts (mate_of a)) (subst (λ z. is_sure (entry_at parts z) ≡ true) (sym there) other))) least
      no_later some there (inr before) =
          let a : ℕ = address_at parts.pool.pairs b.0 in
          let first : IsBefore (merging_key (entry_of parts a)) a (best_of (entry_of parts (mate_of a))) (mate_of a) =
          subst (λ z. IsBefore (merging_key (entry_of parts a)) a (best_of (entry_at parts z)) (mate_of a)) (sym there)
          (subst (λ z. IsBefore (merging_key (entry_of parts a)) a (best_of (entry_at parts m.0)) z)
          better.other.0 before) in
          ⊎_elim (λ more. inl more) (λ tie. inr (tie.0, omega arith)) first

-- The roles of slots after a chain is split: what is new is fresh.
use Rattle.std.proofs.Common.{◌≡◌, ℕ, ◌≤◌, ◌⊎◌, inl, inr, Bool, true, false, List, sym, ◌∙◌, ap, subst, arith, ⊎_elim}
use Rattle.std.proofs.lemmas.Bool.{both_ways, false_from_ne_true}
use Rattle.mesh_defs.specs.ClosedSet.{among}
use Rattle.mesh_laws.specs.Diamond.{IsInDiamond, CanMerge}
use Rattle.mesh_laws.proofs.ChangeLemmas.{split_mergeable, split_diamonds}
use Rattle.mesh_laws.specs.Edge.{mate_of}
use Rattle.mesh_laws.specs.Slots.{address_at, has_children, HasLeaf}
use Rattle.mesh_laws.proofs.MateLemmas.{mate_of-back}
use Rattle.mesh_laws.proofs.SlotLemmas.{set_false, among-split_list, split_list-closed}
use Rattle.triangle_pool.specs.Slots.{PoolState}
use Rattle.triangle_pool.specs.declared.pool.Born.{Born}
use Rattle.force_split.specs.Chain.{IsBornOf}
use Rattle.roam_mesh.specs.Mesh.{slot_of, pool_members}
use Rattle.roam_mesh.specs.Parts.{is_leaf_at, is_ready, is_ready_at}
use Rattle.roam_mesh.specs.Change.{diamond_slots, with_chain}
use Rattle.roam_mesh.proofs.PlaceLemmas.{one_slot}
use Rattle.roam_mesh.proofs.RoleLemmas.{ready_entry, not_both, entry_live, diamond_mate, ready_of-at, ready_at-of}
use Rattle.roam_mesh.proofs.RoleLemmas.{entry_level, ready_mate, leaf_parts, leaf_from, ready_from, ready_at_parts}
use Rattle.roam_mesh.proofs.RoleLemmas.{mate_leaf}
use Rattle.roam_mesh.proofs.PoolChangeLemmas.{IsRepooled}
use Rattle.roam_mesh.proofs.ChainSlotLemmas.{diamond_cases, in_diamond}
use Rattle.roam_mesh.proofs.SplitRoleLemmas.{IsPoolSplit, pool_forced, still_split, born_free, gone_cases, leaf_gone}
use Rattle.roam_mesh.proofs.SplitRoleLemmas.{ready_stays}

-- what is fresh after a split: the new leaves, and the diamond of slot s
pub record IsLater (new : PoolState) (s : ℕ) (answers : List Born) (later : ℕ → Bool) : Type 0 where
  pub cases : (r : ℕ) → later r ≡ true →
      (IsBornOf answers r × (is_leaf_at new.pairs r ≡ true)) ⊎ (among (diamond_slots new.pairs s) r ≡ true)
  pub born : (r : ℕ) → IsBornOf answers r → is_leaf_at new.pairs r ≡ true → later r ≡ true
  pub diamond : (r : ℕ) → among (diamond_slots new.pairs s) r ≡ true → later r ≡ true

module _ (old new : PoolState) (s : ℕ) (chain : List ℕ) (answers : List Born)
    (is : IsPoolSplit old new s chain answers) where
  was_outside : among (pool_members old) (address_at old.pairs s) ≡ false
  was_outside = among-split_list old.n old.pairs (address_at old.pairs s) is.pool
      ∙ set_false old.pairs (address_at old.pairs s) is.leaf.leaf

  -- the diamond of the split triangle can be merged
  pub own_ready : is_ready_at new.pairs s ≡ true
  own_ready =
      let f : ℕ = address_at old.pairs s in
      let can = split_mergeable old.n (pool_members old) f (pool_members new)
      (split_list-closed old.n old.pairs is.pool).closed (pool_forced old new s chain answers is) was_outside in
      let there = ready_at-of new f is.valid (subst (λ z. CanMerge z (among (pool_members new)) f) (sym is.n) can) in
      subst (λ z. is_ready_at new.pairs z ≡ true)
      (one_slot new.n new.pairs s f is.valid is.leaf.live (is.kept s is.leaf.live)) there.0

  -- its triangles were not split before
  pub diamond_new : (r : ℕ) → among (diamond_slots new.pairs s) r ≡ true →
      (is_ready_at new.pairs r ≡ true) × (has_children old.pairs (address_at new.pairs r) ≡ false)
  diamond_new r h =
      let same = is.kept s is.leaf.live in
      ⊎_elim
      (λ own. (
        subst (λ z. is_ready_at new.pairs z ≡ true) (sym own) own_ready,
        subst (λ z. has_children old.pairs z ≡ false) (sym (ap (address_at new.pairs) own ∙ same)) is.leaf.leaf,
      ))
      (λ other.
      let mate = ready_mate new.n new.pairs s is.valid own_ready other.0 in (
        subst (λ z. is_ready_at new.pairs z ≡ true) (sym other.1) mate.0,
        subst (λ z. has_children old.pairs z ≡ false)
            (sym (ap (address_at new.pairs) other.1 ∙ mate.1 ∙ ap mate_of same))
            (mate_leaf old.n old.pairs (address_at old.pairs s) is.pool is.leaf.live is.leaf.leaf
            (subst (λ z. 1 ≤ mate_of z) same other.0)),
      ))
      (diamond_cases new.pairs s r h)

  -- and there is no other new diamond
  other_ready : (r : ℕ) → is_ready_at new.pairs r ≡ true →
      (is_ready_at old.pairs r ≡ true) ⊎ (among (diamond_slots new.pairs s) r ≡ true)
  other_ready r ready =
      let a : ℕ = address_at new.pairs r in
      let f : ℕ = address_at old.pairs s in
      let same = is.kept s is.leaf.live in
      let low : 2 ≤ address_at new.pairs r = (ready_at_parts new.pairs r ready).0 in
      let can = subst (λ z. CanMerge z (among (pool_members new)) a) is.n (ready_of-at new r is.valid ready) in
      ⊎_elim
      (λ was.
      let there = ready_at-of old a is.pool was in
      let t : ℕ = slot_of old.pairs a in
      let live : 2 ≤ address_at old.pairs t = subst (λ z. 2 ≤ z) (sym there.1) low in
      let one : r ≡ t = is.valid.once r t low (sym (is.kept t live ∙ there.1)) in
      inl (subst (λ z. is_ready_at old.pairs z ≡ true) (sym one) there.0))
      (λ new_one. inr (in_diamond new.pairs s r (⊎_elim
      (λ own. inl (is.valid.once r s low (sym (same ∙ own))))
      (λ other.
      let back : mate_of (mate_of a) ≡ a = mate_of-back a low other.0 in
      let turned : mate_of (address_at new.pairs s) ≡ a = ap mate_of (same ∙ other.1) ∙ back in
      inr (
        subst (λ z. 1 ≤ z) (sym turned) (omega arith),
        sym (one_slot new.n new.pairs r (mate_of (address_at new.pairs s)) is.valid
            (subst (λ z. 2 ≤ z) (sym turned) low) (sym turned)),
      ))
      (diamond_mate new.n a f low (entry_level new.n new.pairs r is.valid (ready_entry new.pairs r ready))
      (subst (λ z. IsInDiamond z a f) (sym is.n) new_one.1)))))
      (split_diamonds old.n (pool_members old) f (pool_members new) a (split_list-closed old.n old.pairs is.pool).closed
      (pool_forced old new s chain answers is) can)

  -- a slot that could be merged had no leaf
  no_leaf : (r : ℕ) → is_ready_at old.pairs r ≡ true → HasLeaf old.pairs r → ⊥
  no_leaf r ready leaf = both_ways (has_children old.pairs (address_at old.pairs r)) leaf.leaf
      (ready_at_parts old.pairs r ready).1.own.split

  module _ (later : ℕ → Bool) (fresh : IsLater new s answers later) where
    leaf_was : (r : ℕ) → is_leaf_at new.pairs r ≡ true → later r ≡ false →
        (is_leaf_at old.pairs r ≡ true) × (among (with_chain old.pairs chain) r ≡ false)
    leaf_was r leaf in_place =
        let now = leaf_parts new.pairs r leaf in
        ⊎_elim
        (λ live.
        let there = is.kept r live in
        let whole = subst (λ z. has_children new.pairs z ≡ false) there now.leaf in
        let was : HasLeaf old.pairs r = record {
          live = live;
          leaf = false_from_ne_true (has_children old.pairs (address_at old.pairs r)) (λ split.
              both_ways (has_children new.pairs (address_at old.pairs r)) whole
              (still_split old new s chain answers is (address_at old.pairs r) split));
        } in (
          leaf_from old.pairs r was,
          false_from_ne_true (among (with_chain old.pairs chain) r) (λ gone. ⊎_elim
              (λ split. both_ways (has_children new.pairs (address_at old.pairs r)) whole split.1)
              (λ ready. no_leaf r ready.0 was)
              (gone_cases old new s chain answers is r gone)),
        ))
        (λ born. absurd (both_ways (later r) in_place (fresh.born r born leaf)))
        (is.live r now.live)

    ready_was : (r : ℕ) → is_ready_at new.pairs r ≡ true → later r ≡ false →
        (is_ready_at old.pairs r ≡ true) × (among (with_chain old.pairs chain) r ≡ false)
    ready_was r ready in_place = ⊎_elim
        (λ was.
        let old_parts = ready_at_parts old.pairs r was in
        let there = is.kept r old_parts.0 in (
          was,
          false_from_ne_true (among (with_chain old.pairs chain) r) (λ gone. ⊎_elim
              (λ leaf. no_leaf r was leaf.0)
              (λ lost. both_ways (is_ready new.pairs (address_at old.pairs r)) lost.1
              (subst (λ z. is_ready new.pairs z ≡ true) there
              (ready_from new.pairs (address_at new.pairs r) (ready_at_parts new.pairs r ready).1)))
              (gone_cases old new s chain answers is r gone)),
        ))
        (λ new_one. absurd (both_ways (later r) in_place (fresh.diamond r new_one)))
        (other_ready r ready)

    leaf_is : (r : ℕ) → is_leaf_at old.pairs r ≡ true → among (with_chain old.pairs chain) r ≡ false →
        (is_leaf_at new.pairs r ≡ true) × (later r ≡ false)
    leaf_is r leaf stays =
        let was = leaf_parts old.pairs r leaf in
        let there = is.kept r was.live in
        let now : HasLeaf new.pairs r = record {
          live = subst (λ z. 2 ≤ z) (sym there) was.live;
          leaf = subst (λ z. has_children new.pairs z ≡ false) (sym there)
              (false_from_ne_true (has_children new.pairs (address_at old.pairs r)) (λ split.
              both_ways (among (with_chain old.pairs chain) r) stays
              (leaf_gone old new s chain answers is r was split)));
        } in
        let still = leaf_from new.pairs r now in (
          still,
          false_from_ne_true (later r) (λ l. ⊎_elim
              (λ born. born_free old new s chain answers is r born.0 was.live)
              (λ diamond. both_ways (is_leaf_at new.pairs r) (not_both new.pairs r (diamond_new r diamond).0) still)
              (fresh.cases r l)),
        )

    ready_is : (r : ℕ) → is_ready_at old.pairs r ≡ true → among (with_chain old.pairs chain) r ≡ false →
        (is_ready_at new.pairs r ≡ true) × (later r ≡ false)
    ready_is r ready stays =
        let was = ready_at_parts old.pairs r ready in
        let there = is.kept r was.0 in (
          ready_stays old new s chain answers is r ready stays,
          false_from_ne_true (later r) (λ l. ⊎_elim
              (λ born. born_free old new s chain answers is r born.0 was.0)
              (λ diamond. both_ways (has_children old.pairs (address_at new.pairs r)) (diamond_new r diamond).1
              (subst (λ z. has_children old.pairs z ≡ true) (sym there) was.1.own.split))
              (fresh.cases r l)),
        )

    -- so what does not leave keeps its place, and all else is fresh
    pub split_repooled : IsRepooled old new (among (with_chain old.pairs chain)) later
    split_repooled = record {
      leaf = leaf_was;
      ready = ready_was;
      old_leaf = leaf_is;
      old_ready = ready_is;
      same = λ r entry _. is.kept r (entry_live old.pairs r entry);
    }

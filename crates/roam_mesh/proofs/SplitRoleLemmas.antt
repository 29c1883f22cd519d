-- Which slots change their roles where a chain is split.
use Rattle.std.proofs.Common.{◌≡◌, ℕ, ◌+◌, ◌*◌, ◌/◌, ◌%◌, ◌≤◌, ◌||◌, ◌⊎◌, inl, inr, Bool, true, false, nat_eq, List}
use Rattle.std.proofs.Common.{refl, sym, ◌∙◌, ap, subst, arith, ⊎_elim}
use Rattle.std.proofs.lemmas.Bool.{cases_lt, both_ways, false_from_ne_true}
use Rattle.mesh_defs.specs.ClosedSet.{among, IsLeastClosed}
use Rattle.mesh_defs.specs.Greedy.{with_triangle}
use Rattle.mesh_defs.specs.GridSet.{IsForced}
use Rattle.mesh_laws.specs.Edge.{mate_of}
use Rattle.mesh_laws.specs.Slots.{address_at, has_children, split_set, IsLive, IsPool, HasLeaf, HasTwoLeaves}
use Rattle.mesh_laws.specs.Slots.{IsMergeReady}
use Rattle.mesh_laws.proofs.MateLemmas.{mate_of-low, mate_of-back}
use Rattle.mesh_laws.proofs.SlotLemmas.{has_children_low, slot_of as some_slot, member_mate, parent_has_children}
use Rattle.mesh_laws.proofs.SlotLemmas.{among-split_list, split_list-closed}
use Rattle.triangle_pool.specs.Slots.{PoolState}
use Rattle.triangle_pool.specs.declared.pool.Born.{Born}
use Rattle.force_split.specs.Chain.{IsChain, IsBornOf, AreAnswers}
use Rattle.roam_mesh.specs.Mesh.{slot_of, pool_members}
use Rattle.roam_mesh.specs.Parts.{is_ready, is_ready_at}
use Rattle.roam_mesh.specs.Change.{with_chain}
use Rattle.roam_mesh.proofs.PlaceLemmas.{slot_of-at, address-slot_of}
use Rattle.roam_mesh.proofs.RoleLemmas.{ready_parts, ready_from, ready_at_parts, ready_at_from, ready_turned, mate_leaf}
use Rattle.roam_mesh.proofs.ChainSlotLemmas.{IsAbove, above_at, above_cases, in_above, own_above, IsOfChain}
use Rattle.roam_mesh.proofs.ChainSlotLemmas.{chain_cases, in_chain, link_leaf, mate_at, chain_leaf}
use Rattle.roam_mesh.proofs.BornLemmas.{born_parent, chain_child}

-- what the pool does where the leaf at slot s is split with its chain
pub record IsPoolSplit (old new : PoolState) (s : ℕ) (chain : List ℕ) (answers : List Born) : Type 0 where
  pub pool : IsPool old.n old.pairs
  pub valid : IsPool new.n new.pairs
  pub n : new.n ≡ old.n
  pub leaf : HasLeaf old.pairs s
  pub listed : among chain s ≡ true
  pub linked : IsChain old.pairs chain
  pub kept : (r : ℕ) → IsLive old.pairs r → address_at new.pairs r ≡ address_at old.pairs r
  pub live : (r : ℕ) → IsLive new.pairs r → IsLive old.pairs r ⊎ IsBornOf answers r
  pub answered : AreAnswers old.pairs new.pairs chain answers
  pub set : IsLeastClosed old.n (with_triangle (split_set old.pairs) (address_at old.pairs s)) (split_set new.pairs)

-- least closed sets by tests that agree
pub least_same : (n : ℕ) (wanted other has more : ℕ → Bool) → ((a : ℕ) → wanted a ≡ other a) →
    ((a : ℕ) → has a ≡ more a) → IsLeastClosed n wanted has → IsLeastClosed n other more
least_same n wanted other has more same agree p = record {
  closed = record {
    splittable = λ a h. p.closed.splittable a (agree a ∙ h);
    parent = λ a h big. sym (agree (a / 2)) ∙ p.closed.parent a (agree a ∙ h) big;
    mate = λ a b h m. sym (agree b) ∙ p.closed.mate a b (agree a ∙ h) m;
  };
  holds = λ a h. sym (agree a) ∙ p.holds a (same a ∙ h);
  least = λ some c holds a h. p.least some c (λ b w. holds b (sym (same b) ∙ w)) a (agree a ∙ h);
}

-- of a triangle whose children are leaves no child is split
no_child : (pairs : List ℕ) (b x : ℕ) → HasTwoLeaves pairs b → x / 2 ≡ b → has_children pairs x ≡ true → ⊥
no_child pairs b x two under is = ⊎_elim
    (λ left. both_ways (has_children pairs x)
    (subst (λ z. has_children pairs z ≡ false) (let e : 2 * b ≡ x = omega arith in e) two.left) is)
    (λ right. both_ways (has_children pairs x)
    (subst (λ z. has_children pairs z ≡ false) (let e : 2 * b + 1 ≡ x = omega arith in e) two.right) is)
    (cases_lt (x % 2) 1)

module _ (old new : PoolState) (s : ℕ) (chain : List ℕ) (answers : List Born)
    (is : IsPoolSplit old new s chain answers) where
  -- the set as the loop sees it
  pub pool_forced : IsForced old.n (pool_members old) (address_at old.pairs s) (pool_members new)
  pool_forced = record {
    ascending = (split_list-closed new.n new.pairs is.valid).ascending;
    least = least_same old.n (with_triangle (split_set old.pairs) (address_at old.pairs s))
        (with_triangle (among (pool_members old)) (address_at old.pairs s))
        (split_set new.pairs) (among (pool_members new))
        (λ a. ap (λ z. z || nat_eq (address_at old.pairs s) a) (sym (among-split_list old.n old.pairs a is.pool)))
        (λ a. sym (among-split_list new.n new.pairs a is.valid)) is.set;
  }

  -- what was split still is
  pub still_split : (p : ℕ) → has_children old.pairs p ≡ true → has_children new.pairs p ≡ true
  still_split p split =
      let low = has_children_low old.pairs p split in
      let r = some_slot old.pairs (2 * p) (omega arith)
      (subst (λ z. has_children old.pairs z ≡ true) (let e : p ≡ 2 * p / 2 = omega arith in e) split) in
      let live : 2 ≤ address_at old.pairs r.0 = subst (λ z. 2 ≤ z) (sym r.1) (omega arith) in
      let there : address_at new.pairs r.0 ≡ 2 * p = is.kept r.0 live ∙ r.1 in
      subst (λ z. has_children new.pairs z ≡ true) (let e : address_at new.pairs r.0 / 2 ≡ p = omega arith in e)
      (parent_has_children new.pairs r.0 (subst (λ z. 2 ≤ z) (sym there) (omega arith)))

  -- what is split now and was not is a triangle of the chain or its mate
  newly_split : (p : ℕ) → has_children new.pairs p ≡ true → has_children old.pairs p ≡ false →
      (c : ℕ) × (among chain c ≡ true) × ((p ≡ address_at old.pairs c)
      ⊎ ((1 ≤ mate_of (address_at old.pairs c)) × (p ≡ mate_of (address_at old.pairs c))))
  newly_split p split leaf =
      let low = has_children_low new.pairs p split in
      let r = some_slot new.pairs (2 * p) (omega arith)
      (subst (λ z. has_children new.pairs z ≡ true) (let e : p ≡ 2 * p / 2 = omega arith in e) split) in
      let there : address_at new.pairs r.0 ≡ 2 * p = r.1 in
      let half : address_at new.pairs r.0 / 2 ≡ p = omega arith in
      ⊎_elim
      (λ was. absurd (
      let same = is.kept r.0 was in
      both_ways (has_children old.pairs p) leaf (subst (λ z. has_children old.pairs z ≡ true)
      (let e : address_at old.pairs r.0 / 2 ≡ p = omega arith in e) (parent_has_children old.pairs r.0 was))))
      (λ born.
      let found = born_parent old.pairs new.pairs chain answers r.0 is.answered born in (
        found.0,
        found.1,
        subst (λ z. (z ≡ address_at old.pairs found.0) ⊎ ((1 ≤ mate_of (address_at old.pairs found.0))
            × (z ≡ mate_of (address_at old.pairs found.0)))) half found.2,
      ))
      (is.live r.0 (subst (λ z. 2 ≤ z) (sym there) (omega arith)))

  -- the triangles of the chain are split
  link_split : (c : ℕ) → among chain c ≡ true → has_children new.pairs (address_at old.pairs c) ≡ true
  link_split c listed =
      let leaf = link_leaf old.pairs chain c is.linked listed in
      let low : 2 ≤ address_at old.pairs c = leaf.live in
      let child = chain_child old.pairs new.pairs chain answers c is.answered listed in
      let there : address_at new.pairs child.0 ≡ 2 * address_at old.pairs c = child.1 in
      subst (λ z. has_children new.pairs z ≡ true)
      (let e : address_at new.pairs child.0 / 2 ≡ address_at old.pairs c = omega arith in e)
      (parent_has_children new.pairs child.0 (subst (λ z. 2 ≤ z) (sym there) (omega arith)))

  -- and so are the mates that are live
  gone_split : (t : ℕ) → IsOfChain old.pairs chain t → has_children new.pairs (address_at old.pairs t) ≡ true
  gone_split t of = ⊎_elim
      (λ own. subst (λ z. has_children new.pairs (address_at old.pairs z) ≡ true) (sym own)
      (link_split of.link of.listed))
      (λ other.
      let live = (link_leaf old.pairs chain of.link is.linked of.listed).live in
      subst (λ z. has_children new.pairs z ≡ true) (sym (mate_at old.n old.pairs of.link t is.pool live other))
      (member_mate new.n new.pairs (address_at old.pairs of.link) is.valid live
      (link_split of.link of.listed) other.some))
      of.slot

  -- each leaf that is split is one of these
  split_gone : (t : ℕ) → HasLeaf old.pairs t → has_children new.pairs (address_at old.pairs t) ≡ true →
      IsOfChain old.pairs chain t
  split_gone t leaf split =
      let found = newly_split (address_at old.pairs t) split leaf.leaf in
      record {
        link = found.0;
        listed = found.1;
        slot = ⊎_elim
            (λ own. inl (is.pool.once t found.0 leaf.live own))
            (λ other. inr record {
              some = other.0;
              above = subst (λ z. has_children old.pairs (z / 2) ≡ true) other.1
                  (parent_has_children old.pairs t leaf.live);
              slot =
                  sym (subst (λ z. slot_of old.pairs z ≡ t) other.1 (slot_of-at old.n old.pairs t is.pool leaf.live));
            })
            found.2;
      }

  -- a slot that was given out was free
  pub born_free : (r : ℕ) → IsBornOf answers r → IsLive old.pairs r → ⊥
  born_free r born live =
      let found = born_parent old.pairs new.pairs chain answers r is.answered born in
      let leaf = link_leaf old.pairs chain found.0 is.linked found.1 in
      let above : has_children old.pairs (address_at new.pairs r / 2) ≡ true =
      subst (λ z. has_children old.pairs (z / 2) ≡ true) (sym (is.kept r live))
      (parent_has_children old.pairs r live) in
      ⊎_elim
      (λ own. both_ways (has_children old.pairs (address_at old.pairs found.0)) leaf.leaf
      (subst (λ z. has_children old.pairs z ≡ true) own above))
      (λ other. both_ways (has_children old.pairs (mate_of (address_at old.pairs found.0)))
      (mate_leaf old.n old.pairs (address_at old.pairs found.0) is.pool leaf.live leaf.leaf other.0)
      (subst (λ z. has_children old.pairs z ≡ true) other.1 above))
      found.2

  -- what leaves: a leaf that is split, or a diamond that could be merged and can no longer
  pub gone_cases : (r : ℕ) → among (with_chain old.pairs chain) r ≡ true →
      (HasLeaf old.pairs r × (has_children new.pairs (address_at old.pairs r) ≡ true))
      ⊎ ((is_ready_at old.pairs r ≡ true) × (is_ready new.pairs (address_at old.pairs r) ≡ false))
  gone_cases r h =
      let found = chain_cases old.pairs chain r h in
      let t : ℕ = found.0 in
      let leaf = chain_leaf old.n old.pairs chain t is.pool is.linked found.1 in
      let split = gone_split t found.1 in
      ⊎_elim
      (λ own. inl (subst (λ z. HasLeaf old.pairs z × (has_children new.pairs (address_at old.pairs z) ≡ true))
      (sym own) (leaf, split)))
      (λ (above : IsAbove old.pairs t r). inr (
      let b : ℕ = address_at old.pairs t / 2 in
      let low : 2 ≤ b = let big = above.big in omega arith in
      let ready = ready_parts old.pairs b above.ready in
      ⊎_elim
      (λ own.
      let there : address_at old.pairs r ≡ b =
      ap (address_at old.pairs) own ∙ above_at old.n old.pairs b is.pool low above.ready in (
        ready_at_from old.pairs r (subst (λ z. 2 ≤ z) (sym there) low)
            (subst (λ z. IsMergeReady old.pairs z) (sym there) ready),
        subst (λ z. is_ready new.pairs z ≡ false) (sym there) (false_from_ne_true (is_ready new.pairs b) (λ now.
            no_child new.pairs b (address_at old.pairs t) (ready_parts new.pairs b now).own refl split)),
      ))
      (λ other.
      let m : ℕ = mate_of b in
      let turned = ready_turned old.pairs b low other.0 ready in
      let high : 2 ≤ m = mate_of-low b low other.0 in
      let there : address_at old.pairs r ≡ m =
      ap (address_at old.pairs) other.1 ∙ above_at old.n old.pairs m is.pool high (ready_from old.pairs m turned) in
      let back : mate_of m ≡ b = mate_of-back b low other.0 in (
        ready_at_from old.pairs r (subst (λ z. 2 ≤ z) (sym there) high)
            (subst (λ z. IsMergeReady old.pairs z) (sym there) turned),
        subst (λ z. is_ready new.pairs z ≡ false) (sym there) (false_from_ne_true (is_ready new.pairs m) (λ now.
            no_child new.pairs b (address_at old.pairs t)
            (subst (λ z. HasTwoLeaves new.pairs z) back
            ((ready_parts new.pairs m now).mate (subst (λ z. 1 ≤ z) (sym back) (omega arith)))) refl split)),
      ))
      above.slot))
      (above_cases old.n old.pairs is.pool t r found.2)

  -- a leaf that is split leaves
  pub leaf_gone : (t : ℕ) → HasLeaf old.pairs t → has_children new.pairs (address_at old.pairs t) ≡ true →
      among (with_chain old.pairs chain) t ≡ true
  leaf_gone t leaf split = in_chain old.pairs chain t t (split_gone t leaf split) (own_above old.pairs t)

  -- and so does the diamond above it
  child_gone : (a r x : ℕ) → is_ready old.pairs a ≡ true → 2 ≤ a →
      (r ≡ slot_of old.pairs a) ⊎ ((1 ≤ mate_of a) × (r ≡ slot_of old.pairs (mate_of a))) →
      x / 2 ≡ a → has_children old.pairs x ≡ false → has_children new.pairs x ≡ true →
      among (with_chain old.pairs chain) r ≡ true
  child_gone a r x ready low slot under leaf split =
      let t : ℕ = slot_of old.pairs x in
      let there : address_at old.pairs t ≡ x = address-slot_of old.n old.pairs x is.pool (omega arith)
      (subst (λ z. has_children old.pairs z ≡ true) (sym under) (ready_parts old.pairs a ready).own.split) in
      let half : a ≡ address_at old.pairs t / 2 = sym (ap (λ z. z / 2) there ∙ under) in
      in_chain old.pairs chain t r
      (split_gone t
      record {
        live = subst (λ z. 2 ≤ z) (sym there) (omega arith);
        leaf = subst (λ z. has_children old.pairs z ≡ false) (sym there) leaf;
      }
      (subst (λ z. has_children new.pairs z ≡ true) (sym there) split))
      (in_above old.n old.pairs is.pool t r record {
        big = subst (λ z. 4 ≤ z) (sym there) (omega arith);
        ready = subst (λ z. is_ready old.pairs z ≡ true) half ready;
        slot =
            subst (λ z. (r ≡ slot_of old.pairs z) ⊎ ((1 ≤ mate_of z) × (r ≡ slot_of old.pairs (mate_of z)))) half slot;
      })

  -- of a diamond that does not leave, the children are leaves still
  two_leaves : (a r : ℕ) → among (with_chain old.pairs chain) r ≡ false → is_ready old.pairs a ≡ true → 2 ≤ a →
      (r ≡ slot_of old.pairs a) ⊎ ((1 ≤ mate_of a) × (r ≡ slot_of old.pairs (mate_of a))) → HasTwoLeaves new.pairs a
  two_leaves a r stays ready low slot =
      let two = (ready_parts old.pairs a ready).own in
      record {
        split = still_split a two.split;
        left = false_from_ne_true (has_children new.pairs (2 * a))
            (λ split. both_ways (among (with_chain old.pairs chain) r) stays
            (child_gone a r (2 * a) ready low slot (omega arith) two.left split));
        right = false_from_ne_true (has_children new.pairs (2 * a + 1))
            (λ split. both_ways (among (with_chain old.pairs chain) r) stays
            (child_gone a r (2 * a + 1) ready low slot (omega arith) two.right split));
      }

  -- so it can be merged still
  pub ready_stays : (r : ℕ) → is_ready_at old.pairs r ≡ true → among (with_chain old.pairs chain) r ≡ false →
      is_ready_at new.pairs r ≡ true
  ready_stays r ready stays =
      let a : ℕ = address_at old.pairs r in
      let was = ready_at_parts old.pairs r ready in
      let own : slot_of old.pairs a ≡ r = slot_of-at old.n old.pairs r is.pool was.0 in
      let there = is.kept r was.0 in
      ready_at_from new.pairs r (subst (λ z. 2 ≤ z) (sym there) was.0)
      (subst (λ z. IsMergeReady new.pairs z) (sym there) record {
        own = two_leaves a r stays (ready_from old.pairs a was.1) was.0 (inl (sym own));
        mate = λ some.
            let back : mate_of (mate_of a) ≡ a = mate_of-back a was.0 some in
            two_leaves (mate_of a) r stays (ready_from old.pairs (mate_of a)
            (ready_turned old.pairs a was.0 some was.1)) (mate_of-low a was.0 some)
            (inr (
              subst (λ z. 1 ≤ z) (sym back) (let low : 2 ≤ a = was.0 in omega arith),
              sym (ap (slot_of old.pairs) back ∙ own),
            ));
      })

-- Which slots are of a diamond, of what stands above a slot, and of what leaves where a chain is split.
use Rattle.std.proofs.Common.{◌≡◌, ℕ, ◌/◌, ◌≤◌, ◌&&◌, ◌⊎◌, inl, inr, Bool, true, false, cond, nat_le, nat_lt, List, []}
use Rattle.std.proofs.Common.{◌∷◌, refl, sym, ◌∙◌, ap, subst, arith, ⊎_elim}
use Rattle.std.proofs.lemmas.Bool.{false≢true, and_parts, and_from, lt-ltb, ltb-true, le-leb, leb-true}
use Rattle.mesh_defs.specs.ClosedSet.{among}
use Rattle.mesh_laws.specs.Edge.{mate_of}
use Rattle.mesh_laws.specs.Slots.{address_at, has_children, IsLive, IsPool, HasLeaf}
use Rattle.mesh_laws.proofs.MateLemmas.{mate_of-low}
use Rattle.mesh_laws.proofs.SlotLemmas.{member_parent}
use Rattle.force_split.specs.Chain.{IsChain}
use Rattle.roam_mesh.specs.Mesh.{slot_of}
use Rattle.roam_mesh.specs.Parts.{is_ready}
use Rattle.roam_mesh.specs.Change.{diamond_slots, above_slots, with_above, with_mate, with_chain}
use Rattle.roam_mesh.proofs.PlaceLemmas.{address-slot_of}
use Rattle.roam_mesh.proofs.SlotListLemmas.{in_left, in_right, in_either, in_first, in_later, in_cases, in_choice}
use Rattle.roam_mesh.proofs.SlotListLemmas.{choice_in}
use Rattle.roam_mesh.proofs.RoleLemmas.{ready_parts, mate_leaf}

-- a slot of a diamond is the slot itself or that of its mate
pub diamond_cases : (pairs : List ℕ) (s r : ℕ) → among (diamond_slots pairs s) r ≡ true →
    (r ≡ s) ⊎ ((1 ≤ mate_of (address_at pairs s)) × (r ≡ slot_of pairs (mate_of (address_at pairs s))))
diamond_cases pairs s r h = ⊎_elim
    (λ other.
    let chosen = in_choice r (nat_lt 0 (mate_of (address_at pairs s)))
    (slot_of pairs (mate_of (address_at pairs s)) ∷ []) other in
    inr (
      ltb-true 0 (mate_of (address_at pairs s)) chosen.0,
      ⊎_elim (λ is. is) (λ none. absurd (false≢true none))
          (in_cases r (slot_of pairs (mate_of (address_at pairs s))) [] chosen.1),
    ))
    (λ own. inl (⊎_elim (λ is. is) (λ none. absurd (false≢true none)) (in_cases r s [] own)))
    (in_either r (cond (nat_lt 0 (mate_of (address_at pairs s))) (slot_of pairs (mate_of (address_at pairs s)) ∷ []) [])
    (s ∷ []) h)

-- and both are of it
pub in_diamond : (pairs : List ℕ) (s r : ℕ) →
    (r ≡ s) ⊎ ((1 ≤ mate_of (address_at pairs s)) × (r ≡ slot_of pairs (mate_of (address_at pairs s)))) →
    among (diamond_slots pairs s) r ≡ true
in_diamond pairs s r (inl own) =
    in_right r (cond (nat_lt 0 (mate_of (address_at pairs s))) (slot_of pairs (mate_of (address_at pairs s)) ∷ []) [])
    (s ∷ []) (in_first r s [] (sym own))
in_diamond pairs s r (inr other) =
    in_left r (cond (nat_lt 0 (mate_of (address_at pairs s)))
    (slot_of pairs (mate_of (address_at pairs s)) ∷ []) []) (s ∷ [])
    (choice_in r (nat_lt 0 (mate_of (address_at pairs s))) (slot_of pairs (mate_of (address_at pairs s)) ∷ [])
    (lt-ltb 0 (mate_of (address_at pairs s)) other.0)
    (in_first r (slot_of pairs (mate_of (address_at pairs s))) [] (sym other.1)))

-- r has a triangle of the diamond above slot s, which can be merged
pub record IsAbove (pairs : List ℕ) (s r : ℕ) : Type 0 where
  pub big : 4 ≤ address_at pairs s
  pub ready : is_ready pairs (address_at pairs s / 2) ≡ true
  pub slot : (r ≡ slot_of pairs (address_at pairs s / 2))
      ⊎ ((1 ≤ mate_of (address_at pairs s / 2)) × (r ≡ slot_of pairs (mate_of (address_at pairs s / 2))))

-- the triangle above stands at its slot
pub above_at : (n : ℕ) (pairs : List ℕ) (b : ℕ) → IsPool n pairs → 2 ≤ b → is_ready pairs b ≡ true →
    address_at pairs (slot_of pairs b) ≡ b
above_at n pairs b pool low ready =
    address-slot_of n pairs b pool low (member_parent n pairs b pool low (ready_parts pairs b ready).own.split)

module _ (n : ℕ) (pairs : List ℕ) (pool : IsPool n pairs) (s r : ℕ) where
  -- a slot above
  pub above_only : among (above_slots pairs s) r ≡ true → IsAbove pairs s r
  above_only h =
      let chosen = in_choice r (nat_le 4 (address_at pairs s) && is_ready pairs (address_at pairs s / 2))
      (diamond_slots pairs (slot_of pairs (address_at pairs s / 2))) h in
      let tests = and_parts (nat_le 4 (address_at pairs s)) (is_ready pairs (address_at pairs s / 2)) chosen.0 in
      let big = leb-true 4 (address_at pairs s) tests.0 in
      let there = above_at n pairs (address_at pairs s / 2) pool (omega arith) tests.1 in
      record {
        big = big;
        ready = tests.1;
        slot = subst (λ z. (r ≡ slot_of pairs (address_at pairs s / 2))
            ⊎ ((1 ≤ mate_of z) × (r ≡ slot_of pairs (mate_of z)))) there
            (diamond_cases pairs (slot_of pairs (address_at pairs s / 2)) r chosen.1);
      }

  -- a slot with those above it
  pub above_cases : among (with_above pairs s) r ≡ true → (r ≡ s) ⊎ IsAbove pairs s r
  above_cases h = ⊎_elim (λ own. inl own) (λ rest. inr (above_only rest)) (in_cases r s (above_slots pairs s) h)

  -- and each of those is one of them
  pub in_above : IsAbove pairs s r → among (with_above pairs s) r ≡ true
  in_above is =
      let there = above_at n pairs (address_at pairs s / 2) pool (let big = is.big in omega arith) is.ready in
      in_later r s (cond (nat_le 4 (address_at pairs s) && is_ready pairs (address_at pairs s / 2))
      (diamond_slots pairs (slot_of pairs (address_at pairs s / 2))) [])
      (choice_in r (nat_le 4 (address_at pairs s) && is_ready pairs (address_at pairs s / 2))
      (diamond_slots pairs (slot_of pairs (address_at pairs s / 2)))
      (and_from (nat_le 4 (address_at pairs s)) (is_ready pairs (address_at pairs s / 2))
      (le-leb 4 (address_at pairs s) is.big) is.ready)
      (in_diamond pairs (slot_of pairs (address_at pairs s / 2)) r
      (subst (λ z. (r ≡ slot_of pairs (address_at pairs s / 2)) ⊎ ((1 ≤ mate_of z) × (r ≡ slot_of pairs (mate_of z))))
      (sym there) is.slot)))

-- and the slot itself
pub own_above : (pairs : List ℕ) (s : ℕ) → among (with_above pairs s) s ≡ true
own_above pairs s =
    in_first s s (cond (nat_le 4 (address_at pairs s) && is_ready pairs (address_at pairs s / 2))
    (diamond_slots pairs (slot_of pairs (address_at pairs s / 2))) []) refl

-- the mate of slot c is live, and stands at slot t
pub record IsMateAt (pairs : List ℕ) (c t : ℕ) : Type 0 where
  pub some : 1 ≤ mate_of (address_at pairs c)
  pub above : has_children pairs (mate_of (address_at pairs c) / 2) ≡ true
  pub slot : t ≡ slot_of pairs (mate_of (address_at pairs c))

-- slot t is a chain's, or has the mate of one
pub record IsOfChain (pairs chain : List ℕ) (t : ℕ) : Type 0 where
  pub link : ℕ
  pub listed : among chain link ≡ true
  pub slot : (t ≡ link) ⊎ IsMateAt pairs link t

-- what leaves with one slot
mate_cases : (pairs : List ℕ) (c r : ℕ) → among (with_mate pairs c) r ≡ true →
    (t : ℕ) × ((t ≡ c) ⊎ IsMateAt pairs c t) × (among (with_above pairs t) r ≡ true)
mate_cases pairs c r h =
    let test : Bool =
    nat_lt 0 (mate_of (address_at pairs c)) && has_children pairs (mate_of (address_at pairs c) / 2) in
    let other : List ℕ = with_above pairs (slot_of pairs (mate_of (address_at pairs c))) in
    ⊎_elim
    (λ own. (c, inl refl, own))
    (λ rest.
    let chosen = in_choice r test other rest in
    let tests = and_parts (nat_lt 0 (mate_of (address_at pairs c)))
    (has_children pairs (mate_of (address_at pairs c) / 2)) chosen.0 in (
      slot_of pairs (mate_of (address_at pairs c)),
      inr record { some = ltb-true 0 (mate_of (address_at pairs c)) tests.0; above = tests.1; slot = refl },
      chosen.1,
    ))
    (in_either r (with_above pairs c) (cond test other []) h)

in_mate : (pairs : List ℕ) (c t r : ℕ) → (t ≡ c) ⊎ IsMateAt pairs c t → among (with_above pairs t) r ≡ true →
    among (with_mate pairs c) r ≡ true
in_mate pairs c t r (inl own) h =
    let test : Bool =
    nat_lt 0 (mate_of (address_at pairs c)) && has_children pairs (mate_of (address_at pairs c) / 2) in
    in_left r (with_above pairs c) (cond test (with_above pairs (slot_of pairs (mate_of (address_at pairs c)))) [])
    (subst (λ z. among (with_above pairs z) r ≡ true) own h)
in_mate pairs c t r (inr is) h =
    let test : Bool =
    nat_lt 0 (mate_of (address_at pairs c)) && has_children pairs (mate_of (address_at pairs c) / 2) in
    let other : List ℕ = with_above pairs (slot_of pairs (mate_of (address_at pairs c))) in
    in_right r (with_above pairs c) (cond test other [])
    (choice_in r test other (and_from (nat_lt 0 (mate_of (address_at pairs c))) (has_children pairs
    (mate_of (address_at pairs c) / 2)) (lt-ltb 0 (mate_of (address_at pairs c)) is.some) is.above)
    (subst (λ z. among (with_above pairs z) r ≡ true) is.slot h))

-- what leaves with a chain
pub chain_cases : (pairs chain : List ℕ) (r : ℕ) → among (with_chain pairs chain) r ≡ true →
    (t : ℕ) × IsOfChain pairs chain t × (among (with_above pairs t) r ≡ true)
chain_cases pairs [] r h = absurd (false≢true h)
chain_cases pairs (c ∷ rest) r h = ⊎_elim
    (λ own.
    let found = mate_cases pairs c r own in
    (found.0, record { link = c; listed = in_first c c rest refl; slot = found.1 }, found.2))
    (λ others.
    let found : (t : ℕ) × IsOfChain pairs rest t × (among (with_above pairs t) r ≡ true) =
    chain_cases pairs rest r others in (
      found.0,
      record { link = found.1.link; listed = in_later found.1.link c rest found.1.listed; slot = found.1.slot },
      found.2,
    ))
    (in_either r (with_mate pairs c) (with_chain pairs rest) h)

-- and each of them leaves
pub in_chain : (pairs chain : List ℕ) (t r : ℕ) → IsOfChain pairs chain t → among (with_above pairs t) r ≡ true →
    among (with_chain pairs chain) r ≡ true
in_chain pairs [] t r is h = absurd (false≢true is.listed)
in_chain pairs (c ∷ rest) t r is h = ⊎_elim
    (λ own. in_left r (with_mate pairs c) (with_chain pairs rest)
    (in_mate pairs c t r (subst (λ z. (t ≡ z) ⊎ IsMateAt pairs z t) own is.slot) h))
    (λ others. in_right r (with_mate pairs c) (with_chain pairs rest)
    (in_chain pairs rest t r record { link = is.link; listed = others; slot = is.slot } h))
    (in_cases is.link c rest is.listed)

-- the slots of a chain have leaves
pub link_leaf : (pairs chain : List ℕ) (c : ℕ) → IsChain pairs chain → among chain c ≡ true → HasLeaf pairs c
link_leaf pairs [] c linked listed = absurd (false≢true listed)
link_leaf pairs (x ∷ rest) c linked listed = ⊎_elim
    (λ own. subst (λ z. HasLeaf pairs z) (sym own) linked.0)
    (λ others. link_leaf pairs rest c linked.1.1 others)
    (in_cases c x rest listed)

-- a mate that is live stands at its slot
pub mate_at : (n : ℕ) (pairs : List ℕ) (c t : ℕ) → IsPool n pairs → IsLive pairs c → IsMateAt pairs c t →
    address_at pairs t ≡ mate_of (address_at pairs c)
mate_at n pairs c t pool live is = ap (address_at pairs) is.slot
    ∙ address-slot_of n pairs (mate_of (address_at pairs c)) pool
    (mate_of-low (address_at pairs c) live is.some) is.above

-- and so have their mates, where they are live
pub chain_leaf : (n : ℕ) (pairs chain : List ℕ) (t : ℕ) → IsPool n pairs → IsChain pairs chain →
    IsOfChain pairs chain t → HasLeaf pairs t
chain_leaf n pairs chain t pool linked is =
    let leaf = link_leaf pairs chain is.link linked is.listed in
    ⊎_elim
    (λ own. subst (λ z. HasLeaf pairs z) (sym own) leaf)
    (λ other.
    let there = mate_at n pairs is.link t pool leaf.live other in
    record {
      live = subst (λ z. 2 ≤ z) (sym there) (mate_of-low (address_at pairs is.link) leaf.live other.some);
      leaf = subst (λ z. has_children pairs z ≡ false) (sym there)
          (mate_leaf n pairs (address_at pairs is.link) pool leaf.live leaf.leaf other.some);
    })
    is.slot

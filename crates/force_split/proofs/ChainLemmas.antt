-- The set after the splits of a chain is the least closed one.
use Rattle.std.proofs.Common.{◌≡◌, ap, sym, ◌∙◌, Bool, true, false, ℕ, ◌+◌, ◌*◌, ◌/◌, ◌<◌, ◌≤◌, refl, arith}
use Rattle.std.proofs.Common.{inl, inr, ⊎_elim, List, [], ◌∷◌}
use Rattle.std.proofs.lemmas.Bool.{cases_Bool, true≢false}
use Rattle.mesh_defs.specs.Triangle.{level_of}
use Rattle.mesh_defs.specs.ClosedSet.{IsClosed, IsSubset}
use Rattle.bintree_laws.proofs.LevelLemmas.{level_of-parent}
use Rattle.mesh_laws.specs.Edge.{mate_of}
use Rattle.mesh_laws.proofs.MateLemmas.{mate_of-back, mate_of-low, mate_of-level}
use Rattle.mesh_laws.specs.Slots.{address_at, has_children, split_set, IsPool, HasLeaf}
use Rattle.mesh_laws.proofs.SlotLemmas.{parent_has_children, has_children-set, set_false, member_mate, same_closed}
use Rattle.mesh_laws.specs.LeafAcross.{IsGrown}
use Rattle.mesh_laws.proofs.ChainLemmas.{least_step}
use Rattle.mesh_laws.proofs.ForcingLemmas.{with-old, with-new, with-cases}
use Rattle.force_split.specs.Chain.{IsNextInChain, IsChain, IsLow, IsChained}

-- ---- the sets along a chain

-- the set after the splits of a chain is closed and has all members of that before
pub chained_closed : (n : ℕ) (pairs slots : List ℕ) (now : ℕ → Bool) → IsPool n pairs → IsChained n pairs slots now →
    IsClosed n now × IsSubset (split_set pairs) now
chained_closed n pairs [] now pool h =
    (same_closed n (split_set pairs) now (λ p. sym (h.forced p)) pool.closed, (λ p m. h.forced p ∙ m))
chained_closed n pairs (s ∷ rest) now pool h =
    (h.forced.closed, (λ p m. h.forced.holds p (with-old (split_set pairs) (address_at pairs s) p m)))

-- the parent of the mate is split by then
pub chained_up : (n : ℕ) (pairs : List ℕ) (s : ℕ) (rest : List ℕ) (mid : ℕ → Bool) → IsNextInChain pairs s rest →
    IsChained n pairs rest mid → 4 ≤ mate_of (address_at pairs s) →
    mid (mate_of (address_at pairs s) / 2) ≡ true
chained_up n pairs s [] mid next h deep =
    h.forced (mate_of (address_at pairs s) / 2)
    ∙ has_children-set pairs (mate_of (address_at pairs s) / 2) (omega arith) (next (omega arith))
chained_up n pairs s (t ∷ rest) mid next h deep =
    ap mid (sym next.1) ∙ h.forced.holds (address_at pairs t) (with-new (split_set pairs) (address_at pairs t))

chained_least : (n : ℕ) (pairs : List ℕ) (s : ℕ) (rest : List ℕ) (mid other : ℕ → Bool) → IsNextInChain pairs s rest →
    IsChain pairs rest → IsChained n pairs rest mid → IsClosed n other →
    IsSubset (split_set pairs) other →
    (4 ≤ mate_of (address_at pairs s) → other (mate_of (address_at pairs s) / 2) ≡ true) → IsSubset mid other
chained_least n pairs s [] mid other next chain h closed sub up = λ p m. sub p (sym (h.forced p) ∙ m)
chained_least n pairs s (t ∷ rest) mid other next chain h closed sub up = h.forced.least other closed
    (λ p w. elim (with-cases (split_set pairs) (address_at pairs t) p w) [
      | inl old ↦ sub p old
      | inr e ↦ ap other (sym e ∙ next.1) ∙ up (let live = chain.0.live in let at = next.1 in omega arith)
    ])

-- what the rest of a chain adds is coarser than the first slot's triangle
pub low_less : (pairs : List ℕ) (s : ℕ) (rest : List ℕ) (p : ℕ) → HasLeaf pairs s → IsNextInChain pairs s rest →
    IsChain pairs rest → IsLow pairs rest p → level_of p < level_of (address_at pairs s)
low_less pairs s [] p leaf next chain low = absurd low
low_less pairs s (t ∷ rest) p leaf next chain low =
    let a : ℕ = address_at pairs s in
    let live = chain.0.live in let at = next.1 in
    let level : level_of (mate_of a) ≡ level_of a = mate_of-level a leaf.live next.0 in
    let up : level_of (mate_of a) ≡ level_of (mate_of a / 2) + 1 = level_of-parent (mate_of a) (omega arith) in
    let same : level_of (address_at pairs t) ≡ level_of (mate_of a / 2) = ap level_of at in omega arith

-- neither the first slot's triangle nor its mate is split before
pub chained_shut : (n : ℕ) (pairs : List ℕ) (s : ℕ) (rest : List ℕ) (mid : ℕ → Bool) → IsPool n pairs →
    IsChain pairs (s ∷ rest) → IsChained n pairs rest mid →
    (mid (address_at pairs s) ≡ false) × (1 ≤ mate_of (address_at pairs s) → mid (mate_of (address_at pairs s)) ≡ false)
chained_shut n pairs s rest mid pool chain h =
    let a : ℕ = address_at pairs s in
    let leaf = chain.0 in let low = leaf.live in
    let shut : (p : ℕ) → level_of p ≡ level_of a → has_children pairs p ≡ false → mid p ≡ false = λ p level no. ⊎_elim
    (λ yes_p. absurd (⊎_elim (λ old. true≢false (sym old ∙ set_false pairs p no))
    (λ l. let z = low_less pairs s rest p leaf chain.1.0 chain.1.1 l in omega arith) (h.low p yes_p)))
    (λ n_p. n_p) (cases_Bool (mid p)) in (
      shut a refl leaf.leaf,
      (λ some. shut (mate_of a) (mate_of-level a low some) (⊎_elim
          (λ yes_b. absurd (let back = mate_of-back a low some in true≢false (sym (ap (has_children pairs) (sym back)
          ∙ member_mate n pairs (mate_of a) pool (mate_of-low a low some) yes_b (omega arith)) ∙ leaf.leaf)))
          (λ n_b. n_b) (cases_Bool (has_children pairs (mate_of a))))),
    )

-- one more split
pub chained_step : (n : ℕ) (pairs : List ℕ) (s : ℕ) (rest : List ℕ) (mid now : ℕ → Bool) → IsPool n pairs →
    IsChain pairs (s ∷ rest) → level_of (address_at pairs s) < 2 * n →
    IsChained n pairs rest mid → IsGrown mid now (address_at pairs s) → IsChained n pairs (s ∷ rest) now
chained_step n pairs s rest mid now pool chain coarse h grown =
    let a : ℕ = address_at pairs s in
    let leaf = chain.0 in let low = leaf.live in
    let closed = chained_closed n pairs rest mid pool h in
    record {
      forced = least_step n (split_set pairs) mid now a (record { low = low; coarse = coarse })
          (λ deep. has_children-set pairs (a / 2) (omega arith) (parent_has_children pairs s low)) closed.0 closed.1
          (λ deep. chained_up n pairs s rest mid chain.1.0 h deep) grown
          (λ other c sub up. chained_least n pairs s rest mid other chain.1.0 chain.1.1 h c sub up);
      low = λ p m. elim (grown.only p m) [
        | inl old ↦ elim (h.low p old) [
          | inl older ↦ inl older
          | inr l ↦ inr (let z = low_less pairs s rest p leaf chain.1.0 chain.1.1 l in omega arith)
        ]
        | inr (inl e) ↦ inr (let z : level_of p ≡ level_of a = ap level_of e in omega arith)
        | inr (inr v) ↦ inr (let z : level_of p ≡ level_of (mate_of a) = ap level_of v.1 in
            let y = mate_of-level a low v.0 in omega arith)
      ];
    }

-- the next slot's triangle is below the finest level too
pub next_coarse : (n : ℕ) (pairs : List ℕ) (s t : ℕ) (rest : List ℕ) → IsChain pairs (s ∷ (t ∷ rest)) →
    level_of (address_at pairs s) < 2 * n → level_of (address_at pairs t) < 2 * n
next_coarse n pairs s t rest chain coarse =
    let z = low_less pairs s (t ∷ rest) (address_at pairs t) chain.0 chain.1.0 chain.1.1
    (let same : level_of (address_at pairs t) ≤ level_of (address_at pairs t) = omega arith in same) in
    omega arith

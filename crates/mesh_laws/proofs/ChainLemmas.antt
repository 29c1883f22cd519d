-- What the split of one leaf forces: the least closed set with it, and the chain of leaves that must be split first.
use Rattle.std.proofs.Common.{◌≡◌, ap, sym, ◌∙◌, ◌⊎◌, Bool, true, false, ℕ, ◌+◌, ◌*◌, ◌/◌, ◌<◌, ◌≤◌, refl, arith, inl}
use Rattle.std.proofs.Common.{inr, ⊎_elim, subst, List, [], ◌∷◌, length}
use Rattle.std.proofs.lemmas.Bool.{cases_lt, cases_Bool}
use Rattle.mesh_defs.specs.Triangle.{level_of, IsSplittable, IsMate}
use Rattle.mesh_defs.specs.ClosedSet.{IsClosed, IsSubset, IsLeastClosed}
use Rattle.mesh_defs.specs.Greedy.{with_triangle}
use Rattle.bintree_laws.proofs.LevelLemmas.{level_of-parent}
use Rattle.mesh_laws.proofs.ForcingLemmas.{with-old, with-new, with-cases}
use Rattle.mesh_laws.specs.Edge.{mate_of, with_square}
use Rattle.mesh_laws.specs.LeafAcross.{IsLeafOf, IsGrown}
use Rattle.mesh_laws.specs.Chain.{IsForcedFirst, IsForcedChain}
use Rattle.mesh_laws.proofs.MateLemmas.{mate_of-back, mate_of-low, mate_of-level}
use Rattle.mesh_laws.proofs.IsMateLemmas.{IsMate-mate_of, mate_of-IsMate}
use Rattle.mesh_laws.proofs.OwnerLemmas.{never, owner-whole}
use Rattle.mesh_laws.proofs.LeafAcrossLemmas.{with_square-deep, with_square-root, leaf-up, leaf-shut, IsLeafOf-shut}
use Rattle.mesh_laws.proofs.LeafAcrossLemmas.{across-shut, owner-leaf}

-- ---- a closed set with one diamond more

-- A closed set with a and b is closed, where their parents are there and neither has another mate than the other.
pub closed_more : (n : ℕ) (has more : ℕ → Bool) (a b : ℕ) → IsClosed n has → IsSubset has more →
    more a ≡ true → more b ≡ true →
    ((p : ℕ) → more p ≡ true → (has p ≡ true) ⊎ ((p ≡ a) ⊎ (p ≡ b))) → IsSplittable n a → IsSplittable n b →
    (4 ≤ a → has (a / 2) ≡ true) → (4 ≤ b → has (b / 2) ≡ true) → ((q : ℕ) → IsMate n a q → q ≡ b) →
    ((q : ℕ) → IsMate n b q → q ≡ a) →
    IsClosed n more
closed_more n has more a b closed sub at_a at_b only split_a split_b up_a up_b mate_a mate_b = record {
  splittable = λ p h. elim (only p h) [
    | inl old ↦ closed.splittable p old
    | inr (inl e) ↦ record {
      low = (let l = split_a.low in omega arith);
      coarse = (let l = split_a.coarse in let z : level_of p ≡ level_of a = ap level_of e in omega arith);
    }
    | inr (inr e) ↦ record {
      low = (let l = split_b.low in omega arith);
      coarse = (let l = split_b.coarse in let z : level_of p ≡ level_of b = ap level_of e in omega arith);
    }
  ];
  parent = λ p h deep. sub (p / 2) (elim (only p h) [
    | inl old ↦ closed.parent p old deep
    | inr (inl e) ↦ ap (λ t. has (t / 2)) e ∙ up_a (omega arith)
    | inr (inr e) ↦ ap (λ t. has (t / 2)) e ∙ up_b (omega arith)
  ]);
  mate = λ p q h m. elim (only p h) [
    | inl old ↦ sub q (closed.mate p q old m)
    | inr (inl e) ↦ ap more (mate_a q (subst (λ t. IsMate n t q) e m)) ∙ at_b
    | inr (inr e) ↦ ap more (mate_b q (subst (λ t. IsMate n t q) e m)) ∙ at_a
  ];
}

-- A closed set with a and its mate is closed, where the parents of both are there.
pub grown_closed : (n : ℕ) (mid now : ℕ → Bool) (a : ℕ) → IsSplittable n a → IsClosed n mid →
    (4 ≤ a → mid (a / 2) ≡ true) → (4 ≤ mate_of a → mid (mate_of a / 2) ≡ true) → IsGrown mid now a → IsClosed n now
grown_closed n mid now a split closed up mate_up grown =
    let low = split.low in let coarse = split.coarse in
    ⊎_elim
    (λ none.
    let no_mate : (q : ℕ) → IsMate n a q → q ≡ a = λ q m. let is = mate_of-IsMate n a q low (omega arith) m in
    absurd (let l = m.address.low in omega arith) in
    closed_more n mid now a a closed grown.kept grown.added grown.added
    (λ p h. elim (grown.only p h) [
      | inl old ↦ inl old
      | inr (inl e) ↦ inr (inl e)
      | inr (inr v) ↦ absurd (let z = v.0 in omega arith)
    ])
    split split up up no_mate no_mate)
    (λ some.
    let b = mate_of-low a low some in
    let level : level_of (mate_of a) ≡ level_of a = mate_of-level a low some in
    let back : mate_of (mate_of a) ≡ a = mate_of-back a low some in
    closed_more n mid now a (mate_of a) closed grown.kept grown.added (grown.mate some)
    (λ p h. elim (grown.only p h) [ inl old ↦ inl old | inr (inl e) ↦ inr (inl e) | inr (inr v) ↦ inr (inr v.1) ])
    split (record { low = b; coarse = omega arith }) up mate_up
    (λ q m. sym (mate_of-IsMate n a q low (omega arith) m))
    (λ q m. sym (mate_of-IsMate n (mate_of a) q b (omega arith) m) ∙ back))
    (cases_lt (mate_of a) 1)

-- If mid is the least closed set with `has` and the parent of a's mate, then with a and its mate it is the least one
-- with a.
pub least_step : (n : ℕ) (has mid now : ℕ → Bool) (a : ℕ) → IsSplittable n a → (4 ≤ a → has (a / 2) ≡ true) →
    IsClosed n mid → IsSubset has mid →
    (4 ≤ mate_of a → mid (mate_of a / 2) ≡ true) → IsGrown mid now a →
    ((other : ℕ → Bool) → IsClosed n other → IsSubset has other →
    (4 ≤ mate_of a → other (mate_of a / 2) ≡ true) → IsSubset mid other) →
    IsLeastClosed n (with_triangle has a) now
least_step n has mid now a split up closed sub mate_up grown least =
    let low = split.low in let coarse = split.coarse in
    record {
      closed = grown_closed n mid now a split closed (λ deep. sub (a / 2) (up deep)) mate_up grown;
      holds = λ p h. elim (with-cases has a p h) [
        | inl old ↦ grown.kept p (sub p old)
        | inr e ↦ ap now (sym e) ∙ grown.added
      ];
      least = λ other c wanted p h.
          let at_a : other a ≡ true = wanted a (with-new has a) in
          let at_mate : 1 ≤ mate_of a → other (mate_of a) ≡ true =
          λ some. c.mate a (mate_of a) at_a (IsMate-mate_of n a low (omega arith) some) in
          elim (grown.only p h) [
            | inl old ↦ least other c (λ q m. wanted q (with-old has a q m))
                (λ deep. c.parent (mate_of a) (at_mate (omega arith)) deep) p old
            | inr (inl e) ↦ ap other e ∙ at_a
            | inr (inr v) ↦ ap other v.1 ∙ at_mate v.0
          ];
    }

-- ---- the chain

-- a leaf's mate is not in the set
pub mate-whole : (n : ℕ) (has : ℕ → Bool) (a : ℕ) → IsClosed n has → IsLeafOf has a →
    1 ≤ mate_of a → has (mate_of a) ≡ false
mate-whole n has a closed leaf some =
    let low = leaf.low in
    sym (with_square-deep has (mate_of a) (mate_of-low a low some))
    ∙ across-shut n has a closed low (leaf-shut has a leaf) some

-- Where the mate of a leaf is no leaf, the mate's parent is a leaf, and one level coarser.
pub forced_leaf : (n : ℕ) (has : ℕ → Bool) (a b : ℕ) → IsClosed n has → IsLeafOf has a → IsForcedFirst has a b →
    IsLeafOf has b × (level_of b + 1 ≡ level_of a)
forced_leaf n has a b closed leaf first =
    let low = leaf.low in let some = first.some in
    let two = mate_of-low a low some in
    let level = mate_of-level a low some in
    let whole = mate-whole n has a closed leaf some in
    let no_leaf : with_square has (mate_of a / 2) ≡ true → ⊥ =
    λ up. first.coarser (IsLeafOf-shut has (mate_of a) two up (with_square-deep has (mate_of a) two ∙ whole)) in
    let deep : 4 ≤ mate_of a =
    ⊎_elim (λ top. absurd (no_leaf (ap (with_square has) (let half : mate_of a / 2 ≡ 1 = omega arith in half)
    ∙ with_square-root has))) (λ deep. deep) (cases_lt (mate_of a) 4) in
    let up = level_of-parent (mate_of a) deep in
    let is = first.parent in
    let shut : with_square has (mate_of a / 2) ≡ false =
    ⊎_elim (λ yes. absurd (no_leaf yes)) (λ no. no) (cases_Bool (with_square has (mate_of a / 2))) in
    let parent_leaf : IsLeafOf has (mate_of a / 2) = subst (IsLeafOf has)
    (owner-whole (with_square has) (mate_of a) shut) (owner-leaf n has a a closed leaf (inl refl) some) in
    let same : level_of b ≡ level_of (mate_of a / 2) = ap level_of is in
    (subst (IsLeafOf has) (sym is) parent_leaf, omega arith)

-- So the mate is a leaf, or its parent is the next of the chain.
pub mate_or_parent : (n : ℕ) (has : ℕ → Bool) (a : ℕ) → IsClosed n has → IsLeafOf has a → 1 ≤ mate_of a →
    IsLeafOf has (mate_of a) ⊎ IsForcedFirst has a (mate_of a / 2)
mate_or_parent n has a closed leaf some =
    let two = mate_of-low a leaf.low some in
    let whole = mate-whole n has a closed leaf some in
    ⊎_elim
    (λ up. inl (IsLeafOf-shut has (mate_of a) two up (with_square-deep has (mate_of a) two ∙ whole)))
    (λ shut. inr (record {
      some = some;
      coarser = λ is_leaf. never (with_square has) (mate_of a / 2) (leaf-up has (mate_of a) is_leaf) shut;
      parent = refl;
    }))
    (cases_Bool (with_square has (mate_of a / 2)))

-- The least closed set with a leaf is the one with the next of its chain, and then the leaf's diamond.
pub forced_step : (n : ℕ) (has mid now : ℕ → Bool) (a b : ℕ) → IsClosed n has → IsLeafOf has a →
    level_of a < 2 * n → IsForcedFirst has a b →
    IsLeastClosed n (with_triangle has b) mid → IsGrown mid now a → IsLeastClosed n (with_triangle has a) now
forced_step n has mid now a b closed leaf coarse first forced grown =
    least_step n has mid now a (record { low = leaf.low; coarse = coarse }) leaf.above forced.closed
    (λ p h. forced.holds p (with-old has b p h))
    (λ deep. ap mid (sym first.parent) ∙ forced.holds b (with-new has b)) grown
    (λ other c sub up. forced.least other c (λ p h. elim (with-cases has b p h) [
      | inl old ↦ sub p old
      | inr e ↦ ap other (sym e ∙ first.parent)
          ∙ up (let l = (forced_leaf n has a b closed leaf first).0.low in let is = first.parent in omega arith)
    ]))

-- Where the mate is a leaf, or there is none, it is the set with the diamond.
pub forced_end : (n : ℕ) (has now : ℕ → Bool) (a : ℕ) → IsClosed n has → IsLeafOf has a → level_of a < 2 * n →
    (1 ≤ mate_of a → IsLeafOf has (mate_of a)) →
    IsGrown has now a → IsLeastClosed n (with_triangle has a) now
forced_end n has now a closed leaf coarse mate grown =
    least_step n has has now a (record { low = leaf.low; coarse = coarse }) leaf.above closed (λ p h. h)
    (λ deep. (mate (omega arith)).above deep) grown (λ other c sub up. sub)

-- Levels fall along a chain, so it has no more leaves than levels.
pub chain-short : (n : ℕ) (has : ℕ → Bool) (a : ℕ) (rest : List ℕ) → IsClosed n has → IsForcedChain has (a ∷ rest) →
    length rest ≤ level_of a
chain-short n has a [] closed chain = omega arith
chain-short n has a (b ∷ rest) closed chain =
    let next = forced_leaf n has a b closed chain.0 chain.1.0 in
    let down = next.1 in
    let more = chain-short n has b rest closed chain.1.1 in omega arith

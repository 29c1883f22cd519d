-- What the rank closure of a budget leaves: the worst leaf, and what blocks.
use Rattle.std.proofs.Common.{◌≡◌, ℕ, ◌+◌, ◌*◌, ◌<◌, ◌≤◌, inl, inr, Bool, List, length, take, All, sym, ap, subst}
use Rattle.std.proofs.Common.{arith, ⊎_elim}
use Rattle.std.proofs.Math.Seq.{take-length}
use Rattle.std.proofs.lemmas.Bool.{cases_lt, cases_eq}
use Rattle.std.proofs.lemmas.List.Elements.{All-weaker}
use Rattle.std.proofs.lemmas.Option.{slice_get_within, get_or_from_slice_get}
use Rattle.mesh_defs.specs.Triangle.{level_of, IsAddress, IsSplittable}
use Rattle.mesh_defs.specs.ClosedSet.{leaves_of}
use Rattle.mesh_defs.specs.Priority.{worst_of}
use Rattle.mesh_defs.specs.Ranking.{RanksBefore, IsRanking, IsPrefixClosure, IsRankClosure, IsBlockedBy}
use Rattle.mesh_defs.specs.Greedy.{IsFirstLeaf}
use Rattle.bintree_laws.proofs.LevelLemmas.{level-le}
use Rattle.mesh_defs.proofs.ListLemmas.{IsIn, IsIn-contains, Contains-in, among-in}
use Rattle.mesh_defs.specs.Falling.{IsFalling}
use Rattle.mesh_defs.proofs.WorstLemmas.{worst-le, le-worst}
use Rattle.mesh_laws.proofs.ClosureLemmas.{IsOuter, IsOuter-leaves_of}
use Rattle.mesh_laws.proofs.RankLemmas.{IsGreedyEnd-closure, first_leaf-blocked}

-- no lesser priority comes first
before-le : (priority : ℕ → ℕ) (t a : ℕ) → RanksBefore priority t a → priority a ≤ priority t
before-le priority t a (inl h) = omega arith
before-le priority t a (inr h) = omega arith

module _ (n budget : ℕ) (priority : ℕ → ℕ) (ranking : List ℕ) (chosen : ℕ) (has : ℕ → Bool)
    (ranked : IsRanking n priority ranking) (falling : IsFalling n priority)
    (closure : IsRankClosure n budget ranking chosen has) where
  -- an address of positive priority is ranked
  ranked-positive : (a : ℕ) → IsAddress n a → 0 < priority a → IsIn a ranking
  ranked-positive a address some = IsIn-contains a ranking ((ranked.members a).1 (splittable, some))
    where
      splittable : IsSplittable n a
      splittable = ⊎_elim
          (λ (coarse : level_of a < 2 * n). record { low = address.low; coarse = coarse })
          (λ (fine : 2 * n ≤ level_of a).
          let fits = level-le n a address in
          let none = falling.finest a address (omega arith) in
          absurd (omega arith))
          (cases_lt (level_of a) (2 * n))

  -- where all are chosen, each leaf has priority 0
  pub leaves-zero : chosen ≡ length ranking → All (λ a. priority a ≡ 0) (leaves_of n has)
  leaves-zero all =
      All-weaker (IsOuter n has) (λ a. priority a ≡ 0) zero_of (leaves_of n has)
      (IsOuter-leaves_of n has closure.closure.closed)
    where
      whole : IsPrefixClosure n ranking (length ranking) has
      whole = subst (λ k. IsPrefixClosure n ranking k has) all closure.closure

      zero_of : (a : ℕ) → IsOuter n has a → priority a ≡ 0
      zero_of a outer = ⊎_elim
          (λ (none : priority a < 1). omega arith)
          (λ (some : 1 ≤ priority a). absurd (outer.outside (whole.holds a
          (among-in a (take (length ranking) ranking)
          (subst (λ (l : List ℕ). IsIn a l) (sym (take-length ranking))
          (ranked-positive a outer.address (omega arith)))))))
          (cases_lt (priority a) 1)

  module _ (low : 2 ≤ budget) (t need : ℕ) (blocked : IsBlockedBy n ranking chosen t need) where
    -- what blocks is ranked
    blocking-within : chosen < length ranking
    blocking-within = slice_get_within ranking chosen t blocked.next

    -- it needs more than the budget
    pub blocking-over : budget < need
    blocking-over =
        let within = blocking-within in
        let more = closure.longest (chosen + 1) blocked.counted.0 (omega arith) (omega arith) blocked.counted.1 in
        let same = blocked.counted.2 in omega arith

    -- it is the first leaf in rank
    pub blocking-first : IsFirstLeaf n priority has t
    blocking-first =
        subst (λ z. IsFirstLeaf n priority has z) (get_or_from_slice_get ranking chosen t 0 blocked.next)
        (first_leaf-blocked n priority ranking ranked falling budget chosen has closure blocking-within low
        (IsGreedyEnd-closure n priority ranking ranked falling budget chosen has closure))

    -- and a worst leaf
    pub blocking-worst : priority t ≡ worst_of priority (leaves_of n has)
    blocking-worst =
        let f = blocking-first in
        let least = le-worst priority t (leaves_of n has) (IsIn-contains t (leaves_of n has) f.leaf) in
        let most = worst-le priority (priority t) (leaves_of n has) (λ a leaf. ⊎_elim
        (λ (none : priority a < 1). omega arith)
        (λ (some : 1 ≤ priority a). ⊎_elim
        (λ (same : a ≡ t). let e : priority a ≡ priority t = ap priority same in omega arith)
        (λ (other : a ≡ t → ⊥).
        before-le priority t a (f.first a (Contains-in a (leaves_of n has) leaf) (omega arith) other))
        (cases_eq a t))
        (cases_lt (priority a) 1)) in
        omega arith

-- What there is for every grid: the least closed set with any set of splittable triangles, a ranking, the rank closure
-- of a budget, and the frame of a budget.
use Rattle.std.proofs.Common.{◌≡◌, ℕ, zero, suc, ◌+◌, ◌<◌, ◌≤◌, inl, inr, Bool, false, List, [], ◌∷◌, Option, None}
use Rattle.std.proofs.Common.{Some, IsTrue, length, take, get_or, refl, sym, subst, arith, ⊎_elim}
use Rattle.std.proofs.lemmas.Bool.{cases_lt}
use Rattle.mesh_defs.specs.Triangle.{IsSplittable}
use Rattle.mesh_defs.specs.ClosedSet.{IsClosed, IsLeastClosed, leaves_of, among}
use Rattle.mesh_defs.specs.Greedy.{with_triangle}
use Rattle.mesh_defs.specs.Ranking.{IsRanking, IsPrefixClosure, IsRankClosure, IsBlockedBy}
use Rattle.mesh_defs.proofs.ListLemmas.{IsIn, IsIn-among, among-in}
use Rattle.mesh_defs.specs.GridSet.{IsAscending, IsForced}
use Rattle.mesh_laws.proofs.ForcingLemmas.{with-cases, with-old, with-new}
use Rattle.mesh_laws.proofs.ClosureLemmas.{nothing_least, IsLeastClosed-unique, IsLeastClosed-same, closure_of}
use Rattle.mesh_laws.proofs.ClosureLemmas.{leaves_of-none, leaves_of-same}
use Rattle.mesh_laws.proofs.RankLemmas.{in_prefix, at_place, slice_get-at}
use Rattle.mesh_laws.proofs.RankingLemmas.{ranking_of, IsRanking-of}
use Rattle.bintree_addr.specs.declared.blocked.Blocked.{Blocked}
use Rattle.mesh_laws.specs.Frame.{IsFrame}
use Rattle.mesh_laws.proofs.FrameLemmas.{IsFrame-same}
use Rattle.mesh_defs.specs.Priority.{worst_of}
use Rattle.std.proofs.lemmas.Option.{same_Some, none-some}
use Rattle.mesh_laws.proofs.SetListLemmas.{list_of, ascending-list_of, among-list_of, list_of-among, among-list}

-- least closed sets

-- with a list of splittable triangles
pub closure_of_list : (n : ℕ) (xs : List ℕ) → ((a : ℕ) → IsIn a xs → IsSplittable n a) →
    (has : ℕ → Bool) × IsLeastClosed n (among xs) has
closure_of_list n [] splittable = ((λ _. false), nothing_least n (among []) (λ a. refl))
closure_of_list n (x ∷ xs) splittable =
    let rest = closure_of_list n xs (λ a i. splittable a (inr i)) in
    let next = closure_of n rest.0 x rest.1.closed (splittable x (inl refl)) in (
      next.0,
      record {
        closed = next.1.closed;
        holds = λ a h. ⊎_elim
            (λ (same : x ≡ a). subst (λ z. IsTrue (next.0 z)) same (next.1.holds x (with-new rest.0 x)))
            (λ i. next.1.holds a (with-old rest.0 x a (rest.1.holds a (among-in a xs i))))
            (IsIn-among a (x ∷ xs) h);
        least = λ other shut holds. next.1.least other shut (λ a h. ⊎_elim
            (λ old. rest.1.least other shut (λ b i. holds b (among-in b (x ∷ xs) (inr (IsIn-among b xs i)))) a old)
            (λ (same : x ≡ a). holds a (among-in a (x ∷ xs) (inl same)))
            (with-cases rest.0 x a h));
      },
    )

-- with any set of splittable triangles
pub least_closed_of : (n : ℕ) (wanted : ℕ → Bool) → ((a : ℕ) → IsTrue (wanted a) → IsSplittable n a) →
    (has : ℕ → Bool) × IsLeastClosed n wanted has
least_closed_of n wanted splittable =
    let r = closure_of_list n (list_of n wanted)
    (λ a i. splittable a (list_of-among n wanted a (among-in a (list_of n wanted) i))) in (
      r.0,
      record {
        closed = r.1.closed;
        holds = λ a h. r.1.holds a (among-list n wanted a (splittable a h) h);
        least = λ other shut holds. r.1.least other shut (λ a h. holds a (list_of-among n wanted a h));
      },
    )

-- with a closed set and one triangle more, as a list
pub forced_list : (n : ℕ) (before : List ℕ) (t : ℕ) → IsClosed n (among before) → IsSplittable n t →
    (after : List ℕ) × IsForced n before t after
forced_list n before t closed splittable =
    let next = closure_of n (among before) t closed splittable in (
      list_of n next.0,
      record {
        ascending = ascending-list_of n next.0;
        least = IsLeastClosed-same n (with_triangle (among before) t) next.0 (among (list_of n next.0))
            (among-list_of n next.0 next.1.closed) next.1;
      },
    )

-- rank closures

module _ (n budget : ℕ) (priority : ℕ → ℕ) (ranking : List ℕ) (ranked : IsRanking n priority ranking)
    (low : 2 ≤ budget) where
  -- each prefix has a closure
  pub prefix_closure : (k : ℕ) → (has : ℕ → Bool) × IsPrefixClosure n ranking k has
  prefix_closure k = closure_of_list n (take k ranking) (λ a i.
      let p = in_prefix k a ranking i in
      subst (IsSplittable n) p.3 ((ranked.members (get_or ranking p.0 0)).0 (at_place p.0 ranking p.2)).0)

  -- the longest prefix of at most so many entries whose closure is within the budget
  record Longest (most : ℕ) : Type 0 where
    chosen : ℕ
    prefix : chosen ≤ most
    has : ℕ → Bool
    closure : IsPrefixClosure n ranking chosen has
    fits : length (leaves_of n has) ≤ budget
    longest : (k : ℕ) (other : ℕ → Bool) → chosen < k → k ≤ most → IsPrefixClosure n ranking k other →
        budget < length (leaves_of n other)

  longest_prefix : (most : ℕ) → most ≤ length ranking → Longest most
  longest_prefix zero le = record {
    chosen = 0;
    prefix = omega arith;
    has = λ _. false;
    closure = nothing_least n (among []) (λ a. refl);
    fits = omega (arith, leaves_of-none n (λ _. false) (λ a. refl));
    longest = λ k other more within. absurd (omega arith);
  }
  longest_prefix (suc most) le =
      let top = prefix_closure (suc most) in
      ⊎_elim
      (λ (over : budget < length (leaves_of n top.0)).
      let r : Longest most = longest_prefix most (omega arith) in
      let prefix = r.prefix in
      record {
        chosen = r.chosen;
        prefix = omega arith;
        has = r.has;
        closure = r.closure;
        fits = r.fits;
        longest = λ k other more within closure. ⊎_elim
            (λ less. r.longest k other more (omega arith) closure)
            (λ last.
            let same = IsLeastClosed-unique n (among (take (suc most) ranking)) top.0 other top.1
            (subst (λ z. IsPrefixClosure n ranking z other) (let e : k ≡ suc most = omega arith in e) closure) in
            subst (λ (l : List ℕ). budget < length l) (leaves_of-same n top.0 other same) over)
            (cases_lt k (suc most));
      })
      (λ (fits : length (leaves_of n top.0) ≤ budget).
      record {
        chosen = suc most;
        prefix = omega arith;
        has = top.0;
        closure = top.1;
        fits = fits;
        longest = λ k other more within. absurd (omega arith);
      })
      (cases_lt budget (length (leaves_of n top.0)))

  -- there is a rank closure
  pub rank_closure_of : (chosen : ℕ) × (has : ℕ → Bool) × IsRankClosure n budget ranking chosen has
  rank_closure_of =
      let r : Longest (length ranking) = longest_prefix (length ranking) (omega arith) in
      (r.chosen, r.has, record { prefix = r.prefix; closure = r.closure; fits = r.fits; longest = r.longest })

-- the frame of a budget

frame_of_test : (n budget : ℕ) (priority : ℕ → ℕ) → 2 ≤ budget →
    (has : ℕ → Bool) × (worst : ℕ) × (blocked : Option Blocked) × IsFrame n budget priority has worst blocked
frame_of_test n budget priority low =
    let ranking : List ℕ = ranking_of n priority in
    let ranked : IsRanking n priority ranking = IsRanking-of n priority in
    let best = rank_closure_of n budget priority ranking ranked low in
    ⊎_elim
    (λ (more : best.0 < length ranking).
    let next = prefix_closure n budget priority ranking ranked low (best.0 + 1) in
    let block : Blocked = record { tri = get_or ranking best.0 0; need = length (leaves_of n next.0) } in (
      best.1,
      worst_of priority (leaves_of n best.1),
      Some block,
      record {
        ranking = ranking;
        chosen = best.0;
        ranked = ranked;
        closure = best.2;
        greatest = refl;
        unblocked = λ none. absurd (none-some block (sym none));
        blocking = λ b same. subst (λ (z : Blocked). IsBlockedBy n ranking best.0 z.tri z.need) (same_Some block b same)
            record { next = slice_get-at best.0 ranking more; counted = (next.0, next.1, refl) };
      },
    ))
    (λ (rest : length ranking ≤ best.0). (
      best.1,
      worst_of priority (leaves_of n best.1),
      None,
      record {
        ranking = ranking;
        chosen = best.0;
        ranked = ranked;
        closure = best.2;
        greatest = refl;
        unblocked = λ none. let most = best.2.prefix in omega arith;
        blocking = λ b same. absurd (none-some b same);
      },
    ))
    (cases_lt best.0 (length ranking))

-- there is one, whatever the priorities are, and its set is a list
pub frame_of : (n budget : ℕ) (priority : ℕ → ℕ) → 2 ≤ budget →
    (members : List ℕ) × (worst : ℕ) × (blocked : Option Blocked) × IsAscending members
    × IsFrame n budget priority (among members) worst blocked
frame_of n budget priority low =
    let r = frame_of_test n budget priority low in (
      list_of n r.0,
      r.1,
      r.2,
      ascending-list_of n r.0,
      IsFrame-same n budget priority r.0 (among (list_of n r.0)) r.1 r.2
          (among-list_of n r.0 r.3.closure.closure.closed) r.3,
    )

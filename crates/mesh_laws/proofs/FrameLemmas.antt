-- Frames: each is determined, is the best mesh, and is certified by what blocks.
use Rattle.std.proofs.Common.{◌≡◌, ℕ, zero, suc, ◌<◌, ◌≤◌, ◌↔◌, ◌⊎◌, inl, inr, Bool, List, [], ◌∷◌, length, take}
use Rattle.std.proofs.Common.{get_or, All, AllPairs, Contains, Option, None, Some, IsNone, IfSome, refl, sym, ◌∙◌, ap}
use Rattle.std.proofs.Common.{ap₂, subst, arith, ⊎_elim}
use Rattle.std.proofs.lemmas.Bool.{cases_lt, false≢true}
use Rattle.std.proofs.lemmas.List.Elements.{All-contains}
use Rattle.std.proofs.lemmas.Option.{slice_get_within, same_Some, none-some}
use Rattle.mesh_defs.specs.ClosedSet.{IsLeastClosed, leaves_of, among}
use Rattle.mesh_defs.specs.Priority.{worst_of}
use Rattle.mesh_defs.specs.Ranking.{RanksBefore, IsRanking, IsRankClosure, IsBlockedBy}
use Rattle.mesh_defs.specs.Greedy.{IsFirstLeaf, with_triangle, IsGreedyEnd}
use Rattle.mesh_defs.specs.BestMesh.{IsBestMesh}
use Rattle.mesh_laws.proofs.RankingLemmas.{ranking_of, IsRanking-of}
use Rattle.bintree_addr.specs.declared.blocked.Blocked.{Blocked}
use Rattle.mesh_defs.proofs.ListLemmas.{IsIn, IsIn-contains, Contains-in}
use Rattle.mesh_defs.specs.Falling.{IsFalling}
use Rattle.mesh_defs.proofs.OrderLemmas.{not_both_before}
use Rattle.mesh_laws.proofs.ClosureLemmas.{leaves_of-same, IsLeastClosed-same}
use Rattle.mesh_laws.proofs.RankLemmas.{IsRankClosure-unique, IsBlockedBy-unique, IsGreedyEnd-closure}
use Rattle.mesh_laws.proofs.RankLemmas.{IsBestMesh-end, IsRankClosure-greedy, IsBlockedBy-greedy, first_leaf-blocked}
use Rattle.mesh_laws.specs.Frame.{IsFrame}
use Rattle.mesh_defs.proofs.WorstLemmas.{worst-zeros}
use Rattle.mesh_laws.proofs.ChoiceLemmas.{leaves-zero, blocking-over, blocking-first, blocking-worst}

-- rankings are determined

-- the first ranks before all that follow
head-before : (priority : ℕ → ℕ) (x : ℕ) (xs : List ℕ) → AllPairs (RanksBefore priority) (x ∷ xs) → (a : ℕ) →
    IsIn a xs → RanksBefore priority x a
head-before priority x xs o a h =
    All-contains (RanksBefore priority x) xs a
    (λ k d b. o zero (suc k) d (omega arith) (omega arith)) (Contains-in a xs h)

-- two lists in rank order with the same entries are equal
ranking_unique : (priority : ℕ → ℕ) (xs ys : List ℕ) → AllPairs (RanksBefore priority) xs →
    AllPairs (RanksBefore priority) ys →
    ((a : ℕ) → IsIn a xs → IsIn a ys) → ((a : ℕ) → IsIn a ys → IsIn a xs) → xs ≡ ys
ranking_unique priority [] [] o p forth back = refl
ranking_unique priority [] (y ∷ ys) o p forth back = absurd (back y (inl refl))
ranking_unique priority (x ∷ xs) [] o p forth back = absurd (forth x (inl refl))
ranking_unique priority (x ∷ xs) (y ∷ ys) o p forth back =
    ap₂ (λ (z : ℕ) (zs : List ℕ). z ∷ zs) same
    (ranking_unique priority xs ys
    (λ i j d h k. o (suc i) (suc j) d (omega arith) (omega arith))
    (λ i j d h k. p (suc i) (suc j) d (omega arith) (omega arith))
    (λ a h. rest x y xs ys same o a h (forth a (inr h)))
    (λ a h. rest y x ys xs (sym same) p a h (back a (inr h))))
  where
    first : (y ≡ x) ⊎ IsIn x ys → (x ≡ y) ⊎ IsIn y xs → x ≡ y
    first (inl e) other = sym e
    first (inr h) (inl e) = e
    first (inr h) (inr k) =
        absurd (not_both_before priority y x (head-before priority y ys p x h) (head-before priority x xs o y k))

    same : x ≡ y
    same = first (forth x (inl refl)) (back y (inl refl))

    rest : (u v : ℕ) (us vs : List ℕ) → u ≡ v → AllPairs (RanksBefore priority) (u ∷ us) → (a : ℕ) → IsIn a us →
        (v ≡ a) ⊎ IsIn a vs → IsIn a vs
    rest u v us vs e q a h (inl f) =
        let before : RanksBefore priority u u =
        subst (λ z. RanksBefore priority u z) (sym (e ∙ f)) (head-before priority u us q a h) in
        absurd (not_both_before priority u u before before)
    rest u v us vs e q a h (inr k) = k

-- two rankings are equal
pub IsRanking-unique : (n : ℕ) (priority : ℕ → ℕ) (xs ys : List ℕ) → IsRanking n priority xs →
    IsRanking n priority ys → xs ≡ ys
IsRanking-unique n priority xs ys p q =
    ranking_unique priority xs ys p.ordered q.ordered
    (λ a h. IsIn-contains a ys ((q.members a).1 ((p.members a).0 (Contains-in a xs h))))
    (λ a h. IsIn-contains a xs ((p.members a).1 ((q.members a).0 (Contains-in a ys h))))

-- frames are determined

-- what blocks is
blocked_unique : (n : ℕ) (ranking : List ℕ) (chosen : ℕ) (blocked instead : Option Blocked) →
    (blocked ≡ None → chosen ≡ length ranking) →
    ((b : Blocked) → blocked ≡ Some b → IsBlockedBy n ranking chosen b.tri b.need) →
    (instead ≡ None → chosen ≡ length ranking) →
    ((b : Blocked) → instead ≡ Some b → IsBlockedBy n ranking chosen b.tri b.need) → blocked ≡ instead
blocked_unique n ranking chosen None None none some others other = refl
blocked_unique n ranking chosen None (Some b) none some others other =
    let all = none refl in
    let within = slice_get_within ranking chosen b.tri (other b refl).next in
    absurd (omega arith)
blocked_unique n ranking chosen (Some b) None none some others other =
    let all = others refl in
    let within = slice_get_within ranking chosen b.tri (some b refl).next in
    absurd (omega arith)
blocked_unique n ranking chosen (Some b) (Some c) none some others other =
    let same = IsBlockedBy-unique n ranking chosen b.tri c.tri b.need c.need (some b refl) (other c refl) in
    ap₂ (λ (t m : ℕ). made t m) same.0 same.1
  where
    made : ℕ → ℕ → Option Blocked
    made t m = Some record { tri = t; need = m }

-- the whole frame is
pub IsFrame-unique : (n budget : ℕ) (priority : ℕ → ℕ) (has instead : ℕ →
    Bool) (worst other : ℕ) (blocked blocks : Option Blocked) →
    IsFrame n budget priority has worst blocked → IsFrame n budget priority instead other blocks →
    ((a : ℕ) → has a ≡ instead a) × (worst ≡ other) × (blocked ≡ blocks)
IsFrame-unique n budget priority has instead worst other blocked blocks f g =
    let ranking : g.ranking ≡ f.ranking = IsRanking-unique n priority g.ranking f.ranking g.ranked f.ranked in
    let closure : IsRankClosure n budget f.ranking g.chosen instead =
    subst (λ (l : List ℕ). IsRankClosure n budget l g.chosen instead) ranking g.closure in
    let same = IsRankClosure-unique n budget f.ranking f.chosen g.chosen has instead f.closure closure in
    let leaves : leaves_of n has ≡ leaves_of n instead = leaves_of-same n has instead same.1 in (
      same.1,
      f.greatest ∙ ap (λ (l : List ℕ). worst_of priority l) leaves ∙ sym g.greatest,
      blocked_unique n f.ranking f.chosen blocked blocks f.unblocked f.blocking
          (λ e. same.0 ∙ g.unblocked e ∙ ap length ranking)
          (λ b e. subst (λ k. IsBlockedBy n f.ranking k b.tri b.need) (sym same.0)
          (subst (λ (l : List ℕ). IsBlockedBy n l g.chosen b.tri b.need) ranking (g.blocking b e))),
    )

-- a set with the same members has the same frame
pub IsFrame-same : (n budget : ℕ) (priority : ℕ → ℕ) (has other : ℕ → Bool) (worst : ℕ) (blocked : Option Blocked) →
    ((a : ℕ) → has a ≡ other a) → IsFrame n budget priority has worst blocked →
    IsFrame n budget priority other worst blocked
IsFrame-same n budget priority has other worst blocked same f =
    let leaves : leaves_of n has ≡ leaves_of n other = leaves_of-same n has other same in
    record {
      ranking = f.ranking;
      chosen = f.chosen;
      ranked = f.ranked;
      closure = record {
        prefix = f.closure.prefix;
        closure = IsLeastClosed-same n (among (take f.chosen f.ranking)) has other same f.closure.closure;
        fits = subst (λ (l : List ℕ). length l ≤ budget) leaves f.closure.fits;
        longest = f.closure.longest;
      };
      greatest = f.greatest ∙ ap (λ (l : List ℕ). worst_of priority l) leaves;
      unblocked = f.unblocked;
      blocking = f.blocking;
    }

-- what a frame is

-- the best mesh
pub IsBestMesh-frame : (n budget : ℕ) (priority : ℕ → ℕ) (has : ℕ → Bool) (worst : ℕ) (blocked : Option Blocked) →
    IsFrame n budget priority has worst blocked → IsFalling n priority → 2 ≤ budget →
    IsBestMesh n budget priority (leaves_of n has)
IsBestMesh-frame n budget priority has worst blocked f falling low =
    IsBestMesh-end n budget priority has falling low
    (IsGreedyEnd-closure n priority f.ranking f.ranked falling budget f.chosen has f.closure)

-- what blocks certifies it
pub certificate : (n budget : ℕ) (priority : ℕ → ℕ) (has : ℕ → Bool) (worst : ℕ) (blocked : Option Blocked) →
    IsFrame n budget priority has worst blocked → IsFalling n priority → 2 ≤ budget →
    IfSome blocked (λ b. (budget < b.need) × (priority b.tri ≡ worst) × Contains (leaves_of n has) b.tri)
certificate n budget priority has worst None f falling low = tt
certificate n budget priority has worst (Some b) f falling low =
    let at = f.blocking b refl in (
      blocking-over n budget priority f.ranking f.chosen has f.ranked falling f.closure low b.tri b.need at,
      blocking-worst n budget priority f.ranking f.chosen has f.ranked falling f.closure low b.tri
          b.need at ∙ sym f.greatest,
      (blocking-first n budget priority f.ranking f.chosen has f.ranked falling f.closure low b.tri b.need at).leaf,
    )

-- nothing blocks exactly where no leaf is worth a split
pub unblocked : (n budget : ℕ) (priority : ℕ → ℕ) (has : ℕ → Bool) (worst : ℕ) (blocked : Option Blocked) →
    IsFrame n budget priority has worst blocked → IsFalling n priority → 2 ≤ budget →
    IsNone blocked ↔ All (λ a. priority a ≡ 0) (leaves_of n has)
unblocked n budget priority has worst None f falling low = (
  (λ none. leaves-zero n budget priority f.ranking f.chosen has f.ranked falling f.closure (f.unblocked refl)),
  (λ all. refl),
)
unblocked n budget priority has worst (Some b) f falling low = (
  (λ some. absurd (false≢true (sym some))),
  (λ all.
      let first = blocking-first n budget priority f.ranking f.chosen has f.ranked falling f.closure low b.tri b.need
      (f.blocking b refl) in
      let none : priority b.tri ≡ 0 = All-contains (λ a. priority a ≡ 0) (leaves_of n has) b.tri all first.leaf in
      let some = first.positive in absurd (omega arith)),
)

-- the end of greedy refinement is the frame

-- where no leaf is worth a split
pub IsFrame-done : (n budget : ℕ) (priority : ℕ → ℕ) (has : ℕ → Bool) → IsFalling n priority → 2 ≤ budget →
    IsGreedyEnd n budget priority has →
    All (λ a. priority a ≡ 0) (leaves_of n has) → IsFrame n budget priority has 0 None
IsFrame-done n budget priority has falling low end zeros =
    let ranked = IsRanking-of n priority in
    let closure = IsRankClosure-greedy n priority (ranking_of n priority) ranked falling budget has low end in
    record {
      ranking = ranking_of n priority;
      chosen = closure.0;
      ranked = ranked;
      closure = closure.1;
      greatest = sym (worst-zeros priority (leaves_of n has) zeros);
      unblocked = λ _. ⊎_elim
          (λ (less : closure.0 < length (ranking_of n priority)).
          let first = first_leaf-blocked n priority
          (ranking_of n priority) ranked falling budget closure.0 has closure.1 less low end in
          let none = All-contains (λ a. priority a ≡ 0) (leaves_of n has)
          (get_or (ranking_of n priority) closure.0 0) zeros first.leaf in
          let some = first.positive in absurd (omega arith))
          (λ (all : length (ranking_of n priority) ≤ closure.0). let prefix = closure.1.prefix in omega arith)
          (cases_lt closure.0 (length (ranking_of n priority)));
      blocking = λ b some. absurd (none-some b some);
    }

-- where the first leaf in rank needs more than the budget
pub IsFrame-stopped : (n budget : ℕ) (priority : ℕ → ℕ) (has next : ℕ → Bool) (b : Blocked) → IsFalling n priority →
    2 ≤ budget → IsGreedyEnd n budget priority has →
    IsFirstLeaf n priority has b.tri → IsLeastClosed n (with_triangle has b.tri) next →
    b.need ≡ length (leaves_of n next) →
    IsFrame n budget priority has (priority b.tri) (Some b)
IsFrame-stopped n budget priority has next b falling low end first least counted =
    let ranked = IsRanking-of n priority in
    let closure = IsRankClosure-greedy n priority (ranking_of n priority) ranked falling budget has low end in
    let at : IsBlockedBy n (ranking_of n priority) closure.0 b.tri b.need =
    subst (λ need. IsBlockedBy n (ranking_of n priority) closure.0 b.tri need) (sym counted)
    (IsBlockedBy-greedy n priority (ranking_of n priority) ranked falling budget closure.0 has next b.tri low end
    closure.1 first least) in
    record {
      ranking = ranking_of n priority;
      chosen = closure.0;
      ranked = ranked;
      closure = closure.1;
      greatest = blocking-worst n budget priority
          (ranking_of n priority) closure.0 has ranked falling closure.1 low b.tri b.need at;
      unblocked = λ none. absurd (none-some b (sym none));
      blocking = λ c some. subst (λ (z : Blocked). IsBlockedBy n (ranking_of n priority) closure.0 z.tri z.need)
          (same_Some b c some) at;
    }

-- A set has one next set, and so there is one run.
use Rattle.std.proofs.Common.{◌≡◌, ℕ, ◌+◌, ◌-◌, ◌<◌, Bool, List, length, refl, sym, ap, subst, arith, ⊎_elim}
use Rattle.std.proofs.lemmas.Bool.{cases_eq}
use Rattle.mesh_defs.specs.ClosedSet.{among}
use Rattle.mesh_defs.specs.Ranking.{RanksBefore}
use Rattle.mesh_laws.proofs.OrderLemmas.{before-no_later, no_later_back}
use Rattle.mesh_laws.proofs.ChangeLemmas.{one_forced, one_without_diamond}
use Rattle.mesh_laws.specs.Lead.{IsLastLead}
use Rattle.mesh_laws.proofs.FirstLeafLemmas.{first_not_zero, one_first}
use Rattle.mesh_laws.specs.Steps.{leaf_count, DoesNotFit, IsSplitStep, MustMerge, too_many, makes_room, needless}
use Rattle.mesh_laws.specs.Steps.{IsMergeStep, IsFinished, blocked, all_split, StepRun, begin, split, merge}

module _ (n : ℕ) (priority : ℕ → ℕ) where
  -- one last diamond in rank
  pub one_last : (has : ℕ → Bool) (d e : ℕ) → IsLastLead n priority has d → IsLastLead n priority has e → d ≡ e
  one_last has d e h k = ⊎_elim
      (λ same. same)
      (λ differ.
      absurd (no_later_back (before-no_later (k.last d h.lead differ)) (h.last e k.lead (λ q. differ (sym q)))))
      (cases_eq d e)

module _ (n budget : ℕ) (priority : ℕ → ℕ) where
  -- all split steps from a set lead to one set
  pub one_split : (s t u : List ℕ) → IsSplitStep n budget priority s t → IsSplitStep n budget priority s u → t ≡ u
  one_split s t u h k =
      one_forced n s h.leaf k.leaf t u (one_first n priority (among s) h.leaf k.leaf h.first k.first) h.forced k.forced

  -- and so do all merge steps
  pub one_merge : (s t u : List ℕ) → IsMergeStep n budget priority s t → IsMergeStep n budget priority s u → t ≡ u
  one_merge s t u h k = one_without_diamond n s h.diamond k.diamond t u
      (one_last n priority (among s) h.diamond k.diamond h.last k.last) h.merged k.merged

  -- a leaf that does not fit is not split
  fits_or_not : (s t : List ℕ) (f : ℕ) → IsSplitStep n budget priority s t → DoesNotFit n budget priority s f → ⊥
  fits_or_not s t f h no_room =
      let same = one_forced n s f h.leaf no_room.after t
      (one_first n priority (among s) f h.leaf no_room.first h.first) no_room.forced h.forced in
      let over : budget < leaf_count n t = subst (λ z. budget < leaf_count n z) same no_room.over in
      let fits = h.fits in omega arith

  -- no set has both
  pub not_both : (s t u : List ℕ) → IsSplitStep n budget priority s t → IsMergeStep n budget priority s u → ⊥
  not_both s t u h k = by_case k.must
    where
      by_case : MustMerge n budget priority s k.diamond → ⊥
      by_case (too_many over) = let within = h.within in omega arith
      by_case (makes_room f within no_room later) = fits_or_not s t f h no_room
      by_case (needless within zeros none) = first_not_zero n priority (among s) h.leaf h.first zeros

  -- a set that has a next one is not finished
  pub split_not_finished : (s t : List ℕ) → IsSplitStep n budget priority s t → IsFinished n budget priority s → ⊥
  split_not_finished s t h (blocked f within no_room leads) = fits_or_not s t f h no_room
  split_not_finished s t h (all_split within zeros leads) = first_not_zero n priority (among s) h.leaf h.first zeros

  -- nor is one that has a merge step
  pub merge_not_finished : (s t : List ℕ) → IsMergeStep n budget priority s t → IsFinished n budget priority s → ⊥
  merge_not_finished s t k finished = by_case k.must finished
    where
      by_case : MustMerge n budget priority s k.diamond → IsFinished n budget priority s → ⊥
      by_case (too_many over) (blocked f within no_room leads) = omega arith
      by_case (too_many over) (all_split within zeros leads) = omega arith
      by_case (makes_room f within no_room later) (blocked g inside no_place leads) =
          let same = one_first n priority (among s) f g no_room.first no_place.first in
          no_later_back (before-no_later (subst (λ z. RanksBefore priority z k.diamond) same later))
          (leads k.diamond k.last.lead)
      by_case (makes_room f within no_room later) (all_split inside zeros leads) =
          first_not_zero n priority (among s) f no_room.first zeros
      by_case (needless within zeros none) (blocked g inside no_place leads) =
          first_not_zero n priority (among s) g no_place.first zeros
      by_case (needless within zeros none) (all_split inside zeros_too leads) =
          let some = leads k.diamond k.last.lead in
          omega arith

  -- the steps that are left, up to the end
  data Rest (last : List ℕ) : List ℕ → ℕ → ℕ → Type 0 where
    over : IsFinished n budget priority last → Rest last last 0 0
    splitting : (s t : List ℕ) (added removed : ℕ) → IsSplitStep n budget priority s t → Rest last t added removed →
        Rest last s (length t - length s + added) removed
    merging : (s t : List ℕ) (added removed : ℕ) → IsMergeStep n budget priority s t → Rest last t added removed →
        Rest last s added (length s - length t + removed)

  -- a run, told from its beginning
  rest_of : (s t last : List ℕ) (x y a b : ℕ) → StepRun n budget priority s t x y → Rest last t a b →
      Rest last s (x + a) (y + b)
  rest_of s t last x y a b begin r = subst (λ z. Rest last s (0 + a) z) (let e : b ≡ 0 + b = omega arith in e)
      (subst (λ z. Rest last s z b) (let e : a ≡ 0 + a = omega arith in e) r)
  rest_of s _ last x y a b (split t u c d h m) r =
      let e : c + (length u - length t + a) ≡ c + (length u - length t) + a = omega arith in
      subst (λ z. Rest last s z (d + b)) e (rest_of s t last c d (length u - length t + a) b h (splitting t u a b m r))
  rest_of s _ last x y a b (merge t u c d h m) r =
      let e : d + (length t - length u + b) ≡ d + (length t - length u) + b = omega arith in
      subst (λ z. Rest last s (c + a) z) e (rest_of s t last c d a (length t - length u + b) h (merging t u a b m r))

  one_rest : (last other s v : List ℕ) (a b c d : ℕ) → s ≡ v → Rest last s a b → Rest other v c d →
      (last ≡ other) × (a ≡ c) × (b ≡ d)
  one_rest last other _ _ a b c d e (over f) (over g) = (e, refl, refl)
  one_rest last other _ _ a b c d e (over f) (splitting v u x y m r) =
      absurd (split_not_finished last u (subst (λ z. IsSplitStep n budget priority z u) (sym e) m) f)
  one_rest last other _ _ a b c d e (over f) (merging v u x y m r) =
      absurd (merge_not_finished last u (subst (λ z. IsMergeStep n budget priority z u) (sym e) m) f)
  one_rest last other _ _ a b c d e (splitting s t x y m r) (over g) =
      absurd (split_not_finished s t m (subst (λ z. IsFinished n budget priority z) (sym e) g))
  one_rest last other _ _ a b c d e (merging s t x y m r) (over g) =
      absurd (merge_not_finished s t m (subst (λ z. IsFinished n budget priority z) (sym e) g))
  one_rest last other _ _ a b c d e (splitting s t x y m r) (merging v u z w k q) =
      absurd (not_both s t u m (subst (λ l. IsMergeStep n budget priority l u) (sym e) k))
  one_rest last other _ _ a b c d e (merging s t x y m r) (splitting v u z w k q) =
      absurd (not_both v u t k (subst (λ l. IsMergeStep n budget priority l t) e m))
  one_rest last other _ _ a b c d e (splitting s t x y m r) (splitting v u z w k q) =
      let same = one_split s t u m (subst (λ l. IsSplitStep n budget priority l u) (sym e) k) in
      let rest = one_rest last other t u x y z w same r q in
      let after : length t ≡ length u = ap (λ (l : List ℕ). length l) same in
      let before : length s ≡ length v = ap (λ (l : List ℕ). length l) e in
      (rest.0, omega (arith, rest.1), rest.2)
  one_rest last other _ _ a b c d e (merging s t x y m r) (merging v u z w k q) =
      let same = one_merge s t u m (subst (λ l. IsMergeStep n budget priority l u) (sym e) k) in
      let rest = one_rest last other t u x y z w same r q in
      let after : length t ≡ length u = ap (λ (l : List ℕ). length l) same in
      let before : length s ≡ length v = ap (λ (l : List ℕ). length l) e in
      (rest.0, rest.1, omega (arith, rest.2))

  -- two whole runs from a set end at one set, with the same counts
  pub one_run : (start last other : List ℕ) (a b c d : ℕ) → StepRun n budget priority start last a b →
      IsFinished n budget priority last →
      StepRun n budget priority start other c d → IsFinished n budget priority other →
      (last ≡ other) × (a ≡ c) × (b ≡ d)
  one_run start last other a b c d run finished run_too finished_too =
      let r = one_rest last other start start (a + 0) (b + 0) (c + 0) (d + 0) refl
      (rest_of start last last a b 0 0 run (over finished))
      (rest_of start other other c d 0 0 run_too (over finished_too)) in
      let first = r.1 in let second = r.2 in
      (r.0, omega arith, omega arith)

-- Flags that are set from the first address up.
use Rattle.std.proofs.Common.{◌≡◌, ℕ, ◌+◌, ◌*◌, ◌^◌, ◌<◌, ◌≤◌, Bool, true, false, List, length, set, replicate, sym}
use Rattle.std.proofs.Common.{◌∙◌, subst, arith, ⊎_elim}
use Rattle.std.proofs.lemmas.Bool.{cases_lt, ne_eqb}
use Rattle.mesh_laws.specs.Least.{is_worse}
use Rattle.mesh_laws.specs.Sweep.{is_flagged}
use Rattle.mesh_laws.proofs.FlagLemmas.{flagged-set, flagged-unset}
use Rattle.mesh_laws.proofs.SweepLemmas.{splittable-lt}
use Rattle.mesh_laws.proofs.LeastLemmas.{not_worse}
use Rattle.mesh_laws.proofs.ForcingLemmas.{with-new}
use Rattle.least_mesh.specs.Asked.{AreWantedFlagged}
use Rattle.mesh_defs.proofs.TestLemmas.{or_none}

-- at first none is set, and below 2 none is worse
pub asked-none : (n tolerance count : ℕ) (priority : ℕ → ℕ) (flags : List Bool) → flags ≡ replicate count false →
    AreWantedFlagged (is_worse n tolerance priority) flags 2
asked-none n tolerance count priority flags e = record {
  below = λ a small. none a ∙ sym (not_worse n tolerance priority a (λ s. let low = s.low in omega arith));
  above = λ a _. none a;
}
  where
    none : (a : ℕ) → is_flagged flags a ≡ false
    none a = subst (λ (l : List Bool). is_flagged l a ≡ false) (sym e) (flagged-unset count a)

-- the next one is wanted, and its flag is set
pub asked-yes : (wanted : ℕ → Bool) (flags : List Bool) (k : ℕ) → AreWantedFlagged wanted flags k →
    k < length flags → wanted k ≡ true →
    AreWantedFlagged wanted (set flags k true) (k + 1)
asked-yes wanted flags k p room is = record {
  below = λ a small. ⊎_elim
      (λ less. other a (λ e. omega arith) ∙ p.below a less)
      (λ (last : k ≤ a).
      let e : k ≡ a = omega arith in
      subst (λ z. is_flagged (set flags k true) z ≡ wanted z) e
      (flagged-set flags k k room ∙ with-new (is_flagged flags) k ∙ sym is))
      (cases_lt a k);
  above = λ a late. other a (λ e. omega arith) ∙ p.above a (omega arith);
}
  where
    other : (a : ℕ) → (k ≡ a → ⊥) → is_flagged (set flags k true) a ≡ is_flagged flags a
    other a differ = flagged-set flags k a room ∙ or_none (is_flagged flags a) _ (ne_eqb k a differ)

-- the next one is not wanted
pub asked-no : (wanted : ℕ → Bool) (flags : List Bool) (k : ℕ) → AreWantedFlagged wanted flags k → wanted k ≡ false →
    AreWantedFlagged wanted flags (k + 1)
asked-no wanted flags k p none = record {
  below = λ a small. ⊎_elim
      (λ less. p.below a less)
      (λ (last : k ≤ a).
      let e : k ≡ a = omega arith in
      subst (λ z. is_flagged flags z ≡ wanted z) e (p.above k (omega arith) ∙ sym none))
      (cases_lt a k);
  above = λ a late. p.above a (omega arith);
}

-- past the last splittable address none is worse
pub asked-all : (n tolerance k : ℕ) (priority : ℕ → ℕ) (flags : List Bool) → k ≡ 2 ^ (2 * n + 1) →
    AreWantedFlagged (is_worse n tolerance priority) flags k →
    (a : ℕ) → is_flagged flags a ≡ is_worse n tolerance priority a
asked-all n tolerance k priority flags end p a = ⊎_elim
    (λ less. p.below a less)
    (λ (past : k ≤ a). p.above a past
    ∙ sym (not_worse n tolerance priority a (λ s. let below = splittable-lt n a s in omega arith)))
    (cases_lt a k)

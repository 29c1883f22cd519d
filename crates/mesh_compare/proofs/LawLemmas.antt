-- What a first difference tells of two texts.
use Rattle.std.proofs.Common.{◌≡◌, ◌≢◌, ℕ, suc, List, [], ◌∷◌, take, Option, Some, None, slice_get, refl, sym, ap, ap₂}
use Rattle.std.proofs.Common.{◌∙◌, arith, eq-eqb}
use Rattle.std.specs.Prelude.{option_map, ◌==◌}
use Rattle.std.proofs.lemmas.Bool.{cond-true, cond-false, eqb-true, eqb-false}
use Rattle.std.proofs.lemmas.Option.{same_Some}
use Rattle.text_laws.proofs.TestLemmas.{by_bool}
use Rattle.mesh_compare.specs.Differs.{first_difference}

-- a text does not differ from itself
pub differs-not : (text : List ℕ) → first_difference text text ≡ None
differs-not [] = refl
differs-not (a ∷ text) =
    cond-true (a == a) (option_map (λ k. suc k) (first_difference text text)) (Some 0) (eq-eqb a a refl)
    ∙ ap (option_map (λ k. suc k)) (differs-not text)

-- the first bytes of two texts: they are the same, or differ
heads : {P : Type 0} (a b : ℕ) (text bytes : List ℕ) →
    (a ≡ b → first_difference (a ∷ text) (b ∷ bytes) ≡ option_map (λ k. suc k) (first_difference text bytes) → P) →
    (a ≢ b → first_difference (a ∷ text) (b ∷ bytes) ≡ Some 0 → P) → P
heads a b text bytes same other =
    by_bool (a == b)
    (λ e. same (eqb-true a b e) (cond-true (a == b) (option_map (λ k. suc k) (first_difference text bytes)) (Some 0) e))
    (λ e. other (eqb-false a b e) (cond-false (a == b)
    (option_map (λ k. suc k) (first_difference text bytes)) (Some 0) e))

-- no place moved on by one is none
moved-none : (found : Option ℕ) → option_map (λ k. suc k) found ≡ None → found ≡ None
moved-none None is = refl
moved-none (Some k) is = absurd (grind arith)

-- a place moved on by one is one more
moved-some : {P : Type 0} (found : Option ℕ) (at : ℕ) → option_map (λ k. suc k) found ≡ Some at →
    ((k : ℕ) → found ≡ Some k → at ≡ suc k → P) → P
moved-some None at is next = absurd (grind arith)
moved-some (Some k) at is next = next k refl (sym (same_Some _ _ is))

-- texts that do not differ are the same
pub same-text : (text bytes : List ℕ) → first_difference text bytes ≡ None → text ≡ bytes
same-text [] [] is = refl
same-text [] (b ∷ bytes) is = absurd (grind arith)
same-text (a ∷ text) [] is = absurd (grind arith)
same-text (a ∷ text) (b ∷ bytes) is =
    heads a b text bytes
    (λ same rest. ap₂ (λ (x : ℕ) xs. x ∷ xs) same
    (same-text text bytes (moved-none (first_difference text bytes) (sym rest ∙ is))))
    (λ other rest. absurd (let e : Some 0 ≡ None = sym rest ∙ is in grind arith))

-- before the place of their difference texts are the same
pub same-before : (text bytes : List ℕ) (at : ℕ) → first_difference text bytes ≡ Some at → take at text ≡ take at bytes
same-before [] [] at is = refl
same-before [] (b ∷ bytes) at is = rw (← same_Some 0 at is) refl
same-before (a ∷ text) [] at is = rw (← same_Some 0 at is) refl
same-before (a ∷ text) (b ∷ bytes) at is =
    heads a b text bytes
    (λ same rest. moved-some (first_difference text bytes) at (sym rest ∙ is)
    (λ k found later. rw later (ap₂ (λ (x : ℕ) xs. x ∷ xs) same (same-before text bytes k found))))
    (λ other rest. rw (← same_Some 0 at (sym rest ∙ is)) refl)

-- at that place they differ, or one has ended
pub other-at : (text bytes : List ℕ) (at : ℕ) → first_difference text bytes ≡ Some at →
    slice_get text at ≢ slice_get bytes at
other-at [] [] at is = absurd (grind arith)
other-at [] (b ∷ bytes) at is = rw (← same_Some 0 at is) (λ e. grind arith)
other-at (a ∷ text) [] at is = rw (← same_Some 0 at is) (λ e. grind arith)
other-at (a ∷ text) (b ∷ bytes) at is =
    heads a b text bytes
    (λ same rest. moved-some (first_difference text bytes) at (sym rest ∙ is)
    (λ k found later. rw later (other-at text bytes k found)))
    (λ other rest. rw (← same_Some 0 at (sym rest ∙ is)) (λ e. other (same_Some a b e)))

-- Tolerances for all points and for each of them.
use Rattle.std.proofs.Common.{◌≡◌, ℕ, ◌*◌, ◌<◌, ◌≤◌, List, [], ◌∷◌, length, refl, arith}
use Rattle.std.specs.Prelude.{All, ◌↔◌}
use Rattle.mesh_defs.specs.HeightField.{side_of}
use Rattle.fit_mesh.specs.Limit.{tolerance_of, error_within, IsComplete}
use Rattle.fit_laws.specs.Error.{error_of}
use Rattle.fit_laws.specs.Excess.{excess_of}
use Rattle.roam_embed.specs.Fitting.{fit_tolerance_of}
use Rattle.roam_embed.specs.Asked.{IsTolerance, AreTolerances, tolerance_for, error_for}
use Rattle.roam_embed.specs.declared.fitting.TheConstants.{GREATEST_TOLERANCE}

-- none of a point
pub tolerances-none : (n thousandths : ℕ) (own : List ℕ) → length own ≡ 0 →
    (thousandths ≤ GREATEST_TOLERANCE) ↔ AreTolerances n thousandths own
tolerances-none n thousandths [] none = (λ h. h, λ h. h)
tolerances-none n thousandths (t ∷ own) none = absurd (omega arith)

-- or some
pub tolerances-some : (n thousandths : ℕ) (own : List ℕ) → 0 < length own →
    ((length own ≡ side_of n * side_of n) × All IsTolerance own) ↔ AreTolerances n thousandths own
tolerances-some n thousandths [] some = absurd (omega arith)
tolerances-some n thousandths (t ∷ own) some = (λ h. h, λ h. h)

-- of no point's own
pub tolerance-none : (n thousandths : ℕ) (own : List ℕ) → length own ≡ 0 →
    fit_tolerance_of n thousandths ≡ tolerance_for n thousandths own
tolerance-none n thousandths [] none = refl
tolerance-none n thousandths (t ∷ own) none = absurd (omega arith)

pub error-none : (n : ℕ) (heights own : List ℕ) → length own ≡ 0 → error_of n heights ≡ error_for n heights own
error-none n heights [] none = refl
error-none n heights (t ∷ own) none = absurd (omega arith)

-- of some
pub tolerance-some : (n thousandths : ℕ) (own : List ℕ) → 0 < length own → 0 ≡ tolerance_for n thousandths own
tolerance-some n thousandths [] some = absurd (omega arith)
tolerance-some n thousandths (t ∷ own) some = refl

pub error-some : (n : ℕ) (heights own : List ℕ) → 0 < length own → excess_of n heights own ≡ error_for n heights own
error-some n heights [] some = absurd (omega arith)
error-some n heights (t ∷ own) some = refl

-- a list that is scaled is as long
pub length-zero : (own : List ℕ) → length own ≡ 0 → own ≡ []
length-zero [] none = refl
length-zero (t ∷ own) none = absurd (omega arith)

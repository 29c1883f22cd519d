-- Out of memory, where the handle has no room for what was made: an answer like any other.
use Rattle.std.proofs.Common.{◌≡◌, ℕ, List, ap, arith, inl, inr, refl}
use Rattle.roam_embed.specs.declared.answer.Answer.{Answer}
use Rattle.roam_embed.specs.declared.answer.Answer.TheVariants.{Done, NoMemory, BadGrid, BadBudget, BadSpacing}
use Rattle.roam_embed.specs.Calls.{IsOpenAnswer}

-- answers are told apart
abbrev mark : Answer → ℕ
mark Done = 0
mark NoMemory = 1
mark BadGrid = 2
mark BadBudget = 3
mark BadSpacing = 4
mark other = 5

differ : {X : Type 0} → (a b : Answer) → (mark a ≡ mark b → ⊥) → a ≡ b → X
differ a b apart e = absurd (apart (ap mark e))

-- where nothing else is wrong, memory may be
pub open-memory : (heights : List ℕ) (budget spacing : ℕ) → IsOpenAnswer heights budget spacing Done →
    IsOpenAnswer heights budget spacing NoMemory
open-memory heights budget spacing h = record {
  bad_grid = (
    differ NoMemory BadGrid (λ e. omega (arith, e)),
    (λ p. differ Done BadGrid (λ e. omega (arith, e)) (h.bad_grid.1 p)),
  );
  bad_budget = (
    differ NoMemory BadBudget (λ e. omega (arith, e)),
    (λ p. differ Done BadBudget (λ e. omega (arith, e)) (h.bad_budget.1 p)),
  );
  bad_spacing = (
    differ NoMemory BadSpacing (λ e. omega (arith, e)),
    (λ p. differ Done BadSpacing (λ e. omega (arith, e)) (h.bad_spacing.1 p)),
  );
  others = ((λ _. h.others.0 (inl refl)), (λ p. inr refl));
}

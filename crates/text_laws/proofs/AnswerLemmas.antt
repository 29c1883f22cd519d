-- Answers: what follows from which of its forms an `Option` or a `Result` has.
use Rattle.std.proofs.Common.{◌≡◌, Option, Some, None, Result, Ok, Err, IfSome, IfErr, sym, subst}

-- nothing is said of what is not there
pub at-none : {A : Type 0} → (o : Option A) (P : A → Type 0) → o ≡ None → IfSome o P
at-none None P e = tt
at-none (Some x) P e = absurd (cc)

-- what is there has what it is known to have
pub at-some : {A : Type 0} → (o : Option A) (x : A) (P : A → Type 0) → o ≡ Some x → P x → IfSome o P
at-some o x P e h = subst (λ (p : Option _). IfSome p P) (sym e) h

-- the same refusal has the same fault
pub err-same : {A E : Type 0} (one other : E) → ◌≡◌ {A = Result A E} (Err one) (Err other) → one ≡ other
err-same one other e = cc

-- no value is a refusal
pub ok-err : {A E : Type 0} (value : A) (fault : E) → ◌≡◌ {A = Result A E} (Ok value) (Err fault) → ⊥
ok-err value fault e = cc

-- what two clauses of a refusal say, taken together
pub both-err : {A E : Type 0} (answer : Result A E) (P Q R : E → Type 0) → ((fault : E) → P fault → Q fault → R fault) →
    IfErr answer P → IfErr answer Q → IfErr answer R
both-err (Ok value) P Q R proof p q = tt
both-err (Err fault) P Q R proof p q = proof fault p q

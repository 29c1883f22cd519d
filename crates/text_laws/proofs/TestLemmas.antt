-- Proofs by the two answers of a test.
use Rattle.std.proofs.Common.{◌≡◌, ℕ, Bool, true, false, Some, None, IsSome, cond, refl}

-- what follows from each of the two answers of a test
pub by_bool : {P : Type 0} (b : Bool) → (b ≡ true → P) → (b ≡ false → P) → P
by_bool true at_true at_false = at_true refl
by_bool false at_true at_false = at_false refl

-- what is there only where a test passes shows that it passed
pub some-test : (t : Bool) (v : ℕ) → IsSome (cond t (Some v) None) → t ≡ true
some-test true v h = refl
some-test false v h = h

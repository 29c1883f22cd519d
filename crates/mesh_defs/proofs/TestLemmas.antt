-- Tests: disjunctions, and tests that agree.
use Rattle.std.proofs.Common.{◌≡◌, ◌||◌, Bool, true, false, refl, sym}

-- one test more that fails changes nothing
pub or_none : (x y : Bool) → y ≡ false → (x || y) ≡ x
or_none true y none = refl
or_none false y none = none

-- two tests each of which passes where the other does are equal
pub same_tests : (b c : Bool) → (b ≡ true → c ≡ true) → (c ≡ true → b ≡ true) → b ≡ c
same_tests true c to from = sym (to refl)
same_tests false true to from = from refl
same_tests false false to from = refl

-- Choices by a test.
use Rattle.std.proofs.Common.{◌≡◌, Bool, true, false, cond, refl}
use Rattle.std.proofs.lemmas.Bool.{false≢true}

-- two choices of which either answers just where the other does
pub same_cond : {A : Type 0} (b c : Bool) (x y z : A) → (b ≡ true → (c ≡ true) × (x ≡ y)) →
    (c ≡ true → b ≡ true) → cond b x z ≡ cond c y z
same_cond true true x y z there back = (there refl).1
same_cond true false x y z there back = absurd (false≢true (there refl).0)
same_cond false true x y z there back = absurd (false≢true (back refl))
same_cond false false x y z there back = refl

-- two answers under one test are one, where they are where it is true
pub cond_same : {A : Type 0} (b : Bool) (x y z : A) → (b ≡ true → x ≡ y) → cond b x z ≡ cond b y z
cond_same true x y z same = same refl
cond_same false x y z same = refl

-- What a patch of one triangle asks of a drawing buffer.
use Rattle.std.proofs.Common.{◌≡◌, ◌≢◌, ℕ, ◌+◌, ◌<◌, ◌≤◌, cond, Bool, true, false, sym, List, [], ◌∷◌, ap, ◌∙◌, arith}
use Rattle.std.proofs.Common.{refl, ⊎_elim}
use Rattle.std.proofs.lemmas.Bool.{cases_eq, cases_lt, eq-eqb, ne_eqb, false≢true}
use Rattle.draw_buffer.specs.Times.{times}

times-none : (a : ℕ) → times [] a ≡ 0
unfolding times
times-none a = refl

times-here : (t a : ℕ) → t ≡ a → times (t ∷ []) a ≡ 1
unfolding times
times-here t a e = ap (λ b. 0 + cond b 1 0) (eq-eqb t a e)

times-other : (t a : ℕ) → t ≢ a → times (t ∷ []) a ≡ 0
unfolding times
times-other t a u = ap (λ b. 0 + cond b 1 0) (ne_eqb t a u)

-- none goes, and none comes
pub none-goes : (ts : List ℕ) (a : ℕ) → times [] a ≤ times ts a
none-goes ts a = let none = times-none a in omega arith

pub none-comes : (ts : List ℕ) → ((a : ℕ) → times ts a ≤ 1) → (a : ℕ) → times ts a + times [] a ≤ 1
none-comes ts once a = let none = times-none a in omega (arith, once a)

-- one that is there goes
pub one-goes : (ts : List ℕ) (t : ℕ) → 0 < times ts t → (a : ℕ) → times (t ∷ []) a ≤ times ts a
one-goes ts t here a = ⊎_elim
    (λ (e : t ≡ a). let one = times-here t a e in let same = ap (times ts) e in omega arith)
    (λ (u : t ≢ a). let none = times-other t a u in omega arith)
    (cases_eq t a)

-- one that is not there comes
pub one-comes : (ts : List ℕ) (t : ℕ) → ((a : ℕ) → times ts a ≤ 1) → times ts t ≤ 0 → (a : ℕ) →
    times ts a + times (t ∷ []) a ≤ 1
one-comes ts t once away a = ⊎_elim
    (λ (e : t ≡ a). let one = times-here t a e in let same = ap (times ts) e in omega arith)
    (λ (u : t ≢ a). let none = times-other t a u in omega (arith, once a))
    (cases_eq t a)

-- a test that says no
pub away : (b : Bool) (m : ℕ) → (b ≡ true → 0 < m) × (0 < m → b ≡ true) → b ≡ false → m ≤ 0
away b m says off = ⊎_elim (λ (h : 0 < m). absurd (false≢true (sym off ∙ says.1 h))) (λ (h : m ≤ 0). h) (cases_lt 0 m)

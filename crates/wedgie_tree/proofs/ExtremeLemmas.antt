-- The least and the greatest value over the points that pass a test.
use Rattle.std.proofs.Common.{◌≡◌, ℕ, ◌<◌, ◌≤◌, Bool, true, false, cond, ◌||◌, min, max, List, [], ◌∷◌, length, map}
use Rattle.std.proofs.Common.{refl, arith, ⊎_elim}
use Rattle.std.specs.List.{filter}
use Rattle.mesh_defs.specs.declared.point.Point.{Point}
use Rattle.mesh_defs.specs.BoundingBox.{least, greatest}
use Rattle.mesh_defs.proofs.PointLemmas.{IsPointIn, greatest-cond}

-- ---- the least value, with a bound in place of none

-- the least of the entries and b
abbrev pub under : ℕ → List ℕ → ℕ
under b [] = b
under b (x ∷ xs) = min x (under b xs)

min-least : (b x : ℕ) (xs : List ℕ) → min b (least (x ∷ xs)) ≡ under b (x ∷ xs)
min-least b x [] = omega arith
min-least b x (y ∷ ys) = omega (arith, min-least b y ys)

least-under : (b : ℕ) (xs : List ℕ) → 0 < length xs → least xs ≤ b → least xs ≡ under b xs
least-under b [] some h = absurd (omega arith)
least-under b (x ∷ xs) some h = omega (arith, min-least b x xs)

under-cond : (b : ℕ) (f : Point → ℕ) (t : Bool) (x : Point) (xs : List Point) →
    under b (map f (cond t (x ∷ xs) xs)) ≡ cond t (min (f x) (under b (map f xs))) (under b (map f xs))
under-cond b f true x xs = refl
under-cond b f false x xs = refl

split-step : (t u : Bool) (h k i j : ℕ) → k ≡ min i j →
    cond (t || u) (min h k) k ≡ min (cond t (min h i) i) (cond u (min h j) j)
split-step true true h k i j e = omega arith
split-step true false h k i j e = omega arith
split-step false true h k i j e = omega arith
split-step false false h k i j e = e

-- over the points that pass one of two tests
pub under-split : (b : ℕ) (f : Point → ℕ) (p q r : Point → Bool) →
    ((x : Point) → p x ≡ (q x || r x)) → (xs : List Point) →
    under b (map f (filter p xs)) ≡ min (under b (map f (filter q xs))) (under b (map f (filter r xs)))
under-split b f p q r e [] = omega arith
under-split b f p q r e (x ∷ xs) = rw (
  under-cond b f (p x) x (filter p xs),
  under-cond b f (q x) x (filter q xs),
  under-cond b f (r x) x (filter r xs),
  e x,
) (split-step (q x) (r x) (f x) (under b (map f (filter p xs))) (under b (map f (filter q xs)))
    (under b (map f (filter r xs))) (under-split b f p q r e xs))

le-step : (t : Bool) (m h k : ℕ) → (t ≡ true → m ≤ h) → m ≤ k → m ≤ cond t (min h k) k
le-step true m h k own rest = let here : m ≤ h = own refl in omega arith
le-step false m h k own rest = rest

-- a number that is at most the value of each point that passes
pub le-under : (m b : ℕ) (f : Point → ℕ) (p : Point → Bool) → m ≤ b → ((x : Point) → p x ≡ true → m ≤ f x) →
    (xs : List Point) → m ≤ under b (map f (filter p xs))
le-under m b f p le own [] = le
le-under m b f p le own (x ∷ xs) = rw (under-cond b f (p x) x (filter p xs))
    (le-step (p x) m (f x) (under b (map f (filter p xs))) (own x) (le-under m b f p le own xs))

in-step : (t : Bool) (h k : ℕ) → t ≡ true → cond t (min h k) k ≤ h
in-step true h k e = omega arith
in-step false h k e = absurd (cc)

skip-step : (t : Bool) (h k m : ℕ) → k ≤ m → cond t (min h k) k ≤ m
skip-step true h k m le = omega arith
skip-step false h k m le = le

-- a point that passes has at least the least value
pub under-le : (b : ℕ) (f : Point → ℕ) (p : Point → Bool) (x : Point) → p x ≡ true →
    (xs : List Point) → IsPointIn x xs →
    under b (map f (filter p xs)) ≤ f x
under-le b f p x passes [] h = absurd h
under-le b f p x passes (y ∷ ys) h = rw (under-cond b f (p y) y (filter p ys)) (⊎_elim
    {C = cond (p y) (min (f y) (under b (map f (filter p ys)))) (under b (map f (filter p ys))) ≤ f x}
    (λ e. rw e (in-step (p y) (f y) (under b (map f (filter p ys))) (rw (← e) passes)))
    (λ t. skip-step (p y) (f y) (under b (map f (filter p ys))) (f x) (under-le b f p x passes ys t))
    h)

-- ---- the greatest value

greatest-step : (t u : Bool) (h k i j : ℕ) → k ≡ max i j →
    cond (t || u) (max h k) k ≡ max (cond t (max h i) i) (cond u (max h j) j)
greatest-step true true h k i j e = omega arith
greatest-step true false h k i j e = omega arith
greatest-step false true h k i j e = omega arith
greatest-step false false h k i j e = e

-- over the points that pass one of two tests
pub greatest-split : (f : Point → ℕ) (p q r : Point → Bool) → ((x : Point) → p x ≡ (q x || r x)) → (xs : List Point) →
    greatest (map f (filter p xs)) ≡ max (greatest (map f (filter q xs))) (greatest (map f (filter r xs)))
greatest-split f p q r e [] = omega arith
greatest-split f p q r e (x ∷ xs) = rw (
  greatest-cond f (p x) x (filter p xs),
  greatest-cond f (q x) x (filter q xs),
  greatest-cond f (r x) x (filter r xs),
  e x,
) (greatest-step (q x) (r x) (f x) (greatest (map f (filter p xs))) (greatest (map f (filter q xs)))
    (greatest (map f (filter r xs))) (greatest-split f p q r e xs))

-- ---- some point passes

some-step : (f : Point → ℕ) (t : Bool) (x : Point) (xs : List Point) → t ≡ true →
    0 < length (map f (cond t (x ∷ xs) xs))
some-step f true x xs e = omega arith
some-step f false x xs e = absurd (cc)

more-step : (f : Point → ℕ) (t : Bool) (x : Point) (xs : List Point) → 0 < length (map f xs) →
    0 < length (map f (cond t (x ∷ xs) xs))
more-step f true x xs h = omega arith
more-step f false x xs h = h

some-passes : (f : Point → ℕ) (p : Point → Bool) (x : Point) → p x ≡ true → (xs : List Point) → IsPointIn x xs →
    0 < length (map f (filter p xs))
some-passes f p x passes [] h = absurd h
some-passes f p x passes (y ∷ ys) h = ⊎_elim {C = 0 < length (map f (filter p (y ∷ ys)))}
    (λ e. some-step f (p y) y (filter p ys) (rw (← e) passes))
    (λ t. more-step f (p y) y (filter p ys) (some-passes f p x passes ys t))
    h

-- where some point passes, the least value is that with any bound above it
pub least-bounded : (b : ℕ) (f : Point → ℕ) (p : Point → Bool) (x : Point) → p x ≡ true → (xs : List Point) →
    IsPointIn x xs → least (map f (filter p xs)) ≤ b → least (map f (filter p xs)) ≡ under b (map f (filter p xs))
least-bounded b f p x passes xs h le = least-under b (map f (filter p xs)) (some-passes f p x passes xs h) le

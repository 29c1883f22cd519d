-- Points in lists: the greatest value over those that pass a test, and the points of the grid; the test of two points.
use Rattle.std.proofs.Common.{◌≡◌, ℕ, zero, suc, ◌+◌, ◌^◌, ◌<◌, ◌≤◌, ◌⊎◌, Bool, true, false, cond, max, List, [], ◌∷◌}
use Rattle.std.proofs.Common.{◌++◌, map, eqb, refl, ap, ap₂, arith, ⊎_elim, inl, inr}
use Rattle.std.proofs.lemmas.Bool.{cases_lt, and_parts, and_from, eqb-true, eq-eqb}
use Rattle.std.specs.List.{filter, flat_map, range_with_len}
use Rattle.mesh_defs.specs.declared.point.Point.{Point}
use Rattle.mesh_defs.specs.HeightField.{side_of}
use Rattle.mesh_defs.specs.BoundingBox.{point, points_of, greatest}
use Rattle.mesh_defs.specs.MeshText.{is_same_point}

-- ---- entries of a list

-- p is an entry of the list
abbrev pub IsPointIn : Point → List Point → Type 0
IsPointIn p [] = ⊥
IsPointIn p (q ∷ qs) = (p ≡ q) ⊎ IsPointIn p qs

IsPointIn-append-left : (x : Point) (xs ys : List Point) → IsPointIn x xs → IsPointIn x (xs ++ ys)
IsPointIn-append-left x [] ys h = absurd h
IsPointIn-append-left x (z ∷ zs) ys h =
    ⊎_elim {C = IsPointIn x ((z ∷ zs) ++ ys)} (λ e. inl e) (λ t. inr (IsPointIn-append-left x zs ys t)) h

IsPointIn-append-right : (x : Point) (xs ys : List Point) → IsPointIn x ys → IsPointIn x (xs ++ ys)
IsPointIn-append-right x [] ys h = h
IsPointIn-append-right x (z ∷ zs) ys h = inr (IsPointIn-append-right x zs ys h)

-- one point more, if it passes
pub greatest-cond : (f : Point → ℕ) (t : Bool) (x : Point) (xs : List Point) →
    greatest (map f (cond t (x ∷ xs) xs)) ≡ cond t (max (f x) (greatest (map f xs))) (greatest (map f xs))
greatest-cond f true x xs = refl
greatest-cond f false x xs = refl

above-step : (t : Bool) (m h k : ℕ) → (t ≡ true → h ≤ m) → k ≤ m → cond t (max h k) k ≤ m
above-step true m h k own rest = let here : h ≤ m = own refl in omega arith
above-step false m h k own rest = rest

-- a number that is at least the value of each point that passes
pub greatest-le : (m : ℕ) (f : Point → ℕ) (p : Point → Bool) → ((x : Point) → p x ≡ true → f x ≤ m) →
    (xs : List Point) → greatest (map f (filter p xs)) ≤ m
greatest-le m f p own [] = omega arith
greatest-le m f p own (x ∷ xs) = rw (greatest-cond f (p x) x (filter p xs))
    (above-step (p x) m (f x) (greatest (map f (filter p xs))) (own x) (greatest-le m f p own xs))

greatest-in-step : (t : Bool) (h k : ℕ) → t ≡ true → h ≤ cond t (max h k) k
greatest-in-step true h k e = omega arith
greatest-in-step false h k e = absurd (cc)

greatest-skip-step : (t : Bool) (h k m : ℕ) → m ≤ k → m ≤ cond t (max h k) k
greatest-skip-step true h k m le = omega arith
greatest-skip-step false h k m le = le

-- a point that passes has at most the greatest value
pub le-greatest : (f : Point → ℕ) (p : Point → Bool) (x : Point) → p x ≡ true → (xs : List Point) → IsPointIn x xs →
    f x ≤ greatest (map f (filter p xs))
le-greatest f p x passes [] h = absurd h
le-greatest f p x passes (y ∷ ys) h = rw (greatest-cond f (p y) y (filter p ys)) (⊎_elim
    {C = f x ≤ cond (p y) (max (f y) (greatest (map f (filter p ys)))) (greatest (map f (filter p ys)))}
    (λ e. rw e (greatest-in-step (p y) (f y) (greatest (map f (filter p ys))) (rw (← e) passes)))
    (λ t. greatest-skip-step (p y) (f y) (greatest (map f (filter p ys))) (f x) (le-greatest f p x passes ys t))
    h)

-- ---- the points of the grid

IsPointIn-row : (y a k x : ℕ) → a ≤ x → x < a + k → IsPointIn (point x y) (map (λ i. point i y) (range_with_len a k))
IsPointIn-row y a zero x from to = absurd (omega arith)
IsPointIn-row y a (suc k) x from to =
    ⊎_elim {C = IsPointIn (point x y) (map (λ i. point i y) (range_with_len a (suc k)))}
    (λ later. inr (IsPointIn-row y (a + 1) k x (omega arith) (omega arith)))
    (λ here. let same : x ≡ a = omega arith in inl (rw same refl))
    (cases_lt a x)

IsPointIn-rows : (side a k x y : ℕ) → x < side → a ≤ y → y < a + k →
    IsPointIn (point x y) (flat_map (λ j. map (λ i. point i j) (range_with_len 0 side)) (range_with_len a k))
IsPointIn-rows side a zero x y fits from to = absurd (omega arith)
IsPointIn-rows side a (suc k) x y fits from to =
    ⊎_elim {C =
    IsPointIn (point x y) (flat_map (λ j. map (λ i. point i j) (range_with_len 0 side)) (range_with_len a (suc k)))}
    (λ later. IsPointIn-append-right (point x y) (map (λ i. point i a) (range_with_len 0 side))
    (flat_map (λ j. map (λ i. point i j) (range_with_len 0 side)) (range_with_len (a + 1) k))
    (IsPointIn-rows side (a + 1) k x y fits (omega arith) (omega arith)))
    (λ here. let same : y ≡ a = omega arith in
    IsPointIn-append-left (point x y) (map (λ i. point i a) (range_with_len 0 side))
    (flat_map (λ j. map (λ i. point i j) (range_with_len 0 side)) (range_with_len (a + 1) k))
    (rw same (IsPointIn-row a 0 side x (omega arith) (omega arith))))
    (cases_lt a y)

-- each point of the square is a grid point
pub IsPointIn-points_of : (n : ℕ) (r : Point) → r.x ≤ 2 ^ n → r.y ≤ 2 ^ n → IsPointIn r (points_of n)
unfolding points_of
IsPointIn-points_of n r x y = IsPointIn-rows (side_of n) 0 (side_of n) r.x r.y (omega arith) (omega arith) (omega arith)

-- ---- the test of two points

-- points that pass it are equal
pub same_point-eq : (p q : Point) → is_same_point p q ≡ true → p ≡ q
same_point-eq p q is =
    let both = and_parts (eqb p.x q.x) (eqb p.y q.y) is in
    ap₂ (λ i j. point i j) (eqb-true p.x q.x both.0) (eqb-true p.y q.y both.1)

-- and equal points pass it
pub eq-same_point : (p q : Point) → p ≡ q → is_same_point p q ≡ true
eq-same_point p q e =
    and_from (eqb p.x q.x) (eqb p.y q.y) (eq-eqb p.x q.x (ap (λ (r : Point). r.x) e))
    (eq-eqb p.y q.y (ap (λ (r : Point). r.y) e))

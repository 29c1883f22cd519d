-- Where triangles begin and end, depth first, and runs of a list.
use Rattle.std.proofs.Common.{◌≡◌, ℕ, zero, suc, ◌+◌, ◌-◌, ◌*◌, ◌%◌, ◌^◌, ◌<◌, ◌≤◌, true, nat_lt, List, [], ◌∷◌, ◌++◌}
use Rattle.std.proofs.Common.{length, drop, get_or, inl, inr, refl, ◌∙◌, ap, arith, ⊎_elim, pow_pos, pow-add}
use Rattle.std.proofs.Math.Nat.{pow-succ', mul-le-mul_right, mul_assoc}
use Rattle.std.proofs.Math.Seq.{drop-cons}
use Rattle.std.proofs.lemmas.Bool.{lt-ltb, le-ltb, ltb-false, eqb-true, cond-true, cond-false, cases_Bool}
use Rattle.mesh_defs.specs.Triangle.{level_of}
use Rattle.mesh_defs.proofs.ListLemmas.{IsIn}
use Rattle.bintree_laws.proofs.LevelLemmas.{level_of-left, level_of-right, lt-pow-level}
use Rattle.mesh_arrays.specs.Order.{first_of, end_of, run_length, begins_with}

-- triangles

-- a triangle and its children, by the half of the first's share
pub record AreHalved (a : ℕ) : Type 0 where
  pub half : ℕ
  pub low : ℕ
  pub some : 1 ≤ half
  pub first : first_of a ≡ low
  pub left_first : first_of (2 * a) ≡ low
  pub left_end : end_of (2 * a) ≡ low + half
  pub right_first : first_of (2 * a + 1) ≡ low + half
  pub right_end : end_of (2 * a + 1) ≡ low + 2 * half
  pub end : end_of a ≡ low + 2 * half

doubled : (a w : ℕ) → a * (2 * w) ≡ 2 * (a * w)
doubled a w = grind arith

more : (a w : ℕ) → (a + 1) * w ≡ a * w + w
more a w = grind arith

twice : (a w : ℕ) → 2 * a * w ≡ 2 * (a * w)
twice a w = mul_assoc 2 a w

-- the share of a triangle of a level below 28 has two halves, its left child's and behind it its right child's
pub halved : (a : ℕ) → 2 ≤ a → level_of a < 28 → AreHalved a
halved a low coarse =
    let w : ℕ = 2 ^ (28 - (level_of a + 1)) in
    let e : 28 - level_of a ≡ suc (28 - (level_of a + 1)) = omega arith in
    let p : 2 ^ (28 - level_of a) ≡ 2 * w = ap (λ k. 2 ^ k) e ∙ pow-succ' 2 (28 - (level_of a + 1)) in
    let l : 2 ^ (28 - level_of (2 * a)) ≡ w = ap (λ k. 2 ^ (28 - k)) (level_of-left a low) in
    let r : 2 ^ (28 - level_of (2 * a + 1)) ≡ w = ap (λ k. 2 ^ (28 - k)) (level_of-right a low) in
    let positive : 0 < w = pow_pos (28 - (level_of a + 1)) in
    let e1 = twice a w in
    let e2 = more (2 * a) w in
    let e3 = more (2 * a + 1) w in
    let e4 = doubled a w in
    let e5 = more a (2 * w) in
    record {
      half = w;
      low = 2 * (a * w);
      some = omega arith;
      first = ap (λ k. a * k) p ∙ e4;
      left_first = ap (λ k. 2 * a * k) l ∙ e1;
      left_end = ap (λ k. (2 * a + 1) * k) l ∙ omega arith;
      right_first = ap (λ k. (2 * a + 1) * k) r ∙ omega arith;
      right_end = ap (λ k. (2 * a + 1 + 1) * k) r ∙ omega arith;
      end = ap (λ k. (a + 1) * k) p ∙ omega arith;
    }

-- a triangle begins before its end
pub first-end : (a : ℕ) → first_of a < end_of a
first-end a =
    let positive : 0 < 2 ^ (28 - level_of a) = pow_pos (28 - level_of a) in
    let e = more a (2 ^ (28 - level_of a)) in omega arith

-- and ends within 2 ^ 30
pub end-small : (a : ℕ) → 2 ≤ a → level_of a ≤ 28 → end_of a ≤ 2 ^ 30
end-small a low deep =
    let p : ℕ = 2 ^ (28 - level_of a) in
    let below = lt-pow-level a low in
    let le : a + 1 ≤ 4 * 2 ^ level_of a = omega arith in
    let times : (a + 1) * p ≤ 4 * 2 ^ level_of a * p = mul-le-mul_right p le in
    let all : 2 ^ 28 ≡ 2 ^ level_of a * p =
    ap (λ k. 2 ^ k) (let e : 28 ≡ level_of a + (28 - level_of a) = omega arith in e)
    ∙ pow-add 2 (level_of a) (28 - level_of a) in
    let e = mul_assoc 4 (2 ^ level_of a) p in omega arith

-- a number below 2 ^ 32 loses no bits
whole : (x : ℕ) → x < 4294967296 → x % 4294967296 ≡ x
whole x small = omega arith

-- as they are computed
pub shifted_first : (a x l : ℕ) → 2 ≤ a → level_of a ≤ 28 → x ≡ a → l ≡ level_of a →
    x * 2 ^ (28 - l) % 4294967296 ≡ first_of a
shifted_first a x l low deep is level =
    let small = end-small a low deep in
    let before = first-end a in
    let e : x * 2 ^ (28 - l) ≡ first_of a = ap (λ k. k * 2 ^ (28 - l)) is ∙ ap (λ k. a * 2 ^ (28 - k)) level in
    ap (λ k. k % 4294967296) e ∙ whole (first_of a) (omega arith)

-- the same of the end
pub shifted_end : (a x l : ℕ) → 2 ≤ a → level_of a ≤ 28 → x ≡ a → l ≡ level_of a →
    (x + 1) * 2 ^ (28 - l) % 4294967296 ≡ end_of a
shifted_end a x l low deep is level =
    let small = end-small a low deep in
    let e : (x + 1) * 2 ^ (28 - l) ≡ end_of a =
    ap (λ k. (k + 1) * 2 ^ (28 - l)) is ∙ ap (λ k. (a + 1) * 2 ^ (28 - k)) level in
    ap (λ k. k % 4294967296) e ∙ whole (end_of a) (omega arith)

-- runs

-- a list that begins with triangles before the end of t has a run of them all, where what follows begins behind it
pub run-own : (t : ℕ) (own more : List ℕ) → ((b : ℕ) → IsIn b own → first_of b < end_of t) → run_length t more ≡ 0 →
    run_length t (own ++ more) ≡ length own
run-own t [] more each none = none
run-own t (x ∷ own) more each none =
    cond-true (nat_lt (first_of x) (end_of t)) (1 + run_length t (own ++ more)) 0
    (lt-ltb (first_of x) (end_of t) (each x (inl refl)))
    ∙ (let e = run-own t own more (λ b h. each b (inr h)) none in omega arith)

-- one that begins behind t has no run
pub run-apart : (t b : ℕ) (more : List ℕ) → end_of t ≤ first_of b → run_length t (b ∷ more) ≡ 0
run-apart t b more behind =
    cond-false (nat_lt (first_of b) (end_of t)) (1 + run_length t more) 0 (le-ltb (first_of b) (end_of t) behind)

-- a list that begins with triangles behind t has no run
pub run-behind : (t : ℕ) (xs more : List ℕ) → 1 ≤ length xs → ((b : ℕ) → IsIn b xs → end_of t ≤ first_of b) →
    run_length t (xs ++ more) ≡ 0
run-behind t [] more some each = absurd (omega arith)
run-behind t (x ∷ xs) more some each = run-apart t x (xs ++ more) (each x (inl refl))

-- and the other way
none-behind : (t b : ℕ) (more : List ℕ) → run_length t (b ∷ more) ≡ 0 → end_of t ≤ first_of b
none-behind t b more none = ⊎_elim
    (λ yes. absurd (let e = cond-true (nat_lt (first_of b) (end_of t)) (1 + run_length t more) 0 yes in omega arith))
    (λ no. ltb-false (first_of b) (end_of t) no)
    (cases_Bool (nat_lt (first_of b) (end_of t)))

-- what has no run for t has none for a triangle with the same end
pub run-end : (t u : ℕ) (xs : List ℕ) → end_of u ≡ end_of t → run_length t xs ≡ 0 → run_length u xs ≡ 0
run-end t u [] same none = refl
run-end t u (b ∷ more) same none = let behind = none-behind t b more none in run-apart u b more (omega arith)

-- a list that begins with t has it
pub begins-in : (t : ℕ) (xs more : List ℕ) → 1 ≤ length xs → begins_with t (xs ++ more) ≡ true → IsIn t xs
begins-in t [] more some begins = absurd (omega arith)
begins-in t (x ∷ xs) more some begins = inl (eqb-true x t begins)

-- and its end
pub run_over : (t : ℕ) (xs : List ℕ) (k d : ℕ) → k < length xs → end_of t ≤ first_of (get_or xs k d) →
    run_length t (drop k xs) ≡ 0
run_over t xs k d within behind =
    ap (run_length t) (drop-cons xs k d within) ∙ run-apart t (get_or xs k d) (drop (suc k) xs) behind

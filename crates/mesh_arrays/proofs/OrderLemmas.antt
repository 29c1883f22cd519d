-- The leaves of a set stand depth first.
use Rattle.std.proofs.Common.{◌≡◌, ℕ, zero, suc, ◌+◌, ◌-◌, ◌*◌, ◌^◌, ◌%◌, ◌<◌, ◌≤◌, Bool, true, false, List, [], ◌∷◌}
use Rattle.std.proofs.Common.{◌++◌, refl, sym, ap, ◌∙◌, subst, arith, pow_pos, lit<, lit≤, mod-eq_of_lt}
use Rattle.std.proofs.Math.Nat.{mul_assoc, mul_left_comm, add-mul}
use Rattle.std.proofs.Math.Pow.{pow_mono}
use Rattle.std.specs.List.{All, AllPairs}
use Rattle.std.proofs.lemmas.List.Elements.{All-nil, All-cons, All-head, All-tail, All-append, All-weaker}
use Rattle.std.proofs.lemmas.List.Elements.{All-from_get_or}
use Rattle.std.proofs.lemmas.List.Kept.{AllPairs-cons}
use Rattle.mesh_defs.specs.Triangle.{level_of, IsAddress}
use Rattle.mesh_defs.specs.ClosedSet.{leaves_under, leaves_of}
use Rattle.mesh_defs.specs.declared.level.TheConstants.{GREATEST_LEVEL}
use Rattle.bintree_laws.proofs.LevelLemmas.{pow_next, level_of-left, level_of-right, level_of-root, level_of-below}
use Rattle.bintree_laws.proofs.LevelLemmas.{lt-pow-level}
use Rattle.std.proofs.lemmas.Nat.{mul-le, pow-add}
use Rattle.mesh_laws.proofs.DescentLemmas.{IsDown, IsDown-left, IsDown-right, IsDown-2, IsDown-3, IsAddress-leaves_of}
use Rattle.mesh_arrays.specs.Changes.{IsTriangle, end_of, IsDepthFirst}

abbrev EndsBefore : ℕ → ℕ → Type 0
EndsBefore a b = end_of a < end_of b

-- the place behind all triangles that end before a begins
abbrev start_of : ℕ → ℕ
start_of a = a * 2 ^ (28 - level_of a)

-- the triangles stand depth first, and end behind one place and at most at another
record IsSpan (low high : ℕ) (triangles : List ℕ) : Type 0 where
  low_end : All (λ a. low < end_of a) triangles
  high_end : All (λ a. end_of a ≤ high) triangles
  order : AllPairs EndsBefore triangles

-- the pairs of two lists, where each of the one ends before each of the other
AllPairs-append : (xs ys : List ℕ) (middle : ℕ) → AllPairs EndsBefore xs → AllPairs EndsBefore ys
    → All (λ a. end_of a ≤ middle) xs → All (λ a. middle < end_of a) ys → AllPairs EndsBefore (xs ++ ys)
AllPairs-append [] ys middle first second high low = second
AllPairs-append (x ∷ xs) ys middle first second high low =
    let within : end_of x ≤ middle = All-head (λ a. end_of a ≤ middle) x xs high in
    let rest : AllPairs EndsBefore xs = λ i j d before end. first (suc i) (suc j) d (omega arith) (omega arith) in
    let here : All (EndsBefore x) xs =
    All-from_get_or (EndsBefore x) xs 0 (λ i end. first 0 (suc i) 0 (omega arith) (omega arith)) in
    let there : All (EndsBefore x) ys =
    All-weaker (λ a. middle < end_of a) (EndsBefore x) (λ a behind. omega arith) ys low in
    AllPairs-cons EndsBefore x (xs ++ ys) (All-append (EndsBefore x) xs ys here there)
    (AllPairs-append xs ys middle rest second (All-tail (λ a. end_of a ≤ middle) x xs high) low)

-- two spans, one behind the other
IsSpan-append : (low middle high : ℕ) (xs ys : List ℕ) → low ≤ middle → middle ≤ high →
    IsSpan low middle xs → IsSpan middle high ys
    → IsSpan low high (xs ++ ys)
IsSpan-append low middle high xs ys first second left right = record {
  low_end = All-append (λ a. low < end_of a) xs ys left.low_end
      (All-weaker (λ a. middle < end_of a) (λ a. low < end_of a) (λ a behind. omega arith) ys right.low_end);
  high_end = All-append (λ a. end_of a ≤ high) xs ys (All-weaker (λ a. end_of a ≤ middle) (λ a. end_of a ≤ high)
      (λ a before. omega arith) xs left.high_end) right.high_end;
  order = AllPairs-append xs ys middle left.order right.order left.high_end right.low_end;
}

-- a triangle ends behind its start
start-below : (a : ℕ) → start_of a < end_of a
start-below a =
    let some = pow_pos (28 - level_of a) in
    let next : end_of a ≡ start_of a + 1 * 2 ^ (28 - level_of a) = add-mul a 1 (2 ^ (28 - level_of a)) in
    omega arith

-- one triangle is a span
IsSpan-one : (a : ℕ) → IsSpan (start_of a) (end_of a) (a ∷ [])
IsSpan-one a = record {
  low_end = All-cons (λ b. start_of a < end_of b) a [] (start-below a) (All-nil (λ b. start_of a < end_of b));
  high_end = All-cons (λ b. end_of b ≤ end_of a) a [] (omega arith) (All-nil (λ b. end_of b ≤ end_of a));
  order = AllPairs-cons EndsBefore a [] (All-nil (EndsBefore a)) (λ i j d before end. absurd (omega arith));
}

-- where the halves of a triangle start and end
record AreHalves (a : ℕ) : Type 0 where
  first_start : start_of (2 * a) ≡ start_of a
  middle : start_of (2 * a + 1) ≡ end_of (2 * a)
  last_end : end_of (2 * a + 1) ≡ end_of a

-- twice as many halves
double : (b unit whole : ℕ) → whole ≡ 2 * unit → (2 * b) * unit ≡ b * whole
double b unit whole same = mul_assoc 2 b unit ∙ mul_left_comm 2 b unit ∙ ap (λ k. b * k) (sym same)

AreHalves-of : (a : ℕ) → 2 ≤ a → level_of a < 28 → AreHalves a
AreHalves-of a low coarse =
    let left = level_of-left a low in
    let right = level_of-right a low in
    let unit : ℕ = 2 ^ (28 - (level_of a + 1)) in
    let deeper : 28 - level_of a ≡ (28 - (level_of a + 1)) + 1 = omega arith in
    let whole : 2 ^ (28 - level_of a) ≡ 2 * unit = rw deeper (pow_next (28 - (level_of a + 1))) in
    let next : 2 * a + 1 + 1 ≡ 2 * (a + 1) = omega arith in
    record {
      first_start = ap (λ l. 2 * a * 2 ^ (28 - l)) left ∙ double a unit (2 ^ (28 - level_of a)) whole;
      middle = ap (λ l. (2 * a + 1) * 2 ^ (28 - l)) (right ∙ sym left);
      last_end = ap (λ l. (2 * a + 1 + 1) * 2 ^ (28 - l)) right ∙ ap (λ k. k * unit) next
          ∙ double (a + 1) unit (2 ^ (28 - level_of a)) whole;
    }

-- both halves, one behind the other
IsSpan-both : (a : ℕ) (left right : List ℕ) → 2 ≤ a → level_of a < 28 → IsSpan (start_of (2 * a)) (end_of (2 * a)) left
    → IsSpan (start_of (2 * a + 1)) (end_of (2 * a + 1)) right → IsSpan (start_of a) (end_of a) (left ++ right)
IsSpan-both a left right low coarse first second =
    let halves = AreHalves-of a low coarse in
    let one = start-below (2 * a) in
    let two = start-below (2 * a + 1) in
    let middle : start_of (2 * a + 1) ≡ end_of (2 * a) = halves.middle in
    let behind : IsSpan (end_of (2 * a)) (end_of (2 * a + 1)) right =
    subst (λ k. IsSpan k (end_of (2 * a + 1)) right) middle second in
    let whole : IsSpan (start_of (2 * a)) (end_of (2 * a + 1)) (left ++ right) =
    IsSpan-append (start_of (2 * a)) (end_of (2 * a)) (end_of (2 * a + 1)) left right (omega arith)
    (omega arith) first behind in
    subst (λ k. IsSpan k (end_of a) (left ++ right)) halves.first_start
    (subst (λ k. IsSpan (start_of (2 * a)) k (left ++ right)) halves.last_end whole)

-- one step, whether a is a member or not
span_step : (b : Bool) (a : ℕ) (left right : List ℕ) → (b ≡ true → IsSpan (start_of a) (end_of a) (left ++ right))
    → IsSpan (start_of a) (end_of a) (elim b as (λ _. List ℕ) [ true ↦ left ++ right | false ↦ a ∷ [] ])
span_step true a left right both = both refl
span_step false a left right both = IsSpan-one a

IsSpan-leaves_under : (n : ℕ) (has : ℕ → Bool) → n ≤ 14 → (levels a : ℕ) → IsDown n levels a →
    IsSpan (start_of a) (end_of a) (leaves_under levels has a)
IsSpan-leaves_under n has high zero a d = IsSpan-one a
IsSpan-leaves_under n has high (suc levels) a d =
    let low : 2 ≤ a = d.low in
    let height : suc levels + level_of a ≡ 2 * n = d.height in
    span_step (has a) a (leaves_under levels has (2 * a)) (leaves_under levels has (2 * a + 1)) (λ member.
    IsSpan-both a (leaves_under levels has (2 * a)) (leaves_under levels has (2 * a + 1)) low (omega arith)
    (IsSpan-leaves_under n has high levels (2 * a) (IsDown-left n levels a d))
    (IsSpan-leaves_under n has high levels (2 * a + 1) (IsDown-right n levels a d)))

pub IsDepthFirst-leaves_of : (n : ℕ) (has : ℕ → Bool) → n ≤ GREATEST_LEVEL → IsDepthFirst (leaves_of n has)
unfolding leaves_of
IsDepthFirst-leaves_of n has high =
    let lower = IsSpan-leaves_under n has high (2 * n) 2 (IsDown-2 n) in
    let upper = IsSpan-leaves_under n has high (2 * n) 3 (IsDown-3 n) in
    let same : start_of 3 ≡ end_of 2 =
    ap (λ l. 3 * 2 ^ (28 - l)) (level_of-root 3 (lit≤ tt) (lit< tt) ∙ sym (level_of-root 2 (lit≤ tt) (lit< tt))) in
    let behind : IsSpan (end_of 2) (end_of 3) (leaves_under (2 * n) has 3) =
    subst (λ k. IsSpan k (end_of 3) (leaves_under (2 * n) has 3)) same upper in
    let powers = pow_mono {i = 2 * n + 2} {j = 30} (omega arith) in
    record {
      addresses = All-weaker (IsAddress n) IsTriangle (λ a is. record { low = is.low; high = omega arith })
          (leaves_of n has) (IsAddress-leaves_of n has);
      ascending = AllPairs-append (leaves_under (2 * n) has 2) (leaves_under (2 * n) has 3)
          (end_of 2) lower.order behind.order lower.high_end behind.low_end;
    }

-- the end of a triangle is at most that of the square
end_of-small : (a : ℕ) → IsTriangle a → end_of a ≤ 1073741824
end_of-small a is =
    let low : 2 ≤ a = is.low in
    let level : level_of a < 29 = (level_of-below a 29 low).1 is.high in
    let below : a + 1 ≤ 4 * 2 ^ level_of a = omega (arith, lt-pow-level a low) in
    let unit : ℕ = 2 ^ (28 - level_of a) in
    let deepest : level_of a + (28 - level_of a) ≡ 28 = omega arith in
    let whole : 4 * 2 ^ level_of a * unit ≡ 1073741824 =
    mul_assoc 4 (2 ^ level_of a) unit
    ∙ ap (λ k. 4 * k) (sym (pow-add 2 (level_of a) (28 - level_of a)) ∙ ap (λ k. 2 ^ k) deepest) in
    let product : (a + 1) * unit ≤ 4 * 2 ^ level_of a * unit =
    mul-le (a + 1) unit (4 * 2 ^ level_of a) unit below (omega arith) in
    omega arith

-- so it is a number of 32 bits
pub end_of-read : (a level : ℕ) → level ≡ level_of a → IsTriangle a → (a + 1) * 2 ^ (28 - level) % 4294967296 ≡ end_of a
end_of-read a level same is =
    let small : end_of a ≤ 1073741824 = end_of-small a is in
    ap (λ l. (a + 1) * 2 ^ (28 - l) % 4294967296) same ∙ mod-eq_of_lt {m = 4294967296} (omega arith)

-- Down the bintree: levels and addresses below a triangle, samples in it, and what holds of leaves.
use Rattle.std.proofs.Common.{◌≡◌, ℕ, zero, suc, ◌+◌, ◌-◌, ◌*◌, ◌^◌, ◌<◌, ◌≤◌, ◌⊎◌, inl, inr, Bool, true, false, cond}
use Rattle.std.proofs.Common.{List, [], ◌∷◌, ◌++◌, All, refl, ◌∙◌, ap, append_assoc, arith, pow_mono, pow-add, count_by}
use Rattle.std.proofs.lemmas.List.Elements.{All-cons, All-nil, All-append}
use Rattle.std.proofs.lemmas.List.Sums.{sum_by-append}
use Rattle.mesh_defs.specs.Triangle.{level_of, IsAddress, IsSplittable, child, corners_of}
use Rattle.mesh_defs.specs.Tiling.{IsSample, is_within, is_inside, Tiles}
use Rattle.mesh_defs.specs.ClosedSet.{leaves_under, leaves_of}
use Rattle.bintree_laws.proofs.LevelLemmas.{level-le, lt-pow-level}
use Rattle.mesh_laws.proofs.BaseTilingLemmas.{base_tiles}
use Rattle.bintree_laws.proofs.LevelLemmas.{level_of-left, level_of-right}
use Rattle.bintree_laws.proofs.CornerLemmas.{corners_of-left, corners_of-right, IsWithin-corners_of}
use Rattle.mesh_laws.proofs.WayLemmas.{Way}
use Rattle.mesh_laws.proofs.TurnLemmas.{IsTurned, leg, IsAxis, IsPlaced, IsPlaced-at, forked-placed, finest-placed}
use Rattle.mesh_laws.proofs.TurnLemmas.{one_child, IsOff-sample, some_sample}
use Rattle.mesh_defs.proofs.ListLemmas.{one_if}

-- levels

-- so many levels lie below a
pub record IsDown (n levels a : ℕ) : Type 0 where
  pub low : 2 ≤ a
  pub height : levels + level_of a ≡ 2 * n

-- the children have one level less below them
pub IsDown-left : (n levels a : ℕ) → IsDown n (suc levels) a → IsDown n levels (2 * a)
IsDown-left n levels a d =
    let low : 2 ≤ a = d.low in
    let h = d.height in
    let l = level_of-left a low in
    record { low = omega arith; height = omega arith }

-- the same for the right child
pub IsDown-right : (n levels a : ℕ) → IsDown n (suc levels) a → IsDown n levels (2 * a + 1)
IsDown-right n levels a d =
    let low : 2 ≤ a = d.low in
    let h = d.height in
    let l = level_of-right a low in
    record { low = omega arith; height = omega arith }

-- with levels below it a triangle is splittable
pub IsSplittable-down : (n levels a : ℕ) → IsDown n (suc levels) a → IsSplittable n a
IsSplittable-down n levels a d = let h = d.height in record { low = d.low; coarse = omega arith }

-- each of them is an address of the grid
pub IsAddress-level : (n a : ℕ) → 2 ≤ a → level_of a ≤ 2 * n → IsAddress n a
IsAddress-level n a low fits =
    let high : a < 4 * 2 ^ level_of a = lt-pow-level a low in
    let more : 2 ^ level_of a ≤ 2 ^ (2 * n) = pow_mono fits in
    let four : 2 ^ (2 * n + 2) ≡ 2 ^ (2 * n) * 4 = pow-add 2 (2 * n) 2 in
    record { low = low; high = omega arith }

-- what has levels below it is an address
pub IsAddress-down : (n levels a : ℕ) → IsDown n levels a → IsAddress n a
IsAddress-down n levels a d = let h = d.height in IsAddress-level n a d.low (omega arith)

-- a splittable triangle has an address
pub IsAddress-splittable : (n a : ℕ) → IsSplittable n a → IsAddress n a
IsAddress-splittable n a s = let h = s.coarse in IsAddress-level n a s.low (omega arith)

-- each address has its levels below it
pub IsDown-address : (n a : ℕ) → IsAddress n a → IsDown n (2 * n - level_of a) a
IsDown-address n a address =
    let fits : level_of a ≤ 2 * n = level-le n a address in
    record { low = address.low; height = omega arith }

-- and a splittable one has a level more
pub IsDown-splittable : (n a : ℕ) → IsSplittable n a → IsDown n (suc (2 * n - level_of a - 1)) a
IsDown-splittable n a s = let h = s.coarse in record { low = s.low; height = omega arith }

-- the base triangles have all levels below them
pub IsDown-2 : (n : ℕ) → IsDown n (2 * n) 2
unfolding level_of
IsDown-2 n = record { low = omega arith; height = omega arith }

-- and so has 3
pub IsDown-3 : (n : ℕ) → IsDown n (2 * n) 3
unfolding level_of
IsDown-3 n = record { low = omega arith; height = omega arith }

-- shapes

-- the way and the legs of an address
IsPlaced-of : (n a : ℕ) → level_of a ≤ 2 * n → IsPlaced n (level_of a) (corners_of n a)
unfolding corners_of
IsPlaced-of n a fits = IsPlaced-at (level_of a) n a fits

-- a triangle that has levels below it can be halved
pub forked_of : (n levels a : ℕ) → IsDown n (suc levels) a →
    (w : Way) × (k : ℕ) × (0 < k) × IsTurned w (leg w k) (corners_of n a)
forked_of n levels a d =
    let h = d.height in forked-placed n (level_of a) (corners_of n a) (omega arith) (IsPlaced-of n a (omega arith))

-- a triangle that has none is half of a grid square
pub finest_of : (n a : ℕ) → IsDown n zero a → (w : Way) × IsAxis w × IsTurned w 1 (corners_of n a)
finest_of n a d =
    let h = d.height in finest-placed n (level_of a) (corners_of n a) (omega arith) (IsPlaced-of n a (omega arith))

-- samples

-- a sample is strictly inside a triangle exactly as often as inside its two children
pub one_child_of : (n levels a x y : ℕ) → IsDown n (suc levels) a → IsSample n x y →
    one_if (is_inside n x y (2 * a)) + one_if (is_inside n x y (2 * a + 1)) ≡ one_if (is_inside n x y a)
one_child_of n levels a x y d s =
    let f = forked_of n levels a d in
    let once = one_child f.0 f.1 x y (corners_of n a) f.2 (IsOff-sample n x y s) f.3 in
    let left : one_if (is_inside n x y (2 * a)) ≡ one_if (is_within x y (child 0 (corners_of n a))) =
    ap (λ c. one_if (is_within x y c)) (corners_of-left n a d.low) in
    let right : one_if (is_inside n x y (2 * a + 1)) ≡ one_if (is_within x y (child 1 (corners_of n a))) =
    ap (λ c. one_if (is_within x y c)) (corners_of-right n a d.low) in
    omega arith

-- a test that passes counts one, and one that counts passes
pub one_if-true : (b : Bool) → b ≡ true → one_if b ≡ 1
one_if-true b e = ap one_if e

-- what counts one passes
pub true-one_if : (b : Bool) → 1 ≤ one_if b → b ≡ true
true-one_if true h = refl
true-one_if false h = absurd (omega arith)

-- a test counts at most one
pub one_if-le : (b : Bool) → one_if b ≤ 1
one_if-le true = omega arith
one_if-le false = omega arith

-- inside a child is inside the triangle
pub is_inside-left : (n levels a x y : ℕ) → IsDown n (suc levels) a → IsSample n x y →
    is_inside n x y (2 * a) ≡ true → is_inside n x y a ≡ true
is_inside-left n levels a x y d s h =
    let one = one_child_of n levels a x y d s in let some = one_if-true (is_inside n x y (2 * a)) h in
    true-one_if (is_inside n x y a) (omega arith)

-- and so is inside the right child
pub is_inside-right : (n levels a x y : ℕ) → IsDown n (suc levels) a → IsSample n x y →
    is_inside n x y (2 * a + 1) ≡ true → is_inside n x y a ≡ true
is_inside-right n levels a x y d s h =
    let one = one_child_of n levels a x y d s in let some = one_if-true (is_inside n x y (2 * a + 1)) h in
    true-one_if (is_inside n x y a) (omega arith)

-- each triangle has a sample strictly inside
pub sample_of : (n levels a : ℕ) → IsDown n levels a → (x : ℕ) × (y : ℕ) × IsSample n x y × (is_inside n x y a ≡ true)
sample_of n zero a d =
    let f = finest_of n a d in some_sample f.0 n (corners_of n a) f.1 f.2 (IsWithin-corners_of n a)
sample_of n (suc levels) a d =
    let s = sample_of n levels (2 * a) (IsDown-left n levels a d) in
    (s.0, s.1, s.2, is_inside-left n levels a s.0 s.1 d s.2 s.3)

-- what holds of leaves

-- one step, whether a is a member or not
leaves_step : (b : Bool) (P : ℕ → Type 0) (left right : List ℕ) (a : ℕ) →
    (b ≡ true → All P left × All P right) → (b ≡ false → P a) →
    All P (elim b as (λ _. List ℕ) [ true ↦ left ++ right | false ↦ a ∷ [] ])
leaves_step true P left right a both one = All-append P left right (both refl).0 (both refl).1
leaves_step false P left right a both one = All-cons P a [] (one refl) (All-nil P)

-- from a fact Q that holds of a and goes down from members to children, a fact P of each leaf
pub All-leaves_under : (n : ℕ) (has : ℕ → Bool) (Q P : ℕ → Type 0) →
    ((levels a : ℕ) → IsDown n (suc levels) a → has a ≡ true → Q a → Q (2 * a) × Q (2 * a + 1)) →
    ((levels a : ℕ) → IsDown n levels a → (levels ≡ 0) ⊎ (has a ≡ false) → Q a → P a) →
    (levels a : ℕ) → IsDown n levels a → Q a → All P (leaves_under levels has a)
All-leaves_under n has Q P down leaf zero a d q = All-cons P a [] (leaf zero a d (inl refl) q) (All-nil P)
All-leaves_under n has Q P down leaf (suc levels) a d q =
    leaves_step (has a) P (leaves_under levels has (2 * a)) (leaves_under levels has (2 * a + 1)) a
    (λ member. let next : Q (2 * a) × Q (2 * a + 1) = down levels a d member q in (
      All-leaves_under n has Q P down leaf levels (2 * a) (IsDown-left n levels a d) next.0,
      All-leaves_under n has Q P down leaf levels (2 * a + 1) (IsDown-right n levels a d) next.1,
    ))
    (λ other. leaf (suc levels) a d (inr other) q)

-- the same for all leaves
pub All-leaves_of : (n : ℕ) (has : ℕ → Bool) (Q P : ℕ → Type 0) →
    ((levels a : ℕ) → IsDown n (suc levels) a → has a ≡ true → Q a → Q (2 * a) × Q (2 * a + 1)) →
    ((levels a : ℕ) → IsDown n levels a → (levels ≡ 0) ⊎ (has a ≡ false) → Q a → P a) →
    Q 2 → Q 3 → All P (leaves_of n has)
unfolding leaves_of
All-leaves_of n has Q P down leaf lower upper =
    All-append P (leaves_under (2 * n) has 2) (leaves_under (2 * n) has 3)
    (All-leaves_under n has Q P down leaf (2 * n) 2 (IsDown-2 n) lower)
    (All-leaves_under n has Q P down leaf (2 * n) 3 (IsDown-3 n) upper)

-- each leaf is an address of the grid
pub IsAddress-leaves_of : (n : ℕ) (has : ℕ → Bool) → All (IsAddress n) (leaves_of n has)
IsAddress-leaves_of n has =
    All-leaves_of n has (λ a. Unit {0}) (IsAddress n) (λ levels a d member q. (tt, tt))
    (λ levels a d ends q. IsAddress-down n levels a d) tt tt

-- leaves tile

-- one step of a count
count_step : (b : Bool) (test : ℕ → Bool) (left right : List ℕ) (a total : ℕ) →
    (b ≡ true → count_by test left + count_by test right ≡ total) → (b ≡ false → one_if (test a) ≡ total) →
    count_by test (elim b as (λ _. List ℕ) [ true ↦ left ++ right | false ↦ a ∷ [] ]) ≡ total
count_step true test left right a total both one = sum_by-append (λ t. cond (test t) 1 0) left right ∙ both refl
count_step false test left right a total both one = let e : one_if (test a) ≡ total = one refl in omega arith

-- the leaves below a triangle hold a sample exactly as often as the triangle does
pub count-leaves_under : (n x y : ℕ) (has : ℕ → Bool) → IsSample n x y → (levels a : ℕ) → IsDown n levels a →
    count_by (is_inside n x y) (leaves_under levels has a) ≡ one_if (is_inside n x y a)
count-leaves_under n x y has s zero a d = omega arith
count-leaves_under n x y has s (suc levels) a d =
    count_step (has a) (is_inside n x y) (leaves_under levels has (2 * a)) (leaves_under levels has (2 * a + 1)) a
    (one_if (is_inside n x y a))
    (λ _.
    let left = count-leaves_under n x y has s levels (2 * a) (IsDown-left n levels a d) in
    let right = count-leaves_under n x y has s levels (2 * a + 1) (IsDown-right n levels a d) in
    let one = one_child_of n levels a x y d s in omega arith)
    (λ _. refl)

-- a sample is inside exactly one of the base triangles
pub one_base : (n x y : ℕ) → IsSample n x y → one_if (is_inside n x y 2) + one_if (is_inside n x y 3) ≡ 1
one_base n x y s =
    let one : count_by (is_inside n x y) (2 ∷ (3 ∷ [])) ≡ 1 = base_tiles n x y s in omega arith

-- the leaves of every test tile the square
pub Tiles-leaves_of : (n : ℕ) (has : ℕ → Bool) → Tiles n (leaves_of n has)
unfolding leaves_of
Tiles-leaves_of n has x y s =
    let lower = count-leaves_under n x y has s (2 * n) 2 (IsDown-2 n) in
    let upper = count-leaves_under n x y has s (2 * n) 3 (IsDown-3 n) in
    let one = one_base n x y s in
    sum_by-append (λ t. cond (is_inside n x y t) 1 0) (leaves_under (2 * n) has 2) (leaves_under (2 * n) has 3)
    ∙ omega arith

-- all leaves, after others
pub append-leaves_of : (n : ℕ) (has : ℕ → Bool) (out first second : List ℕ) →
    first ≡ out ++ leaves_under (2 * n) has 2 → second ≡ first ++ leaves_under (2 * n) has 3 →
    second ≡ out ++ leaves_of n has
unfolding leaves_of
append-leaves_of n has out first second f g =
    g ∙ ap (λ (x : List ℕ). x ++ leaves_under (2 * n) has 3) f
    ∙ append_assoc out (leaves_under (2 * n) has 2) (leaves_under (2 * n) has 3)

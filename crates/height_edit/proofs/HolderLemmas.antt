-- The triangles that hold a point, level by level: the children of those of a level that hold it are those of the
-- next level, and there are at most eight.
use Rattle.std.proofs.Common.{◌≡◌, ℕ, zero, suc, ◌+◌, ◌-◌, ◌*◌, ◌^◌, ◌<◌, ◌≤◌, ◌↔◌, Bool, true, false, cond, ◌||◌, List}
use Rattle.std.proofs.Common.{[], ◌∷◌, ◌++◌, length, take, All, get_or, slice_index_or, refl, sym, ap, ◌∙◌, arith}
use Rattle.std.proofs.Common.{subst}
use Rattle.std.proofs.lemmas.List.{append_assoc, append-nil, length-append}
use Rattle.mesh_defs.specs.declared.point.Point.{Point}
use Rattle.mesh_defs.specs.Triangle.{level_of, corners_of, child, IsSplittable}
use Rattle.mesh_defs.specs.BoundingBox.{holds_point}
use Rattle.bintree_laws.specs.Corners.{HasEvenBase, IsCounterclockwise}
use Rattle.mesh_laws.proofs.OrientationLemmas.{counterclockwise}
use Rattle.height_edit.specs.Holders.{held_from, holders}
use Rattle.height_edit.specs.Weights.{weight_in, weights, offspring}
use Rattle.height_edit.proofs.WeightLemmas.{weight-children, weight-held, weight-not-held, weight-halves}
use Rattle.std.proofs.Math.Nat.{pow-succ'}
use Rattle.std.proofs.lemmas.Nat.{pow_pos}
use Rattle.std.proofs.lemmas.Bool.{or_parts}
use Rattle.bintree_laws.proofs.LevelLemmas.{pow_next}
use Rattle.bintree_laws.proofs.CornerLemmas.{corners_of-2, corners_of-3}

-- ---- ranges of addresses

cond-append : {X : Type 0} → (b : Bool) (x : X) (xs ys : List X) →
    cond b (x ∷ xs) xs ++ ys ≡ cond b (x ∷ (xs ++ ys)) (xs ++ ys)
cond-append true x xs ys = refl
cond-append false x xs ys = refl

-- a range of addresses in two parts
held-append : (n : ℕ) (p : Point) (i from j : ℕ) →
    held_from n p from (i + j) ≡ held_from n p from i ++ held_from n p (from + i) j
held-append n p zero from j =
    let none : from + 0 ≡ from = omega arith in let all : 0 + j ≡ j = omega arith in rw (none, all) refl
held-append n p (suc i) from j =
    let next : suc i + j ≡ suc (i + j) = omega arith in
    let place : from + suc i ≡ from + 1 + i = omega arith in
    rw (next, place, held-append n p i (from + 1) j)
    (sym (cond-append (holds_point n from p) from (held_from n p (from + 1) i) (held_from n p (from + 1 + i) j)))

-- what the law functions say that is used here
pub record TurnLaws : Type 0 where
  pub children : (n a : ℕ) (r : Point) → IsSplittable n a →
      holds_point n a r ≡ (holds_point n (2 * a) r || holds_point n (2 * a + 1) r)
  pub left_corners : (n a : ℕ) → 2 ≤ a → corners_of n (2 * a) ≡ child 0 (corners_of n a)
  pub right_corners : (n a : ℕ) → 2 ≤ a → corners_of n (2 * a + 1) ≡ child 1 (corners_of n a)
  pub even : (n a : ℕ) → level_of a < 2 * n → HasEvenBase (corners_of n a)
  pub turned : (n a : ℕ) → IsSplittable n a → IsCounterclockwise (corners_of n a)

-- those of the law functions, and that a splittable triangle is an address of the grid
pub turn-laws : ((a k : ℕ) → 2 ≤ a → ((level_of a < k) ↔ (a < 2 ^ (k + 1)))) →
    ((n a : ℕ) (r : Point) → IsSplittable n a →
    holds_point n a r ≡ (holds_point n (2 * a) r || holds_point n (2 * a + 1) r)) →
    ((n a : ℕ) → 2 ≤ a → corners_of n (2 * a) ≡ child 0 (corners_of n a)) →
    ((n a : ℕ) → 2 ≤ a → corners_of n (2 * a + 1) ≡ child 1 (corners_of n a)) →
    ((n a : ℕ) → level_of a < 2 * n → HasEvenBase (corners_of n a)) → TurnLaws
turn-laws below children left right even = record {
  children = children;
  left_corners = left;
  right_corners = right;
  even = even;
  turned = λ n a split.
      let twice : 2 ^ (2 * n + 2) ≡ 2 * 2 ^ (2 * n + 1) =
      ap (λ k. 2 ^ k) (let next : 2 * n + 2 ≡ suc (2 * n + 1) = omega arith in next) ∙ pow-succ' 2 (2 * n + 1) in
      let high : a < 2 ^ (2 * n + 1) = (below a (2 * n) split.low).0 split.coarse in
      counterclockwise n a (record { low = split.low; high = omega arith });
}

-- two addresses, of which neither holds the point
pair-none : (n : ℕ) (p : Point) (a : ℕ) → holds_point n a p ≡ false →
    holds_point n (a + 1) p ≡ false → held_from n p a 2 ≡ []
pair-none n p a first second = rw (first, second) refl

-- ---- the children of a level

offspring-cond : (n : ℕ) (p : Point) (b : Bool) (a : ℕ) (rest : List ℕ) → (b ≡ false → held_from n p (2 * a) 2 ≡ []) →
    offspring n p (cond b (a ∷ rest) rest) ≡ held_from n p (2 * a) 2 ++ offspring n p rest
offspring-cond n p true a rest none = refl
offspring-cond n p false a rest none = rw (none refl) refl

-- the children of a range that hold the point are those of the range of children
offspring-held : TurnLaws → (n : ℕ) (p : Point) (count from : ℕ) →
    ((a : ℕ) → from ≤ a → a < from + count → IsSplittable n a) →
    offspring n p (held_from n p from count) ≡ held_from n p (2 * from) (2 * count)
offspring-held laws n p zero from split = refl
offspring-held laws n p (suc count) from split =
    let here : IsSplittable n from = split from (omega arith) (omega arith) in
    let twice : 2 + 2 * count ≡ 2 * suc count = omega arith in
    let place : 2 * from + 2 ≡ 2 * (from + 1) = omega arith in
    let Later : ℕ → Type 0 =
    λ k. held_from n p (2 * from) (2 + 2 * count) ≡ held_from n p (2 * from) 2 ++ held_from n p k (2 * count) in
    let Whole : ℕ → Type 0 =
    λ k. held_from n p (2 * from) k ≡ held_from n p (2 * from) 2 ++ held_from n p (2 * (from + 1)) (2 * count) in
    let parts : Whole (2 * suc count) =
    subst Whole twice (subst Later place (held-append n p 2 (2 * from) (2 * count))) in
    offspring-cond n p (holds_point n from p) from (held_from n p (from + 1) count)
    (λ out. let both : (holds_point n (2 * from) p ≡ false) × (holds_point n (2 * from + 1) p ≡ false) =
    or_parts _ _ (sym (laws.children n from p here) ∙ out) in pair-none n p (2 * from) both.0 both.1)
    ∙ ap (λ t. held_from n p (2 * from) 2 ++ t)
    (offspring-held laws n p count (from + 1) (λ a low high. split a (omega arith) (omega arith)))
    ∙ sym parts

-- ---- eighths

weights-append : (n : ℕ) (p : Point) (xs ys : List ℕ) → weights n p (xs ++ ys) ≡ weights n p xs + weights n p ys
weights-append n p [] ys = omega arith
weights-append n p (a ∷ xs) ys = omega (arith, weights-append n p xs ys)

weights-cond : (n : ℕ) (p : Point) (b : Bool) (a : ℕ) (rest : List ℕ) → (b ≡ false → weight_in (corners_of n a) p ≡ 0) →
    weights n p (cond b (a ∷ rest) rest) ≡ weight_in (corners_of n a) p + weights n p rest
weights-cond n p true a rest none = refl
weights-cond n p false a rest none = rw (none refl) (omega arith)

weights-pair : (n : ℕ) (p : Point) (a : ℕ) →
    weights n p (held_from n p a 2) ≡ weight_in (corners_of n a) p + weight_in (corners_of n (a + 1)) p
weights-pair n p a =
    weights-cond n p (holds_point n a p) a (held_from n p (a + 1) 1) (weight-not-held (corners_of n a) p)
    ∙ ap (λ t. weight_in (corners_of n a) p + t)
    (weights-cond n p (holds_point n (a + 1) p) (a + 1) [] (weight-not-held (corners_of n (a + 1)) p) ∙ omega arith)

-- the children of a level have the eighths of the level
pub weights-offspring : TurnLaws → (n : ℕ) (p : Point) (level : List ℕ) → All (λ a. IsSplittable n a) level →
    weights n p (offspring n p level) ≡ weights n p level
weights-offspring laws n p [] split = refl
weights-offspring laws n p (a ∷ rest) split =
    let here : IsSplittable n a = split 0 0 (omega arith) in
    let later : All (λ b. IsSplittable n b) rest = λ k d lt. split (suc k) d (omega arith) in
    let own : weight_in (corners_of n (2 * a)) p + weight_in (corners_of n (2 * a + 1)) p
    ≡ weight_in (corners_of n a) p =
    rw (laws.left_corners n a here.low, laws.right_corners n a here.low)
    (sym (weight-children (corners_of n a) p (laws.even n a here.coarse) (laws.turned n a here))) in
    weights-append n p (held_from n p (2 * a) 2) (offspring n p rest)
    ∙ omega (arith, weights-pair n p (2 * a), own, weights-offspring laws n p rest later)

length-cond : (n : ℕ) (p : Point) (b : Bool) (a : ℕ) (rest : List ℕ) → (b ≡ true → 1 ≤ weight_in (corners_of n a) p) →
    length rest ≤ weights n p rest → length (cond b (a ∷ rest) rest) ≤ weights n p (cond b (a ∷ rest) rest)
length-cond n p true a rest some le = let own : 1 ≤ weight_in (corners_of n a) p = some refl in omega arith
length-cond n p false a rest some le = le

-- each triangle that holds the point has an eighth
pub length-held : (n : ℕ) (p : Point) (count from : ℕ) →
    length (held_from n p from count) ≤ weights n p (held_from n p from count)
length-held n p zero from = omega arith
length-held n p (suc count) from = length-cond n p (holds_point n from p) from (held_from n p (from + 1) count)
    (weight-held (corners_of n from) p) (length-held n p count (from + 1))

-- ---- the addresses of a list that is held

All-cond : (P : ℕ → Type 0) (b : Bool) (a : ℕ) (rest : List ℕ) → P a → All P rest → All P (cond b (a ∷ rest) rest)
All-cond P true a rest own all zero d lt = own
All-cond P true a rest own all (suc k) d lt = all k d (omega arith)
All-cond P false a rest own all k d lt = all k d lt

-- what holds of each address of a range holds of those that hold the point
pub All-held : (P : ℕ → Type 0) (n : ℕ) (p : Point) (count from : ℕ) → ((a : ℕ) → from ≤ a → a < from + count → P a) →
    All P (held_from n p from count)
All-held P n p zero from each = λ k d lt. absurd (omega arith)
All-held P n p (suc count) from each = All-cond P (holds_point n from p) from (held_from n p (from + 1) count)
    (each from (omega arith) (omega arith))
    (All-held P n p count (from + 1) (λ a low high. each a (omega arith) (omega arith)))

-- ---- levels and lists in parts

-- an address below those of level 2 n + 1
pub level-below : ((a k : ℕ) → 2 ≤ a → ((level_of a < k) ↔ (a < 2 ^ (k + 1)))) → (n a b : ℕ) → b ≡ a →
    2 ≤ a → a < 2 ^ (2 * n + 2) →
    level_of b ≤ 2 * n
level-below below n a b is low high =
    let same : 2 * n + 1 + 1 ≡ 2 * n + 2 = omega arith in
    let lt : level_of a < 2 * n + 1 = (below a (2 * n + 1) low).1 (rw same high) in
    rw is (omega arith)

-- the children of one triangle more
pub offspring-take : (n : ℕ) (p : Point) (level : List ℕ) (i : ℕ) → i < length level →
    offspring n p (take (i + 1) level) ≡ offspring n p (take i level) ++ held_from n p (2 * slice_index_or level i 0) 2
offspring-take n p [] i lt = absurd (omega arith)
offspring-take n p (a ∷ rest) zero lt = append-nil (held_from n p (2 * a) 2)
offspring-take n p (a ∷ rest) (suc i) lt =
    let more : suc i + 1 ≡ suc (i + 1) = omega arith in
    rw (more, offspring-take n p rest i (omega arith))
    (sym (append_assoc (held_from n p (2 * a) 2) (offspring n p (take i rest)) (held_from n p (2 * get_or rest i 0) 2)))

-- the children of some of a level are no more than those of the level
pub offspring-part : (n : ℕ) (p : Point) (level : List ℕ) (i : ℕ) →
    length (offspring n p (take i level)) ≤ length (offspring n p level)
offspring-part n p [] zero = omega arith
offspring-part n p [] (suc i) = omega arith
offspring-part n p (a ∷ rest) zero = omega arith
offspring-part n p (a ∷ rest) (suc i) = omega (
  arith,
  offspring-part n p rest i,
  length-append (held_from n p (2 * a) 2) (offspring n p (take i rest)),
  length-append (held_from n p (2 * a) 2) (offspring n p rest),
)

length-one : (b : Bool) (a : ℕ) (rest : List ℕ) → length (cond b (a ∷ rest) rest) ≤ 1 + length rest
length-one true a rest = omega arith
length-one false a rest = omega arith

-- at most both of two
pub length-pair : (n : ℕ) (p : Point) (a : ℕ) → length (held_from n p a 2) ≤ 2
length-pair n p a = omega (
  arith,
  length-one (holds_point n a p) a (held_from n p (a + 1) 1),
  length-one (holds_point n (a + 1) p) (a + 1) [],
)

-- ---- level after level

-- the triangles of level d that hold the point, and those of all levels up to it
pub record IsFound (n : ℕ) (p : Point) (d : ℕ) (level all : List ℕ) : Type 0 where
  pub level_is : level ≡ held_from n p (2 ^ (d + 1)) (2 ^ (d + 1))
  pub turn : weights n p level ≤ 8
  pub all_is : all ≡ held_from n p 2 (2 ^ (d + 2) - 2)
  pub few : length all ≤ 8 * (d + 1)

-- the addresses of a level that is not the finest
pub level-splittable : ((a k : ℕ) → 2 ≤ a → ((level_of a < k) ↔ (a < 2 ^ (k + 1)))) → (n d : ℕ) → d < 2 * n → (a : ℕ) →
    2 ^ (d + 1) ≤ a → a < 2 ^ (d + 1) + 2 ^ (d + 1) → IsSplittable n a
level-splittable below n d coarse a low high =
    let twice : 2 ^ (d + 1 + 1) ≡ 2 * 2 ^ (d + 1) = pow_next (d + 1) in
    let some : 2 ≤ a = omega (arith, pow_next d, pow_pos d) in
    let lt : level_of a < d + 1 = (below a (d + 1) some).1 (omega arith) in
    record { low = some; coarse = omega arith }

-- the halves of the square are level 0
pub IsFound-bases : (n : ℕ) (p : Point) (level all : List ℕ) → level ≡ held_from n p 2 2 →
    all ≡ level → IsFound n p 0 level all
IsFound-bases n p level all is same =
    let halves : weight_in (corners_of n 2) p + weight_in (corners_of n 3) p ≤ 8 =
    rw (corners_of-2 n, corners_of-3 n) (weight-halves (2 ^ n) p) in
    record {
      level_is = is;
      turn = rw is (omega (arith, weights-pair n p 2, halves));
      all_is = same ∙ is;
      few = rw (same, is) (omega (arith, length-pair n p 2));
    }

-- the next level: its triangles, all of them splittable before, and at most eight
pub next-level : TurnLaws → ((a k : ℕ) → 2 ≤ a → ((level_of a < k) ↔ (a < 2 ^ (k + 1)))) →
    (n : ℕ) (p : Point) (d : ℕ) (level all : List ℕ) →
    d < 2 * n → IsFound n p d level all → offspring n p level ≡ held_from n p (2 ^ (d + 1 + 1)) (2 ^ (d + 1 + 1))
next-level laws below n p d level all coarse found =
    let twice : 2 * 2 ^ (d + 1) ≡ 2 ^ (d + 1 + 1) = sym (pow_next (d + 1)) in
    let P : ℕ → Type 0 = λ k. offspring n p (held_from n p (2 ^ (d + 1)) (2 ^ (d + 1))) ≡ held_from n p k k in
    let Q : List ℕ → Type 0 = λ xs. offspring n p xs ≡ held_from n p (2 ^ (d + 1 + 1)) (2 ^ (d + 1 + 1)) in
    subst Q (sym found.level_is)
    (subst P twice (offspring-held laws n p (2 ^ (d + 1)) (2 ^ (d + 1)) (level-splittable below n d coarse)))

-- the triangles of a level that is not the finest are splittable
level-All : ((a k : ℕ) → 2 ≤ a → ((level_of a < k) ↔ (a < 2 ^ (k + 1)))) →
    (n : ℕ) (p : Point) (d : ℕ) (level all : List ℕ) →
    d < 2 * n → IsFound n p d level all → All (λ a. IsSplittable n a) level
level-All below n p d level all coarse found =
    let Q : List ℕ → Type 0 = λ xs. All (λ a. IsSplittable n a) xs in
    subst Q (sym found.level_is)
    (All-held (λ a. IsSplittable n a) n p (2 ^ (d + 1)) (2 ^ (d + 1)) (level-splittable below n d coarse))

-- so their levels are below the finest
pub level-coarse : ((a k : ℕ) → 2 ≤ a → ((level_of a < k) ↔ (a < 2 ^ (k + 1)))) →
    (n : ℕ) (p : Point) (d : ℕ) (level all : List ℕ) →
    d < 2 * n → IsFound n p d level all → All (λ a. level_of a < 2 * n) level
level-coarse below n p d level all coarse found = λ k e lt.
    let split : IsSplittable n (get_or level k e) = level-All below n p d level all coarse found k e lt in split.coarse

next-turn : TurnLaws → ((a k : ℕ) → 2 ≤ a → ((level_of a < k) ↔ (a < 2 ^ (k + 1)))) →
    (n : ℕ) (p : Point) (d : ℕ) (level all : List ℕ) →
    d < 2 * n → IsFound n p d level all → weights n p (offspring n p level) ≤ 8
next-turn laws below n p d level all coarse found =
    omega (arith, weights-offspring laws n p level (level-All below n p d level all coarse found), found.turn)

-- at most eight children of a level hold the point
pub next-few : TurnLaws → ((a k : ℕ) → 2 ≤ a → ((level_of a < k) ↔ (a < 2 ^ (k + 1)))) →
    (n : ℕ) (p : Point) (d : ℕ) (level all : List ℕ) →
    d < 2 * n → IsFound n p d level all → length (offspring n p level) ≤ 8
next-few laws below n p d level all coarse found =
    let is : offspring n p level ≡ held_from n p (2 ^ (d + 1 + 1)) (2 ^ (d + 1 + 1)) =
    next-level laws below n p d level all coarse found in
    let P : List ℕ → Type 0 = λ xs. length xs ≤ weights n p xs in
    let each : length (offspring n p level) ≤ weights n p (offspring n p level) =
    subst P (sym is) (length-held n p (2 ^ (d + 1 + 1)) (2 ^ (d + 1 + 1))) in
    omega (arith, each, next-turn laws below n p d level all coarse found)

-- a level more is found
pub IsFound-next : TurnLaws → ((a k : ℕ) → 2 ≤ a → ((level_of a < k) ↔ (a < 2 ^ (k + 1)))) → (n : ℕ) (p : Point) (d : ℕ)
    (level all next more : List ℕ) → d < 2 * n → IsFound n p d level all →
    next ≡ offspring n p level → more ≡ all ++ next →
    IsFound n p (d + 1) next more
IsFound-next laws below n p d level all next more coarse found is joined =
    let level_is : next ≡ held_from n p (2 ^ (d + 1 + 1)) (2 ^ (d + 1 + 1)) =
    is ∙ next-level laws below n p d level all coarse found in
    let same : 2 ^ (d + 2) ≡ 2 ^ (d + 1 + 1) = ap (λ k. 2 ^ k) (let two : d + 2 ≡ d + 1 + 1 = omega arith in two) in
    let third : 2 ^ (d + 1 + 2) ≡ 2 * 2 ^ (d + 2) =
    ap (λ k. 2 ^ k) (let three : d + 1 + 2 ≡ d + 2 + 1 = omega arith in three) ∙ pow_next (d + 2) in
    let some : 2 ≤ 2 ^ (d + 2) = omega (arith, pow_next (d + 1), pow_pos (d + 1), same) in
    let start : 2 + (2 ^ (d + 2) - 2) ≡ 2 ^ (d + 1 + 1) = omega (arith, same) in
    let whole : (2 ^ (d + 2) - 2) + 2 ^ (d + 1 + 1) ≡ 2 ^ (d + 1 + 2) - 2 = omega (arith, same, third) in
    let At : ℕ → Type 0 = λ k. held_from n p 2 ((2 ^ (d + 2) - 2) + 2 ^ (d + 1 + 1))
    ≡ held_from n p 2 (2 ^ (d + 2) - 2) ++ held_from n p k (2 ^ (d + 1 + 1)) in
    let To : ℕ → Type 0 = λ k. held_from n p 2 k
    ≡ held_from n p 2 (2 ^ (d + 2) - 2) ++ held_from n p (2 ^ (d + 1 + 1)) (2 ^ (d + 1 + 1)) in
    let parts : To (2 ^ (d + 1 + 2) - 2) =
    subst To whole (subst At start (held-append n p (2 ^ (d + 2) - 2) 2 (2 ^ (d + 1 + 1)))) in
    let few : length (offspring n p level) ≤ 8 = next-few laws below n p d level all coarse found in
    record {
      level_is = level_is;
      turn = rw is (next-turn laws below n p d level all coarse found);
      all_is = joined ∙ ap (λ t. t ++ next) found.all_is
          ∙ ap (λ t. held_from n p 2 (2 ^ (d + 2) - 2) ++ t) level_is ∙ sym parts;
      few = rw (joined, length-append all next, is) (omega (arith, found.few));
    }

-- there is room for the children of one triangle more
pub children-fit : (n : ℕ) (p : Point) (level : List ℕ) (i a : ℕ) (held : List ℕ) →
    a ≡ slice_index_or level i 0 → i < length level →
    held ≡ offspring n p (take i level) → length (offspring n p level) ≤ 8 →
    length held + length (held_from n p (2 * a) 2) ≤ 8
children-fit n p level i a held is lt so_far few =
    let more : length (offspring n p (take (i + 1) level))
    ≡ length (offspring n p (take i level)) + length (held_from n p (2 * slice_index_or level i 0) 2) =
    ap length (offspring-take n p level i lt)
    ∙ length-append (offspring n p (take i level)) (held_from n p (2 * slice_index_or level i 0) 2) in
    let P : ℕ → Type 0 = λ b. length held + length (held_from n p (2 * b) 2) ≤ 8 in
    subst P (sym is) (rw so_far (omega (arith, more, offspring-part n p level (i + 1))))

-- the children of a triangle that is not finest are addresses of the grid
pub child-high : ((a k : ℕ) → 2 ≤ a → ((level_of a < k) ↔ (a < 2 ^ (k + 1)))) →
    (n : ℕ) (level : List ℕ) (i a : ℕ) → 2 ≤ a →
    a ≡ slice_index_or level i 0 → i < length level → All (λ b. level_of b < 2 * n) level → 2 * a + 1 < 2 ^ (2 * n + 2)
child-high below n level i a low is lt all =
    let P : ℕ → Type 0 = λ b. level_of b < 2 * n in
    let coarse : level_of a < 2 * n = subst P (sym is) (all i 0 lt) in
    let high : a < 2 ^ (2 * n + 1) = (below a (2 * n) low).0 coarse in
    let twice : 2 ^ (2 * n + 1 + 1) ≡ 2 * 2 ^ (2 * n + 1) = pow_next (2 * n + 1) in
    let same : 2 ^ (2 * n + 2) ≡ 2 ^ (2 * n + 1 + 1) =
    ap (λ k. 2 ^ k) (let two : 2 * n + 2 ≡ 2 * n + 1 + 1 = omega arith in two) in
    omega (arith, same, twice)

-- an entry that is there, whatever is answered where there is none
pub same-entry : (xs : List ℕ) (i d e : ℕ) → i < length xs → slice_index_or xs i d ≡ slice_index_or xs i e
same-entry [] i d e lt = absurd (omega arith)
same-entry (x ∷ xs) zero d e lt = refl
same-entry (x ∷ xs) (suc i) d e lt = same-entry xs i d e (omega arith)

-- when the finest level is done, all are found
pub IsFound-all : (n : ℕ) (p : Point) (d : ℕ) (level all : List ℕ) → d ≡ 2 * n →
    IsFound n p d level all → all ≡ holders n p
IsFound-all n p d level all is found =
    let P : ℕ → Type 0 = λ k. all ≡ held_from n p 2 (2 ^ (k + 2) - 2) in
    subst P is found.all_is

-- there is room for the next level
pub room-next : (d n : ℕ) (all next : List ℕ) → d < 2 * n → n ≤ 14 → length all ≤ 8 * (d + 1) → length next ≤ 8 →
    length all + length next ≤ 232
room-next d n all next coarse small few more = omega arith

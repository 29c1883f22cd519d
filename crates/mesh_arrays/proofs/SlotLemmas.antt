-- The children of a slot, and the halves of the square.
use Rattle.std.proofs.Common.{◌≡◌, ℕ, ◌+◌, ◌-◌, ◌*◌, ◌/◌, ◌<◌, ◌≤◌, Bool, true, false, List, ◌++◌, length, refl, sym}
use Rattle.std.proofs.Common.{◌∙◌, get_or, ap, arith, length-append, append_assoc}
use Rattle.mesh_defs.specs.Triangle.{level_of}
use Rattle.mesh_defs.specs.ClosedSet.{leaves_under, leaves_of}
use Rattle.bintree_laws.proofs.LevelLemmas.{level_of-left, level_of-right, level_of-root}
use Rattle.mesh_laws.specs.Slots.{address_at, has_children, split_set, IsLive, IsPool}
use Rattle.mesh_laws.proofs.SlotLemmas.{has_children-set}
use Rattle.mesh_laws.proofs.LeafLemmas.{leaves_under-split}
use Rattle.mesh_arrays.specs.Walk.{WalkState}

-- what is not false is true
pub when_some : (b : Bool) → (b ≡ false → true ≡ false) → b ≡ true
when_some true some = refl
when_some false some = sym (some refl)

-- What holds at the children of a triangle that is split.
pub record AreBelow (n : ℕ) (pairs : List ℕ) (levels s left right : ℕ) : Type 0 where
  pub some : 1 ≤ levels
  pub split : split_set pairs (address_at pairs s) ≡ true
  pub left_live : IsLive pairs left
  pub right_live : IsLive pairs right
  pub left_level : level_of (address_at pairs left) + (levels - 1) ≡ 2 * n
  pub right_level : level_of (address_at pairs right) + (levels - 1) ≡ 2 * n
  pub list : leaves_under levels (split_set pairs) (address_at pairs s)
      ≡ leaves_under (levels - 1) (split_set pairs) (address_at pairs left) ++ leaves_under (levels - 1)
      (split_set pairs) (address_at pairs right)
  pub count : length (leaves_under levels (split_set pairs) (address_at pairs s))
      ≡ length (leaves_under (levels - 1) (split_set pairs) (address_at pairs left))
      + length (leaves_under (levels - 1) (split_set pairs) (address_at pairs right))

-- the slots of a split triangle's children are live, a level deeper, and its leaves are theirs, left before right
pub slots_below : (n : ℕ) (pairs : List ℕ) (levels s left right : ℕ) → IsPool n pairs → IsLive pairs s →
    level_of (address_at pairs s) + levels ≡ 2 * n → has_children pairs (address_at pairs s) ≡ true →
    address_at pairs left ≡ 2 * address_at pairs s → address_at pairs right ≡ 2 * address_at pairs s + 1 →
    AreBelow n pairs levels s left right
slots_below n pairs levels s left right pool live level split is_left is_right =
    let a = address_at pairs s in
    let member : split_set pairs a ≡ true = has_children-set pairs a live split in
    let coarse : level_of a < 2 * n = (pool.closed.splittable a member).coarse in
    let some : 1 ≤ levels = omega arith in
    let left_level : level_of (address_at pairs left) ≡ level_of a + 1 = ap level_of is_left ∙ level_of-left a live in
    let right_level : level_of (address_at pairs right) ≡ level_of a + 1 =
    ap level_of is_right ∙ level_of-right a live in
    let under = λ (b : ℕ). leaves_under (levels - 1) (split_set pairs) b in
    let list = leaves_under-split levels (split_set pairs) a some member
    ∙ ap (λ b. under b ++ under (2 * a + 1)) (sym is_left)
    ∙ ap (λ b. under (address_at pairs left) ++ under b) (sym is_right) in
    record {
      some = some;
      split = member;
      left_live = omega arith;
      right_live = omega arith;
      left_level = omega arith;
      right_level = omega arith;
      list = list;
      count = ap length list ∙ length-append (under (address_at pairs left)) (under (address_at pairs right));
    }

-- what comes below both children comes below the triangle
pub put_both : (w middle after : WalkState) (left right all : List ℕ) → all ≡ left ++ right →
    middle ≡ record w { leaves = w.leaves ++ left; come = w.come ++ left } →
    after ≡ record middle { leaves = middle.leaves ++ right; come = middle.come ++ right } →
    after ≡ record w { leaves = w.leaves ++ all; come = w.come ++ all }
put_both w middle after left right all is one two =
    two ∙ ap (λ (z : WalkState). record z { leaves = z.leaves ++ right; come = z.come ++ right }) one
    ∙ ap (λ (xs : List ℕ). record w { leaves = xs; come = (w.come ++ left) ++ right }) (append_assoc w.leaves left right
    ∙ ap (λ xs. w.leaves ++ xs) (sym is))
    ∙ ap (λ (xs : List ℕ). record w { leaves = w.leaves ++ all; come = xs }) (append_assoc w.come left right
    ∙ ap (λ xs. w.come ++ xs) (sym is))

-- the leaves of a set are those of the lower half of the square, and behind them those of the upper half
pub leaves_halves : (n : ℕ) (has : ℕ → Bool) →
    leaves_of n has ≡ leaves_under (2 * n) has 2 ++ leaves_under (2 * n) has 3
unfolding leaves_of
leaves_halves n has = refl

-- What holds at the halves of the square.
pub record AreHalves (n : ℕ) (pairs : List ℕ) (levels : ℕ) : Type 0 where
  pub all : levels ≡ 2 * n
  pub lower : address_at pairs 0 ≡ 2
  pub upper : address_at pairs 1 ≡ 3
  pub lower_level : level_of (address_at pairs 0) + levels ≡ 2 * n
  pub upper_level : level_of (address_at pairs 1) + levels ≡ 2 * n
  pub list : leaves_of n (split_set pairs)
      ≡ leaves_under levels (split_set pairs) (address_at pairs 0) ++ leaves_under levels
      (split_set pairs) (address_at pairs 1)
  pub count : length (leaves_of n (split_set pairs))
      ≡ length (leaves_under levels (split_set pairs) (address_at pairs 0))
      + length (leaves_under levels (split_set pairs) (address_at pairs 1))

-- the slots of the halves of the square
pub half_slot : (pairs : List ℕ) (t s : ℕ) → get_or pairs 0 0 ≡ 1 → 2 ≤ t → t < 4 → s ≡ t - 2 → address_at pairs s ≡ t
half_slot pairs t s root low half is =
    let first : s / 2 ≡ 0 = omega arith in
    let e : get_or pairs (s / 2) 0 ≡ 1 = ap (λ k. get_or pairs k 0) first ∙ root in omega arith

-- slots 0 and 1 have the halves of the square, and the leaves are those at the one and then at the other
pub halves_of : (n : ℕ) (pairs : List ℕ) (k : ℕ) → get_or pairs 0 0 ≡ 1 → k ≡ n → AreHalves n pairs (2 * k)
halves_of n pairs k root is =
    let lower = half_slot pairs 2 0 root (omega arith) (omega arith) (omega arith) in
    let upper = half_slot pairs 3 1 root (omega arith) (omega arith) (omega arith) in
    let all : 2 * k ≡ 2 * n = ap (λ i. 2 * i) is in
    let lower_level = ap level_of lower ∙ level_of-root 2 (omega arith) (omega arith) in
    let upper_level = ap level_of upper ∙ level_of-root 3 (omega arith) (omega arith) in
    let under = λ (b : ℕ). leaves_under (2 * k) (split_set pairs) b in
    let list = leaves_halves n (split_set pairs)
    ∙ ap (λ l. leaves_under l (split_set pairs) 2 ++ leaves_under l (split_set pairs) 3) (sym all)
    ∙ ap (λ a. under a ++ under 3) (sym lower) ∙ ap (λ a. under (address_at pairs 0) ++ under a) (sym upper) in
    record {
      all = all;
      lower = lower;
      upper = upper;
      lower_level = omega arith;
      upper_level = omega arith;
      list = list;
      count = ap length list ∙ length-append (under (address_at pairs 0)) (under (address_at pairs 1));
    }

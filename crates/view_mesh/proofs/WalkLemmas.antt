-- A walk down from a slot: where it goes, how it ends, and which stamps it expires.
use Rattle.std.proofs.Common.{◌≡◌, ℕ, ◌+◌, ◌-◌, ◌*◌, ◌<◌, ◌≤◌, ◌||◌, ◌&&◌, Bool, true, false, nat_eq}
use Rattle.std.proofs.Common.{inl, inr, refl, sym, ◌∙◌, ap, subst, arith}
use Rattle.std.proofs.Common.{cond, option_map}
use Rattle.std.proofs.Math.Bool.{and-true, and-false}
use Rattle.std.proofs.lemmas.Bool.{eqb-true, true_from_ne_false}
use Rattle.mesh_defs.specs.Triangle.{level_of}
use Rattle.bintree_addr.specs.declared.slot.Slot.{Slot}
use Rattle.bintree_laws.proofs.LevelLemmas.{level-le}
use Rattle.mesh_laws.specs.Slots.{address_at, has_children, IsLive, IsPool}
use Rattle.triangle_pool.specs.Slots.{PoolState}
use Rattle.triangle_pool.specs.Answer.{AreChildren}
use Rattle.roam_mesh.specs.Mesh.{MeshState, stamp_of, with_expired, OnlyEntriesStamped}
use Rattle.view_mesh.specs.Expiry.{IsExpired}
use Rattle.mesh_arrays.specs.Below.{is_at_or_below}
use Rattle.view_mesh.proofs.BelowLemmas.{below_children, below_leaf, below_square, child_falls}
use Rattle.view_mesh.proofs.BelowLemmas.{entry_placed}
use Rattle.view_mesh.proofs.ExpiryLemmas.{IsExpired-both, IsExpired-stamped, IsExpired-same}

-- What is read of a slot of a pool while nothing changes there: its triangle, and the slots of its children.
pub record IsRead (pool : PoolState) (s : Slot) (t : ℕ) (left right : Slot) : Type 0 where
  pub valid : IsPool pool.n pool.pairs
  pub live : 2 ≤ t
  pub at : t ≡ address_at pool.pairs s.0
  pub has : has_children pool.pairs t ≡ true
  pub left_at : address_at pool.pairs left.0 ≡ 2 * t
  pub right_at : address_at pool.pairs right.0 ≡ 2 * t + 1

pub read_children : (seen pool : PoolState) (s : Slot) (t : ℕ) (left right : Slot) → seen ≡ pool →
    IsPool pool.n pool.pairs → IsLive pool.pairs s.0 →
    t ≡ address_at seen.pairs s.0 → (has_children seen.pairs (address_at seen.pairs s.0) ≡ false → ⊥) →
    AreChildren seen.pairs (address_at seen.pairs s.0) (left, right) → IsRead pool s t left right
read_children seen pool s t left right same valid live at some children =
    let own : t ≡ address_at pool.pairs s.0 = at ∙ ap (λ (z : PoolState). address_at z.pairs s.0) same in
    let some_there : has_children pool.pairs (address_at pool.pairs s.0) ≡ false → ⊥ =
    subst (λ (z : PoolState). has_children z.pairs (address_at z.pairs s.0) ≡ false → ⊥) same some in
    let there : AreChildren pool.pairs (address_at pool.pairs s.0) (left, right) =
    subst (λ (z : PoolState). AreChildren z.pairs (address_at z.pairs s.0) (left, right)) same children in
    record {
      valid = valid;
      live = subst (λ z. 2 ≤ z) (sym own) live;
      at = own;
      has = true_from_ne_false (has_children pool.pairs t)
          (λ e. some_there (subst (λ z. has_children pool.pairs z ≡ false) own e));
      left_at = there.0 ∙ ap (λ z. 2 * z) (sym own);
      right_at = there.1 ∙ ap (λ z. 2 * z + 1) (sym own);
    }

-- a step down comes to a live slot, with fewer levels below it
pub step_left : (pool later : PoolState) (s : Slot) (t : ℕ) (left right : Slot) → later ≡ pool →
    IsRead pool s t left right →
    (2 * later.n - level_of (address_at later.pairs left.0) < 2 * pool.n - level_of (address_at pool.pairs s.0))
    × IsLive later.pairs left.0
step_left pool later s t left right same is =
    subst (λ (z : PoolState). (2 * z.n - level_of (address_at z.pairs left.0)
    < 2 * pool.n - level_of (address_at pool.pairs s.0)) × IsLive z.pairs left.0) (sym same) (
      subst (λ z. 2 * pool.n - level_of (address_at pool.pairs left.0) < 2 * pool.n - level_of z) is.at (child_falls
          pool.n pool.pairs t (address_at pool.pairs left.0) is.valid is.live is.has (inl is.left_at)),
      (let low = is.live in let child = is.left_at in omega arith),
    )

pub step_right : (pool later : PoolState) (s : Slot) (t : ℕ) (left right : Slot) → later ≡ pool →
    IsRead pool s t left right →
    (2 * later.n - level_of (address_at later.pairs right.0) < 2 * pool.n - level_of (address_at pool.pairs s.0))
    × IsLive later.pairs right.0
step_right pool later s t left right same is =
    subst (λ (z : PoolState). (2 * z.n - level_of (address_at z.pairs right.0)
    < 2 * pool.n - level_of (address_at pool.pairs s.0)) × IsLive z.pairs right.0) (sym same) (
      subst (λ z. 2 * pool.n - level_of (address_at pool.pairs right.0) < 2 * pool.n - level_of z) is.at (child_falls
          pool.n pool.pairs t (address_at pool.pairs right.0) is.valid is.live is.has (inr is.right_at)),
      (let low = is.live in let child = is.right_at in omega arith),
    )

-- what passes a test

split_parts : (own left right met : Bool) →
    (((own && met) || (left && met)) || (right && met)) ≡ (((own || left) || right) && met)
split_parts true left right true = refl
split_parts true true true false = refl
split_parts true true false false = refl
split_parts true false true false = refl
split_parts true false false false = refl
split_parts false true right true = refl
split_parts false true true false = refl
split_parts false true false false = refl
split_parts false false true true = refl
split_parts false false true false = refl
split_parts false false false true = refl
split_parts false false false false = refl

and_same : (b p q : Bool) → (b ≡ true → p ≡ q) → (b && p) ≡ (b && q)
and_same true p q same = same refl
and_same false p q same = refl

module _ (x y : MeshState) (t : ℕ) where
  -- and if it passes the test
  pub IsExpired-itself : (test : ℕ → Bool) (told : Bool) → told ≡ test t → IsExpired x y (λ a. nat_eq t a && told) →
      IsExpired x y (λ a. nat_eq t a && test a)
  IsExpired-itself test told is own = IsExpired-stamped x y (λ a. nat_eq t a && told) (λ a. nat_eq t a && test a)
      (λ a stamp there. and_same (nat_eq t a) told (test a) (λ same. is ∙ ap test (eqb-true t a same))) own

-- itself, and what is at and below the children
IsExpired-parts : (x y z w : MeshState) (s : Slot) (t : ℕ) (left right : Slot) (own : ℕ → Bool) (Below : ℕ → ℕ → Bool) →
    IsRead x.pool s t left right → ((a : ℕ) → ((own a || Below (2 * t) a) || Below (2 * t + 1) a) ≡ Below t a) →
    IsExpired x y own → IsExpired y z (Below (address_at y.pool.pairs left.0)) →
    IsExpired z w (Below (address_at z.pool.pairs right.0)) → IsExpired x w (Below (address_at x.pool.pairs s.0))
IsExpired-parts x y z w s t left right own Below is whole first lower upper =
    let left_at : address_at y.pool.pairs left.0 ≡ 2 * t =
    ap (λ (p : PoolState). address_at p.pairs left.0) first.pool ∙ is.left_at in
    let right_at : address_at z.pool.pairs right.0 ≡ 2 * t + 1 =
    ap (λ (p : PoolState). address_at p.pairs right.0) (lower.pool ∙ first.pool) ∙ is.right_at in
    subst (λ p. IsExpired x w (Below p)) is.at
    (IsExpired-stamped x w (λ a. (own a || Below (2 * t) a) || Below (2 * t + 1) a) (Below t)
    (λ a stamp there. whole a)
    (IsExpired-both x z w (λ a. own a || Below (2 * t) a) (Below (2 * t + 1))
    (IsExpired-both x y z own (Below (2 * t)) first (subst (λ p. IsExpired y z (Below p)) left_at lower))
    (subst (λ p. IsExpired z w (Below p)) right_at upper)))

pub IsExpired-all : (x y z w : MeshState) (s : Slot) (t : ℕ) (left right : Slot) → IsRead x.pool s t left right →
    IsExpired x y (nat_eq t) → IsExpired y z (is_at_or_below (address_at y.pool.pairs left.0)) →
    IsExpired z w (is_at_or_below (address_at z.pool.pairs right.0)) →
    IsExpired x w (is_at_or_below (address_at x.pool.pairs s.0))
IsExpired-all x y z w s t left right is =
    IsExpired-parts x y z w s t left right (nat_eq t) is_at_or_below is (λ a. below_children t a is.live)

-- and passes the test
pub IsExpired-tested : (test : ℕ → Bool) (x y z w : MeshState) (s : Slot) (t : ℕ) (left right : Slot) →
    IsRead x.pool s t left right →
    IsExpired x y (λ a. nat_eq t a && test a) →
    IsExpired y z (λ a. is_at_or_below (address_at y.pool.pairs left.0) a && test a) →
    IsExpired z w (λ a. is_at_or_below (address_at z.pool.pairs right.0) a && test a) →
    IsExpired x w (λ a. is_at_or_below (address_at x.pool.pairs s.0) a && test a)
IsExpired-tested test x y z w s t left right is =
    IsExpired-parts x y z w s t left right (λ a. nat_eq t a && test a) (λ p a. is_at_or_below p a && test a) is
    (λ a. split_parts (nat_eq t a) (is_at_or_below (2 * t) a) (is_at_or_below (2 * t + 1) a) (test a)
    ∙ ap (λ b. b && test a) (below_children t a is.live))

-- a leaf alone
pub IsExpired-leaf : (x y : MeshState) (s t : ℕ) → OnlyEntriesStamped x → IsPool x.pool.n x.pool.pairs → 2 ≤ t →
    t ≡ address_at x.pool.pairs s → has_children x.pool.pairs t ≡ false → IsExpired x y (nat_eq t) →
    IsExpired x y (is_at_or_below (address_at x.pool.pairs s))
IsExpired-leaf x y s t only valid low at whole own =
    subst (λ p. IsExpired x y (is_at_or_below p)) at (IsExpired-same x y (nat_eq t) (is_at_or_below t) only
    (λ a entry. below_leaf x.pool t a valid low whole entry) own)

pub IsExpired-tested_leaf : (test : ℕ → Bool) (x y : MeshState) (s t : ℕ) → OnlyEntriesStamped x →
    IsPool x.pool.n x.pool.pairs → 2 ≤ t → t ≡ address_at x.pool.pairs s →
    has_children x.pool.pairs t ≡ false → IsExpired x y (λ a. nat_eq t a && test a) →
    IsExpired x y (λ a. is_at_or_below (address_at x.pool.pairs s) a && test a)
IsExpired-tested_leaf test x y s t only valid low at whole own =
    subst (λ p. IsExpired x y (λ a. is_at_or_below p a && test a)) at
    (IsExpired-same x y (λ a. nat_eq t a && test a) (λ a. is_at_or_below t a && test a) only
    (λ a entry. ap (λ b. b && test a) (below_leaf x.pool t a valid low whole entry)) own)

-- all triangles of the grid below it pass the test, or none
pub IsExpired-alike : (test : ℕ → Bool) (told : Bool) (x y : MeshState) (s : ℕ) → OnlyEntriesStamped x →
    IsPool x.pool.n x.pool.pairs →
    ((a : ℕ) → is_at_or_below (address_at x.pool.pairs s) a ≡ true → level_of a ≤ 2 * x.pool.n → test a ≡ told) →
    IsExpired x y (λ a. is_at_or_below (address_at x.pool.pairs s) a && told) →
    IsExpired x y (λ a. is_at_or_below (address_at x.pool.pairs s) a && test a)
IsExpired-alike test told x y s only valid alike = IsExpired-same x y
    (λ a. is_at_or_below (address_at x.pool.pairs s) a && told)
    (λ a. is_at_or_below (address_at x.pool.pairs s) a && test a) only
    (λ a entry. and_same (is_at_or_below (address_at x.pool.pairs s) a) told (test a)
    (λ under. sym (alike a under (level-le x.pool.n a (entry_placed x.pool a valid entry).address))))

pub IsExpired-untouched : (test : ℕ → Bool) (x : MeshState) (s : ℕ) → OnlyEntriesStamped x →
    IsPool x.pool.n x.pool.pairs →
    ((a : ℕ) → is_at_or_below (address_at x.pool.pairs s) a ≡ true → level_of a ≤ 2 * x.pool.n → test a ≡ false) →
    IsExpired x x (λ a. is_at_or_below (address_at x.pool.pairs s) a && test a)
IsExpired-untouched test x s only valid none = IsExpired-alike test false x x s only valid none (record {
  pool = refl;
  stamps = λ a. ap (λ b. cond b (option_map with_expired (stamp_of x a)) (stamp_of x a))
      (sym (and-false (is_at_or_below (address_at x.pool.pairs s) a)));
})

pub IsExpired-passed : (test : ℕ → Bool) (x y : MeshState) (s : ℕ) → OnlyEntriesStamped x →
    IsPool x.pool.n x.pool.pairs →
    ((a : ℕ) → is_at_or_below (address_at x.pool.pairs s) a ≡ true → level_of a ≤ 2 * x.pool.n → test a ≡ true) →
    IsExpired x y (is_at_or_below (address_at x.pool.pairs s)) →
    IsExpired x y (λ a. is_at_or_below (address_at x.pool.pairs s) a && test a)
IsExpired-passed test x y s only valid all is = IsExpired-alike test true x y s only valid all
    (IsExpired-stamped x y (is_at_or_below (address_at x.pool.pairs s)) _
    (λ a stamp there. sym (and-true (is_at_or_below (address_at x.pool.pairs s) a))) is)

two_or : (met right : Bool) → (met || (right && met)) ≡ met
two_or true right = refl
two_or false true = refl
two_or false false = refl

one_met : (lower upper met : Bool) → (lower || upper) ≡ true → ((lower && met) || (upper && met)) ≡ met
one_met true upper met one = two_or met upper
one_met false upper met one = ap (λ z. z && met) one

-- both halves of the square have all
IsExpired-halves : (x y z : MeshState) (Below : ℕ → ℕ → Bool) (test : ℕ → Bool) (lower upper : ℕ) →
    OnlyEntriesStamped x → IsPool x.pool.n x.pool.pairs → lower ≡ 2 → upper ≡ 3 →
    ((a : ℕ) → (is_at_or_below 2 a || is_at_or_below 3 a) ≡ true → (Below 2 a || Below 3 a) ≡ test a) →
    IsExpired x y (Below lower) → IsExpired y z (Below upper) → IsExpired x z test
IsExpired-halves x y z Below test lower upper only valid low high whole first second =
    IsExpired-same x z (λ a. Below 2 a || Below 3 a) test only
    (λ a entry. whole a (below_square a (entry_placed x.pool a valid entry).address.low))
    (IsExpired-both x y z (Below 2) (Below 3) (subst (λ p. IsExpired x y (Below p)) low first)
    (subst (λ p. IsExpired y z (Below p)) high second))

pub IsExpired-square : (x y z : MeshState) (lower upper : ℕ) → OnlyEntriesStamped x →
    IsPool x.pool.n x.pool.pairs → lower ≡ 2 → upper ≡ 3 →
    IsExpired x y (is_at_or_below lower) → IsExpired y z (is_at_or_below upper) → IsExpired x z (λ a. true)
IsExpired-square x y z lower upper only valid low high =
    IsExpired-halves x y z is_at_or_below (λ a. true) lower upper only valid low high (λ a one. one)

-- and all that pass the test
pub IsExpired-tested_square : (test : ℕ → Bool) (x y z : MeshState) (lower upper : ℕ) → OnlyEntriesStamped x →
    IsPool x.pool.n x.pool.pairs → lower ≡ 2 → upper ≡ 3 →
    IsExpired x y (λ a. is_at_or_below lower a && test a) →
    IsExpired y z (λ a. is_at_or_below upper a && test a) → IsExpired x z test
IsExpired-tested_square test x y z lower upper only valid low high =
    IsExpired-halves x y z (λ p a. is_at_or_below p a && test a) test lower upper only valid low high
    (λ a. one_met (is_at_or_below 2 a) (is_at_or_below 3 a) (test a))

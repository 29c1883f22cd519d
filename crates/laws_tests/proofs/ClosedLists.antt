-- A test of lists of addresses that computes whether they are closed sets, and that what passes it is one.
use Rattle.std.proofs.Common.{◌≡◌, ◌≢◌, ℕ, zero, suc, ◌+◌, ◌*◌, ◌/◌, ◌^◌, ◌<◌, ◌≤◌, inl, inr, Bool, true, false, ◌&&◌}
use Rattle.std.proofs.Common.{◌||◌, not, List, [], ◌∷◌, refl, sym, subst, arith}
use Rattle.std.specs.Prelude.{nat_eq, nat_lt, nat_le}
use Rattle.std.proofs.lemmas.Bool.{and_from, and_parts, both_ways, not-true, or_left, or_right, eqb-true, eq-eqb}
use Rattle.std.proofs.lemmas.Bool.{leb-true, le-leb, ltb-true}
use Rattle.std.proofs.lemmas.Bool.Decides.{eqb_tells}
use Rattle.mesh_defs.specs.declared.point.Corners.{Corners}
use Rattle.mesh_defs.specs.Triangle.{level_of, corners_of, SameEnds, IsSplittable, IsMate}
use Rattle.mesh_defs.specs.ClosedSet.{IsClosed, among}
use Rattle.mesh_defs.specs.MeshText.{is_same_point}
use Rattle.mesh_defs.proofs.PointLemmas.{eq-same_point}

-- Tests

pub implied : (p q : Bool) → (not p || q) ≡ true → p ≡ true → q ≡ true
implied true q h k = h
implied false q h k = absurd (cc)

-- p holds of each number below k
abbrev pub all_below : (ℕ → Bool) → ℕ → Bool
all_below p zero = true
all_below p (suc k) = p k && all_below p k

pub all_below-at : (p : ℕ → Bool) (k b : ℕ) → all_below p k ≡ true → b < k → p b ≡ true
all_below-at p zero b h lt = absurd (omega arith)
all_below-at p (suc k) b h lt = elim (eqb_tells b k) [
  | inl e ↦ subst (λ (i : ℕ). p i ≡ true) (sym (e.1)) ((and_parts (p k) (all_below p k) h).0)
  | inr e ↦ let ne : b ≢ k = e.1 in
      all_below-at p k b ((and_parts (p k) (all_below p k) h).1) (omega arith)
]

-- Points and mates

-- the bases have the same two ends
abbrev pub same_ends : Corners → Corners → Bool
same_ends c d =
    (is_same_point c.v0 d.v0 && is_same_point c.v1 d.v1) || (is_same_point c.v0 d.v1 && is_same_point c.v1 d.v0)

same_ends-test : (c d : Corners) → SameEnds c d → same_ends c d ≡ true
same_ends-test c d h = elim h [
  | inl e ↦ or_left _ _ (and_from _ _ (eq-same_point c.v0 d.v0 (e.0)) (eq-same_point c.v1 d.v1 (e.1)))
  | inr e ↦ or_right _ _ (and_from _ _ (eq-same_point c.v0 d.v1 (e.0)) (eq-same_point c.v1 d.v0 (e.1)))
]

-- b could be the mate of a
abbrev pub is_mate : ℕ → ℕ → ℕ → Bool
is_mate n a b =
    (nat_le 2 b && not (nat_eq b a))
    && (nat_eq (level_of b) (level_of a) && same_ends (corners_of n a) (corners_of n b))

unequal : (b a : ℕ) → b ≢ a → not (nat_eq b a) ≡ true
unequal b a ne = elim (eqb_tells b a) [
  | inl e ↦ absurd (ne (e.1))
  | inr e ↦ rw (e.0) refl
]

is_mate-test : (n a b : ℕ) → IsMate n a b → is_mate n a b ≡ true
is_mate-test n a b m =
    and_from _ _ (and_from _ _ (le-leb 2 b m.address.low) (unequal b a m.other))
    (and_from _ _ (eq-eqb (level_of b) (level_of a) m.level) (same_ends-test (corners_of n a) (corners_of n b) m.base))

-- Closed lists

-- P holds of each entry
abbrev pub Each : (ℕ → Type 0) → List ℕ → Type 0
Each P [] = Unit {0}
Each P (x ∷ xs) = P x × Each P xs

pub each-among : (P : ℕ → Type 0) (xs : List ℕ) → Each P xs → (a : ℕ) → among xs a ≡ true → P a
each-among P [] each a h = absurd (cc)
each-among P (x ∷ xs) each a h = elim (eqb_tells x a) [
  | inl e ↦ subst P (e.1) (each.0)
  | inr e ↦ let rest : among xs a ≡ true = rw (e.0) at h in each-among P xs (each.1) a rest
]

-- what a closed list of a grid with this n, whose entries are among xs, needs of its entry a
abbrev pub entry_fits : ℕ → List ℕ → ℕ → Bool
entry_fits n xs a =
    (nat_le 2 a && nat_lt (level_of a) (2 * n))
    && ((not (nat_le 4 a) || among xs (a / 2))
    && all_below (λ b. not (is_mate n a b) || among xs b) (2 ^ (2 * n + 2)))

splittable-at : (n : ℕ) (xs : List ℕ) (a : ℕ) → entry_fits n xs a ≡ true → IsSplittable n a
splittable-at n xs a h =
    let first : (nat_le 2 a && nat_lt (level_of a) (2 * n)) ≡ true = (and_parts _ _ h).0 in
    record {
      low = leb-true 2 a ((and_parts _ _ first).0);
      coarse = ltb-true (level_of a) (2 * n) ((and_parts _ _ first).1);
    }

parent-at : (n : ℕ) (xs : List ℕ) (a : ℕ) → entry_fits n xs a ≡ true → 4 ≤ a → among xs (a / 2) ≡ true
parent-at n xs a h low =
    implied _ _ ((and_parts _ _ ((and_parts _ _ h).1)).0) (le-leb 4 a low)

mate-at : (n : ℕ) (xs : List ℕ) (a b : ℕ) → entry_fits n xs a ≡ true → IsMate n a b → among xs b ≡ true
mate-at n xs a b h m =
    implied _ _ (all_below-at (λ i. not (is_mate n a i) || among xs i) (2 ^ (2 * n + 2)) b
    ((and_parts _ _ ((and_parts _ _ h).1)).1) m.address.high)
    (is_mate-test n a b m)

-- a list each of whose entries fits is a closed set
pub closed-list : (n : ℕ) (xs : List ℕ) → Each (λ a. entry_fits n xs a ≡ true) xs → IsClosed n (among xs)
closed-list n xs each =
    let fits : (a : ℕ) → among xs a ≡ true → entry_fits n xs a ≡ true =
    each-among (λ a. entry_fits n xs a ≡ true) xs each in
    record {
      splittable = λ a h. splittable-at n xs a (fits a h);
      parent = λ a h low. parent-at n xs a (fits a h) low;
      mate = λ a b h m. mate-at n xs a b (fits a h) m;
    }

-- Mates of one triangle

-- no address passes the test, so there is no mate
pub no_mate : (n a b : ℕ) → all_below (λ i. not (is_mate n a i)) (2 ^ (2 * n + 2)) ≡ true → IsMate n a b → ⊥
no_mate n a b h m =
    both_ways (is_mate n a b)
    (not-true (is_mate n a b) (all_below-at (λ i. not (is_mate n a i)) (2 ^ (2 * n + 2)) b h m.address.high))
    (is_mate-test n a b m)

-- m alone passes the test
pub only_mate : (n a m b : ℕ) →
    all_below (λ i. not (is_mate n a i) || nat_eq i m) (2 ^ (2 * n + 2)) ≡ true → IsMate n a b → b ≡ m
only_mate n a m b h mate =
    eqb-true b m
    (implied _ _ (all_below-at (λ i. not (is_mate n a i) || nat_eq i m) (2 ^ (2 * n + 2)) b h mate.address.high)
    (is_mate-test n a b mate))

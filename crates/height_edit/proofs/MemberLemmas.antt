-- The list of the triangles that hold a point has each of them, and is ascending.
use Rattle.std.proofs.Common.{◌≡◌, ℕ, zero, suc, ◌+◌, ◌-◌, ◌*◌, ◌^◌, ◌<◌, ◌≤◌, ◌↔◌, inl, inr, Bool, true, false, cond}
use Rattle.std.proofs.Common.{List, ◌∷◌, All, Contains, refl, subst, arith, ⊎_elim}
use Rattle.std.proofs.lemmas.Bool.{cases_lt}
use Rattle.std.proofs.Math.Pow.{pow_mono}
use Rattle.mesh_defs.specs.declared.point.Point.{Point}
use Rattle.mesh_defs.specs.Triangle.{IsAddress}
use Rattle.mesh_defs.specs.BoundingBox.{holds_point}
use Rattle.mesh_defs.specs.GridSet.{IsAscending}
use Rattle.mesh_defs.proofs.ListLemmas.{IsIn, IsIn-contains, Contains-in}
use Rattle.height_edit.specs.Holders.{held_from, holders}
use Rattle.height_edit.proofs.HolderLemmas.{All-held}

-- a is one of so many addresses from this one on, and its triangle holds the point
record IsHeld (n : ℕ) (p : Point) (from count a : ℕ) : Type 0 where
  pub low : from ≤ a
  pub high : a < from + count
  pub holds : holds_point n a p ≡ true

IsHeld-first : (n : ℕ) (p : Point) (from count a : ℕ) → holds_point n from p ≡ true → from ≡ a →
    IsHeld n p from (suc count) a
IsHeld-first n p from count a held same = let P : ℕ → Type 0 = λ b. holds_point n b p ≡ true in
    record { low = omega arith; high = omega arith; holds = subst P same held }

IsHeld-later : (n : ℕ) (p : Point) (from count a : ℕ) → IsHeld n p (from + 1) count a → IsHeld n p from (suc count) a
IsHeld-later n p from count a later =
    record { low = omega (arith, later.low); high = omega (arith, later.high); holds = later.holds }

-- an entry of the list is one of them
IsHeld-cond : (n : ℕ) (p : Point) (from count a : ℕ) (b : Bool) (rest : List ℕ) → holds_point n from p ≡ b →
    (IsIn a rest → IsHeld n p (from + 1) count a) → IsIn a (cond b (from ∷ rest) rest) → IsHeld n p from (suc count) a
IsHeld-cond n p from count a true rest held later (inl same) = IsHeld-first n p from count a held same
IsHeld-cond n p from count a true rest held later (inr in_rest) = IsHeld-later n p from count a (later in_rest)
IsHeld-cond n p from count a false rest out later in_rest = IsHeld-later n p from count a (later in_rest)

IsHeld-in : (n : ℕ) (p : Point) (count from a : ℕ) → IsIn a (held_from n p from count) → IsHeld n p from count a
IsHeld-in n p zero from a is_in = absurd is_in
IsHeld-in n p (suc count) from a is_in =
    IsHeld-cond n p from count a (holds_point n from p) (held_from n p (from + 1) count)
    refl (IsHeld-in n p count (from + 1) a) is_in

-- and each of them is an entry
first-in : (a : ℕ) (b : Bool) (rest : List ℕ) → b ≡ true → IsIn a (cond b (a ∷ rest) rest)
first-in a true rest held = inl refl
first-in a false rest held = absurd (cc)

later-in : (a from : ℕ) (b : Bool) (rest : List ℕ) → IsIn a rest → IsIn a (cond b (from ∷ rest) rest)
later-in a from true rest is_in = inr is_in
later-in a from false rest is_in = is_in

in-held : (n : ℕ) (p : Point) (count from a : ℕ) → IsHeld n p from count a → IsIn a (held_from n p from count)
in-held n p zero from a held = absurd (omega (arith, held.low, held.high))
in-held n p (suc count) from a held = ⊎_elim {C = IsIn a (held_from n p from (suc count))}
    (λ lt. later-in a from (holds_point n from p) (held_from n p (from + 1) count)
    (in-held n p count (from + 1) a (record {
      low = omega arith;
      high = omega (arith, held.high);
      holds = held.holds;
    })))
    (λ le. let same : a ≡ from = omega (arith, held.low) in
    let P : ℕ → Type 0 =
    λ b. IsIn a (cond (holds_point n b p) (b ∷ held_from n p (from + 1) count) (held_from n p (from + 1) count)) in
    subst P same (first-in a (holds_point n a p) (held_from n p (from + 1) count) held.holds))
    (cases_lt from a)

-- there are at least 2 addresses below those of the grid
room-above : (n : ℕ) → 2 ≤ 2 ^ (2 * n + 2)
room-above n =
    let some : 1 ≤ 2 * n + 2 = omega arith in
    let most : 2 ^ 1 ≤ 2 ^ (2 * n + 2) = pow_mono some in omega arith

-- the entries are the addresses of the grid whose triangles hold the point
pub holders-members : (n a : ℕ) (p : Point) → Contains (holders n p) a ↔ (IsAddress n a × (holds_point n a p ≡ true))
holders-members n a p = (
  λ is_in. let held : IsHeld n p 2 (2 ^ (2 * n + 2) - 2) a =
      IsHeld-in n p (2 ^ (2 * n + 2) - 2) 2 a (IsIn-contains a (holders n p) is_in) in
      (record { low = held.low; high = omega (arith, held.high, room-above n) }, held.holds),
  λ both. let address : IsAddress n a = both.0 in
      Contains-in a (holders n p) (in-held n p (2 ^ (2 * n + 2) - 2) 2 a
      (record { low = address.low; high = omega (arith, address.high, room-above n); holds = both.1 })),
)

-- ascending, since a range of addresses is
IsAscending-cond : (b : Bool) (a : ℕ) (rest : List ℕ) → All (λ c. a < c) rest → IsAscending rest →
    IsAscending (cond b (a ∷ rest) rest)
IsAscending-cond true a rest below ascending = (below, ascending)
IsAscending-cond false a rest below ascending = ascending

held-ascending : (n : ℕ) (p : Point) (count from : ℕ) → IsAscending (held_from n p from count)
held-ascending n p zero from = record {}
held-ascending n p (suc count) from = IsAscending-cond (holds_point n from p) from (held_from n p (from + 1) count)
    (All-held (λ c. from < c) n p count (from + 1) (λ c low high. omega arith))
    (held-ascending n p count (from + 1))

-- the list is ascending
pub holders-ascending : (n : ℕ) (p : Point) → IsAscending (holders n p)
holders-ascending n p = held-ascending n p (2 ^ (2 * n + 2) - 2) 2

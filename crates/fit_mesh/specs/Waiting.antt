-- The leaves that wait for a split, each with its error.
-- Words: pair_cmp, IsWaitingEntry, AreKept, AreLeft, IsFirst, IsWaiting, IsPending, IsWorstLeaf.
use Rattle.std.specs.Prelude.{◌≡◌, ℕ, ◌/◌, ◌<◌, ◌≤◌, ◌⊎◌, Bool, false, IsTrue, List, Contains, All}
use Rattle.std.specs.declared.cmp.Ordering.{Ordering}
use Rattle.std.specs.Ordering.{nat_cmp, ordering_then}
use Rattle.std.specs.BinaryHeap.{IsHeap}
use Rattle.mesh_defs.specs.Triangle.{IsAddress, IsSplittable}
use Rattle.mesh_defs.specs.ClosedSet.{leaves_of, among}
use Rattle.mesh_defs.specs.Priority.{worst_of}

-- by error, and then by address
abbrev pub pair_cmp : ℕ × ℕ → ℕ × ℕ → Ordering
pair_cmp x y = ordering_then (nat_cmp x.0 y.0) (nat_cmp x.1 y.1)

-- an entry: the error of a triangle that has one and whose parent is split
pub record IsWaitingEntry (n : ℕ) (error : ℕ → ℕ) (has : ℕ → Bool) (r : ℕ × ℕ) : Type 0 where
  pub address : IsAddress n r.1
  pub parent : 4 ≤ r.1 → IsTrue (has (r.1 / 2))
  pub value : r.0 ≡ error r.1
  pub some : 0 < r.0

-- each entry that was there is there
abbrev pub AreKept : List (ℕ × ℕ) → List (ℕ × ℕ) → Type 0
AreKept old new = (r : ℕ × ℕ) → Contains old r → Contains new r

-- each entry that was there and is not split is there
abbrev pub AreLeft : (ℕ → Bool) → List (ℕ × ℕ) → List (ℕ × ℕ) → Type 0
AreLeft has old new = (r : ℕ × ℕ) → Contains old r → has r.1 ≡ false → Contains new r

-- an entry that is not split and that none exceeds
pub record IsFirst (has : ℕ → Bool) (items : List (ℕ × ℕ)) (r : ℕ × ℕ) : Type 0 where
  pub entry : Contains items r
  pub leaf : has r.1 ≡ false
  pub greatest : All (λ (s : ℕ × ℕ). s.0 ≤ r.0) items

-- each leaf with an error waits
pub record IsWaiting (n : ℕ) (error : ℕ → ℕ) (has : ℕ → Bool) (items : List (ℕ × ℕ)) : Type 0 where
  pub ordered : IsHeap pair_cmp items
  pub entries : (r : ℕ × ℕ) → Contains items r → IsWaitingEntry n error has r
  pub leaves : (a : ℕ) → Contains (leaves_of n has) a → 0 < error a → Contains items (error a, a)

-- each leaf with an error waits, or is a child of one of the new members
pub record IsPending (n : ℕ) (error : ℕ → ℕ) (has : ℕ → Bool) (fresh : List ℕ) (items : List (ℕ × ℕ)) : Type 0 where
  pub ordered : IsHeap pair_cmp items
  pub entries : (r : ℕ × ℕ) → Contains items r → IsWaitingEntry n error has r
  pub leaves : (a : ℕ) → Contains (leaves_of n has) a → 0 < error a →
      Contains items (error a, a) ⊎ ((4 ≤ a) × IsTrue (among fresh (a / 2)))

-- a leaf that can be split, whose error is the greatest of a leaf
pub record IsWorstLeaf (n : ℕ) (error : ℕ → ℕ) (has : ℕ → Bool) (r : ℕ × ℕ) : Type 0 where
  pub worst : worst_of error (leaves_of n has) ≡ r.0
  pub value : r.0 ≡ error r.1
  pub leaf : Contains (leaves_of n has) r.1
  pub splittable : IsSplittable n r.1

-- A mesh as its loop sees it: the set, the stamps of its entries, what was told in this frame, and what is still to be
-- entered; and what each call of the mesh does to these.
-- Source: Duchaineau et al., "ROAMing Terrain", IEEE Visualization 1997, the parts on the two queues and on deferred
-- priority lists; the list of fresh entries is this project's own.
-- Words: PoolSet, SeenMesh, upper_of, lower_of, best_key, worst_key, sure, IsHead, IsDecided, IsToAsk, IsLastHead,
-- IsRated, IsEntered, IsSame, IsNewEntry, IsRenewed, HasRoom, IsCountedBy, IsSplitOf, IsMergeOf, IsQuiet, IsBegun,
-- IsForgotten.
use Rattle.std.specs.Prelude.{◌≡◌, ◌≢◌, ℕ, ◌+◌, ◌-◌, ◌*◌, ◌^◌, ◌≤◌, ◌⊎◌, Bool, true, false, cond, nat_eq, ◌||◌, IsTrue}
use Rattle.std.specs.Prelude.{List, [], ◌∷◌, length, Contains, Option, None, Some, MatchOption}
use Rattle.std.specs.List.{IsDistinct}
use Rattle.mesh_defs.specs.Triangle.{IsMate}
use Rattle.mesh_defs.specs.ClosedSet.{leaves_of, among}
use Rattle.mesh_defs.specs.Ranking.{IsBefore}
use Rattle.mesh_defs.specs.Greedy.{with_triangle}
use Rattle.mesh_defs.specs.GridSet.{IsForced}
use Rattle.mesh_laws.specs.Order.{IsNoLater}
use Rattle.mesh_laws.specs.Diamond.{IsInDiamond, CanMerge, IsWithoutDiamond}
use Rattle.bintree_addr.specs.declared.rank.Rank.{Rank}
use Rattle.mesh_laws.specs.Deferred.{IsEntry}
use Rattle.mesh_laws.specs.Stamps.{Stamp, is_due}
use Rattle.deferred_loop.specs.declared.queued.Head.{Head}
use Rattle.deferred_loop.specs.declared.queued.Last.{Last}
use Rattle.deferred_loop.specs.declared.gauge.Reading.{Reading}

-- the set that a pool holds, the most leaves that it has room for, and how many triangles it split and merged so far
pub record PoolSet : Type 0 where
  pub n : ℕ
  pub members : List ℕ
  pub most : ℕ
  pub splits : ℕ
  pub merges : ℕ

-- the set; which priorities were told in this frame, and what they are; the stamps; and the entries that are still to
-- be entered, the next one first
pub record SeenMesh : Type 0 where
  pub set : PoolSet
  pub known : ℕ → Bool
  pub exact : ℕ → ℕ
  pub stamps : ℕ → Option Stamp
  pub fresh : List ℕ

-- the upper bound that a stamp keeps, and 0 without one
abbrev pub upper_of : Option Stamp → ℕ
upper_of None = 0
upper_of (Some stamp) = stamp.upper

-- the lower bound that a stamp keeps, and 0 without one
abbrev pub lower_of : Option Stamp → ℕ
lower_of None = 0
lower_of (Some stamp) = stamp.lower

-- what the split queue holds of a leaf: its priority where it is known, and else its upper bound
unfoldable pub best_key : SeenMesh → ℕ → ℕ
best_key s a = cond (s.known a) (s.exact a) (upper_of (s.stamps a))

-- what the merge queue holds of a triangle that can be merged: its priority where it is known, and else its lower bound
unfoldable pub worst_key : SeenMesh → ℕ → ℕ
worst_key s a = cond (s.known a) (s.exact a) (lower_of (s.stamps a))

-- the priority of an entry is known: it was told, or its bounds are equal
unfoldable pub sure : SeenMesh → ℕ → Bool
sure s a = s.known a || nat_eq (upper_of (s.stamps a)) (lower_of (s.stamps a))

-- the head of the split queue: a leaf that no other comes before by its key
pub record IsHead (s : SeenMesh) (h : Head) : Type 0 where
  pub leaf : Contains (leaves_of s.set.n (among s.set.members)) h.rank.tri
  pub value : h.rank.p ≡ best_key s h.rank.tri
  pub marked : h.sure ≡ sure s h.rank.tri
  pub first : (l : ℕ) → Contains (leaves_of s.set.n (among s.set.members)) l →
      IsNoLater (best_key s h.rank.tri) h.rank.tri (best_key s l) l

-- c is known to be the better triangle of its diamond: it is sure, and no later than its mate by the best that this can
-- be
pub record IsDecided (s : SeenMesh) (c : ℕ) : Type 0 where
  pub own : sure s c ≡ true
  pub mate : (b : ℕ) → IsMate s.set.n c b → IsNoLater (worst_key s c) c (best_key s b) b

-- t is the triangle to ask next of the diamond of c, the better one by its key: that is not decided yet, and t is not
-- sure. It is c itself, unless c is sure, or its mate comes first by the best that each can be.
pub record IsToAsk (s : SeenMesh) (c t : ℕ) : Type 0 where
  pub in_diamond : IsInDiamond s.set.n c t
  pub not_sure : sure s t ≡ false
  pub undecided : IsDecided s c → ⊥
  pub turn : t ≢ c → (sure s c ≡ true) ⊎ IsBefore (best_key s t) t (best_key s c) c

-- The head of the merge queue: the better by its key of the triangles of a diamond. Each diamond that can be merged has
-- a triangle that comes no later. Where the head is not decided it names the triangle of its diamond that is to be
-- asked next.
pub record IsLastHead (s : SeenMesh) (h : Last) : Type 0 where
  pub mergeable : CanMerge s.set.n (among s.set.members) h.rank.tri
  pub value : h.rank.p ≡ worst_key s h.rank.tri
  pub better : (b : ℕ) → IsInDiamond s.set.n h.rank.tri b →
      IsNoLater (worst_key s h.rank.tri) h.rank.tri (worst_key s b) b
  pub last : (a : ℕ) → CanMerge s.set.n (among s.set.members) a →
      (e : ℕ) × IsInDiamond s.set.n a e × IsNoLater (worst_key s e) e (worst_key s h.rank.tri) h.rank.tri
  pub unasked : MatchOption h.unasked
      (IsDecided s h.rank.tri)
      (λ t. IsToAsk s h.rank.tri t.tri)

-- a told rank is known from now on, and all else stays
pub record IsRated (before after : SeenMesh) (r : Rank) : Type 0 where
  pub set : after.set ≡ before.set
  pub fresh : after.fresh ≡ before.fresh
  pub known : (a : ℕ) → after.known a ≡ with_triangle before.known r.tri a
  pub exact : (a : ℕ) → after.exact a ≡ cond (nat_eq r.tri a) r.p (before.exact a)
  pub stamp : (a : ℕ) → after.stamps a ≡ before.stamps a

-- the next fresh entry has the stamp of a reading, and all else stays
pub record IsEntered (before after : SeenMesh) (t : ℕ) (reading : Reading) (odometer : ℕ) : Type 0 where
  pub set : after.set ≡ before.set
  pub fresh : before.fresh ≡ t ∷ after.fresh
  pub known : (a : ℕ) → after.known a ≡ before.known a
  pub exact : (a : ℕ) → after.exact a ≡ before.exact a
  pub stamp : (a : ℕ) → after.stamps a ≡ cond (nat_eq t a)
      (Some (record {
        odometer = odometer;
        slack = reading.slack;
        upper = reading.hi.p;
        lower = reading.lo.p;
        expired = false;
      }))
      (before.stamps a)

-- an entry is as it was
pub record IsSame (before after : SeenMesh) (a : ℕ) : Type 0 where
  pub known : after.known a ≡ before.known a
  pub exact : after.exact a ≡ before.exact a
  pub stamp : after.stamps a ≡ before.stamps a

-- a is an entry and was none
abbrev pub IsNewEntry : ℕ → (ℕ → Bool) → (ℕ → Bool) → ℕ → Type 0
IsNewEntry n before after a = IsEntry n after a × (IsEntry n before a → ⊥)

-- The fresh entries are new ones, each once and not known. All others were entries and are as they were, also a leaf
-- that can be merged now, and a triangle of a merged diamond that is a leaf now.
pub record IsRenewed (before after : SeenMesh) : Type 0 where
  pub distinct : IsDistinct nat_eq after.fresh
  pub each : (a : ℕ) → IsTrue (among after.fresh a) →
      IsNewEntry after.set.n (among before.set.members) (among after.set.members) a
  pub unknown : (a : ℕ) → IsTrue (among after.fresh a) → after.known a ≡ false
  pub kept : (a : ℕ) → IsEntry after.set.n (among after.set.members) a → among after.fresh a ≡ false →
      IsEntry after.set.n (among before.set.members) a × IsSame before after a

-- a pool with room for so many leaves holds every set within the budget
abbrev pub HasRoom : ℕ → ℕ → ℕ → Type 0
HasRoom n most budget = (budget ≤ most) ⊎ (most ≡ 2 * 4 ^ n)

-- the pool's counters rose by these numbers
pub record IsCountedBy (start now : PoolSet) (splits merges : ℕ) : Type 0 where
  pub most : now.most ≡ start.most
  pub splits_rose : now.splits ≡ start.splits + splits
  pub merges_rose : now.merges ≡ start.merges + merges

-- t is split with what it forces
pub record IsSplitOf (before after : SeenMesh) (t : ℕ) : Type 0 where
  pub n : after.set.n ≡ before.set.n
  pub most : after.set.most ≡ before.set.most
  pub forced : IsForced before.set.n before.set.members t after.set.members
  pub splits : after.set.splits ≡ before.set.splits + (length after.set.members - length before.set.members)
  pub merges : after.set.merges ≡ before.set.merges
  pub renewed : IsRenewed before after

-- the diamond of t is merged
pub record IsMergeOf (before after : SeenMesh) (t : ℕ) : Type 0 where
  pub n : after.set.n ≡ before.set.n
  pub most : after.set.most ≡ before.set.most
  pub merged : IsWithoutDiamond before.set.n before.set.members t after.set.members
  pub splits : after.set.splits ≡ before.set.splits
  pub merges : after.set.merges ≡ before.set.merges + (length before.set.members - length after.set.members)
  pub renewed : IsRenewed before after

-- nothing is known, and nothing is to be entered: so it is between frames
pub record IsQuiet (s : SeenMesh) : Type 0 where
  pub known : (a : ℕ) → s.known a ≡ false
  pub fresh : s.fresh ≡ []

-- the entries that are due are fresh, each once
pub record IsBegun (before after : SeenMesh) (odometer : ℕ) : Type 0 where
  pub set : after.set ≡ before.set
  pub known : (a : ℕ) → after.known a ≡ false
  pub stamp : (a : ℕ) → after.stamps a ≡ before.stamps a
  pub distinct : IsDistinct nat_eq after.fresh
  pub each : (a : ℕ) → IsTrue (among after.fresh a) →
      IsEntry after.set.n (among after.set.members) a × (is_due odometer (before.stamps a) ≡ true)
  pub rest : (a : ℕ) → IsEntry after.set.n (among after.set.members) a → among after.fresh a ≡ false →
      is_due odometer (before.stamps a) ≡ false

-- what was told is forgotten, and all else stays
pub record IsForgotten (before after : SeenMesh) : Type 0 where
  pub set : after.set ≡ before.set
  pub stamp : (a : ℕ) → after.stamps a ≡ before.stamps a
  pub quiet : IsQuiet after

-- The log of a mesh, and what steps put into it.
-- All of it is this project's own.
-- Words: with_one, noted, noted_all, second_parent, parents_of, diamond_of, IsBornOfSplit.
use Rattle.std.specs.Prelude.{◌≡◌, ℕ, ◌+◌, ◌/◌, ◌≤◌, ◌⊎◌, true, cond, nat_lt, List, [], ◌∷◌, ◌++◌, length, Option, None}
use Rattle.std.specs.Prelude.{Some}
use Rattle.std.specs.List.{AllByRecursion}
use Rattle.mesh_defs.specs.ClosedSet.{among}
use Rattle.mesh_laws.specs.Edge.{mate_of}
use Rattle.mesh_laws.specs.Slots.{address_at, split_set}
use Rattle.bintree_addr.specs.declared.slot.Slot.{Slot}
use Rattle.triangle_pool.specs.Slots.{PoolState}
use Rattle.triangle_pool.specs.declared.pool.Born.{Born}
use Rattle.deferred_loop.specs.Log.{Log}
use Rattle.roam_mesh.specs.Splitting.{born_slots}

-- a list with one more, lost where it has no room
abbrev pub with_one : Option (List ℕ) → ℕ → ℕ → Option (List ℕ)
with_one None room a = None
with_one (Some list) room a = cond (nat_lt (length list) room) (Some (list ++ (a ∷ []))) None

-- one triangle more
abbrev pub noted : Log → ℕ → Log
noted log a = record log { changed = with_one log.changed log.room a }

abbrev pub noted_all : Log → List ℕ → Log
noted_all log [] = log
noted_all log (a ∷ more) = noted_all (noted log a) more

-- the triangle whose children a second pair of slots has, where there is one
abbrev pub second_parent : List ℕ → Option (Slot × Slot) → List ℕ
second_parent pairs None = []
second_parent pairs (Some pair) = (address_at pairs pair.0.0 / 2) ∷ []

-- the triangles whose children splits gave out
abbrev pub parents_of : List ℕ → List Born → List ℕ
parents_of pairs [] = []
parents_of pairs (born ∷ others) =
    (address_at pairs born.first.0.0 / 2) ∷ (second_parent pairs born.second ++ parents_of pairs others)

-- the triangles of the diamond of a
abbrev pub diamond_of : ℕ → List ℕ
diamond_of a = cond (nat_lt 0 (mate_of a)) (mate_of a ∷ []) [] ++ (a ∷ [])

-- what splits gave out tells which triangles they split
pub record IsBornOfSplit (before after : PoolState) (answers : List Born) : Type 0 where
  pub low : AllByRecursion (λ r. 4 ≤ address_at after.pairs r) (born_slots answers)
  pub kept : (a : ℕ) → split_set before.pairs a ≡ true → split_set after.pairs a ≡ true
  pub new : (a : ℕ) → split_set after.pairs a ≡ true →
      (split_set before.pairs a ≡ true) ⊎ (among (parents_of after.pairs answers) a ≡ true)
  pub splits : after.splits ≡ before.splits + length (parents_of after.pairs answers)
  pub merges : after.merges ≡ before.merges

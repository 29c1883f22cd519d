-- A list of leaves in the middle of a patch. This project's own.
-- Words: WalkState, IsRoomy, AreUntouched, IsReady, IsPatched, IsPathMarked, IsWalkBegun.
use Rattle.std.specs.Prelude.{◌≡◌, ℕ, ◌*◌, ◌≤◌, Bool, true, false, List, [], ◌++◌, length, take, drop, slice_index_or}
use Rattle.mesh_defs.specs.ClosedSet.{leaves_under, leaves_of}
use Rattle.mesh_laws.specs.Slots.{address_at, split_set, IsLive}
use Rattle.triangle_pool.specs.declared.pool.TheConstants.{MOST_LEAVES}
use Rattle.mesh_arrays.specs.Order.{run_length}
use Rattle.mesh_arrays.specs.ListChange.{alone}
use Rattle.mesh_arrays.specs.Below.{is_at_or_below}

-- the leaves that are written, the old ones that are still to be read, what went and what came so far, the mark of each
-- slot, and for how many leaves there is room
pub record WalkState : Type 0 where
  pub leaves : List ℕ
  pub rest : List ℕ
  pub gone : List ℕ
  pub come : List ℕ
  pub touched : List Bool
  pub most : ℕ

-- there is room for as many leaves as may come
pub record IsRoomy (leaves before gone come : List ℕ) (touched : List Bool)
    (at most leaf_room before_room gone_room come_room : ℕ) : Type 0 where
  pub small : most ≤ MOST_LEAVES
  pub few : length leaves ≤ most
  pub past : length before ≤ most
  pub within : at ≤ length before
  pub went : length gone ≤ at
  pub came : length come ≤ length leaves
  pub slots : length touched ≡ 2 * most
  pub leaf_space : most ≤ leaf_room
  pub before_space : most ≤ before_room
  pub gone_space : most ≤ gone_room
  pub come_space : most ≤ come_room

-- at and below a triangle whose slot has no mark the pool's set is the one before
abbrev pub AreUntouched : List ℕ → List Bool → (ℕ → Bool) → Type 0
AreUntouched pairs touched before =
    (r : ℕ) → IsLive pairs r → slice_index_or touched r true ≡ false →
    (b : ℕ) → is_at_or_below (address_at pairs r) b ≡ true → before b ≡ split_set pairs b

-- the old leaves that are to be read begin with those at and below t, and what follows lies behind t
pub record IsReady (pairs : List ℕ) (touched : List Bool) (levels t : ℕ) (rest : List ℕ) : Type 0 where
  pub before : ℕ → Bool
  pub more : List ℕ
  pub listed : rest ≡ leaves_under levels before t ++ more
  pub apart : run_length t more ≡ 0
  pub untouched : AreUntouched pairs touched before

-- the old leaves at and below t were read, and these ones written
pub record IsPatched (now : List ℕ) (t : ℕ) (before after : WalkState) : Type 0 where
  pub leaves : after.leaves ≡ before.leaves ++ now
  pub rest : after.rest ≡ drop (run_length t before.rest) before.rest
  pub gone : after.gone ≡ before.gone ++ alone (take (run_length t before.rest) before.rest) now
  pub come : after.come ≡ before.come ++ alone now (take (run_length t before.rest) before.rest)
  pub touched : after.touched ≡ before.touched
  pub most : after.most ≡ before.most

-- the slots of t and of all above it have marks, beside those that had one
pub record IsPathMarked (pairs : List ℕ) (t : ℕ) (before after : List Bool) : Type 0 where
  pub grows : (r : ℕ) → slice_index_or before r true ≡ true → slice_index_or after r true ≡ true
  pub above : (r : ℕ) → IsLive pairs r → is_at_or_below (address_at pairs r) t ≡ true →
      slice_index_or after r true ≡ true

-- nothing is written yet, and what is to be read are the leaves of a set that differs from the pool's at slots with
-- marks alone
pub record IsWalkBegun (n : ℕ) (pairs : List ℕ) (w : WalkState) : Type 0 where
  pub none : w.leaves ≡ []
  pub gone : w.gone ≡ []
  pub come : w.come ≡ []
  pub before : ℕ → Bool
  pub listed : w.rest ≡ leaves_of n before
  pub untouched : AreUntouched pairs w.touched before

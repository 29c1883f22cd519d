-- What a contract sees of a list of leaves. This project's own.
-- Words: ListState, list_of, IsCovered, IsLeafListOf, IsListBefore.
use Rattle.std.specs.Prelude.{◌≡◌, ◌⊎◌, ℕ, Bool, List, Contains}
use Rattle.mesh_defs.specs.ClosedSet.{leaves_of}
use Rattle.mesh_arrays.specs.Walk.{WalkState}

-- the leaves, depth first; those that the last patch left out, and those that it put in; and for how many leaves there
-- is room
pub record ListState : Type 0 where
  pub leaves : List ℕ
  pub gone : List ℕ
  pub come : List ℕ
  pub most : ℕ

-- what is seen between two patches
abbrev pub list_of : WalkState → ListState
list_of w = record { leaves = w.leaves; gone = w.gone; come = w.come; most = w.most }

-- each triangle that is in one of two sets alone stands in the list
abbrev pub IsCovered : (ℕ → Bool) → (ℕ → Bool) → List ℕ → Type 0
IsCovered before after changed = (a : ℕ) → (before a ≡ after a) ⊎ Contains changed a

-- the leaves are those of a set
pub record IsLeafListOf (n : ℕ) (leaves : List ℕ) : Type 0 where
  pub before : ℕ → Bool
  pub leaves_are : leaves ≡ leaves_of n before

-- the leaves are those of a set that differs from this one by triangles of the list alone
pub record IsListBefore (n : ℕ) (leaves : List ℕ) (after : ℕ → Bool) (changed : List ℕ) : Type 0 where
  pub before : ℕ → Bool
  pub leaves_are : leaves ≡ leaves_of n before
  pub covered : IsCovered before after changed

-- A step of a forced split: before it splits a triangle it forces what the triangle stands on.
use Rattle.std.specs.Prelude.{ℕ, ◌/◌, ◌≤◌, Bool, IsTrue}
use Rattle.mesh_defs.specs.ClosedSet.{IsClosed, IsSubset}

-- after is the least closed set with before and the parent of t, where t has one
pub record IsPrepared (n : ℕ) (before after : ℕ → Bool) (t : ℕ) : Type 0 where
  pub closed : IsClosed n after
  pub holds : IsSubset before after
  pub parent : 4 ≤ t → IsTrue (after (t / 2))
  pub least : (other : ℕ → Bool) → IsClosed n other → IsSubset before other →
      (4 ≤ t → IsTrue (other (t / 2))) → IsSubset after other

-- What the two queues hold half way through a frame over bounds: the priority where it was asked, and else a bound of
-- it.
-- Words: upper_key, lower_key, IsLastKey.
use Rattle.std.specs.Prelude.{ℕ, Bool, cond, List}
use Rattle.mesh_defs.specs.ClosedSet.{among}
use Rattle.mesh_laws.specs.Order.{IsNoLater}
use Rattle.mesh_laws.specs.Diamond.{IsInDiamond, CanMerge}
use Rattle.mesh_laws.specs.Lead.{IsLead}
use Rattle.mesh_laws.specs.Deferred.{DeferredFrame}

-- the key of a leaf in the split queue: the priority where it is known, and else the upper bound
unfoldable pub upper_key : DeferredFrame → (ℕ → Bool) → ℕ → ℕ
upper_key w known a = cond (known a) (w.priority a) (w.upper a)

-- the key of a triangle in the merge queue: the priority where it is known, and else the lower bound
unfoldable pub lower_key : DeferredFrame → (ℕ → Bool) → ℕ → ℕ
lower_key w known a = cond (known a) (w.priority a) (w.lower a)

-- c is the better by its key of the diamond of a, and each diamond that can be merged has a triangle that comes no
-- later by its key
pub record IsLastKey (w : DeferredFrame) (members : List ℕ) (known : ℕ → Bool) (a c : ℕ) : Type 0 where
  pub mergeable : CanMerge w.n (among members) a
  pub in_diamond : IsInDiamond w.n a c
  pub better : (b : ℕ) → IsInDiamond w.n a b → IsNoLater (lower_key w known c) c (lower_key w known b) b
  pub last : (d : ℕ) → IsLead w.n w.priority (among members) d →
      (e : ℕ) × IsInDiamond w.n d e × IsNoLater (lower_key w known e) e (lower_key w known c) c

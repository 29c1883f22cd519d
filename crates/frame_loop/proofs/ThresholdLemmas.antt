-- Engines with another threshold, and what a frame of worst 0 is to the ratios themselves.
use Rattle.std.proofs.Common.{◌≡◌, ℕ, ◌*◌, Bool, ◌&&◌, IsTrue, nat_le, nat_lt, sym, ap, subst}
use Rattle.mesh_defs.specs.Triangle.{level_of}
use Rattle.mesh_defs.specs.BoundingBox.{BoundingBox, box_of, distance_of}
use Rattle.mesh_defs.specs.View.{mark_of}
use Rattle.mesh_defs.specs.Thickness.{thickness_of}
use Rattle.mesh_defs.specs.Priority.{seen_ratio, priority_of}
use Rattle.mesh_defs.specs.State.{State, with_threshold, priority_in}
use Rattle.mesh_defs.specs.ClosedSet.{IsLeastClosed}
use Rattle.mesh_defs.proofs.ThresholdLemmas.{lt-above}
use Rattle.mesh_laws.specs.Least.{is_worse}

-- what has a priority above 0 is what has a ratio above the threshold
worse-above : (s : State) (a : ℕ) → is_worse s.grid.n 0 (priority_in s) a
    ≡ is_worse s.grid.n s.view.threshold (priority_in (with_threshold 0 s)) a
unfolding priority_of
worse-above s a =
    let box : BoundingBox = box_of s.grid.n s.grid.heights s.view.spacing a in
    let ratio : ℕ = seen_ratio (mark_of s.view.planes box) (thickness_of s.grid.n s.grid.heights a)
    (distance_of box s.view.camera) in
    ap (λ b. (nat_le 2 a && nat_lt (level_of a) (2 * s.grid.n)) && b) (lt-above s.view.threshold ratio)

-- so both have the same least closed sets
pub IsLeastClosed-above : (s : State) (has : ℕ → Bool) → IsLeastClosed s.grid.n (is_worse s.grid.n 0 (priority_in s)) has →
    IsLeastClosed s.grid.n (is_worse s.grid.n s.view.threshold (priority_in (with_threshold 0 s))) has
IsLeastClosed-above s has is = record {
  closed = is.closed;
  holds = λ a h. is.holds a (subst (λ b. IsTrue b) (sym (worse-above s a)) h);
  least = λ other closed holds. is.least other closed (λ a h.
      holds a (subst (λ b. IsTrue b) (worse-above s a) h));
}

-- Reasons that are listed as their triangles are split, and triangles that are known to be within a tolerance. This
-- project's own words.
-- Words: AreKnown, IsLower, IsReady, IsSame, HasLed, leaf_count, IsPass, IsWithin, IsSettled.
use Rattle.std.specs.Prelude.{◌≡◌, ℕ, ◌+◌, ◌-◌, ◌*◌, ◌^◌, ◌≤◌, Bool, false, cond, IsTrue, List, length}
use Rattle.mesh_defs.specs.ClosedSet.{IsClosed, IsSubset, leaves_of}
use Rattle.mesh_defs.specs.Priority.{worst_of}
use Rattle.mesh_laws.specs.Sweep.{is_flagged}
use Rattle.fit_laws.specs.Error.{error_of}
use Rattle.certificate_laws.specs.declared.fit_reason.Target.{Target}
use Rattle.certificate_laws.specs.declared.fit_reason.Target.TheVariants.{Error, Budget}
use Rattle.certificate_laws.specs.FitCertificate.{LeadsTo}
use Rattle.fit_certify.specs.declared.settle.Bounds.{Bounds}
use Rattle.fit_certify.specs.declared.settle.Settling.{Settling}

-- each marked triangle has an error of at most this
pub record AreKnown (n : ℕ) (heights : List ℕ) (lower : ℕ) (known : List Bool) : Type 0 where
  pub within : (a : ℕ) → IsTrue (is_flagged known a) → error_of n heights a ≤ lower

-- the least tolerance of the reasons of a certificate: its own, or for a budget that of the reasons behind the mesh
abbrev pub IsLower : Target → ℕ → ℕ → Type 0
IsLower (Error tolerance) own lower = lower ≡ own
IsLower (Budget triangles) own lower = lower ≡ own - 1

-- what a split begins with: flags of a closed set, and marks of triangles known for a tolerance that is no higher
pub record IsReady (b : Bounds) (s : Settling) : Type 0 where
  pub lower : b.lower ≤ b.tolerance
  pub flags : length s.flags.now ≡ 2 ^ (2 * b.grid.now.n + 1)
  pub closed : IsClosed b.grid.now.n (is_flagged s.flags.now)
  pub room : length s.known.now ≡ 2 ^ (2 * b.grid.now.n + 1)
  pub known : AreKnown b.grid.now.n b.grid.now.heights b.lower s.known.now

-- the same references
pub record IsSame (old new : Settling) : Type 0 where
  pub flags : new.flags.ghost_name ≡ old.flags.ghost_name
  pub known : new.known.ghost_name ≡ old.known.ghost_name
  pub reasons : new.reasons.ghost_name ≡ old.reasons.ghost_name

-- the reasons lead from this set to the one that is flagged
abbrev pub HasLed : Bounds → (ℕ → Bool) → Settling → Type 0
HasLed b has s = LeadsTo b.grid.now.n b.grid.now.heights b.tolerance has s.reasons.now.items (is_flagged s.flags.now)

abbrev pub leaf_count : Bounds → Settling → ℕ
leaf_count b s = length (leaves_of b.grid.now.n (is_flagged s.flags.now))

-- a pass over some triangles: the flags go on as the reasons do, and whether it split a leaf
pub record IsPass (b : Bounds) (old new : Settling) (again : Bool) : Type 0 where
  pub kept : IsSubset (is_flagged old.flags.now) (is_flagged new.flags.now)
  pub leads : (has : ℕ → Bool) → HasLed b has old → HasLed b has new
  pub more : leaf_count b old + cond again 1 0 ≤ leaf_count b new
  pub same : again ≡ false → new.flags.now ≡ old.flags.now

-- the triangle is off by no more than the tolerance
abbrev pub IsWithin : Bounds → ℕ → Type 0
IsWithin b a = error_of b.grid.now.n b.grid.now.heights a ≤ b.tolerance

-- and so is each leaf
abbrev pub IsSettled : Bounds → Settling → Type 0
IsSettled b s =
    worst_of (error_of b.grid.now.n b.grid.now.heights) (leaves_of b.grid.now.n (is_flagged s.flags.now)) ≤ b.tolerance

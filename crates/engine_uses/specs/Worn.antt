-- When an engine makes no further frame from another place.
-- This project's own.
-- Words: IsWorn.
use Rattle.std.specs.Prelude.{ℕ, ◌+◌, ◌<◌, ◌≤◌, ◌^◌, ◌⊎◌}
use Rattle.mesh_defs.specs.declared.counters.TheConstants.{LONGEST_WAY}
use Rattle.frame_loop.specs.declared.limits.TheConstants.{MOST_FRAMES}
use Rattle.frame_loop.specs.Engine.{EngineState, IsRenewable}

-- a move of 2^33 more would be too far for its camera, or it has made all its frames and cannot be renewed
abbrev pub IsWorn : EngineState → Type 0
IsWorn e = (LONGEST_WAY < e.odometer + 2 ^ 33) ⊎ ((MOST_FRAMES ≤ e.frames) × (IsRenewable e → ⊥))

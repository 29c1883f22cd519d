-- Whether the diamond above a slot can be merged.
-- All of it is this project's own.
-- Words: is_ready_above.
use Rattle.std.specs.Prelude.{ℕ, ◌/◌, ◌&&◌, Bool, nat_le, List}
use Rattle.mesh_laws.specs.Slots.{address_at}
use Rattle.roam_mesh.specs.Parts.{is_ready}

-- the parent of the slot's triangle has a diamond that can be merged
abbrev pub is_ready_above : List ℕ → ℕ → Bool
is_ready_above pairs s = nat_le 4 (address_at pairs s) && is_ready pairs (address_at pairs s / 2)

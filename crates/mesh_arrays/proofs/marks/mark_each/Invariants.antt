use Rattle.std.proofs.Common.{◌≡◌, ℕ, true, get_or, take, Contains}
use Rattle.mesh_laws.specs.Slots.{address_at, IsLive}
use Rattle.mesh_arrays.specs.Below.{is_at_or_below}
use Rattle.mesh_arrays.proofs.marks.mark_each.Given as goal

-- the slots of the triangles so far and of all above them have marks
abbrev pub invariant-loop-t : goal.invariant-loop-t
invariant-loop-t l = record {
  rest : l.walk ≡ record l.initial.walk { touched = l.walk.touched };
  above : (b r : ℕ) → Contains (take l.t-index l.changed) b → IsLive l.pool.pairs r →
      is_at_or_below (address_at l.pool.pairs r) b ≡ true → get_or l.walk.touched r true ≡ true;
}

-- What a handle owns, in memory.
-- All of it is this project's own.
-- Words: token, held, is_mark, held_if.
use Rattle.std.specs.Prelude.{ℕ, nat_eq, Bool, true, false, Option, Some, None}
use mir.Syntax.{Ty}
use base.Fml.{Fml, ftrue, ffalse}
use denote.RawPtr.{Ptr}
use Rattle.std.specs.contracts.impls.GlobalAllocator.TheImpl.{ghosts}
use Rattle.std.specs.Box.Ownership.{box_owns}
use Rattle.roam_c.specs.declared.kept.Kept.{Kept}
use Rattle.roam_c.specs.contracts.kept.Kept as kept
use Rattle.roam_c.specs.declared.mark.TheConstants.{MARK}

-- the right to free a block of `Global`
abbrev pub token : Ty → Ptr → Fml
token = ghosts.dealloc_token (record { memory = record { seal = tt } })

-- the value on the heap, and the right to free it
abbrev pub held : Ptr → Kept → Fml
held at value = box_owns token kept.the_row at value

-- the number at the head of a handle is that of a full one
abbrev pub is_mark : ℕ → Bool
is_mark mark = nat_eq mark MARK

-- the same where the handle is full, and nothing where it is empty
abbrev pub held_if : Bool → Ptr → Option Kept → Fml
held_if true at (Some x) = held at x
held_if true at None = ffalse
held_if false at (Some x) = ffalse
held_if false at None = ftrue

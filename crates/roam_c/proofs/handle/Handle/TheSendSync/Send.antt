-- A handle may move to another thread: what it owns names no thread.
use mathlib.Core.Bool.{Bool, true, false}
use mir.Raw.{raw}
use base.Shift.{Keyless}
use denote.Memory.{lone}
use denote.RawPtr.{Ptr}
use denote.Struct.Struct.{exits_of}
use denote.Struct.Owning.{shape, fields, to}
use denote.Param.Send.{IsSend, AllSend, owning_send, struct_send, sendable}
use Rattle.std.proofs.Crossing as heap
use Rattle.std.specs.declared.option.Option.{Option}
use Rattle.std.specs.declared.option.Option.TheVariants.{None, Some}
use Rattle.std_alloc.proofs.SendSync.{quiet, lies}
use Rattle.roam_c.specs.contracts.kept.Kept as kept
use Rattle.roam_c.proofs.kept.Kept.TheSendSync.{the_send as kept_send}
use Rattle.roam_c.specs.declared.kept.Kept.{Kept}
use Rattle.roam_c.specs.Held.{is_mark, held_if}
use Rattle.roam_c.specs.contracts.handle.Handle.{the_row, the_type}

held_if-keyless : (full : Bool) (at : Ptr) (value : Option Kept) → Keyless (held_if full at value)
held_if-keyless true at (Some x) = (
  lies kept.the_row kept_send at x,
  heap.frees.frees (record { memory = record { seal = tt } }) (raw (lone (kept.the_row).mir)) at,
)
held_if-keyless true at None = tt
held_if-keyless false at (Some x) = tt
held_if-keyless false at None = tt

pub send : IsSend the_row
send =
    let all : AllSend (fields the_type) = (search sendable, (search sendable, tt)) in
    owning_send the_type all (λ d. held_if-keyless (is_mark d.mark) d.at d.value)
    (λ k. quiet (to the_type) (exits_of k (fields the_type)) ((struct_send (shape the_type) all).leaving k))

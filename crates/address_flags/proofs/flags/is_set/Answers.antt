-- Within the table the flag is read, and past it there is none.
use Rattle.mesh_laws.proofs.FlagLemmas.{flagged-read, flagged-none}
use Rattle.address_flags.proofs.flags.is_set.Goals as goal

pub returns-then-place-flags : goal.returns-then-place-flags
returns-then-place-flags c =
    record { value = flagged-read c.args.flags.now c.number-place.result c.args.t c.number-place.ensures.value }

pub returns-else-place-flags : goal.returns-else-place-flags
returns-else-place-flags c = record {
  value =
      flagged-none c.args.flags.now c.number-place.result c.args.t c.number-place.ensures.value c.if-place-flags.false;
}

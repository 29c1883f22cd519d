-- A write of a flag adds its address to the set.
use Rattle.mesh_laws.proofs.FlagLemmas.{flagged-write}
use Rattle.address_flags.proofs.flags.flag.Goals as goal

pub returns-clause-added : goal.returns-clause-added
returns-clause-added c a = flagged-write c.args.flags.now _ c.args.t a c.number.ensures.value c.requires.room

use Rattle.obj_write.proofs.FieldLemmas.{placed-byte}
use Rattle.obj_write.proofs.field.place_byte.Goals as goal

pub returns : goal.returns
returns c = placed-byte c.args.text.now c.args.at c.args.byte c.requires

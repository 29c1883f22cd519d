use Rattle.std.proofs.Common.{arith}
use Rattle.obj_write.proofs.FieldLemmas.{placed-field}
use Rattle.obj_write.proofs.field.place_field.Goals as goal

pub returns-clause-placed : goal.returns-clause-placed
returns-clause-placed c =
    placed-field c.args.text.now c.args.field.now.bytes c.args.at c.args.field.now.len
    (omega arith) c.requires.room (omega arith)

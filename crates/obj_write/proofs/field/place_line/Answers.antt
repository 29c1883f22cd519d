use Rattle.obj_write.proofs.FieldLemmas.{placed-then}
use Rattle.obj_write.proofs.field.place_line.Goals as goal

pub returns-clause-placed : goal.returns-clause-placed
returns-clause-placed c =
    placed-then c.place_byte-at.ensures
    (placed-then c.place_field-at.ensures.placed (placed-then c.place_field-at-2.ensures.placed
    (placed-then c.place_field-at-3.ensures.placed c.place_byte.ensures)))

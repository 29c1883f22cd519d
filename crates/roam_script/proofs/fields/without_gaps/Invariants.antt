use Rattle.std.proofs.Common.{◌≡◌, drop}
use Rattle.text_laws.specs.Fields.{fields_of}
use Rattle.roam_script.proofs.fields.without_gaps.Given as goal

abbrev pub invariant-loop-i : goal.invariant-loop-i
invariant-loop-i l = fields_of (drop l.i l.bytes) ≡ fields_of l.bytes

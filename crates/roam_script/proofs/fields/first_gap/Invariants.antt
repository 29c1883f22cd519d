use Rattle.std.proofs.Common.{◌≡◌, false, take}
use Rattle.std.specs.List.{All}
use Rattle.text_laws.specs.Fields.{is_gap}
use Rattle.roam_script.proofs.fields.first_gap.Given as goal

abbrev pub invariant-loop-i : goal.invariant-loop-i
invariant-loop-i l = All (λ b. is_gap b ≡ false) (take l.i l.bytes)

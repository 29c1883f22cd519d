use Rattle.std.proofs.Common.{Ok, Err}
use Rattle.roam_script.specs.declared.line.Line.TheVariants.{Blank}
use Rattle.roam_script.specs.declared.script_fault.ScriptFault.TheVariants.{LineTooLong, UnknownCommand, WrongFields}
use Rattle.roam_script.specs.declared.script_fault.ScriptFault.TheVariants.{BadNumber, OutOfRange, TooManyLines}
use Rattle.roam_script.specs.declared.script_fault.ScriptFault.TheVariants.{TooManyFrames, TooManyPlanes}
use Rattle.roam_script.proofs.LineLemmas.{cause, because, in-accepted, settled, accepted-cause, in-range, command-word}
use Rattle.roam_script.proofs.laws.line_laws.Goals as goal

pub returns-clause-too_many_lines : goal.returns-clause-too_many_lines
returns-clause-too_many_lines c =
    λ limits bytes. (cause limits bytes (Err TooManyLines), because limits bytes (Err TooManyLines))

pub returns-clause-line_too_long : goal.returns-clause-line_too_long
returns-clause-line_too_long c =
    λ limits bytes. (cause limits bytes (Err LineTooLong), because limits bytes (Err LineTooLong))

pub returns-clause-settled : goal.returns-clause-settled
returns-clause-settled c = λ limits bytes more long. settled limits bytes more long

pub returns-clause-blank : goal.returns-clause-blank
returns-clause-blank c = λ limits bytes. (cause limits bytes (Ok Blank), because limits bytes (Ok Blank))

pub returns-clause-unknown_command : goal.returns-clause-unknown_command
returns-clause-unknown_command c =
    λ limits bytes. (cause limits bytes (Err UnknownCommand), because limits bytes (Err UnknownCommand))

pub returns-clause-wrong_fields : goal.returns-clause-wrong_fields
returns-clause-wrong_fields c =
    λ limits bytes. (cause limits bytes (Err WrongFields), because limits bytes (Err WrongFields))

pub returns-clause-bad_number : goal.returns-clause-bad_number
returns-clause-bad_number c =
    λ limits bytes number. (cause limits bytes (Err (BadNumber number)), because limits bytes (Err (BadNumber number)))

pub returns-clause-out_of_range : goal.returns-clause-out_of_range
returns-clause-out_of_range c = λ limits bytes number.
    (cause limits bytes (Err (OutOfRange number)), because limits bytes (Err (OutOfRange number)))

pub returns-clause-too_many_planes : goal.returns-clause-too_many_planes
returns-clause-too_many_planes c =
    λ limits bytes. (cause limits bytes (Err TooManyPlanes), because limits bytes (Err TooManyPlanes))

pub returns-clause-too_many_frames : goal.returns-clause-too_many_frames
returns-clause-too_many_frames c =
    λ limits bytes. (cause limits bytes (Err TooManyFrames), because limits bytes (Err TooManyFrames))

pub returns-clause-accepted : goal.returns-clause-accepted
returns-clause-accepted c =
    λ limits bytes line told. (
      (λ e. accepted-cause limits bytes line told (cause limits bytes (Ok line) e)),
      (λ w. in-accepted limits bytes line w),
    )

pub returns-clause-ranges : goal.returns-clause-ranges
returns-clause-ranges c = λ limits bytes line e. in-range limits bytes line (cause limits bytes (Ok line) e)

pub returns-clause-commands : goal.returns-clause-commands
returns-clause-commands c = command-word

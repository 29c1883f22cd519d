use Rattle.std.proofs.Common.{◌++◌, ◌∙◌, ap, sym, codes, decimal, ℕ}
use Rattle.roam_script.specs.declared.script_fault.ScriptFault.{ScriptFault}
use Rattle.run_laws.specs.ReportText.{script_fault_text}
use Rattle.run_files.proofs.report.push_script_fault.Goals as goal

pub returns-in-OutOfRange-clause-items : goal.returns-in-OutOfRange-clause-items
returns-in-OutOfRange-clause-items c =
    c.push_placed-in-OutOfRange.ensures.items
    ∙ (ap (λ (k : ℕ). c.args.text.now.items ++ (codes "out of range in field " ++ decimal k))
    c.from-in-OutOfRange.ensures
    ∙ ap (λ (f : ScriptFault). c.args.text.now.items ++ script_fault_text f) (sym c.in-OutOfRange.is))

pub returns-in-TooManyLines-clause-items : goal.returns-in-TooManyLines-clause-items
returns-in-TooManyLines-clause-items c =
    c.push_bytes-in-TooManyLines.ensures.items
    ∙ ap (λ (f : ScriptFault). c.args.text.now.items ++ script_fault_text f) (sym c.in-TooManyLines.is)

pub returns-in-TooManyFrames-clause-items : goal.returns-in-TooManyFrames-clause-items
returns-in-TooManyFrames-clause-items c =
    c.push_bytes-in-TooManyFrames.ensures.items
    ∙ ap (λ (f : ScriptFault). c.args.text.now.items ++ script_fault_text f) (sym c.in-TooManyFrames.is)

pub returns-in-TooManyPlanes-clause-items : goal.returns-in-TooManyPlanes-clause-items
returns-in-TooManyPlanes-clause-items c =
    c.push_bytes-in-TooManyPlanes.ensures.items
    ∙ ap (λ (f : ScriptFault). c.args.text.now.items ++ script_fault_text f) (sym c.in-TooManyPlanes.is)

use Rattle.std.proofs.Common.{sym, ap, ◌∙◌}
use Rattle.text_laws.specs.Fields.{fields_of}
use Rattle.roam_script.specs.LineText.{line_of}
use Rattle.roam_script.proofs.command.Command.line.Goals as goal

pub returns-in-Camera : goal.returns-in-Camera
returns-in-Camera c =
    c.camera.ensures c.args.limits.now
    ∙ ap (λ w. line_of c.args.limits.now w (fields_of c.args.fields.now.rest.now)) (sym c.in-Camera.is)

pub returns-in-Plane : goal.returns-in-Plane
returns-in-Plane c =
    c.plane.ensures c.args.limits.now
    ∙ ap (λ w. line_of c.args.limits.now w (fields_of c.args.fields.now.rest.now)) (sym c.in-Plane.is)

use Rattle.std.proofs.lemmas.Bool.{both_ways}
use Rattle.view_mesh.proofs.SightLemmas.{stamps-hold, readings-hold, bracketed-frame, bracketed-moved, bracketed-edited}
use Rattle.view_mesh.proofs.laws.sight_laws.Goals as goal

pub returns-clause-readings : goal.returns-clause-readings
returns-clause-readings c = readings-hold c.view_laws.ensures.no_move

pub returns-clause-stamps : goal.returns-clause-stamps
returns-clause-stamps c = stamps-hold c.view_laws.ensures.no_move

pub returns-clause-expired : goal.returns-clause-expired
returns-clause-expired c s odometer mesh all a stamp there alive =
    absurd (both_ways stamp.expired alive (all a stamp there))

pub returns-clause-frame : goal.returns-clause-frame
returns-clause-frame c = bracketed-frame

pub returns-clause-camera : goal.returns-clause-camera
returns-clause-camera c = bracketed-moved c.view_laws.ensures.two_moves

pub returns-clause-edited : goal.returns-clause-edited
returns-clause-edited c = bracketed-edited

-- A line of a script that makes no frame shows nothing.
use Rattle.std.proofs.Common.{◌≡◌, ◌≢◌, [], refl}
use Rattle.mesh_defs.specs.State.{State}
use Rattle.roam_script.specs.declared.line.Line.{Line}
use Rattle.roam_script.specs.declared.line.Line.TheVariants.{Blank, Camera, Set, Plane, NoPlanes, Budget, Raise, Frame}
use Rattle.run_laws.specs.Walk.{shown_by}

-- a line that is no frame line shows nothing
pub shown_by-none : (line : Line) (state : State) → line ≢ Frame → shown_by line state ≡ []
shown_by-none Blank state other = refl
shown_by-none (Camera x y z) state other = refl
shown_by-none (Set x y h) state other = refl
shown_by-none Frame state other = absurd (other refl)
shown_by-none (Plane a b c d) state other = refl
shown_by-none NoPlanes state other = refl
shown_by-none (Budget n) state other = refl
shown_by-none (Raise a b c d e) state other = refl

-- The least meshes of a tolerance, as what makes the frames of a script. This project's own.
-- Words: state_seen, LeastFollows, IsUnderLeast, IsLeastReady, IsLeastNoted, least_numbers, least_acts.
use Rattle.std.specs.Prelude.{◌≡◌, ℕ, ◌≤◌, List, [], ◌∷◌, ◌++◌, length, codes, decimal}
use Rattle.mesh_defs.specs.MeshText.{vertices_of}
use Rattle.mesh_defs.specs.State.{State, text_in}
use Rattle.least_mesh.specs.declared.least.LeastNote.{LeastNote}
use Rattle.roam_script.specs.declared.limits.Limits.{Limits}
use Rattle.roam_script.specs.declared.limits.TheConstants.{MOST_FRAMES}
use Rattle.run_laws.specs.Act.{Act, WholeMesh, ReportText}
use Rattle.run_laws.specs.Walk.{Walk}
use Rattle.run_words.specs.Words.{Show, as_least}
use Rattle.run_laws.specs.Picture.{Picture}
use Rattle.run_meshes.specs.declared.least_frames.LeastFrames.{LeastFrames}
use Rattle.run_words.specs.ShowView.{IsPrefixLength}

-- what is seen, and the budget in force
abbrev pub state_seen : LeastFrames → State
state_seen f = record { grid = f.outlook.grid; view = f.outlook.view; budget = f.budget }

-- the least meshes of this tolerance are shown, and a walk was followed
pub record LeastFollows (f : LeastFrames) (show : Show) (walk : Walk) (pictures : List Picture) : Type 0 where
  pub same_show : as_least f.prefix.now f.tolerance ≡ show
  pub at_state : state_seen f ≡ walk.state
  pub greatest : f.most ≡ walk.most
  pub made : f.frames ≡ length walk.frames

-- the limits are of this grid, these planes and so many frames
pub record IsUnderLeast (f : LeastFrames) (limits : Limits) : Type 0 where
  pub level : limits.n ≡ f.outlook.grid.n
  pub heights : limits.maxval ≡ f.outlook.grid.maxval
  pub in_force : limits.planes ≡ length f.outlook.view.planes
  pub made : limits.frames ≡ f.frames

-- a prefix of an accepted length, room for meshes of the grid, and no more frames than may be
pub record IsLeastReady (f : LeastFrames) : Type 0 where
  pub shown : IsPrefixLength f.prefix.now
  pub level : f.least.n ≡ f.outlook.grid.n
  pub few_frames : f.frames ≤ MOST_FRAMES

-- the counts of the note are those of the mesh
pub record IsLeastNoted (f : LeastFrames) (note : LeastNote) : Type 0 where
  pub triangle_count : note.triangles ≡ length f.least.leaves
  pub vertex_count : note.vertices ≡ length (vertices_of f.outlook.grid.n f.least.leaves)

-- the line of the least mesh of this number: how many triangles and vertices, and the worst
abbrev pub least_numbers : (number triangles vertices worst : ℕ) → List ℕ
least_numbers number triangles vertices worst =
    codes "frame " ++ decimal number ++ codes " least " ++ decimal triangles
    ++ codes " vertices " ++ decimal vertices ++ codes " worst " ++ decimal worst ++ codes "\n"

-- the acts of the frame that was made last: its mesh, and then its line
abbrev pub least_acts : LeastFrames → LeastNote → List Act
least_acts f note =
    WholeMesh f.prefix.now f.frames (text_in (state_seen f) f.least.leaves)
    ∷ (ReportText (least_numbers f.frames note.triangles note.vertices note.worst) ∷ [])

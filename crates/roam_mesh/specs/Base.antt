-- The parts of a mesh at the start, before any triangle is in its place.
-- All of it is this project's own.
-- Words: AreEmpty.
use Rattle.std.specs.Prelude.{◌≡◌, ℕ, ◌-◌, ◌*◌, [], None, replicate}
use Rattle.roam_mesh.specs.Parts.{PartsState, blank}

-- nothing is kept of any slot, no heap has a key, and nothing is listed
pub record AreEmpty (leaves : ℕ) (parts : PartsState) : Type 0 where
  pub entries : parts.entries ≡ replicate (2 * leaves - 2) blank
  pub split : parts.split ≡ replicate (2 * leaves - 2) None
  pub merge : parts.merge ≡ replicate (2 * leaves - 2) None
  pub due : parts.due ≡ replicate (2 * leaves - 2) None
  pub asked : parts.asked ≡ []
  pub fresh : parts.fresh ≡ []

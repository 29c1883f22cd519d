-- What a call tells of the last frame's changes.
-- All of it is this project's own.
-- Words: AreChangesTold.
use Rattle.std.specs.Prelude.{◌≡◌, ◌<◌, ◌≤◌, ◌↔◌, ◌⊎◌, ℕ, List, ◌++◌, length, drop}
use Rattle.mesh_arrays.specs.declared.changes.Changes.{Changes}
use Rattle.frame_loop.specs.Engine.{EngineState}
use Rattle.roam_embed.specs.declared.answer.Answer.{Answer}
use Rattle.roam_embed.specs.declared.answer.Answer.TheVariants.{Done, NoRoom}

-- The triangles that the last frame took out and those that it put in stand in the first places of two arrays, and how
-- many they are is told.
pub record AreChangesTold (e : EngineState) (gone_before gone come_before come : List ℕ) (told_before told : Changes)
    (answer : Answer) : Type 0 where
  pub done : (answer ≡ Done)
      ↔ ((length e.changes.gone ≤ length gone_before) × (length e.changes.come ≤ length come_before))
  pub no_room : (answer ≡ NoRoom)
      ↔ ((length gone_before < length e.changes.gone) ⊎ (length come_before < length e.changes.come))
  pub gone_written : answer ≡ Done → gone ≡ e.changes.gone ++ drop (length e.changes.gone) gone_before
  pub come_written : answer ≡ Done → come ≡ e.changes.come ++ drop (length e.changes.come) come_before
  pub counted : answer ≡ Done → told ≡ record { gone = length e.changes.gone; come = length e.changes.come }
  pub gone_unwritten : (answer ≡ Done → ⊥) → gone ≡ gone_before
  pub come_unwritten : (answer ≡ Done → ⊥) → come ≡ come_before
  pub uncounted : (answer ≡ Done → ⊥) → told ≡ told_before

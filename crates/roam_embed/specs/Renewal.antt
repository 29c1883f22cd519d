-- Frames that are counted from 0 on again. This project's own.
-- Words: IsEngineRenewed.
use Rattle.std.specs.Prelude.{◌≡◌, ◌↔◌}
use Rattle.frame_loop.specs.Engine.{EngineState, IsRenewable}
use Rattle.roam_embed.specs.declared.answer.Answer.{Answer}
use Rattle.roam_embed.specs.declared.answer.Answer.TheVariants.{Done, Worn}

-- frames count from 0 on again, and all else stays
pub record IsEngineRenewed (before after : EngineState) (answer : Answer) : Type 0 where
  pub done : (answer ≡ Done) ↔ IsRenewable before
  pub worn : (answer ≡ Worn) ↔ (IsRenewable before → ⊥)
  pub renewed : answer ≡ Done → after ≡ record before { frames = 0 }
  pub kept : (answer ≡ Done → ⊥) → after ≡ before

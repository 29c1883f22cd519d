-- Planes that turn: what keeps its priority.
use Rattle.std.proofs.Common.{◌≡◌, ◌↔◌, ℕ, Bool, true, false, List, refl}
use Rattle.std.proofs.lemmas.Bool.{true≢false}
use Rattle.mesh_defs.specs.declared.mark.Mark.{Mark}
use Rattle.mesh_defs.specs.declared.mark.Mark.TheVariants.{Inside, Cut, Outside}
use Rattle.mesh_defs.specs.BoundingBox.{CameraAt}
use Rattle.mesh_defs.specs.View.{ViewPlane}
use Rattle.page_priority.specs.Loaded.{LoadedState, is_open, loaded_mark, loaded_priority, loaded_from, loaded_within}
use Rattle.view_mesh.specs.Turn.{is_turn}
use Rattle.world_loop.specs.Turn.{is_turned}

-- marks of which both are Outside, or none
both_outside : (m k : Mark) → is_turn m k ≡ false → (m ≡ Outside) ↔ (k ≡ Outside)
both_outside Inside Inside none = (λ e. e, λ e. e)
both_outside Inside Cut none = (λ e. absurd (cc), λ e. absurd (cc))
both_outside Inside Outside none = absurd (true≢false none)
both_outside Cut Inside none = (λ e. absurd (cc), λ e. absurd (cc))
both_outside Cut Cut none = (λ e. e, λ e. e)
both_outside Cut Outside none = absurd (true≢false none)
both_outside Outside Inside none = absurd (true≢false none)
both_outside Outside Cut none = absurd (true≢false none)
both_outside Outside Outside none = (λ e. e, λ e. e)

-- what is not turned keeps its priority, from every place
pub unturned-same :
    ((s : LoadedState) (planes : List ViewPlane) (to : CameraAt) (a : ℕ) →
    ((loaded_mark s s.view.planes a ≡ Outside) ↔ (loaded_mark s planes a ≡ Outside)) →
    loaded_priority (loaded_from to (loaded_within planes s)) a ≡ loaded_priority (loaded_from to s) a) →
    (s : LoadedState) (planes : List ViewPlane) (a : ℕ) → is_turned s planes a ≡ false → (to : CameraAt) →
    loaded_priority (loaded_from to (loaded_within planes s)) a ≡ loaded_priority (loaded_from to s) a
unturned-same same s planes a none to = by (is_open s a) refl
  where
    by : (b : Bool) → is_open s a ≡ b →
        loaded_priority (loaded_from to (loaded_within planes s)) a ≡ loaded_priority (loaded_from to s) a
    by true is = same s planes to a
        (both_outside (loaded_mark s s.view.planes a) (loaded_mark s planes a) (rw is at none))
    by false is = rw is refl

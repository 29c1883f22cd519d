-- Planes that turn: what keeps its priority.
use Rattle.std.proofs.Common.{◌≡◌, ℕ, false, List, refl, sym, ap, subst}
use Rattle.std.proofs.lemmas.Bool.{true≢false}
use Rattle.mesh_defs.specs.declared.mark.Mark.{Mark}
use Rattle.mesh_defs.specs.declared.mark.Mark.TheVariants.{Inside, Cut, Outside}
use Rattle.mesh_defs.specs.BoundingBox.{box_of, distance_of}
use Rattle.mesh_defs.specs.Thickness.{thickness_of}
use Rattle.mesh_defs.specs.View.{ViewPlane}
use Rattle.mesh_defs.specs.Priority.{above, seen_ratio, priority_of}
use Rattle.roam_mesh.specs.Mesh.{MeshState, OnlyEntriesStamped}
use Rattle.mesh_defs.specs.State.{SceneState}
use Rattle.frame_loop.specs.Outlook.{IsSamePriority, AreBracketed}
use Rattle.frame_loop.specs.Changes.{LeafChanges}
use Rattle.frame_loop.specs.Engine.{IsEngine, engine_of}
use Rattle.view_priority.specs.Scene.{seen_within}
use Rattle.view_mesh.specs.Turn.{is_turn}
use Rattle.frame_loop.specs.Turn.{mark_under, is_turned}
use Rattle.frame_loop.proofs.EditLemmas.{edited_engine}

-- ---- priorities

-- Outside of both or of none
seen_same : (m k : Mark) (e d : ℕ) → is_turn m k ≡ false → seen_ratio k e d ≡ seen_ratio m e d
seen_same Inside Inside e d none = refl
seen_same Inside Cut e d none = refl
seen_same Inside Outside e d none = absurd (true≢false none)
seen_same Cut Inside e d none = refl
seen_same Cut Cut e d none = refl
seen_same Cut Outside e d none = absurd (true≢false none)
seen_same Outside Inside e d none = absurd (true≢false none)
seen_same Outside Cut e d none = absurd (true≢false none)
seen_same Outside Outside e d none = refl

-- what is not turned keeps its priority, from every place
pub IsSamePriority-unturned : (o : SceneState) (planes : List ViewPlane) (a : ℕ) → is_turned o planes a ≡ false →
    IsSamePriority o (seen_within planes o) a
unfolding priority_of
IsSamePriority-unturned o planes a none to =
    ap (above o.view.threshold)
    (seen_same (mark_under o o.view.planes a) (mark_under o planes a) (thickness_of o.grid.n o.grid.heights a)
    (distance_of (box_of o.grid.n o.grid.heights o.view.spacing a) to) none)

-- ---- engines

-- other planes, where the stamps that are left bracket the priorities under these
pub planes_engine : (o other : SceneState) (planes : List ViewPlane) (budget most : ℕ) (before after : MeshState)
    (odometer frames evaluations : ℕ) (changes : LeafChanges) →
    other ≡ seen_within planes o → after.pool ≡ before.pool →
    AreBracketed (seen_within planes o) odometer after → OnlyEntriesStamped after →
    IsEngine (engine_of o budget most before odometer frames evaluations changes) →
    IsEngine (engine_of other budget most after odometer frames evaluations changes)
planes_engine o other planes budget most before after odometer frames evaluations changes same pool kept only engine =
    subst (λ (z : SceneState). IsEngine (engine_of z budget most after odometer frames evaluations changes)) (sym same)
    (edited_engine (engine_of o budget most before odometer frames evaluations changes)
    (record { grid = o.grid; view = (seen_within planes o).view; budget = budget }) after engine pool refl refl refl
    kept only)

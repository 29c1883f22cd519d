-- What the calls on a world do, from what the world does.
use Rattle.std.proofs.Common.{◌≡◌, ◌≢◌, ℕ, ◌+◌, ◌-◌, ◌<◌, ◌≤◌, ap, ◌∙◌, refl, arith, true, false, None, Some, Ok, Err, IfOk}
use Rattle.std.proofs.Common.{Result, zero, suc, ◌↔◌, IsTrue, IsNone, IfSome, subst, sym}
use Rattle.std.specs.Prelude.{option_map, All, Contains}
use Rattle.std.proofs.lemmas.Bool.{both_ways}
use Rattle.bintree_addr.specs.declared.blocked.Blocked.{Blocked}
use Rattle.mesh_defs.specs.BestMesh.{IsBestMesh}
use Rattle.mesh_laws.specs.Vertex.{is_mesh_vertex}
use Rattle.page_laws.specs.Pages.{IsLoadedPoint}
use Rattle.mesh_defs.specs.declared.counters.TheConstants.{LONGEST_WAY}
use Rattle.mesh_defs.specs.declared.point.Point.{Point}
use Rattle.mesh_defs.specs.BoundingBox.{CameraAt}
use Rattle.mesh_defs.specs.View.{start_view}
use Rattle.mesh_defs.specs.State.{move_length}
use Rattle.view_priority.specs.Camera.{IsCamera}
use Rattle.view_priority.specs.Bounds.{viewed_from}
use Rattle.mesh_laws.specs.Slots.{split_set}
use Rattle.view_mesh.specs.Expiry.{IsExpired}
use Rattle.page_wedges.specs.Page.{Page}
use Rattle.page_store.specs.Store.{Store, page_at, grid_at, pages_of}
use Rattle.world_loop.specs.Draws.{AreInReach}
use Rattle.world_loop.specs.World.{WorldState, priority_in, mesh_seen, next_pace, next_way, IsWorn, IsFrameDone}
use Rattle.world_loop.specs.declared.world.TheConstants.{FIRST_PACE}
use Rattle.world_loop.specs.declared.note.WorldNote.{WorldNote}
use Rattle.roam_embed.specs.declared.answer.Answer.{Answer}
use Rattle.roam_embed.specs.declared.answer.Answer.TheVariants.{Done, BadCamera, Worn}
use Rattle.world_embed.specs.declared.notes.WorldFrame.{WorldFrame}
use Rattle.roam_embed.specs.Told.{blocked_of}
use Rattle.world_embed.specs.Worlds.{IsWorldOpened, IsWorldCameraMoved, world_note_of, IsWorldFrameMade}

-- a world of the store that has this page alone
pub world-opened : {E : Type 0} (result : Result WorldState E) (page : Page) (large budget spacing : ℕ) (s : Store) →
    s.large ≡ large → s.n ≡ page.field.n →
    page_at s (large - page.field.n) (record { x = 0; y = 0 }) ≡ Some page →
    ((q : ℕ) (t : Point) → q ≢ large - page.field.n → page_at s q t ≡ None) →
    IfOk result (λ w. w.store ≡ s) → IfOk result (λ w. w.view ≡ start_view spacing) →
    IfOk result (λ w. w.budget ≡ budget) → IfOk result (λ w. w.most ≡ budget) →
    IfOk result (λ w. (a : ℕ) → split_set w.mesh.pool.pairs a ≡ false) → IfOk result (λ w. w.odometer ≡ 0) →
    IfOk result (λ w. w.pace ≡ FIRST_PACE) → IfOk result (λ w. w.way ≡ FIRST_PACE) →
    IfOk result (IsWorldOpened page.field large budget spacing)
world-opened (Err e) page large budget spacing s size side root others store view some most base odometer pace way = tt
world-opened (Ok w) page large budget spacing s size side root others store view some most base odometer pace way = record {
  large = ap (λ (x : Store). x.large) store ∙ size;
  n = ap (λ (x : Store). x.n) store ∙ side;
  root = ap (λ (x : Store). grid_at x (large - page.field.n) (record { x = 0; y = 0 })) store
      ∙ ap (option_map (λ (p : Page). p.field)) root;
  others = (λ q t other. ap (λ (x : Store). grid_at x q t) store
      ∙ ap (option_map (λ (p : Page). p.field)) (others q t other));
  view = view;
  budget = some;
  most = most;
  base = base;
  odometer = odometer;
  pace = pace;
  way = way;
}

-- the camera, put to a place in its range
pub camera-moved : (before after : WorldState) (place : CameraAt) → IsCamera place →
    after ≡ record before {
      view = viewed_from place before.view;
      mesh = after.mesh;
      odometer = after.odometer;
      pace = next_pace before.pace before.way (move_length before.view.camera place);
      way = next_way before.way (move_length before.view.camera place);
    } →
    (before.odometer + move_length before.view.camera place ≤ LONGEST_WAY →
    (after.mesh ≡ before.mesh) × (after.odometer ≡ before.odometer + move_length before.view.camera place)) →
    (LONGEST_WAY < before.odometer + move_length before.view.camera place →
    IsExpired before.mesh after.mesh (λ a. true) × (after.odometer ≡ 0)) →
    IsWorldCameraMoved before after place Done
camera-moved before after place is rest near far = record {
  done = ((λ _. is), (λ _. refl));
  bad_camera = ((λ e. absurd (apart e)), (λ no. absurd (no is)));
  moved = (λ _. rest);
  near = (λ _. near);
  far = (λ _. far);
  kept = (λ no. absurd (no refl));
} where
  mark : Answer → ℕ
  mark BadCamera = 1
  mark other = 0

  apart : Done ≡ BadCamera → ⊥
  apart e = omega (arith, ap mark e)

-- nothing blocks exactly where triangle 0 is told
none-blocked : (t need : ℕ) → IsNone (blocked_of t need) ↔ (t ≡ 0)
none-blocked zero need = ((λ _. refl), (λ _. refl))
none-blocked (suc t) need = ((λ e. absurd (both_ways true e refl)), (λ e. absurd (omega (arith, e))))

-- what is said of the triangle that blocks
some-blocked : (t need : ℕ) (P : Blocked → Type 0) → t ≢ 0 → IfSome (blocked_of t need) P →
    P (record { tri = t; need = need })
some-blocked zero need P some is = absurd (some refl)
some-blocked (suc t) need P some is = is

-- what is said of a frame by its note
abbrev pub IsNoted : WorldState → WorldState → WorldNote → Type 0
IsNoted before after note = IsFrameDone before after note
    × (IsNone note.steps.blocked ↔ All (λ a. priority_in after a ≡ 0) (mesh_seen after))
    × IfSome note.steps.blocked (λ b. (after.budget < b.need) × (priority_in after b.tri ≡ note.steps.worst)
    × Contains (mesh_seen after) b.tri)

module _ (before after : WorldState) (told_before told : WorldFrame) (fresh : IsWorn before → ⊥)
    (best : IsBestMesh after.store.large after.budget (priority_in after) (mesh_seen after))
    (vertices : (p : Point) → IsTrue (is_mesh_vertex after.store.large (mesh_seen after) p) →
    IsLoadedPoint (pages_of after.store) p) (reach : AreInReach after.store (mesh_seen after))
    (unneeded : told.blocking ≡ 0 → told.need ≡ 0)
    (spare : told.spare ≡ 0) where
  told-made : IsNoted before after (world_note_of told) → IsWorldFrameMade before after told_before told Done
  told-made is =
      let none = none-blocked told.blocking told.need in
      record {
        done = ((λ _. fresh), (λ _. refl));
        worn = ((λ e. absurd (apart e)), (λ worn. absurd (fresh worn)));
        made = (λ _. is.0);
        best = (λ _. best);
        triangles = (λ _. is.0.triangles);
        unblocked = (λ _. ((λ e. is.1.0 (none.1 e)), (λ all. none.0 (is.1.1 all))));
        certificate = (λ _ some. some-blocked told.blocking told.need
            (λ b. (after.budget < b.need) × (priority_in after b.tri ≡ told.worst)
            × Contains (mesh_seen after) b.tri) some is.2);
        unneeded = (λ _. unneeded);
        spare = (λ _. spare);
        vertices = (λ _. vertices);
        reach = (λ _. reach);
        kept = (λ no. absurd (no refl));
        untold = (λ no. absurd (no refl));
      } where
        mark : Answer → ℕ
        mark Worn = 1
        mark other = 0

        apart : Done ≡ Worn → ⊥
        apart e = omega (arith, ap mark e)

  -- a frame is told by numbers
  pub frame-made : (note : WorldNote) → world_note_of told ≡ note → IsNoted before after note →
      IsWorldFrameMade before after told_before told Done
  frame-made note same is = told-made (subst (IsNoted before after) (sym same) is)

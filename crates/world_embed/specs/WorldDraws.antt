-- The draws of a world's mesh, in arrays of the caller. This project's own.
-- Words: AreDrawsTold.
use Rattle.std.specs.Prelude.{◌≡◌, ◌≢◌, ◌⊎◌, ℕ, ◌*◌, ◌<◌, ◌≤◌, ◌↔◌, List, ◌++◌, length, drop}
use Rattle.world_loop.specs.World.{WorldState, mesh_seen}
use Rattle.world_loop.specs.declared.draws.Draw.{Draw}
use Rattle.world_loop.specs.Draws.{AreInReach, draws_of, draw_indices}
use Rattle.roam_embed.specs.declared.answer.Answer.{Answer}
use Rattle.roam_embed.specs.declared.answer.Answer.TheVariants.{Done, NoRoom, NotThere}

-- The draws and the indices of the mesh stand in the first places of two arrays, and how many draws and triangles there
-- are is told, also where there is no room for them. A page that the mesh needs may have gone since the last frame.
pub record AreDrawsTold (w : WorldState) (draws_before draws : List Draw) (count_before count : ℕ)
    (indices_before indices : List ℕ) (triangles_before triangles : ℕ) (answer : Answer) : Type 0 where
  pub done : (answer ≡ Done) ↔ (AreInReach w.store (mesh_seen w)
      × (length (draws_of w.store (mesh_seen w)) ≤ length draws_before)
      × (3 * length (mesh_seen w) ≤ length indices_before))
  pub no_room : (answer ≡ NoRoom) ↔ (AreInReach w.store (mesh_seen w)
      × ((length draws_before < length (draws_of w.store (mesh_seen w)))
      ⊎ (length indices_before < 3 * length (mesh_seen w))))
  pub not_there : (answer ≡ NotThere) ↔ (AreInReach w.store (mesh_seen w) → ⊥)
  pub draws_written : answer ≡ Done →
      draws ≡ draws_of w.store (mesh_seen w) ++ drop (length (draws_of w.store (mesh_seen w))) draws_before
  pub indices_written : answer ≡ Done →
      indices ≡ draw_indices w.store (mesh_seen w) ++ drop (3 * length (mesh_seen w)) indices_before
  pub counted : answer ≢ NotThere →
      (count ≡ length (draws_of w.store (mesh_seen w))) × (triangles ≡ length (mesh_seen w))
  pub draws_unwritten : answer ≢ Done → draws ≡ draws_before
  pub indices_unwritten : answer ≢ Done → indices ≡ indices_before
  pub uncounted : answer ≡ NotThere → (count ≡ count_before) × (triangles ≡ triangles_before)

-- What a frame of a world follows.
use Rattle.std.proofs.Common.{◌≡◌, ℕ, refl, sym, ap, subst}
use Rattle.page_laws.specs.Pages.{IsPyramid}
use Rattle.page_store.specs.Store.{pages_of}
use Rattle.page_priority.specs.Loaded.{LoadedState, loaded_priorities, loaded_readings}
use Rattle.page_priority.specs.Scene.{TerrainState, loaded_in}
use Rattle.roam_mesh.specs.Mesh.{MeshState}
use Rattle.view_mesh.specs.Sight.{IsSound, IsFollowed, AreBracketed}
use Rattle.world_loop.specs.World.{sight_of}

-- the mesh follows what a gauge tells of this scene
pub scene-followed : ((pace : ℕ) (s : LoadedState) → IsPyramid s.pages → IsSound (sight_of pace s)) →
    (told scene : TerrainState) (told_pace pace odometer : ℕ) (mesh : MeshState) → told ≡ scene → told_pace ≡ pace → IsPyramid (pages_of scene.store) →
    mesh.pool.n ≡ scene.store.large → AreBracketed (sight_of pace (loaded_in scene)) odometer mesh →
    IsFollowed (sight_of pace (loaded_in told)) (loaded_priorities (loaded_in told))
    (loaded_readings told_pace (loaded_in told)) odometer mesh
scene-followed sound told scene told_pace pace odometer mesh same same_pace pyramid n kept =
    subst (λ (s : TerrainState). IsFollowed (sight_of pace (loaded_in s)) (loaded_priorities (loaded_in s))
    (loaded_readings told_pace (loaded_in s)) odometer mesh) (sym same) (record {
      priorities = refl;
      readings = ap (λ k. loaded_readings k (loaded_in scene)) same_pace;
      sound = sound pace (loaded_in scene) pyramid;
      n = n;
      kept = kept;
    })

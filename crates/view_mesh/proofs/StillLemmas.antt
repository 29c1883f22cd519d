-- That a frame after which nothing changed is followed by one that does nothing.
use Rattle.std.proofs.Common.{◌≡◌, ℕ, inl, List, [], ◌∷◌, refl, subst, arith}
use Rattle.mesh_defs.specs.ClosedSet.{among}
use Rattle.mesh_defs.specs.GridSet.{IsGridSet}
use Rattle.mesh_defs.specs.Falling.{IsFalling}
use Rattle.mesh_defs.proofs.ListLemmas.{among-in}
use Rattle.mesh_laws.specs.Steps.{begin}
use Rattle.mesh_laws.specs.Slots.{IsPool}
use Rattle.mesh_laws.proofs.SlotLemmas.{split_list-closed}
use Rattle.mesh_laws.proofs.RunLemmas.{run_set}
use Rattle.mesh_laws.proofs.FrameRunLemmas.{merge_spares}
use Rattle.deferred_loop.specs.Seen.{SeenMesh}
use Rattle.deferred_loop.specs.Promise.{IsAtLeast}
use Rattle.deferred_loop.specs.declared.frame.Steps.{Steps}
use Rattle.roam_mesh.specs.Mesh.{MeshState, pool_members, seen_of}
use Rattle.roam_mesh.specs.Chosen.{SparesChosen}
use Rattle.view_mesh.specs.Sight.{Sight, priority_now, IsSound}
use Rattle.view_mesh.specs.Advance.{IsAdvanced}

-- where the mesh stays, no stamp is another
pub same_asked : (s : SeenMesh) (count : ℕ) → IsAtLeast s s count count
same_asked s count [] distinct each = omega arith
same_asked s count (a ∷ rest) distinct each = absurd ((each a (among-in a (a ∷ rest) (inl refl))).1 refl)

-- a frame comes through closed sets, and from such a set no merge is of a diamond that holds a chosen triangle
pub spared : (n budget : ℕ) (priority : ℕ → ℕ) (start last : List ℕ) → IsGridSet n start → IsFalling n priority →
    SparesChosen n budget priority start last
spared n budget priority start last set falls ranking chosen ranked closure before after added removed reached =
    merge_spares n budget priority ranking chosen (among last) before after ranked falls closure
    (run_set n budget priority start before added removed set reached)

-- The mesh of a frame is that of the sight: so a frame from there has no step and asks nothing.
pub IsAdvanced-still : (s : Sight) (budget odometer : ℕ) (before after : MeshState) (steps : Steps)
    (count more asked : ℕ) → IsSound s → after.pool.n ≡ s.n → IsPool after.pool.n after.pool.pairs →
    IsAdvanced s budget odometer before after steps count more →
    IsAdvanced s budget odometer after after (record steps { splits = 0; merges = 0 }) asked asked
IsAdvanced-still s budget odometer before after steps count more asked sound n pool done = record {
  n = refl;
  counters = record { most = refl; splits_rose = omega arith; merges_rose = omega arith };
  run = record { run = begin; finished = done.run.finished };
  frame = done.frame;
  best = done.best;
  unblocked = done.unblocked;
  certificate = done.certificate;
  sparing = record {
    size = refl;
    no_merge = λ sub. refl;
    no_split = λ sub. refl;
    bound = λ ranking chosen loose ranked closure are. omega arith;
  };
  spares = spared s.n budget (priority_now s) (pool_members after.pool) (pool_members after.pool)
      (subst (λ k. IsGridSet k (pool_members after.pool)) n (split_list-closed after.pool.n after.pool.pairs pool))
      sound.falls;
  most_asked = λ ranking chosen best all_open ranked closure each. omega arith;
  least_asked = same_asked (seen_of after) asked;
  stamps = λ a entry. ((done.stamps a entry).0, inl refl);
  kept = done.kept;
  only = done.only;
  few_asked = omega arith;
  few_splits = omega arith;
  few_merges = omega arith;
  still = λ none. refl;
  changed = λ a. inl refl;
}

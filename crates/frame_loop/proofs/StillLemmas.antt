-- That a frame after which nothing changed is followed by one that does nothing.
use Rattle.std.proofs.Common.{◌≡◌, ℕ, ◌+◌, ◌<◌, false, inl, refl, sym, subst, arith}
use Rattle.mesh_laws.specs.Steps.{begin}
use Rattle.mesh_laws.specs.Stamps.{is_due}
use Rattle.deferred_loop.specs.Seen.{SeenMesh}
use Rattle.deferred_loop.specs.Promise.{IsAtLeast}
use Rattle.roam_mesh.specs.Mesh.{stamp_of, seen_of}
use Rattle.frame_loop.specs.Changes.{LeafChanges, no_changes}
use Rattle.frame_loop.specs.Engine.{EngineState, IsEngine, IsRenewable, IsFrameDone, IsStill}
use Rattle.frame_loop.specs.declared.note.FrameNote.{FrameNote}

-- The mesh of a frame is that of the state: so a frame from there has no step and asks nothing.
pub still_after : ((s : SeenMesh) (count : ℕ) → IsAtLeast s s count count) → (before after : EngineState)
    (note : FrameNote) → IsFrameDone before after note → IsStill after (record note { splits = 0; merges = 0 })
still_after asked before after note done = record {
  state = refl;
  most = refl;
  odometer = refl;
  frames = refl;
  counters = record { most = refl; splits_rose = omega arith; merges_rose = omega arith };
  run = record { run = begin; finished = rw (done.state) done.run.finished };
  frame = rw (done.state) done.frame;
  sparing = record {
    size = refl;
    no_merge = λ sub. refl;
    no_split = λ sub. refl;
    bound = λ ranking chosen loose ranked closure are. omega arith;
  };
  most_asked = λ ranking chosen best all_open ranked closure each. omega arith;
  least_asked = asked (seen_of after.mesh) after.evaluations;
  stamps = λ a entry. (
    subst (λ (k : ℕ). is_due k (stamp_of after.mesh a) ≡ false) (sym done.odometer) (done.stamps a entry).0,
    inl refl,
  );
  triangles = rw (done.state) done.triangles;
  vertices = rw (done.state) done.vertices;
  inside = rw (done.state) done.inside;
  cut = rw (done.state) done.cut;
  outside = rw (done.state) done.outside;
}

-- and so it is whatever frames are counted and whatever is told of changes
pub still_on : (e : EngineState) (frames : ℕ) (changes : LeafChanges) (note : FrameNote) → IsStill e note →
    IsStill (record e { frames = frames; changes = changes }) note
still_on e frames changes note is = record {
  state = refl;
  most = refl;
  odometer = refl;
  frames = refl;
  counters = is.counters;
  run = is.run;
  frame = is.frame;
  sparing = is.sparing;
  most_asked = is.most_asked;
  least_asked = is.least_asked;
  stamps = is.stamps;
  triangles = is.triangles;
  vertices = is.vertices;
  inside = is.inside;
  cut = is.cut;
  outside = is.outside;
}

-- a renewed engine
pub renewed_engine : (e : EngineState) → IsEngine e → IsRenewable e → IsEngine (record e { frames = 0 })
renewed_engine e is may =
    let evaluations = may.few_evaluations in
    let splits = may.few_splits in
    let merges = may.few_merges in
    record {
      n_low = is.n_low;
      n_high = is.n_high;
      n = is.n;
      most_low = is.most_low;
      most_high = is.most_high;
      pool_most = is.pool_most;
      budget_low = is.budget_low;
      budget_high = is.budget_high;
      spacing_low = is.spacing_low;
      spacing_high = is.spacing_high;
      far = is.far;
      frame_count = omega arith;
      evaluation_count = omega (arith, evaluations);
      split_count = omega (arith, splits);
      merge_count = omega (arith, merges);
      kept = is.kept;
      only = is.only;
    }

-- an engine after a frame that does nothing
pub still_engine : (e : EngineState) → IsEngine e → e.frames < 1000000 →
    IsEngine (record e { frames = e.frames + 1; changes = no_changes })
still_engine e is more =
    let evaluations = is.evaluation_count in
    let splits = is.split_count in
    let merges = is.merge_count in
    record {
      n_low = is.n_low;
      n_high = is.n_high;
      n = is.n;
      most_low = is.most_low;
      most_high = is.most_high;
      pool_most = is.pool_most;
      budget_low = is.budget_low;
      budget_high = is.budget_high;
      spacing_low = is.spacing_low;
      spacing_high = is.spacing_high;
      far = is.far;
      frame_count = omega (arith, more);
      evaluation_count = omega (arith, evaluations);
      split_count = omega (arith, splits);
      merge_count = omega (arith, merges);
      kept = is.kept;
      only = is.only;
    }

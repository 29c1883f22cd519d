-- A generated run: its lines lie in their ranges, each leads one step along the walk, and the sums are those of the
-- pictures.
use Rattle.std.proofs.Common.{◌≡◌, ◌≢◌, ℕ, suc, ◌+◌, ◌^◌, ◌≤◌, ◌++◌, max, is_some, if◌then◌else◌, List, [], ◌∷◌, length}
use Rattle.std.proofs.Common.{get_or, drop, drop-cons, drop_of_length-le, cond, Option, Some, None, refl, sym, ◌∙◌, ap}
use Rattle.std.proofs.Common.{subst, arith, append-nil, length-append, slice_get}
use Rattle.std.proofs.lemmas.List.Sums.{sum_by_push}
use Rattle.std.proofs.lemmas.Option.{slice_get_within, get_or_from_slice_get}
use Rattle.mesh_defs.specs.ClosedSet.{leaves_of, among}
use Rattle.mesh_defs.specs.HeightField.{HeightField}
use Rattle.mesh_defs.specs.State.{State, start_state}
use Rattle.view_priority.specs.Camera.{IsCamera}
use Rattle.bintree_addr.specs.declared.blocked.Blocked.{Blocked}
use Rattle.roam_mesh.specs.Mesh.{pool_members}
use Rattle.frame_loop.specs.Engine.{EngineState, IsFrameDone}
use Rattle.frame_loop.specs.declared.note.FrameNote.{FrameNote}
use Rattle.roam_script.specs.declared.limits.Limits.{Limits}
use Rattle.roam_script.specs.declared.line.Line.{Line}
use Rattle.roam_script.specs.declared.line.Line.TheVariants.{Blank, Camera, Set, Plane, NoPlanes, Budget, Raise, Frame}
use Rattle.roam_script.specs.Laws.{LiesInRange}
use Rattle.roam_gen.specs.Generated.{made_grid, made_lines}
use Rattle.roam_gen.specs.Laws.{IsMadeLine}
use Rattle.run_laws.specs.Walk.{Walk, start_walk, state_after, after_line, walk_along}
use Rattle.run_words.specs.Words.{as_sums}
use Rattle.run_laws.specs.Picture.{Picture, triangles_of, ArePictures}
use Rattle.run_laws.specs.ReportText.{all_triangles, worst_in, count_blocked}
use Rattle.run_laws.specs.Outcome.{made_budget, made_spacing, made_walk}
use Rattle.run_laws.proofs.OutcomeLemmas.{made_lines-count, made_grid-level, made_grid-maxval}
use Rattle.run_laws.proofs.WalkLemmas.{ArePictures-append}
use Rattle.run_engine.specs.declared.generated.Sums.{Sums}
use Rattle.run_engine.specs.declared.generated.TheConstants.{LINES}
use Rattle.run_engine.specs.EngineSeen.{IsUnderLimits, IsApplied, HasFollowed}
use Rattle.run_engine.specs.NoteSeen.{picture_seen}
use Rattle.run_engine.specs.SumView.{made_start, IsSumOf, HasGone, SumsUp}
use Rattle.run_engine.proofs.EngineLemmas.{followed-line, followed-frame, picture-shown}

-- sums of one picture more

triangles-more : (ps : List Picture) (p : Picture) →
    all_triangles (ps ++ p ∷ []) ≡ all_triangles ps + length (triangles_of p)
triangles-more ps p = sum_by_push (λ (q : Picture). length (triangles_of q)) ps p

worst-more : (ps : List Picture) (p : Picture) → worst_in (ps ++ p ∷ []) ≡ max (worst_in ps) p.worst
worst-more [] p = omega arith
worst-more (q ∷ ps) p = omega (arith, worst-more ps p)

-- 1 of what blocks, 0 of nothing
abbrev one_blocked : Option Blocked → ℕ
one_blocked blocked = if is_some blocked then 1 else 0

one-same : (blocked : Option Blocked) → cond (is_some blocked) 1 0 ≡ one_blocked blocked
one-same None = refl
one-same (Some b) = refl

one-low : (blocked : Option Blocked) → one_blocked blocked ≤ 1
one-low None = omega arith
one-low (Some b) = omega arith

blocked-more : (ps : List Picture) (p : Picture) →
    count_blocked (ps ++ p ∷ []) ≡ count_blocked ps + one_blocked p.blocked
blocked-more ps p =
    sum_by_push (λ (q : Picture). cond (is_some q.blocked) 1 0) ps p
    ∙ ap (λ (c : ℕ). count_blocked ps + c) (one-same p.blocked)

-- before the first frame
pub no-sums : (sums : Sums) → sums.frames ≡ 0 → sums.triangles ≡ 0 → sums.worst ≡ 0 → sums.blocked ≡ 0 → IsSumOf [] sums
no-sums sums frames triangles worst blocked = record {
  frames = frames;
  triangles = triangles;
  worst = worst;
  blocked = blocked;
}

-- the lines

abbrev limits_for : EngineState → Limits
limits_for engine = record {
  n = engine.state.grid.n;
  maxval = engine.state.grid.maxval;
  planes = length engine.state.view.planes;
  line = 0;
  frames = 0;
  budget = engine.most;
}

made-range : (n : ℕ) (engine : EngineState) (line : Line) → engine.state.grid.n ≡ n → engine.state.grid.maxval ≡ 65535 →
    IsMadeLine n line → LiesInRange (limits_for engine) line
made-range n engine Blank level heights is = absurd is
made-range n engine (Camera x y z) level heights is = is
made-range n engine (Set x y h) level heights is =
    let P : ℕ → Type 0 = λ k. (x ≤ 2 ^ k) × (y ≤ 2 ^ k) × (h ≤ engine.state.grid.maxval) in
    subst P (sym level) (is.0, is.1, omega (arith, heights, is.2))
made-range n engine Frame level heights is = omega arith
made-range n engine (Plane a b c d) level heights is = absurd is
made-range n engine NoPlanes level heights is = absurd is
made-range n engine (Budget most) level heights is = absurd is
made-range n engine (Raise a b c d e) level heights is = absurd is

-- a generated line lies in its ranges
pub made-ranges : (n : ℕ) (engine : EngineState) (line other : Line) → engine.state.grid.n ≡ n →
    engine.state.grid.maxval ≡ 65535 → line ≡ other → IsMadeLine n other
    → (limits : Limits) × IsUnderLimits engine limits × LiesInRange limits line
made-ranges n engine line other level heights same is =
    let P : Line → Type 0 = λ l. IsMadeLine n l in (
      limits_for engine,
      record { level = refl; heights = refl; in_force = refl; greatest = refl },
      made-range n engine line level heights (subst P (sym same) is),
    )

-- the walk

start-camera : (engine : EngineState) (n seed : ℕ) → engine.state ≡ (made_start n seed).state →
    IsCamera engine.state.view.camera
start-camera engine n seed is =
    let P : State → Type 0 = λ s. IsCamera s.view.camera in
    subst P (sym is) (record { x_small = omega arith; y_small = omega arith; z_small = omega arith })

-- it begins
pub gone-begins : (n seed : ℕ) (grid : HeightField) (engine : EngineState) (sums : Sums) → grid ≡ made_grid n seed
    → HasFollowed (start_walk made_budget (start_state grid made_spacing made_budget)) [] engine → IsSumOf [] sums →
    HasGone n seed 0 engine sums
gone-begins n seed grid engine sums made began none =
    let S : HeightField → Type 0 =
    λ g. HasFollowed (start_walk made_budget (start_state g made_spacing made_budget)) [] engine in
    let followed : HasFollowed (made_start n seed) [] engine = subst S made began in
    record {
      walk = made_start n seed;
      pictures = [];
      followed = followed;
      leads = refl;
      shown = tt;
      summed = none;
      few = (let f = none.frames in let t = none.triangles in let b = none.blocked in let m = followed.made in
          let o = followed.gone in
          record {
            frames = omega (arith, f);
            triangles = omega (arith, t);
            blocked = omega (arith, b);
            made = omega (arith, m);
            gone = omega (arith, o);
          });
      level = ap (λ (s : State). s.grid.n) followed.at_state ∙ made_grid-level n seed;
      heights = ap (λ (s : State). s.grid.maxval) followed.at_state ∙ made_grid-maxval n seed;
      camera = start-camera engine n seed followed.at_state;
    }

-- it ends
pub gone-ends : (n seed : ℕ) (engine : EngineState) (sums : Sums) → HasGone n seed LINES engine sums →
    SumsUp n seed sums engine
gone-ends n seed engine sums here =
    let count = made_lines-count n seed in
    let few : length (made_lines n seed) ≤ LINES = omega (arith, count) in
    let none : drop LINES (made_lines n seed) ≡ [] = drop_of_length-le (made_lines n seed) few in
    let there : here.walk ≡ made_walk n seed = sym (ap (walk_along here.walk) none) ∙ here.leads in
    let P : Walk → Type 0 = λ w. ArePictures (as_sums n seed) [] w.frames here.pictures in
    record {
      pictures = here.pictures;
      shown = subst P there here.shown;
      summed = here.summed;
      followed = (let Q : Walk → Type 0 = λ w. HasFollowed w here.pictures engine in subst Q there here.followed);
    }

module _ (n seed k : ℕ) (engine : EngineState) (sums : Sums) (here : HasGone n seed k engine sums) where
  -- a line leads on
  leads-on : (line : Line) → slice_get (made_lines n seed) k ≡ Some line →
      walk_along (after_line line here.walk) (drop (k + 1) (made_lines n seed)) ≡ made_walk n seed
  leads-on line is =
      let lines : List Line = made_lines n seed in
      let at : get_or lines k line ≡ line = get_or_from_slice_get lines k line line is in
      let cut : drop k lines ≡ line ∷ drop (suc k) lines =
      drop-cons lines k line (slice_get_within lines k line is) ∙ ap (λ (v : Line). v ∷ drop (suc k) lines) at in
      let next : suc k ≡ k + 1 = omega arith in
      ap (λ (i : ℕ). walk_along (after_line line here.walk) (drop i lines)) (sym next)
      ∙ (sym (ap (walk_along here.walk) cut) ∙ here.leads)

  module _ (new : EngineState) where
    -- so does a line that makes no frame
    gone-carried : (line : Line) → slice_get (made_lines n seed) k ≡ Some line → line ≢ Frame →
        IsApplied engine new line
        → ArePictures (as_sums n seed) [] (after_line line here.walk).frames here.pictures
        → (state_after line engine.state).grid.n ≡ n → (state_after line engine.state).grid.maxval ≡ 65535 →
        HasGone n seed (k + 1) new sums
    gone-carried line is other done shown level heights =
        record {
          walk = after_line line here.walk;
          pictures = here.pictures;
          followed = followed-line here.walk here.pictures engine new here.followed line other done;
          leads = leads-on line is;
          shown = shown;
          summed = here.summed;
          few = (let f = here.few.frames in let t = here.few.triangles in let b = here.few.blocked in
              let m = here.few.made in let o = here.few.gone in
              let made = done.made in let gone = done.gone in let short = done.short in
              record {
                frames = omega (arith, f);
                triangles = omega (arith, t);
                blocked = omega (arith, b);
                made = omega (arith, m, made);
                gone = omega (arith, o, gone, short);
              });
          level = ap (λ (s : State). s.grid.n) done.next ∙ level;
          heights = ap (λ (s : State). s.grid.maxval) done.next ∙ heights;
          camera = done.near;
        }

    still : ArePictures (as_sums n seed) [] (here.walk.frames ++ []) here.pictures
    still =
        let P : List State → Type 0 = λ l. ArePictures (as_sums n seed) [] l here.pictures in
        subst P (sym (append-nil here.walk.frames)) here.shown

    gone-made : (line : Line) → slice_get (made_lines n seed) k ≡ Some line → line ≢ Frame → IsMadeLine n line →
        IsApplied engine new line → HasGone n seed (k + 1) new sums
    gone-made Blank is other made done = absurd made
    gone-made (Camera x y z) is other made done =
        gone-carried (Camera x y z) is other done still here.level here.heights
    gone-made (Set x y h) is other made done = gone-carried (Set x y h) is other done still here.level here.heights
    gone-made Frame is other made done = absurd (other refl)
    gone-made (Plane a b c d) is other made done = absurd made
    gone-made NoPlanes is other made done = absurd made
    gone-made (Budget most) is other made done = absurd made
    gone-made (Raise a b c d e) is other made done = absurd made

    pub gone-other : (line at : Line) → slice_get (made_lines n seed) k ≡ Some line → line ≢ Frame →
        line ≡ at → IsMadeLine n at
        → IsApplied engine new line → HasGone n seed (k + 1) new sums
    gone-other line at is other same made done =
        let P : Line → Type 0 = λ l. IsMadeLine n l in
        gone-made line is other (subst P (sym same) made) done

    -- and a frame line, with what the engine notes of its frame
    pub gone-frame : (note : FrameNote) (more : Sums) → slice_get (made_lines n seed) k ≡ Some Frame →
        IsFrameDone engine new note
        → more.frames ≡ sums.frames + 1 → more.triangles ≡ sums.triangles + note.triangles →
        more.triangles ≤ sums.triangles + 2 ^ 33
        → more.worst ≡ max sums.worst note.worst → more.blocked ≡ sums.blocked + one_blocked note.blocked
        → HasGone n seed (k + 1) new more
    gone-frame note more is done frames triangles few worst blocked =
        let p : Picture = picture_seen new note in
        let ps : List Picture = here.pictures in
        let shown = picture-shown here.walk ps engine new here.followed note done (as_sums n seed) refl in
        let count : length (triangles_of p) ≡ note.triangles =
        ap (λ (s : State). length (leaves_of s.grid.n (among (pool_members new.mesh.pool)))) done.state
        ∙ sym done.triangles in
        record {
          walk = after_line Frame here.walk;
          pictures = ps ++ p ∷ [];
          followed = followed-frame here.walk ps engine new here.followed note done;
          leads = leads-on Frame is;
          shown = ArePictures-append (as_sums n seed) [] here.walk.frames (here.walk.state ∷ []) ps
              (p ∷ []) here.shown (shown, tt);
          summed = (record {
            frames = (let a = here.summed.frames in let l = length-append ps (p ∷ []) in omega (arith, frames, a, l));
            triangles =
                (let a = here.summed.triangles in let l = triangles-more ps p in omega (arith, triangles, a, l, count));
            worst = (let a = here.summed.worst in worst ∙ (ap (λ (w : ℕ). max w note.worst) a ∙ sym (worst-more ps p)));
            blocked = (let a = here.summed.blocked in
                blocked ∙ (ap (λ (c : ℕ). c + one_blocked note.blocked) a ∙ sym (blocked-more ps p)));
          });
          few = (let f = here.few.frames in let t = here.few.triangles in let b = here.few.blocked in
              let m = here.few.made in let o = here.few.gone in
              let made = done.frames in let gone = done.odometer in let one = one-low note.blocked in
              record {
                frames = omega (arith, f, frames);
                triangles = omega (arith, t, few);
                blocked = omega (arith, b, blocked, one);
                made = omega (arith, m, made);
                gone = omega (arith, o, gone);
              });
          level = ap (λ (s : State). s.grid.n) done.state ∙ here.level;
          heights = ap (λ (s : State). s.grid.maxval) done.state ∙ here.heights;
          camera = (let R : State → Type 0 = λ s. IsCamera s.view.camera in subst R (sym done.state) here.camera);
        }

-- What the frame changed may be patched in, and then the buffer shows the mesh.
use Rattle.std.proofs.Common.{◌≡◌, ℕ, ◌*◌, ◌≤◌, not, All, List, length, ap, ◌∙◌, subst, arith}
use Rattle.std.specs.List.Sorted.{IsPermutation}
use Rattle.std.proofs.lemmas.List.Elements.{All-filter}
use Rattle.std.proofs.lemmas.List.Sorted.{IsPermutation-map, length_permutation}
use Rattle.mesh_defs.specs.Triangle.{level_of}
use Rattle.mesh_defs.specs.ClosedSet.{among}
use Rattle.frame_loop.specs.Mesh.{pool_members}
use Rattle.draw_buffer.specs.Times.{times}
use Rattle.draw_buffer.specs.Corners.{grid_indices}
use Rattle.frame_loop.specs.Engine.{mesh_seen}
use Rattle.engine_uses.proofs.StepLemmas.{times-gone, times-come, times-step, length-step, times-moved, times-leaves}
use Rattle.engine_uses.proofs.draw.patch_buffer.Goals as goal

pub patch-requires-clause-levels : goal.patch-requires-clause-levels
patch-requires-clause-levels c =
    let behind = c.requires.behind in
    let level : ℕ → Type 0 = λ a. level_of a ≤ 2 * c.args.engine.now.state.grid.n in
    let come = c.changes-changes.ensures.come ∙ behind.changed.new in
    let seen : All level (mesh_seen c.args.engine.now) =
    subst (All level) c.view-few.ensures.leaves c.view-few.ensures.levels in
    rw (come, behind.drawn.grid)
    (All-filter (λ a. not (among behind.before a)) level (mesh_seen c.args.engine.now) seen)

pub patch-requires-clause-gone : goal.patch-requires-clause-gone
patch-requires-clause-gone c a =
    let behind = c.requires.behind in
    let gone = ap (λ (xs : List ℕ). times xs a) (c.changes-changes.ensures.gone ∙ behind.changed.left) in
    let moved = times-moved behind.before c.args.buffer.now.triangles a behind.drawn.places in
    let part = times-gone behind.before (mesh_seen c.args.engine.now) a in
    omega arith

pub patch-requires-clause-come : goal.patch-requires-clause-come
patch-requires-clause-come c a =
    let behind = c.requires.behind in
    let e = c.args.engine.now in
    let come = ap (λ (xs : List ℕ). times xs a) (c.changes-changes.ensures.come ∙ behind.changed.new) in
    let moved = times-moved behind.before c.args.buffer.now.triangles a behind.drawn.places in
    let here = c.triangles-once.ensures.once a in
    let leaf = times-leaves (mesh_seen e) a
    (c.set_leaf_laws.ensures.once e.state.grid.n (among (pool_members e.mesh.pool)) a) in
    let all = times-come behind.before (mesh_seen e) a (omega arith) leaf in
    omega arith

pub patch-requires-clause-room : goal.patch-requires-clause-room
patch-requires-clause-room c =
    let behind = c.requires.behind in
    let e = c.args.engine.now in
    let has : ℕ → _ = among (pool_members e.mesh.pool) in
    let once : (a : ℕ) → times behind.before a ≤ 1 = λ a.
    let moved = times-moved behind.before c.args.buffer.now.triangles a behind.drawn.places in
    let here = c.triangles-once.ensures.once a in
    omega arith in
    let leaf : (a : ℕ) → times (mesh_seen e) a ≤ 1 =
    λ a. times-leaves (mesh_seen e) a (c.set_leaf_laws.ensures.once e.state.grid.n has a) in
    let whole = length-step behind.before (mesh_seen e) c.times_laws.ensures.permutation once leaf in
    let gone = ap length (c.changes-changes.ensures.gone ∙ behind.changed.left) in
    let come = ap length (c.changes-changes.ensures.come ∙ behind.changed.new) in
    let long = length_permutation behind.before c.args.buffer.now.triangles behind.drawn.places in
    let seen = ap length c.view-few.ensures.leaves in
    let few = c.view-few.ensures.few in
    let most = c.set_leaf_laws.ensures.most e.state.grid.n has in
    let room = behind.room in
    omega arith

pub returns-clause-step : goal.returns-clause-step
returns-clause-step c =
    let behind = c.requires.behind in
    let e = c.args.engine.now in
    let new = c.patch.new.self in
    let has : ℕ → _ = among (pool_members e.mesh.pool) in
    let grid = c.patch.ensures.n ∙ behind.drawn.grid in
    let same : (a : ℕ) → times (mesh_seen e) a ≡ times new.triangles a = λ a.
    let moved = times-moved behind.before c.args.buffer.now.triangles a behind.drawn.places in
    let here = c.triangles-once.ensures.once a in
    let leaf = times-leaves (mesh_seen e) a (c.set_leaf_laws.ensures.once e.state.grid.n has a) in
    let whole = times-step behind.before (mesh_seen e) a (omega arith) leaf in
    let gone = ap (λ (xs : List ℕ). times xs a) (c.changes-changes.ensures.gone ∙ behind.changed.left) in
    let come = ap (λ (xs : List ℕ). times xs a) (c.changes-changes.ensures.come ∙ behind.changed.new) in
    let members = c.patch.ensures.members a in
    omega arith in
    let places : IsPermutation (mesh_seen e) new.triangles =
    c.times_laws.ensures.permutation (mesh_seen e) new.triangles same in
    record {
      room = rw c.patch.ensures.most behind.room;
      drawn = record {
        grid = grid;
        places = places;
        corners = rw (c.patch.ensures.drawn, grid)
            (IsPermutation-map (grid_indices e.state.grid.n) (mesh_seen e) new.triangles places);
      };
    }

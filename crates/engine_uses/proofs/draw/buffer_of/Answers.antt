-- A new buffer takes all leaves, and shows them.
use Rattle.std.proofs.Common.{◌≡◌, ℕ, List, ap, ◌∙◌, arith}
use Rattle.std.specs.List.Sorted.{IsPermutation}
use Rattle.std.proofs.lemmas.List.Sorted.{IsPermutation-map}
use Rattle.mesh_defs.specs.ClosedSet.{among}
use Rattle.frame_loop.specs.Mesh.{pool_members}
use Rattle.draw_buffer.specs.Times.{times}
use Rattle.draw_buffer.specs.Corners.{grid_indices}
use Rattle.frame_loop.specs.Engine.{mesh_seen}
use Rattle.engine_uses.proofs.StepLemmas.{times-leaves, times-none}
use Rattle.engine_uses.proofs.draw.buffer_of.Goals as goal

pub patch-requires-clause-come : goal.patch-requires-clause-come
patch-requires-clause-come c a =
    let e = c.args.engine.now in
    let empty = ap (λ (xs : List ℕ). times xs a) (c.in_ok-buffer.ensures.triangles) ∙ times-none a in
    let leaves = ap (λ (xs : List ℕ). times xs a) c.view.ensures.leaves in
    let leaf = times-leaves (mesh_seen e) a
    (c.set_leaf_laws.ensures.once e.state.grid.n (among (pool_members e.mesh.pool)) a) in
    omega arith

pub returns : goal.returns
returns c =
    let e = c.args.engine.now in
    let new = c.patch.new.self in
    let n = c.n-n.ensures.value ∙ ap (λ g. g.n) c.grid.ensures in
    let grid : new.n ≡ e.state.grid.n = c.patch.ensures.n ∙ c.in_ok-buffer.ensures.n ∙ n in
    let most = c.patch.ensures.most ∙ c.in_ok-buffer.ensures.most ∙ c.room.ensures.value in
    let same : (a : ℕ) → times (mesh_seen e) a ≡ times new.triangles a = λ a.
    let empty = ap (λ (xs : List ℕ). times xs a) (c.in_ok-buffer.ensures.triangles) ∙ times-none a in
    let leaves = ap (λ (xs : List ℕ). times xs a) c.view.ensures.leaves in
    let none = times-none a in
    let members = c.patch.ensures.members a in
    omega arith in
    let places : IsPermutation (mesh_seen e) new.triangles =
    c.times_laws.ensures.permutation (mesh_seen e) new.triangles same in
    record {
      step = record {
        room = rw (most, c.most.ensures, n) (omega arith);
        drawn = record {
          grid = grid;
          places = places;
          corners = rw (c.patch.ensures.drawn, grid)
              (IsPermutation-map (grid_indices e.state.grid.n) (mesh_seen e) new.triangles places);
        };
      };
    }

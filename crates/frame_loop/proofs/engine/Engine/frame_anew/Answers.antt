use Rattle.std.proofs.lemmas.Grind.{common_steps}
use Rattle.std.proofs.Common.{◌≡◌, ℕ, length, refl, sym, ◌∙◌, ap, subst, arith}
use Rattle.mesh_defs.specs.declared.mark.Mark.TheVariants.{Inside, Cut, Outside}
use Rattle.mesh_defs.specs.ClosedSet.{IsClosed, leaves_of, among}
use Rattle.mesh_defs.specs.MeshText.{vertices_of}
use Rattle.mesh_laws.specs.Slots.{split_set}
use Rattle.triangle_pool.specs.Slots.{PoolState}
use Rattle.roam_mesh.specs.Mesh.{pool_members}
use Rattle.mesh_arrays.specs.ListChange.{IsChange}
use Rattle.frame_loop.specs.Marks.{marks_seen}
use Rattle.frame_loop.proofs.PoolLemmas.{members_leaves_at}
use Rattle.frame_loop.proofs.ListingLemmas.{kept_listing}
use Rattle.frame_loop.proofs.PatchLemmas.{known_before}
use Rattle.frame_loop.proofs.engine.Engine.frame_anew.Goals as goal

pub list_changed-vertices-requires-clause-before : goal.list_changed-vertices-requires-clause-before
list_changed-vertices-requires-clause-before c =
    let is = c.self.invariant in
    let before = split_set c.self.inside.mesh.pool.pairs in
    let same_n : c.advance_mesh-steps.new.mesh.pool.n ≡ c.self.inside.outlook.grid.n =
    c.advance_mesh-steps.ensures.n ∙ is.0.n in
    rw (c.pool-pool.ensures.pool) (record {
      before = before;
      leaves_are = is.1.leaf_list ∙ ap (λ k. leaves_of k before) (sym same_n);
    })

pub list_changed-vertices-requires-clause-same : goal.list_changed-vertices-requires-clause-same
list_changed-vertices-requires-clause-same c none =
    let is = c.self.invariant in
    let n = c.self.inside.outlook.grid.n in
    let same_n : c.advance_mesh-steps.new.mesh.pool.n ≡ n = c.advance_mesh-steps.ensures.n ∙ is.0.n in
    let same = c.advance_mesh-steps.ensures.still none
    ∙ ap (λ k. leaves_of k (split_set c.self.inside.mesh.pool.pairs)) is.0.n in
    rw (c.pool-pool.ensures.pool)
    (kept_listing n c.advance_mesh-steps.new.mesh.pool.n c.self.inside.mesh.pool.pairs
    c.advance_mesh-steps.new.mesh.pool.pairs
    c.self.inside.list.leaves c.self.inside.numbers c.self.inside.vertices same_n same is.1.leaf_list
    is.1.vertex_numbers is.5)

pub list_changed-vertices-requires-clause-known : goal.list_changed-vertices-requires-clause-known
list_changed-vertices-requires-clause-known c =
    let is = c.self.invariant in
    let n = c.self.inside.outlook.grid.n in
    let after = c.advance_mesh-steps.new.mesh in
    let before = split_set c.self.inside.mesh.pool.pairs in
    rw (c.pool-pool.ensures.pool)
    (known_before n after.pool.n before (split_set after.pool.pairs) c.self.inside.numbers c.self.inside.list.leaves
    after.log.changed c.changed.result (c.advance_mesh-steps.ensures.n ∙ is.0.n)
    (subst (λ (k : ℕ). IsClosed k before) is.0.n c.pool-before.ensures.valid.closed)
    is.1.vertex_numbers is.1.leaf_list c.advance_mesh-steps.ensures.changed c.changed.ensures)

pub count_marks-marks-requires-clause-n : goal.count_marks-marks-requires-clause-n
count_marks-marks-requires-clause-n c =
    ap (λ (p : PoolState). p.n) c.pool-pool.ensures.pool ∙ c.advance_mesh-steps.ensures.n ∙ c.self.invariant.0.n

pub returns-clause-done : goal.returns-clause-done
returns-clause-done c =
    let call = c.list_changed-vertices in
    let pool : PoolState = c.advance_mesh-steps.new.mesh.pool in
    let n : ℕ = c.self.inside.outlook.grid.n in
    let same_n : pool.n ≡ n = c.advance_mesh-steps.ensures.n ∙ c.self.invariant.0.n in
    let set : leaves_of c.pool-pool.result.now.n (split_set c.pool-pool.result.now.pairs)
    ≡ leaves_of n (among (pool_members pool)) =
    ap (λ (p : PoolState). leaves_of p.n (split_set p.pairs)) c.pool-pool.ensures.pool
    ∙ members_leaves_at pool n c.pool-pool.ensures.valid same_n in
    let told_n : c.pool-pool.result.now.n ≡ n = ap (λ (p : PoolState). p.n) c.pool-pool.ensures.pool ∙ same_n in
    rw (← c.self.view_is, c.note.ensures) (record {
      state = refl;
      most = refl;
      odometer = refl;
      frames = refl;
      counters = c.advance_mesh-steps.ensures.counters;
      run = c.advance_mesh-steps.ensures.run;
      frame = c.advance_mesh-steps.ensures.frame;
      sparing = c.advance_mesh-steps.ensures.sparing;
      most_asked = c.advance_mesh-steps.ensures.most_asked;
      least_asked = c.advance_mesh-steps.ensures.least_asked;
      stamps = c.advance_mesh-steps.ensures.stamps;
      triangles = c.leaf_count.ensures.leaves ∙ ap length set;
      vertices = call.ensures.listing.vertex_total ∙ ap (λ k.
          length (vertices_of k (leaves_of c.pool-pool.result.now.n (split_set c.pool-pool.result.now.pairs)))) told_n
          ∙ ap (λ xs. length (vertices_of n xs)) set;
      inside = c.count_marks-marks.ensures.inside ∙ ap (marks_seen c.self.inside.outlook Inside) set;
      cut = c.count_marks-marks.ensures.cut ∙ ap (marks_seen c.self.inside.outlook Cut) set;
      outside = c.count_marks-marks.ensures.outside ∙ ap (marks_seen c.self.inside.outlook Outside) set;
    })

pub returns-clause-best : goal.returns-clause-best
returns-clause-best c = c.advance_mesh-steps.ensures.best

pub returns-clause-unblocked : goal.returns-clause-unblocked
returns-clause-unblocked c = rw c.note.ensures c.advance_mesh-steps.ensures.unblocked

pub returns-clause-certificate : goal.returns-clause-certificate
returns-clause-certificate c = rw c.note.ensures c.advance_mesh-steps.ensures.certificate

pub returns-clause-spares : goal.returns-clause-spares
returns-clause-spares c = rw (← c.self.view_is) c.advance_mesh-steps.ensures.spares

pub returns-clause-kept : goal.returns-clause-kept
returns-clause-kept c = c.advance_mesh-steps.ensures.kept

pub returns-clause-only : goal.returns-clause-only
returns-clause-only c = c.advance_mesh-steps.ensures.only

pub returns-clause-changes : goal.returns-clause-changes
returns-clause-changes c =
    let is = c.self.invariant in
    let call = c.list_changed-vertices in
    let n : ℕ = c.self.inside.outlook.grid.n in
    let old : PoolState = c.self.inside.mesh.pool in
    let pool : PoolState = c.advance_mesh-steps.new.mesh.pool in
    let same_n : pool.n ≡ n = c.advance_mesh-steps.ensures.n ∙ is.0.n in
    let before : c.self.inside.list.leaves ≡ leaves_of n (among (pool_members old)) =
    is.1.leaf_list ∙ ap (λ k. leaves_of k (split_set old.pairs)) (sym is.0.n)
    ∙ members_leaves_at old n c.pool-before.ensures.valid is.0.n in
    let after : call.new.list.leaves ≡ leaves_of n (among (pool_members pool)) =
    call.ensures.listing.leaf_list ∙ ap (λ (p : PoolState). leaves_of p.n (split_set p.pairs)) c.pool-pool.ensures.pool
    ∙ members_leaves_at pool n c.pool-pool.ensures.valid same_n in
    rw (← c.self.view_is)
    (subst (λ xs. IsChange xs (leaves_of n (among (pool_members pool))) call.new.list.gone call.new.list.come) before
    (subst (λ ys. IsChange c.self.inside.list.leaves ys call.new.list.gone call.new.list.come)
    after call.ensures.change))

pub invariant_of-self : goal.invariant_of-self
invariant_of-self c = grind (arith, common_steps)

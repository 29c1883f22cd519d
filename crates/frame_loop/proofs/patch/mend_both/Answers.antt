use Rattle.std.proofs.Common.{◌≡◌, ◌^◌, ℕ, All, List, length, take, sym, ◌∙◌, ap, subst}
use Rattle.mesh_defs.specs.ClosedSet.{leaves_of}
use Rattle.mesh_defs.specs.MeshText.{vertices_of}
use Rattle.bintree_laws.specs.Corners.{IsInSquare}
use Rattle.mesh_laws.specs.Slots.{split_set}
use Rattle.obj_write.specs.declared.patch.VertexChange.{VertexChange}
use Rattle.obj_write.specs.Numbers.{numbers_of}
use Rattle.obj_write.specs.Patch.{AreChanges}
use Rattle.frame_loop.proofs.PatchLemmas.{changes_within, changes_told}
use Rattle.frame_loop.proofs.patch.mend_both.Goals as goal

pub patch-requires-2-clause-within : goal.patch-requires-2-clause-within
patch-requires-2-clause-within c =
    let n : ℕ = c.args.pool.now.n in
    let changes : List VertexChange = take (length c.args.changed.now) c.list_changes.new.changes in
    subst (λ (k : ℕ). All (λ (v : VertexChange). IsInSquare (2 ^ k) v.point) changes) (sym c.n.ensures.value)
    (subst (All (λ (v : VertexChange). IsInSquare (2 ^ n) v.point)) (sym c.list_changes.ensures.there)
    (changes_within n (split_set c.args.pool.now.pairs) c.args.changed.now))

pub returns-clause-listing : goal.returns-clause-listing
returns-clause-listing c =
    let n : ℕ = c.args.pool.now.n in
    let now = split_set c.args.pool.now.pairs in
    let before = c.requires.before in
    let same : c.n.result ≡ n = c.n.ensures.value in
    let told : AreChanges c.n.result (leaves_of n before.before) (leaves_of n now)
    (take (length c.args.changed.now) c.list_changes.new.changes) =
    subst (λ (k : ℕ). AreChanges k (leaves_of n before.before) (leaves_of n now)
    (take (length c.args.changed.now) c.list_changes.new.changes)) (sym same)
    (subst (AreChanges n (leaves_of n before.before) (leaves_of n now)) (sym c.list_changes.ensures.there)
    (changes_told n before.before now c.args.changed.now before.closed c.n.ensures.valid.closed
    c.requires.splittable before.covered)) in
    let is = before.numbers_are ∙ ap (λ k. numbers_of k (leaves_of n before.before)) (sym same) in
    record {
      leaf_list = c.patch.ensures.leaves;
      vertex_numbers = c.patch-2.ensures.numbers (leaves_of n before.before) (leaves_of n now) is told
          ∙ ap (λ k. numbers_of k (leaves_of n now)) same;
      vertex_total = c.patch-2.ensures.count (leaves_of n before.before) (leaves_of n now) is told
          ∙ ap (λ k. length (vertices_of k (leaves_of n now))) same;
    }

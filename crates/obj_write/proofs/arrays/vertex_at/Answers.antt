use Rattle.std.proofs.Common.{◌≡◌, ℕ, true, ◌-◌, ◌*◌, ◌^◌, ◌∙◌, ap, get_or, length, arith}
use Rattle.mesh_defs.specs.declared.point.Point.{Point}
use Rattle.mesh_defs.specs.HeightField.{side_of, HeightField}
use Rattle.mesh_defs.specs.MeshText.{vertices_of, vertex_number}
use Rattle.bintree_laws.specs.Corners.{IsInSquare}
use Rattle.obj_write.specs.declared.mesh.MeshView.{MeshView}
use Rattle.obj_write.specs.MeshView.{IsView}
use Rattle.obj_write.specs.VertexMarks.{grid_place, is_vertex}
use Rattle.obj_write.proofs.NumberLemmas.{length-numbers, number-of-vertex}
use Rattle.obj_write.proofs.arrays.vertex_at.Goals as goal

-- what stands at the place of a vertex is its number
number-is : (v : MeshView) (n place : ℕ) (p : Point) → IsView v → n ≡ v.wedges.now.n → place ≡ grid_place n p
    → IsInSquare (2 ^ v.wedges.now.n) p → is_vertex v.wedges.now.n v.leaves.now p ≡ true
    → get_or v.numbers.now place 0 ≡ vertex_number (vertices_of v.wedges.now.n v.leaves.now) p
number-is v n place p view same is within shown =
    ap (λ k. get_or v.numbers.now k 0) (is ∙ ap (λ m. grid_place m p) same)
    ∙ ap (λ xs. get_or xs (grid_place v.wedges.now.n p) 0) view.vertex_numbers
    ∙ number-of-vertex v.wedges.now.n v.leaves.now p within shown

pub bounds-view-place : goal.bounds-view-place
bounds-view-place c =
    let same = c.n.ensures.value ∙ ap (λ (g : HeightField). g.n) c.grid.ensures.value in
    let size = ap (λ n. side_of n * side_of n) same in
    let long = ap length c.requires.view.vertex_numbers
    ∙ length-numbers c.args.view.now.wedges.now.n c.args.view.now.leaves.now in
    let below = c.place-place.ensures.below in
    omega arith

pub overflow_sub-result : goal.overflow_sub-result
overflow_sub-result c =
    let number =
    number-is c.args.view.now c.n.result c.place-place.result c.args.vertex c.requires.view
    (c.n.ensures.value ∙ ap (λ (g : HeightField). g.n) c.grid.ensures.value) c.place-place.ensures.value
    c.requires.within c.requires.shown in
    omega arith

pub returns : goal.returns
returns c =
    ap (λ k. k - 1)
    (number-is c.args.view.now c.n.result c.place-place.result c.args.vertex c.requires.view
    (c.n.ensures.value ∙ ap (λ (g : HeightField). g.n) c.grid.ensures.value) c.place-place.ensures.value
    c.requires.within c.requires.shown)

use Rattle.std.proofs.Common.{◌≡◌, suc, ◌+◌, ◌≤◌, ◌++◌, ◌∷◌, length, take, drop, flat_map, refl, sym, ◌∙◌, ap, arith}
use Rattle.std.proofs.Math.Seq.{drop-cons}
use Rattle.mesh_defs.specs.Triangle.{corners_of}
use Rattle.mesh_defs.specs.MeshText.{vertices_of}
use Rattle.obj_write.specs.Arrays.{places_at, places_of}
use Rattle.obj_write.proofs.ArrayLemmas.{so_far-written, rest-written}
use Rattle.obj_write.proofs.arrays.write_places.Goals as goal

pub loop-leaf-preserved : goal.loop-leaf-preserved
loop-leaf-preserved c =
    let n = c.args.view.now.wedges.now.n in
    let triangles = c.args.view.now.leaves.now in
    let at = c.loop-leaf.at in
    let was = c.loop-leaf.out in
    let i = c.loop-leaf.leaf-index in
    let leaf = c.leaf-item.result in
    let next : suc i ≡ i + 1 = omega arith in
    let tail : drop i triangles ≡ leaf ∷ drop (i + 1) triangles =
    drop-cons triangles i leaf c.loop-leaf-test.true ∙ ap (λ a. a ∷ drop (suc i) triangles) (sym c.leaf-item.is)
    ∙ ap (λ k. leaf ∷ drop k triangles) next in
    let place = c.loop-leaf.invariant.place in
    let room : at + 3 ≤ length was = let test = c.loop-leaf-test.true in let same = c.loop-leaf.auto.out in
    let all = c.requires.room in omega arith in
    let three = places_at (vertices_of n triangles) (corners_of n leaf) in
    let more = flat_map (λ a. places_at (vertices_of n triangles) (corners_of n a)) (drop (i + 1) triangles) in
    let whole = places_of n triangles in
    record {
      place = omega arith;
      so_far = so_far-written c.args.out.now was c.write_corners.new.out three more whole at refl
          room c.write_corners.ensures
          (ap (λ l. take at was ++ flat_map (λ a. places_at (vertices_of n triangles) (corners_of n a)) l) (sym tail)
          ∙ c.loop-leaf.invariant.so_far);
      rest = rest-written c.args.out.now was c.write_corners.new.out three more whole at refl room
          c.write_corners.ensures c.loop-leaf.invariant.rest;
    }

use Rattle.std.proofs.Common.{◌+◌, ◌*◌, ◌<◌, ◌≤◌, ◌∷◌, ◌++◌, length, take, flat_map, get_or, refl, sym, ◌∙◌, ap, arith}
use Rattle.mesh_defs.specs.HeightField.{side_of}
use Rattle.mesh_defs.specs.MeshText.{vertices_of}
use Rattle.obj_write.specs.LineView.{mesh_seen}
use Rattle.obj_write.specs.VertexMarks.{place_point}
use Rattle.obj_write.specs.Arrays.{position_of, positions_of}
use Rattle.obj_write.proofs.NumberLemmas.{length-numbers}
use Rattle.obj_write.proofs.ArrayLemmas.{vertices_from, vertices_from-start, vertices_from-passed, vertices_from-step}
use Rattle.obj_write.proofs.ArrayLemmas.{vertices_from-end, so_far-written, rest-written, all-written}
use Rattle.obj_write.proofs.arrays.write_all_positions.Goals as goal

pub loop-k-init : goal.loop-k-init
loop-k-init c =
    let v = mesh_seen c.args.view.now in
    let n = v.wedges.now.n in
    let first = c.first_from-k in
    let long = ap length c.requires.view.vertex_numbers ∙ length-numbers n v.leaves.now in
    let inside = first.ensures.within in
    let all = sym (vertices_from-passed n v.leaves.now v.numbers.now c.requires.view.vertex_numbers 0 first.result
    (omega arith) (omega arith) first.ensures.clear)
    ∙ vertices_from-start n v.leaves.now in
    record {
      within = first.ensures.within;
      number = first.ensures.number;
      room = let e = ap length all in omega arith;
      so_far = ap (flat_map (position_of n v.wedges.now.heights v.spacing)) all;
      rest = refl;
    }

pub write_position-requires-clause-below : goal.write_position-requires-clause-below
write_position-requires-clause-below c =
    let v = mesh_seen c.args.view.now in
    let long = ap length c.requires.view.vertex_numbers ∙ length-numbers v.wedges.now.n v.leaves.now in
    let test = c.loop-k-test.true in omega arith

pub write_position-requires-clause-room : goal.write_position-requires-clause-room
write_position-requires-clause-room c =
    let v = mesh_seen c.args.view.now in
    let n = v.wedges.now.n in
    let long = ap length c.requires.view.vertex_numbers ∙ length-numbers n v.leaves.now in
    let there : c.loop-k.k < length v.numbers.now = let test = c.loop-k-test.true in omega arith in
    let below : c.loop-k.k < side_of n * side_of n = omega arith in
    let one = ap length (vertices_from-step n v.leaves.now c.loop-k.k below
    (λ none. c.loop-k.invariant.number there
    (ap (λ xs. get_or xs c.loop-k.k 0) c.requires.view.vertex_numbers ∙ none))) in
    let before = c.loop-k.invariant.room in let same = c.loop-k.auto.out in let room = c.requires.room in
    omega arith

pub loop-k-preserved : goal.loop-k-preserved
loop-k-preserved c =
    let v = mesh_seen c.args.view.now in
    let n = v.wedges.now.n in
    let at = c.loop-k.at in let was = c.loop-k.out in
    let next = c.first_from-k-in-loop-k in
    let long = ap length c.requires.view.vertex_numbers ∙ length-numbers n v.leaves.now in
    let there : c.loop-k.k < length v.numbers.now = let test = c.loop-k-test.true in omega arith in
    let below : c.loop-k.k < side_of n * side_of n = omega arith in
    let inside = next.ensures.within in
    let passed = vertices_from-passed n v.leaves.now v.numbers.now c.requires.view.vertex_numbers
    (c.loop-k.k + 1) next.result next.ensures.later (omega arith) next.ensures.clear in
    let one = vertices_from-step n v.leaves.now c.loop-k.k below
    (λ none. c.loop-k.invariant.number there (ap (λ xs. get_or xs c.loop-k.k 0) c.requires.view.vertex_numbers ∙ none))
    ∙ ap (λ vs. place_point n c.loop-k.k ∷ vs) passed in
    let count = ap length one in
    let before = c.loop-k.invariant.room in
    let room : at + 3 ≤ length was = let same = c.loop-k.auto.out in let all = c.requires.room in omega arith in
    let three = position_of n v.wedges.now.heights v.spacing (place_point n c.loop-k.k) in
    let more = flat_map (position_of n v.wedges.now.heights v.spacing) (vertices_from n v.leaves.now next.result) in
    let whole = positions_of n v.wedges.now.heights v.spacing v.leaves.now in
    record {
      within = next.ensures.within;
      number = next.ensures.number;
      room = omega arith;
      so_far = so_far-written c.args.out.now was c.write_position.new.out three more whole at refl room
          c.write_position.ensures
          (ap (λ vs. take at was ++ flat_map (position_of n v.wedges.now.heights v.spacing) vs) (sym one)
          ∙ c.loop-k.invariant.so_far);
      rest = rest-written c.args.out.now was c.write_position.new.out three more whole at refl room
          c.write_position.ensures c.loop-k.invariant.rest;
    }

pub returns : goal.returns
returns c =
    let v = mesh_seen c.args.view.now in
    let n = v.wedges.now.n in
    let long = ap length c.requires.view.vertex_numbers ∙ length-numbers n v.leaves.now in
    let beyond : side_of n * side_of n ≤ c.loop-k.k = let test = c.loop-k-test.false in omega arith in
    let none = vertices_from-end n v.leaves.now c.loop-k.k beyond in
    let count = ap length none in
    let before = c.loop-k.invariant.room in
    all-written c.args.out.now c.loop-k.out (positions_of n v.wedges.now.heights v.spacing v.leaves.now)
    c.loop-k.at (3 * length (vertices_of n v.leaves.now))
    (omega arith)
    (ap (λ vs. take c.loop-k.at c.loop-k.out ++ flat_map (position_of n v.wedges.now.heights v.spacing) vs) (sym none)
    ∙ c.loop-k.invariant.so_far)
    c.loop-k.invariant.rest

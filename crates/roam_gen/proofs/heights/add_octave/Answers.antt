use Rattle.std.proofs.Common.{◌≡◌, ℕ, ◌+◌, ◌/◌, ◌^◌, ◌<◌, length, get_or, ◌∙◌, ap, arith, below_more, rules}
use Rattle.std.specs.Prelude.{slice_set, ◌≢◌}
use Rattle.std.proofs.Math.Nat.{le_refl}
use Rattle.std.proofs.lemmas.List.{get_or-set_same, get_or-set_other, length-set}
use Rattle.roam_gen.specs.Generated.{octaves}
use Rattle.roam_gen.specs.Rows.{cell_at}
use Rattle.roam_gen.proofs.OctaveLemmas.{octave-added}
use Rattle.roam_gen.proofs.heights.add_octave.Goals as goal

pub overflow_add-height : goal.overflow_add-height
overflow_add-height c =
    let k = c.args.k in
    let x = c.loop-x.x in
    let here : x < length c.loop-x.row = omega (arith, c.loop-x-test.true, c.loop-x.auto.row) in
    let cell =
    c.moved_to-cell.ensures.value ∙ ap (λ b. cell_at b (x / 2 ^ k) (c.args.y / 2 ^ k)) c.base_of-base.ensures in
    let added = octave-added k c.args.n c.args.seed x c.args.y (get_or c.loop-x.row x 0) c.part.result c.requires.octave
    (c.loop-x.invariant.left x (le_refl x) here) (c.part.ensures.value c.args.seed cell) in
    omega (arith, added.1)

pub loop-x-preserved : goal.loop-x-preserved
loop-x-preserved c =
    let k = c.args.k in
    let x = c.loop-x.x in
    let here : x < length c.loop-x.row = omega (arith, c.loop-x-test.true, c.loop-x.auto.row) in
    let cell =
    c.moved_to-cell.ensures.value ∙ ap (λ b. cell_at b (x / 2 ^ k) (c.args.y / 2 ^ k)) c.base_of-base.ensures in
    let height : ℕ = get_or c.loop-x.row x 0 + c.part.result in
    let added = octave-added k c.args.n c.args.seed x c.args.y (get_or c.loop-x.row x 0) c.part.result c.requires.octave
    (c.loop-x.invariant.left x (le_refl x) here) (c.part.ensures.value c.args.seed cell) in
    record {
      done = below_more (λ i.
          get_or (slice_set c.loop-x.row x height) i 0 ≡ octaves (k + 1) c.args.n c.args.seed i c.args.y) x
          (λ i below.
          let other : i ≢ x = (λ e. omega arith) in
          get_or-set_other c.loop-x.row x i height 0 other ∙ c.loop-x.invariant.done i below)
          (get_or-set_same c.loop-x.row x height 0 here ∙ added.0);
      left = λ i above below. let other : i ≢ x = (λ e. omega arith) in
          get_or-set_other c.loop-x.row x i height 0 other
          ∙ c.loop-x.invariant.left i (omega arith) (omega (arith, below, length-set c.loop-x.row x height));
      cell = search rules;
      small = c.moved_to-cell.ensures.small;
    }

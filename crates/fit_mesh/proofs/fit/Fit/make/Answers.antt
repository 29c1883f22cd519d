-- The two halves of the square, with the numbers of their corners.
use Rattle.std.proofs.Common.{◌≡◌, ℕ, ◌+◌, ◌*◌, ◌^◌, ◌<◌, ◌≤◌, List, length, ap, sym, subst, ◌∙◌, arith}
use Rattle.std.specs.Prelude.{All}
use Rattle.std.proofs.lemmas.List.{length-replicate}
use Rattle.mesh_defs.specs.HeightField.{side_of}
use Rattle.mesh_defs.specs.Triangle.{level_of}
use Rattle.obj_write.specs.Numbers.{numbers_of}
use Rattle.fit_mesh.proofs.fit.Fit.make.Goals as goal

pub number-requires-clause-levels : goal.number-requires-clause-levels
number-requires-clause-levels c =
    subst (λ k. All (λ a. level_of a ≤ 2 * k) c.leaves.result.now) c.in_ok-set.ensures.n c.leaves.ensures.levels

pub invariant_of-result : goal.invariant_of-result
invariant_of-result c =
    let same : c.in_ok-set.set.n ≡ c.args.n = c.in_ok-set.ensures.n in
    record {
      n_low = (let low = c.requires.in_grid.0 in omega arith);
      n_high = (let high = c.requires.in_grid.1 in omega arith);
      budget_low = c.requires.some;
      conforming = c.leaves.ensures.listed.conforming;
      places = c.number.ensures.places ∙ ap (λ (l : List ℕ). length l) c.in_ok-numbers.ensures ∙ length-replicate _ _
          ∙ ap (λ k. side_of k * side_of k) (sym same);
      numbered = c.number.ensures.numbers ∙ ap (λ (l : List ℕ). numbers_of c.args.n l) c.leaves.ensures.value
          ∙ ap (λ k. numbers_of k c.in_ok-set.set.leaves) (sym same);
      waiting = λ small. (let e = c.waiting_room.ensures.bound (subst (λ k. c.args.budget < 2 ^ (2 * k + 1)) same small) in
          let k = c.in_ok-heap.ensures.capacity in omega arith);
    }

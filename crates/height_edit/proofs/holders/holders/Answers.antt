use Rattle.std.proofs.Common.{◌≡◌, ℕ, ◌*◌, ◌<◌, ◌≤◌, List, ◌++◌, length, All, ◌∙◌, ap, sym, subst, arith}
use Rattle.mesh_defs.specs.Triangle.{level_of}
use Rattle.mesh_defs.specs.BoundingBox.{point}
use Rattle.height_edit.specs.Weights.{offspring}
use Rattle.height_edit.proofs.HolderLemmas.{TurnLaws, turn-laws, IsFound-bases, IsFound-next, IsFound-all, next-few}
use Rattle.height_edit.proofs.HolderLemmas.{level-coarse, room-next}
use Rattle.height_edit.proofs.holders.holders.Goals as goal

pub loop-depth-init : goal.loop-depth-init
loop-depth-init c = IsFound-bases c.args.n (point c.args.x c.args.y) c.bases-level.result.items c.append.new.all.items
    c.bases-level.ensures
    (c.append.ensures ∙ ap (λ t. t ++ c.as_slice.result.now) c.new-all.ensures ∙ c.as_slice.ensures.value)

pub children-level-requires-clause-splittable : goal.children-level-requires-clause-splittable
children-level-requires-clause-splittable c =
    let P : List ℕ → Type 0 = λ xs. All (λ a. level_of a < 2 * c.args.n) xs in
    subst P (sym c.as_slice-in-loop-depth.ensures.value)
    (level-coarse c.level_laws.ensures.below c.args.n (point c.args.x c.args.y) c.loop-depth._depth
    c.loop-depth.level.items c.loop-depth.all.items c.loop-depth-test.true c.loop-depth.invariant)

pub children-level-requires-clause-room : goal.children-level-requires-clause-room
children-level-requires-clause-room c =
    let laws : TurnLaws = turn-laws c.level_laws.ensures.below c.edit_laws.ensures.children
    c.corner_laws.ensures.left c.corner_laws.ensures.right c.corner_laws.ensures.even in
    let P : List ℕ → Type 0 = λ xs. length (offspring c.args.n (point c.args.x c.args.y) xs) ≤ 8 in
    subst P (sym c.as_slice-in-loop-depth.ensures.value)
    (next-few laws c.level_laws.ensures.below c.args.n (point c.args.x c.args.y) c.loop-depth._depth
    c.loop-depth.level.items c.loop-depth.all.items c.loop-depth-test.true c.loop-depth.invariant)

pub append-requires-in-loop-depth : goal.append-requires-in-loop-depth
append-requires-in-loop-depth c =
    let laws : TurnLaws = turn-laws c.level_laws.ensures.below c.edit_laws.ensures.children
    c.corner_laws.ensures.left c.corner_laws.ensures.right c.corner_laws.ensures.even in
    let few : length (offspring c.args.n (point c.args.x c.args.y) c.loop-depth.level.items) ≤ 8 =
    next-few laws c.level_laws.ensures.below c.args.n (point c.args.x c.args.y) c.loop-depth._depth
    c.loop-depth.level.items c.loop-depth.all.items c.loop-depth-test.true c.loop-depth.invariant in
    let is : c.as_slice-in-loop-depth-2.result.now
    ≡ offspring c.args.n (point c.args.x c.args.y) c.loop-depth.level.items =
    c.as_slice-in-loop-depth-2.ensures.value ∙ c.children-level.ensures
    ∙ ap (λ xs. offspring c.args.n (point c.args.x c.args.y) xs) c.as_slice-in-loop-depth.ensures.value in
    let P : List ℕ → Type 0 = λ xs. length xs ≤ 8 in
    record {
      room = room-next c.loop-depth._depth c.args.n c.loop-depth.all.items c.as_slice-in-loop-depth-2.result.now
          c.loop-depth-test.true c.requires.in_grid.1 c.loop-depth.invariant.few (subst P (sym is) few);
    }

pub loop-depth-preserved : goal.loop-depth-preserved
loop-depth-preserved c =
    let laws : TurnLaws = turn-laws c.level_laws.ensures.below c.edit_laws.ensures.children
    c.corner_laws.ensures.left c.corner_laws.ensures.right c.corner_laws.ensures.even in
    IsFound-next laws c.level_laws.ensures.below c.args.n (point c.args.x c.args.y) c.loop-depth._depth
    c.loop-depth.level.items c.loop-depth.all.items c.children-level.result.items c.append-in-loop-depth.new.all.items
    c.loop-depth-test.true c.loop-depth.invariant
    (c.children-level.ensures
    ∙ ap (λ xs. offspring c.args.n (point c.args.x c.args.y) xs) c.as_slice-in-loop-depth.ensures.value)
    (c.append-in-loop-depth.ensures ∙ ap (λ t. c.loop-depth.all.items ++ t) c.as_slice-in-loop-depth-2.ensures.value)

pub returns : goal.returns
returns c =
    IsFound-all c.args.n (point c.args.x c.args.y) c.loop-depth._depth c.loop-depth.level.items c.loop-depth.all.items
    (let last : c.loop-depth._depth ≡ 2 * c.args.n =
    omega (arith, c.loop-depth-test.false, c.loop-depth.auto._depth-end) in
    last)
    c.loop-depth.invariant

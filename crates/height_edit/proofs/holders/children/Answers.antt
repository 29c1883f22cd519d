use Rattle.std.proofs.Common.{◌≡◌, ◌*◌, take, slice_index_or, ◌++◌, ap, sym, ◌∙◌}
use Rattle.mesh_defs.specs.BoundingBox.{point}
use Rattle.height_edit.specs.Holders.{held_from}
use Rattle.height_edit.specs.Weights.{offspring}
use Rattle.height_edit.proofs.HolderLemmas.{offspring-take, children-fit, child-high, same-entry}
use Rattle.height_edit.proofs.holders.children.Goals as goal
use Rattle.height_edit.proofs.holders.children.Goals.{After-number}

-- the number is that of the entry
entry : (c : After-number) → c.number.result ≡ slice_index_or c.args.level.now c.loop-i.i 0
entry c =
    c.number.ensures.value ∙ c.index-level-i.is
    ∙ same-entry c.args.level.now c.loop-i.i c.index-level-i.result 0 c.loop-i-test.true

pub push_pair-requires-clause-high : goal.push_pair-requires-clause-high
push_pair-requires-clause-high c =
    child-high c.level_laws.ensures.below c.args.n c.args.level.now c.loop-i.i c.number.result c.number.ensures.low
    (entry c) c.loop-i-test.true c.requires.splittable

pub push_pair-requires-clause-room : goal.push_pair-requires-clause-room
push_pair-requires-clause-room c =
    children-fit c.args.n (point c.args.x c.args.y) c.args.level.now c.loop-i.i c.number.result c.loop-i.held.items
    (entry c) c.loop-i-test.true c.loop-i.invariant c.requires.room

pub loop-i-preserved : goal.loop-i-preserved
loop-i-preserved c =
    let at : c.number.result ≡ slice_index_or c.args.level.now c.loop-i.i 0 =
    c.number.ensures.value ∙ c.index-level-i.is
    ∙ same-entry c.args.level.now c.loop-i.i c.index-level-i.result 0 c.loop-i-test.true in
    c.push_pair.ensures
    ∙ ap (λ t. t ++ held_from c.args.n (point c.args.x c.args.y) (2 * c.number.result) 2) c.loop-i.invariant
    ∙ ap (λ a. offspring c.args.n (point c.args.x c.args.y) (take c.loop-i.i c.args.level.now) ++ held_from c.args.n
    (point c.args.x c.args.y) (2 * a) 2) at
    ∙ sym (offspring-take c.args.n (point c.args.x c.args.y) c.args.level.now c.loop-i.i c.loop-i-test.true)

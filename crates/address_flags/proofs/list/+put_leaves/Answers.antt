-- The leaves of a member are those of its left child, and behind them those of its right child.
use Rattle.std.proofs.Common.{◌≤◌, ◌≡◌, true, ◌+◌, ◌-◌, ◌*◌, ◌++◌, length, take, length-append, append_assoc, ap, ap₂}
use Rattle.std.proofs.Common.{sym, ◌∙◌, arith}
use Rattle.mesh_defs.specs.ClosedSet.{leaves_under}
use Rattle.mesh_laws.specs.Sweep.{is_flagged}
use Rattle.mesh_laws.proofs.LeafLemmas.{leaves_under-split}
use Rattle.address_flags.proofs.list.+put_leaves.Goals as goal

pub put_leaves-requires : goal.put_leaves-requires
put_leaves-requires t c =
    let has = is_flagged c.args.flags.now in
    let d = c.decreases in
    let some : 1 ≤ c.args.levels = omega (arith, c.if-levels-eq0.false) in
    let member : has c.args.t ≡ true = sym c.is_set.ensures.value ∙ c.if-not-is_set.false in
    let left = ap (λ a. length (leaves_under (c.args.levels - 1) has a)) c.left.ensures.value in
    let right = ap (λ a. length (leaves_under (c.args.levels - 1) has a)) c.right.ensures.value in
    let whole = ap length (leaves_under-split c.args.levels has c.args.t some member)
    ∙ length-append (leaves_under (c.args.levels - 1) has (2 * c.args.t))
    (leaves_under (c.args.levels - 1) has (2 * c.args.t + 1)) in
    let count = c.put_leaves-between.ensures.count in
    let same = c.put_leaves-between.auto.list in
    let deep = c.requires.deep in
    let level = c.right.ensures.level in
    let room = c.requires.room in
    (omega arith, (omega arith, omega arith))

pub returns-clause-listed : goal.returns-clause-listed
returns-clause-listed t c =
    let has = is_flagged c.args.flags.now in
    let some : 1 ≤ c.args.levels = omega (arith, c.if-levels-eq0.false) in
    let member : has c.args.t ≡ true = sym c.is_set.ensures.value ∙ c.if-not-is_set.false in
    let before = take c.args.count c.args.list.now in
    let left = ap (leaves_under (c.args.levels - 1) has) c.left.ensures.value in
    let right = ap (leaves_under (c.args.levels - 1) has) c.right.ensures.value in
    c.put_leaves.ensures.listed
    ∙ ap₂ (λ x y. x ++ y) (c.put_leaves-between.ensures.listed ∙ ap (λ x. before ++ x) left) right
    ∙ append_assoc before (leaves_under (c.args.levels - 1) has (2 * c.args.t))
    (leaves_under (c.args.levels - 1) has (2 * c.args.t + 1))
    ∙ ap (λ x. before ++ x) (sym (leaves_under-split c.args.levels has c.args.t some member))

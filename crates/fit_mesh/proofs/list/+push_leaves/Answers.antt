-- The leaves of a member are those of its left child, and behind them those of its right child.
use Rattle.std.proofs.Common.{◌≤◌, ◌≡◌, true, ◌+◌, ◌-◌, ◌*◌, ◌++◌, length, length-append, append_assoc, ap, ap₂}
use Rattle.std.proofs.Common.{sym, ◌∙◌, arith}
use Rattle.mesh_defs.specs.ClosedSet.{leaves_under}
use Rattle.mesh_laws.specs.Sweep.{is_flagged}
use Rattle.mesh_laws.proofs.LeafLemmas.{leaves_under-split}
use Rattle.fit_mesh.proofs.list.+push_leaves.Goals as goal

pub push_leaves-requires : goal.push_leaves-requires
push_leaves-requires t c =
    let has = is_flagged c.args.flags.now in
    let d = c.decreases in
    let some : 1 ≤ c.args.levels = omega (arith, c.if-levels-eq0.false) in
    let member : has c.args.t ≡ true = sym c.is_set.ensures.value ∙ c.if-not-is_set.false in
    let left = ap (λ a. length (leaves_under (c.args.levels - 1) has a)) c.left.ensures.value in
    let whole = ap length (leaves_under-split c.args.levels has c.args.t some member)
    ∙ length-append (leaves_under (c.args.levels - 1) has (2 * c.args.t))
    (leaves_under (c.args.levels - 1) has (2 * c.args.t + 1)) in
    let deep = c.requires.deep in
    let level = c.left.ensures.level in
    let room = c.requires.room in
    (omega arith, (omega arith, omega arith))

pub push_leaves-requires-2 : goal.push_leaves-requires-2
push_leaves-requires-2 t c =
    let has = is_flagged c.args.flags.now in
    let d = c.decreases in
    let some : 1 ≤ c.args.levels = omega (arith, c.if-levels-eq0.false) in
    let member : has c.args.t ≡ true = sym c.is_set.ensures.value ∙ c.if-not-is_set.false in
    let left = ap (λ a. length (leaves_under (c.args.levels - 1) has a)) c.left.ensures.value in
    let right = ap (λ a. length (leaves_under (c.args.levels - 1) has a)) c.right.ensures.value in
    let whole = ap length (leaves_under-split c.args.levels has c.args.t some member)
    ∙ length-append (leaves_under (c.args.levels - 1) has (2 * c.args.t))
    (leaves_under (c.args.levels - 1) has (2 * c.args.t + 1)) in
    let listed = ap length c.push_leaves.ensures.listed
    ∙ length-append c.args.list.now.items (leaves_under (c.args.levels - 1) has c.left.result) in
    let same = c.push_leaves.ensures.capacity in
    let deep = c.requires.deep in
    let level = c.right.ensures.level in
    let room = c.requires.room in
    (omega arith, (omega arith, omega arith))

pub returns-clause-listed : goal.returns-clause-listed
returns-clause-listed t c =
    let has = is_flagged c.args.flags.now in
    let some : 1 ≤ c.args.levels = omega (arith, c.if-levels-eq0.false) in
    let member : has c.args.t ≡ true = sym c.is_set.ensures.value ∙ c.if-not-is_set.false in
    let before = c.args.list.now.items in
    let left = ap (leaves_under (c.args.levels - 1) has) c.left.ensures.value in
    let right = ap (leaves_under (c.args.levels - 1) has) c.right.ensures.value in
    c.push_leaves-2.ensures.listed
    ∙ ap₂ (λ x y. x ++ y) (c.push_leaves.ensures.listed ∙ ap (λ x. before ++ x) left) right
    ∙ append_assoc before (leaves_under (c.args.levels - 1) has (2 * c.args.t))
    (leaves_under (c.args.levels - 1) has (2 * c.args.t + 1))
    ∙ ap (λ x. before ++ x) (sym (leaves_under-split c.args.levels has c.args.t some member))

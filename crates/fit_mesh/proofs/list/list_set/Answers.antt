-- The leaves below 2, and then those below 3; there is room for all.
use Rattle.std.proofs.Common.{ℕ, ◌*◌, ◌++◌, List, length, length-append, sym, ◌∙◌, ap, arith}
use Rattle.mesh_defs.specs.ClosedSet.{leaves_under}
use Rattle.bintree_laws.proofs.LevelLemmas.{level_of-root}
use Rattle.mesh_laws.specs.Sweep.{is_flagged}
use Rattle.fit_mesh.proofs.SplitLemmas.{leaves-fit, leaves-halves}
use Rattle.fit_mesh.proofs.list.list_set.Goals as goal

pub push_leaves-requires-clause-deep : goal.push_leaves-requires-clause-deep
push_leaves-requires-clause-deep c =
    let level = level_of-root 2 (omega arith) (omega arith) in
    let n_high = c.requires.in_grid in
    omega arith

pub push_leaves-requires-2-clause-deep : goal.push_leaves-requires-2-clause-deep
push_leaves-requires-2-clause-deep c =
    let level = level_of-root 3 (omega arith) (omega arith) in
    let n_high = c.requires.in_grid in
    omega arith

pub push_leaves-requires-clause-room : goal.push_leaves-requires-clause-room
push_leaves-requires-clause-room c =
    let has = is_flagged c.args.flags.now in
    let all = ap length (leaves-halves c.args.n has) ∙ length-append (leaves_under (2 * c.args.n) has 2)
    (leaves_under (2 * c.args.n) has 3) in
    let most = leaves-fit c.args.n has in
    let empty = ap length c.clear.ensures.items in
    let same = c.clear.ensures.capacity in
    let room = c.requires.room in
    omega arith

pub push_leaves-requires-2-clause-room : goal.push_leaves-requires-2-clause-room
push_leaves-requires-2-clause-room c =
    let has = is_flagged c.args.flags.now in
    let all = ap length (leaves-halves c.args.n has) ∙ length-append (leaves_under (2 * c.args.n) has 2)
    (leaves_under (2 * c.args.n) has 3) in
    let most = leaves-fit c.args.n has in
    let listed = ap length c.push_leaves.ensures.listed
    ∙ length-append c.clear.new.self.items (leaves_under (2 * c.args.n) has 2) in
    let empty = ap length c.clear.ensures.items in
    let same = c.clear.ensures.capacity in
    let later = c.push_leaves.ensures.capacity in
    let room = c.requires.room in
    omega arith

pub returns-clause-listed : goal.returns-clause-listed
returns-clause-listed c =
    let has = is_flagged c.args.flags.now in
    c.push_leaves-2.ensures.listed
    ∙ ap (λ (l : List ℕ). l ++ leaves_under (2 * c.args.n) has 3)
    (c.push_leaves.ensures.listed ∙ ap (λ (l : List ℕ). l ++ leaves_under (2 * c.args.n) has 2) c.clear.ensures.items)
    ∙ sym (leaves-halves c.args.n has)

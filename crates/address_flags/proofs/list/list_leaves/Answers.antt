-- The leaves below 2, and then those below 3; there is room for all.
use Rattle.std.proofs.Common.{ℕ, ◌*◌, ◌≤◌, List, [], All, sym, ◌∙◌, subst, arith}
use Rattle.std.proofs.lemmas.List.Elements.{All-weaker}
use Rattle.mesh_defs.specs.Triangle.{level_of, IsAddress}
use Rattle.mesh_defs.specs.ClosedSet.{leaves_of}
use Rattle.bintree_laws.proofs.LevelLemmas.{level_of-root, level-le}
use Rattle.mesh_laws.specs.Sweep.{is_flagged}
use Rattle.mesh_laws.proofs.DescentLemmas.{append-leaves_of, IsAddress-leaves_of}
use Rattle.address_flags.proofs.LeafListLemmas.{leaves-room, leaves-halves, leaves-base}
use Rattle.address_flags.proofs.list.list_leaves.Goals as goal

pub put_leaves-between-requires-clause-deep : goal.put_leaves-between-requires-clause-deep
put_leaves-between-requires-clause-deep c =
    let level = level_of-root 2 (omega arith) (omega arith) in
    let n_high = c.requires.in_grid in
    omega arith

pub put_leaves-requires-clause-deep : goal.put_leaves-requires-clause-deep
put_leaves-requires-clause-deep c =
    let level = level_of-root 3 (omega arith) (omega arith) in
    let n_high = c.requires.in_grid in
    omega arith

pub put_leaves-between-requires-clause-room : goal.put_leaves-between-requires-clause-room
put_leaves-between-requires-clause-room c =
    let has = is_flagged c.args.flags.now in
    let all = leaves-halves c.args.n has in
    let most = leaves-room c.args.n has in
    let room = c.requires.room in
    omega arith

pub put_leaves-requires-clause-room : goal.put_leaves-requires-clause-room
put_leaves-requires-clause-room c =
    let has = is_flagged c.args.flags.now in
    let count = c.put_leaves-between.ensures.count in let same = c.put_leaves-between.auto.list in
    let all = leaves-halves c.args.n has in
    let most = leaves-room c.args.n has in
    let room = c.requires.room in
    omega arith

pub returns-clause-listed : goal.returns-clause-listed
returns-clause-listed c =
    append-leaves_of c.args.n (is_flagged c.args.flags.now) [] _ _
    c.put_leaves-between.ensures.listed c.put_leaves.ensures.listed

pub returns-clause-levels : goal.returns-clause-levels
returns-clause-levels c =
    let n = c.args.n in
    let has = is_flagged c.args.flags.now in
    subst (λ (l : List ℕ). All (λ a. level_of a ≤ 2 * n) l) (sym (returns-clause-listed c))
    (All-weaker (IsAddress n) (λ a. level_of a ≤ 2 * n) (level-le n) (leaves_of n has) (IsAddress-leaves_of n has))

pub returns-clause-base : goal.returns-clause-base
returns-clause-base c none = returns-clause-listed c ∙ leaves-base c.args.n (is_flagged c.args.flags.now) none

pub returns-clause-count : goal.returns-clause-count
returns-clause-count c =
    let has = is_flagged c.args.flags.now in
    let count = c.put_leaves-between.ensures.count in let next = c.put_leaves.ensures.count in
    let all = leaves-halves c.args.n has in omega arith

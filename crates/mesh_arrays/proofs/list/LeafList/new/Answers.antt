use Rattle.std.proofs.Common.{◌≡◌, ℕ, ◌*◌, ◌++◌, length, sym, ◌∙◌, ap, arith, length-append}
use Rattle.mesh_defs.specs.ClosedSet.{leaves_under}
use Rattle.mesh_laws.specs.Slots.{address_at, split_set}
use Rattle.mesh_arrays.specs.Walk.{WalkState}
use Rattle.mesh_arrays.proofs.SlotLemmas.{halves_of}
use Rattle.mesh_arrays.proofs.list.LeafList.new.Goals as goal

pub put_under-requires-clause-level : goal.put_under-requires-clause-level
put_under-requires-clause-level c =
    let halves = halves_of c.args.pool.now.n c.args.pool.now.pairs c.n-levels.result c.requires.root
    c.n-levels.ensures.value in
    halves.lower_level

pub put_under-requires-clause-room : goal.put_under-requires-clause-room
put_under-requires-clause-room c =
    let halves = halves_of c.args.pool.now.n c.args.pool.now.pairs c.n-levels.result c.requires.root
    c.n-levels.ensures.value in
    let none = ap length c.in_ok-walk.ensures.leaves in
    let most = c.in_ok-walk.ensures.most in
    let count = halves.count in
    omega arith

pub put_under-requires-2-clause-level : goal.put_under-requires-2-clause-level
put_under-requires-2-clause-level c =
    let halves = halves_of c.args.pool.now.n c.args.pool.now.pairs c.n-levels.result c.requires.root
    c.n-levels.ensures.value in
    halves.upper_level

pub put_under-requires-2-clause-room : goal.put_under-requires-2-clause-room
put_under-requires-2-clause-room c =
    let halves = halves_of c.args.pool.now.n c.args.pool.now.pairs c.n-levels.result c.requires.root
    c.n-levels.ensures.value in
    let none = ap length c.in_ok-walk.ensures.leaves in
    let most = c.in_ok-walk.ensures.most in
    let count = halves.count in
    rw c.put_under.ensures (simp length-append (omega arith))

pub returns-clause-leaves : goal.returns-clause-leaves
returns-clause-leaves c =
    let pairs = c.args.pool.now.pairs in
    let halves = halves_of c.args.pool.now.n pairs c.n-levels.result c.requires.root c.n-levels.ensures.value in
    let under = λ (a : ℕ). leaves_under (2 * c.n-levels.result) (split_set pairs) (address_at pairs a) in
    ap (λ (z : WalkState). z.leaves) (c.in_ok-new.ensures.ok ∙ c.forget.ensures)
    ∙ ap (λ (z : WalkState). z.leaves) c.put_under-2.ensures
    ∙ ap (λ xs. xs ++ under 1) (ap (λ (z : WalkState). z.leaves) c.put_under.ensures
    ∙ ap (λ xs. xs ++ under 0) c.in_ok-walk.ensures.leaves)
    ∙ sym halves.list

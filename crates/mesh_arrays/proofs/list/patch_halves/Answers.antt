use Rattle.std.proofs.Common.{◌≡◌, ◌*◌, length, sym, ◌∙◌, ap, subst, arith, length-append}
use Rattle.mesh_defs.specs.ClosedSet.{leaves_under}
use Rattle.mesh_laws.specs.Slots.{address_at, split_set}
use Rattle.mesh_arrays.specs.Walk.{WalkState, IsReady, IsPatched}
use Rattle.mesh_arrays.proofs.SlotLemmas.{halves_of}
use Rattle.mesh_arrays.proofs.PatchLemmas.{ready_lower, ready_upper, halves_leaves, halves_change}
use Rattle.mesh_arrays.proofs.list.patch_halves.Goals as goal

pub patch_under-requires-clause-level : goal.patch_under-requires-clause-level
patch_under-requires-clause-level c =
    let halves = halves_of c.args.pool.now.n c.args.pool.now.pairs c.n-levels.result c.requires.root
    c.n-levels.ensures.value in
    halves.lower_level

pub patch_under-requires-clause-ready : goal.patch_under-requires-clause-ready
patch_under-requires-clause-ready c =
    let pairs = c.args.pool.now.pairs in
    let halves = halves_of c.args.pool.now.n pairs c.n-levels.result c.requires.root c.n-levels.ensures.value in
    let w : WalkState = c.args.walk.now in
    subst (λ a. IsReady pairs w.touched (2 * c.n-levels.result) a w.rest) (sym halves.lower)
    (ready_lower c.args.pool.now.n pairs
    (2 * c.n-levels.result) w c.n-levels.ensures.valid.n_high halves.all c.requires.before)

pub patch_under-requires-clause-room : goal.patch_under-requires-clause-room
patch_under-requires-clause-room c =
    let halves = halves_of c.args.pool.now.n c.args.pool.now.pairs c.n-levels.result c.requires.root
    c.n-levels.ensures.value in
    let none = ap length c.requires.before.none in
    let count = halves.count in
    omega arith

pub patch_under-requires-2-clause-level : goal.patch_under-requires-2-clause-level
patch_under-requires-2-clause-level c =
    let halves = halves_of c.args.pool.now.n c.args.pool.now.pairs c.n-levels.result c.requires.root
    c.n-levels.ensures.value in
    halves.upper_level

pub patch_under-requires-2-clause-ready : goal.patch_under-requires-2-clause-ready
patch_under-requires-2-clause-ready c =
    let pairs = c.args.pool.now.pairs in
    let halves = halves_of c.args.pool.now.n pairs c.n-levels.result c.requires.root c.n-levels.ensures.value in
    let w : WalkState = c.args.walk.now in
    let middle : WalkState = c.patch_under.new.walk in
    let one = subst (λ a. IsPatched (leaves_under (2 * c.n-levels.result) (split_set pairs) a) a w middle) halves.lower
    c.patch_under.ensures in
    subst (λ a. IsReady pairs middle.touched (2 * c.n-levels.result) a middle.rest) (sym halves.upper)
    (ready_upper c.args.pool.now.n pairs
    (2 * c.n-levels.result) w c.n-levels.ensures.valid.n_high halves.all c.requires.before middle one)

pub patch_under-requires-2-clause-room : goal.patch_under-requires-2-clause-room
patch_under-requires-2-clause-room c =
    let pairs = c.args.pool.now.pairs in
    let halves = halves_of c.args.pool.now.n pairs c.n-levels.result c.requires.root c.n-levels.ensures.value in
    let none = ap length c.requires.before.none in
    let count = halves.count in
    let written = ap length c.patch_under.ensures.leaves
    ∙ length-append c.args.walk.now.leaves
    (leaves_under (2 * c.n-levels.result) (split_set pairs) (address_at pairs 0)) in
    let most = c.patch_under.ensures.most in
    omega arith

pub returns-clause-leaves : goal.returns-clause-leaves
returns-clause-leaves c =
    let pairs = c.args.pool.now.pairs in
    let halves = halves_of c.args.pool.now.n pairs c.n-levels.result c.requires.root c.n-levels.ensures.value in
    let w : WalkState = c.args.walk.now in
    let middle : WalkState = c.patch_under.new.walk in
    let after : WalkState = c.patch_under-2.new.walk in
    let one = subst (λ a. IsPatched (leaves_under (2 * c.n-levels.result) (split_set pairs) a) a w middle) halves.lower
    c.patch_under.ensures in
    let two = subst (λ a. IsPatched (leaves_under (2 * c.n-levels.result) (split_set pairs) a) a middle after)
    halves.upper c.patch_under-2.ensures in
    halves_leaves c.args.pool.now.n pairs
    (2 * c.n-levels.result) w c.n-levels.ensures.valid.n_high halves.all c.requires.before middle after one two

pub returns-clause-change : goal.returns-clause-change
returns-clause-change c =
    let pairs = c.args.pool.now.pairs in
    let halves = halves_of c.args.pool.now.n pairs c.n-levels.result c.requires.root c.n-levels.ensures.value in
    let w : WalkState = c.args.walk.now in
    let middle : WalkState = c.patch_under.new.walk in
    let after : WalkState = c.patch_under-2.new.walk in
    let one = subst (λ a. IsPatched (leaves_under (2 * c.n-levels.result) (split_set pairs) a) a w middle) halves.lower
    c.patch_under.ensures in
    let two = subst (λ a. IsPatched (leaves_under (2 * c.n-levels.result) (split_set pairs) a) a middle after)
    halves.upper c.patch_under-2.ensures in
    halves_change c.args.pool.now.n pairs
    (2 * c.n-levels.result) w c.n-levels.ensures.valid.n_high halves.all c.requires.before middle after one two

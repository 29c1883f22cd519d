use Rattle.std.proofs.Common.{Contains, subst, sym, arith}
use Rattle.mesh_defs.specs.Triangle.{IsSplittable}
use Rattle.mesh_defs.specs.ClosedSet.{leaves_of, among}
use Rattle.mesh_defs.specs.GridSet.{IsGain}
use Rattle.deferred_loop.specs.Choice.{IsNextSplit, IsNextMerge}
use Rattle.deferred_loop.specs.declared.queued.Located.{Located}
use Rattle.deferred_loop.proofs.ChoiceLemmas.{first_splittable, leaves_small, fits_split, room_merge, end_blocked}
use Rattle.deferred_loop.proofs.ChoiceLemmas.{leaves_here}
use Rattle.deferred_loop.proofs.HeadLemmas.{grid_set_here}
use Rattle.deferred_loop.proofs.choice.choose_with.Goals as goal

pub gain-requires-clause-leaf : goal.gain-requires-clause-leaf
gain-requires-clause-leaf g c =
    let s = g.M.QueuedMesh.seen c.args.mesh.now in
    subst (λ (t : Located). Contains (leaves_of s.set.n (among s.set.members)) t.tri) (sym c.leaf.ensures)
    (subst (λ z. Contains (leaves_of z (among s.set.members)) c.args.first.now.rank.tri) (sym c.requires.1.1.1.1.0.grid)
    c.requires.1.1.1.1.1.1.1.0.first.leaf)

pub gain-requires-clause-splittable : goal.gain-requires-clause-splittable
gain-requires-clause-splittable g c =
    let s = g.M.QueuedMesh.seen c.args.mesh.now in
    subst (λ (t : Located). IsSplittable s.set.n t.tri) (sym c.leaf.ensures)
    (subst (λ z. IsSplittable z c.args.first.now.rank.tri) (sym c.requires.1.1.1.1.0.grid)
    (first_splittable g.w.n g.w.priority c.requires.1.1.0.falling g.w.budget c.requires.1.1.0.low s.set.members
    c.requires.1.1.1.1.0.valid c.args.first.now.rank c.requires.1.1.1.1.1.1.1.0))

pub overflow_add-need : goal.overflow_add-need
overflow_add-need g c =
    let s = g.M.QueuedMesh.seen c.args.mesh.now in
    omega (
      arith,
      c.leaf_count.ensures,
      c.gain.ensures.small,
      leaves_small s.set.n s.set.members (grid_set_here g.w s c.requires.1.1.1.1.0),
    )

pub returns-then-need-budget-clause-next : goal.returns-then-need-budget-clause-next
returns-then-need-budget-clause-next g c =
    let s = g.M.QueuedMesh.seen c.args.mesh.now in
    let settled = c.requires.1.1.1.1.0 in
    let gain = subst (λ z. IsGain z s.set.members c.args.first.now.rank.tri c.gain.result) settled.grid
    (subst (λ (t : Located). IsGain s.set.n s.set.members t.tri c.gain.result) c.leaf.ensures c.gain.ensures.gain) in
    let budget = c.requires.1.1.1.1.1.0 in
    let most = c.if-need-budget.true in
    subst (λ (t : Located). IsNextSplit g.w.n g.w.budget g.w.priority s.set.members t.tri)
    (sym c.leaf-then-need-budget.ensures)
    (fits_split g.w.n g.w.priority c.requires.1.1.0.falling g.w.budget c.requires.1.1.0.low s.set.members settled.valid
    c.args.first.now.rank c.gain.result
    c.requires.1.1.1.1.1.1.0 c.requires.1.1.1.1.1.1.1.0 gain
    (omega (arith, budget, most, leaves_here g.w s settled c.leaf_count.result c.leaf_count.ensures)))

pub returns-in-Some-clause-next : goal.returns-in-Some-clause-next
returns-in-Some-clause-next g c =
    let s = g.M.QueuedMesh.seen c.args.mesh.now in
    let settled = c.requires.1.1.1.1.0 in
    let gain = subst (λ z. IsGain z s.set.members c.args.first.now.rank.tri c.gain.result) settled.grid
    (subst (λ (t : Located). IsGain s.set.n s.set.members t.tri c.gain.result) c.leaf.ensures c.gain.ensures.gain) in
    let budget = c.requires.1.1.1.1.1.0 in
    let more = c.if-need-budget.false in
    subst (λ (t : Located). IsNextMerge g.w.n g.w.budget g.w.priority s.set.members t.tri) (sym c.diamond.ensures)
    (room_merge g.w.n g.w.priority c.requires.1.1.0.falling g.w.budget c.requires.1.1.0.low s.set.members settled.valid
    c.args.first.now.rank c.in-Some.d.rank c.gain.result
    c.requires.1.1.1.1.1.1.0 c.requires.1.1.1.1.1.1.1.0 gain
    (omega (arith, budget, more, leaves_here g.w s settled c.leaf_count.result c.leaf_count.ensures))
    c.in-Some.ensures.last.0 c.in-Some.ensures.last.1)

pub returns-in-None-clause-next : goal.returns-in-None-clause-next
returns-in-None-clause-next g c =
    let s = g.M.QueuedMesh.seen c.args.mesh.now in
    let settled = c.requires.1.1.1.1.0 in
    let gain = subst (λ z. IsGain z s.set.members c.args.first.now.rank.tri c.gain.result) settled.grid
    (subst (λ (t : Located). IsGain s.set.n s.set.members t.tri c.gain.result) c.leaf.ensures c.gain.ensures.gain) in
    let budget = c.requires.1.1.1.1.1.0 in
    let more = c.if-need-budget.false in
    end_blocked g.w.n g.w.priority c.requires.1.1.0.falling g.w.budget c.requires.1.1.0.low s.set.members settled.valid
    c.leaf_count.result (leaves_here g.w s settled c.leaf_count.result c.leaf_count.ensures)
    c.args.first.now.rank c.gain.result
    c.requires.1.1.1.1.1.1.0 c.requires.1.1.1.1.1.1.1.0 gain
    (omega (arith, budget, more, leaves_here g.w s settled c.leaf_count.result c.leaf_count.ensures))
    c.in-None.ensures.last

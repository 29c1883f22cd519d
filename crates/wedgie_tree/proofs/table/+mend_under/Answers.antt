use Rattle.std.proofs.Common.{ℕ, ◌^◌, ◌+◌, ◌-◌, ◌<◌, ◌≤◌, sym, subst, arith, slice_index_or, set}
use Rattle.mesh_defs.specs.Triangle.{level_of}
use Rattle.wedgie_tree.specs.Table.{IsWedge, kept_levels}
use Rattle.wedgie_tree.proofs.PlaceLemmas.{IsWithin-of}
use Rattle.wedgie_tree.proofs.AreaLemmas.{address_laws}
use Rattle.wedgie_tree.proofs.MendLemmas.{IsClearOf-apart, AllUnder-clear, IsRightOff-kept}
use Rattle.wedgie_tree.specs.Edits.{IsClearOf}
use Rattle.wedgie_tree.proofs.TableLemmas.{AllUnder-filled, HasEntry-set}
use Rattle.bintree_laws.proofs.CornerLemmas.{IsWithin-largest}
use Rattle.wedgie_tree.proofs.table.+mend_under.Goals as goal

pub child_corners-requires : goal.child_corners-requires
child_corners-requires t c = record {
  within = IsWithin-largest c.args.grid.now.n c.args.corners (c.n.ensures.valid).n_high
      (IsWithin-of c.corner_laws.ensures.within c.args.grid.now.n c.args.tri c.args.corners c.requires.of_tri);
}

pub child_corners-requires-2 : goal.child_corners-requires-2
child_corners-requires-2 t c = record {
  within = IsWithin-largest c.args.grid.now.n c.args.corners (c.n.ensures.valid).n_high
      (IsWithin-of c.corner_laws.ensures.within c.args.grid.now.n c.args.tri c.args.corners c.requires.of_tri);
}

pub returns-clause-under : goal.returns-clause-under
returns-clause-under t c =
    let low : 2 ≤ c.args.tri = omega arith in
    let coarse : level_of c.args.tri < kept_levels c.args.grid.now.n = omega arith in
    let place : c.args.tri < 2 ^ (kept_levels c.args.grid.now.n + 1) =
    (c.level_laws.ensures.below c.args.tri (kept_levels c.args.grid.now.n) low).0 coarse in
    AllUnder-filled c.args.grid.now (kept_levels c.args.grid.now.n) c.args.tri c.left.result c.right.result
    c.number-2.result c.mend_under-left.new.table
    c.mend_under-right.new.table c.joined-wedge.result c.left.ensures.value c.right.ensures.value c.left.ensures.level
    c.right.ensures.level coarse c.mend_under-left.ensures.under c.mend_under-right.ensures.others
    c.mend_under-right.ensures.under
    c.number-2.ensures.value (omega arith) c.joined-wedge.ensures

pub returns-clause-others : goal.returns-clause-others
returns-clause-others t c =
    let low : 2 ≤ c.args.tri = omega arith in
    let place : c.args.tri < 2 ^ (kept_levels c.args.grid.now.n + 1) =
    (c.level_laws.ensures.below c.args.tri (kept_levels c.args.grid.now.n) low).0 (omega arith) in
    let wedge : IsWedge c.args.grid.now c.number-2.result c.joined-wedge.result =
    rw c.number-2.ensures.value c.joined-wedge.ensures in
    λ a has. HasEntry-set c.args.grid.now c.mend_under-right.new.table c.number-2.result
    c.joined-wedge.result (omega arith)
    wedge a (c.mend_under-right.ensures.others a (c.mend_under-left.ensures.others a has))

-- a triangle that is left out holds no point of the area
is_clear : (t : ℕ) (c : goal.After-result-1 t) → IsClearOf c.args.grid.now.n c.args.area c.args.tri
is_clear t c = IsClearOf-apart address_laws c.args.grid.now.n c.args.tri c.args.area c.args.corners c.requires.of_tri
    (omega arith) (omega arith) (λ meets. let met = c.meets.ensures.1 meets in absurd (cc (met, c.if-not-meets.true)))

pub returns-then-not-meets-clause-value : goal.returns-then-not-meets-clause-value
returns-then-not-meets-clause-value t c =
    let coarse : level_of c.args.tri < kept_levels c.args.grid.now.n = omega arith in
    let Own : ℕ → Type 0 = λ i. IsWedge c.args.grid.now c.args.tri (slice_index_or c.args.table.now i
    record { thickness = 0; low = 0; high = 0 }) in
    subst Own (sym c.number.ensures.value)
    (c.requires.clear c.args.tri (record { low = omega arith; coarse = coarse }) (is_clear t c)
    (record { thickness = 0; low = 0; high = 0 }))

pub returns-then-not-meets-clause-under : goal.returns-then-not-meets-clause-under
returns-then-not-meets-clause-under t c =
    AllUnder-clear address_laws c.args.grid.now c.args.area c.args.table.now c.requires.clear
    (kept_levels c.args.grid.now.n - level_of c.args.tri) c.args.tri (omega arith) (omega arith) (is_clear t c)

pub returns-clause-clear : goal.returns-clause-clear
returns-clause-clear t c =
    IsRightOff-kept c.args.grid.now c.args.area c.args.table.now
    (set c.mend_under-right.new.table c.number-2.result c.joined-wedge.result)
    (returns-clause-others t c) c.requires.clear

pub slice_copy_out-result : goal.slice_copy_out-result
slice_copy_out-result t c =
    let low : 2 ≤ c.args.tri = omega arith in
    let place : c.args.tri < 2 ^ (kept_levels c.args.grid.now.n + 1) =
    (c.level_laws.ensures.below c.args.tri (kept_levels c.args.grid.now.n) low).0 (omega arith) in
    omega arith

pub bounds-table-number : goal.bounds-table-number
bounds-table-number t c =
    let low : 2 ≤ c.args.tri = omega arith in
    let place : c.args.tri < 2 ^ (kept_levels c.args.grid.now.n + 1) =
    (c.level_laws.ensures.below c.args.tri (kept_levels c.args.grid.now.n) low).0 (omega arith) in
    omega arith

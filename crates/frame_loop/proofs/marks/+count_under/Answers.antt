use Rattle.std.proofs.Common.{◌≡◌, ◌*◌, ◌≤◌, ap, subst, sym, ◌∙◌, refl, arith}
use Rattle.mesh_defs.specs.Triangle.{level_of}
use Rattle.mesh_defs.specs.declared.mark.Mark.TheVariants.{Inside, Outside}
use Rattle.mesh_laws.specs.Slots.{address_at, has_children, split_set}
use Rattle.mesh_laws.proofs.DescentLemmas.{IsDown}
use Rattle.frame_loop.specs.Turn.{mark_under}
use Rattle.frame_loop.proofs.LeafListLemmas.{when_some, children_below, leaf_at}
use Rattle.frame_loop.proofs.InheritLemmas.{IsPassedOn, HasMarks-append, HasMarks-few, HasMarks-below, HasMarks-leaf}
use Rattle.frame_loop.proofs.marks.+count_under.Goals as goal

pub mark-own-requires : goal.mark-own-requires
mark-own-requires t c =
    let level = c.requires.level in
    let n = c.requires.n in
    record {
      level =
          subst (λ z. level_of z ≤ 2 * c.args.outlook.now.grid.n) (sym c.tri.ensures.value) (omega (arith, level, n));
    }

pub count_under-lower-requires : goal.count_under-lower-requires
count_under-lower-requires t c =
    let pairs = c.args.pool.now.pairs in
    let split = when_some (has_children pairs (address_at pairs c.args.s.0)) c.in-Some.ensures.none.1 in
    let below = children_below c.args.pool.now.n pairs c.args.levels c.args.s.0 c.in-Some.left.0 c.in-Some.right.0
    c.n-n.ensures.valid c.requires.live c.requires.level split c.in-Some.ensures.some.0 c.in-Some.ensures.some.1 in
    (omega arith, (below.left_live, (below.left_level, (c.requires.n, omega arith))))

pub count_under-upper-requires : goal.count_under-upper-requires
count_under-upper-requires t c =
    let pairs = c.args.pool.now.pairs in
    let split = when_some (has_children pairs (address_at pairs c.args.s.0)) c.in-Some.ensures.none.1 in
    let below = children_below c.args.pool.now.n pairs c.args.levels c.args.s.0 c.in-Some.left.0 c.in-Some.right.0
    c.n-n.ensures.valid c.requires.live c.requires.level split c.in-Some.ensures.some.0 c.in-Some.ensures.some.1 in
    (omega arith, (below.right_live, (below.right_level, (c.requires.n, omega arith))))

pub returns-in-Some : goal.returns-in-Some
returns-in-Some t c =
    let pairs = c.args.pool.now.pairs in
    let split = when_some (has_children pairs (address_at pairs c.args.s.0)) c.in-Some.ensures.none.1 in
    let below = children_below c.args.pool.now.n pairs c.args.levels c.args.s.0 c.in-Some.left.0 c.in-Some.right.0
    c.n-n.ensures.valid c.requires.live c.requires.level split c.in-Some.ensures.some.0 c.in-Some.ensures.some.1 in
    rw c.plus.ensures (HasMarks-append c.args.outlook.now _ _ _ _ _ _ _ _ _ c.count_under-lower.ensures
    c.count_under-upper.ensures below.list)

pub plus-requires-clause-inside : goal.plus-requires-clause-inside
plus-requires-clause-inside t c =
    let pairs = c.args.pool.now.pairs in
    let split = when_some (has_children pairs (address_at pairs c.args.s.0)) c.in-Some.ensures.none.1 in
    let below = children_below c.args.pool.now.n pairs c.args.levels c.args.s.0 c.in-Some.left.0 c.in-Some.right.0
    c.n-n.ensures.valid c.requires.live c.requires.level split c.in-Some.ensures.some.0 c.in-Some.ensures.some.1 in
    let lower = (HasMarks-few c.args.outlook.now _ _ _ _ c.count_under-lower.ensures).0 in
    let upper = (HasMarks-few c.args.outlook.now _ _ _ _ c.count_under-upper.ensures).0 in
    omega arith

pub plus-requires-clause-cut : goal.plus-requires-clause-cut
plus-requires-clause-cut t c =
    let pairs = c.args.pool.now.pairs in
    let split = when_some (has_children pairs (address_at pairs c.args.s.0)) c.in-Some.ensures.none.1 in
    let below = children_below c.args.pool.now.n pairs c.args.levels c.args.s.0 c.in-Some.left.0 c.in-Some.right.0
    c.n-n.ensures.valid c.requires.live c.requires.level split c.in-Some.ensures.some.0 c.in-Some.ensures.some.1 in
    let lower = (HasMarks-few c.args.outlook.now _ _ _ _ c.count_under-lower.ensures).1.0 in
    let upper = (HasMarks-few c.args.outlook.now _ _ _ _ c.count_under-upper.ensures).1.0 in
    omega arith

pub plus-requires-clause-outside : goal.plus-requires-clause-outside
plus-requires-clause-outside t c =
    let pairs = c.args.pool.now.pairs in
    let split = when_some (has_children pairs (address_at pairs c.args.s.0)) c.in-Some.ensures.none.1 in
    let below = children_below c.args.pool.now.n pairs c.args.levels c.args.s.0 c.in-Some.left.0 c.in-Some.right.0
    c.n-n.ensures.valid c.requires.live c.requires.level split c.in-Some.ensures.some.0 c.in-Some.ensures.some.1 in
    let lower = (HasMarks-few c.args.outlook.now _ _ _ _ c.count_under-lower.ensures).1.1 in
    let upper = (HasMarks-few c.args.outlook.now _ _ _ _ c.count_under-upper.ensures).1.1 in
    omega arith

pub returns-in-None : goal.returns-in-None
returns-in-None t c =
    let pairs = c.args.pool.now.pairs in
    let alone = leaf_at pairs c.args.levels c.args.s.0 (c.in-None.ensures.none.0 refl) in
    rw c.all.ensures (HasMarks-leaf c.args.outlook.now c.mark-own.result _ (address_at pairs c.args.s.0) alone
    (ap (mark_under c.args.outlook.now c.args.outlook.now.view.planes) (sym c.tri.ensures.value)
    ∙ sym c.mark-own.ensures))

pub returns-in-Inside : goal.returns-in-Inside
returns-in-Inside t c =
    let o = c.args.outlook.now in
    let laws = c.view_laws.ensures in
    let passes : IsPassedOn o.grid.n (mark_under o o.view.planes) Inside = record {
      left = laws.inside_left o.grid.n o.grid.heights o.view.spacing o.view.planes;
      right = laws.inside_right o.grid.n o.grid.heights o.view.spacing o.view.planes;
    } in
    let a = address_at c.args.pool.now.pairs c.args.s.0 in
    let level = c.requires.level in
    let n = c.requires.n in
    let down : IsDown o.grid.n c.args.levels a = record { low = c.requires.live; height = omega (arith, level, n) } in
    let own : mark_under o o.view.planes a ≡ Inside =
    ap (mark_under o o.view.planes) (sym c.tri.ensures.value) ∙ sym c.mark-own.ensures ∙ c.in-Inside.is in
    rw (c.all-in-Inside.ensures, c.in-Inside.is) (HasMarks-below o Inside passes
    (split_set c.args.pool.now.pairs) c.args.levels a c.count_leaves.result down own c.count_leaves.ensures)

pub returns-in-Outside : goal.returns-in-Outside
returns-in-Outside t c =
    let o = c.args.outlook.now in
    let laws = c.view_laws.ensures in
    let passes : IsPassedOn o.grid.n (mark_under o o.view.planes) Outside = record {
      left = laws.outside_left o.grid.n o.grid.heights o.view.spacing o.view.planes;
      right = laws.outside_right o.grid.n o.grid.heights o.view.spacing o.view.planes;
    } in
    let a = address_at c.args.pool.now.pairs c.args.s.0 in
    let level = c.requires.level in
    let n = c.requires.n in
    let down : IsDown o.grid.n c.args.levels a = record { low = c.requires.live; height = omega (arith, level, n) } in
    let own : mark_under o o.view.planes a ≡ Outside =
    ap (mark_under o o.view.planes) (sym c.tri.ensures.value) ∙ sym c.mark-own.ensures ∙ c.in-Outside.is in
    rw (c.all-in-Outside.ensures, c.in-Outside.is) (HasMarks-below o Outside passes (split_set c.args.pool.now.pairs)
    c.args.levels a c.count_leaves-in-Outside.result down own c.count_leaves-in-Outside.ensures)

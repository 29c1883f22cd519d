use Rattle.std.proofs.Common.{◌≡◌, ◌*◌, slice_index, ap, sym, ◌∙◌, arith}
use Rattle.std.proofs.lemmas.List.{nil_from_length}
use Rattle.mesh_defs.specs.ClosedSet.{leaves_of}
use Rattle.mesh_laws.specs.Slots.{address_at, split_set}
use Rattle.frame_loop.proofs.LeafListLemmas.{halves_of}
use Rattle.frame_loop.proofs.MarkLemmas.{marks_seen-inside, marks_seen-cut, marks_seen-outside}
use Rattle.frame_loop.proofs.InheritLemmas.{HasMarks-append, HasMarks-few}
use Rattle.frame_loop.proofs.marks.count_marks.Goals as goal

pub returns-then-len-eq0 : goal.returns-then-len-eq0
returns-then-len-eq0 c =
    let none = sym (ap (λ o. o.view.planes) c.outlook.view_is)
    ∙ nil_from_length c.outlook.inside.planes (sym c.len.ensures.value ∙ c.if-len-eq0.true) in
    let o = c.args.outlook.now in
    let leaves = leaves_of c.args.pool.now.n (split_set c.args.pool.now.pairs) in
    rw c.all.ensures (record {
      inside = c.leaf_count-leaves.ensures.leaves ∙ sym (marks_seen-inside o leaves none);
      cut = sym (marks_seen-cut o leaves none);
      outside = sym (marks_seen-outside o leaves none);
    })

pub count_under-lower-requires-clause-level : goal.count_under-lower-requires-clause-level
count_under-lower-requires-clause-level c =
    let pairs = c.args.pool.now.pairs in
    let root : slice_index pairs 0 ≡ 1 = c.requires.root in
    let first : address_at pairs 0 ≡ 2 = omega arith in
    let second : address_at pairs 1 ≡ 3 = omega arith in
    (halves_of c.args.pool.now.n pairs (2 * c.n-levels.result) first second
    (ap (λ n. 2 * n) c.n-levels.ensures.value)).lower_level

pub count_under-lower-requires-clause-short : goal.count_under-lower-requires-clause-short
count_under-lower-requires-clause-short c =
    let pairs = c.args.pool.now.pairs in
    let root : slice_index pairs 0 ≡ 1 = c.requires.root in
    let first : address_at pairs 0 ≡ 2 = omega arith in
    let second : address_at pairs 1 ≡ 3 = omega arith in
    let halves = halves_of c.args.pool.now.n pairs (2 * c.n-levels.result) first second
    (ap (λ n. 2 * n) c.n-levels.ensures.value) in
    let count = halves.count in
    let all = c.leaf_count-leaves.ensures.leaves in
    let most = c.leaf_count-leaves.ensures.value in
    let short = c.requires.short in
    omega (arith, count, all, most, short)

pub count_under-upper-requires-clause-level : goal.count_under-upper-requires-clause-level
count_under-upper-requires-clause-level c =
    let pairs = c.args.pool.now.pairs in
    let root : slice_index pairs 0 ≡ 1 = c.requires.root in
    let first : address_at pairs 0 ≡ 2 = omega arith in
    let second : address_at pairs 1 ≡ 3 = omega arith in
    (halves_of c.args.pool.now.n pairs (2 * c.n-levels.result) first second
    (ap (λ n. 2 * n) c.n-levels.ensures.value)).upper_level

pub count_under-upper-requires-clause-short : goal.count_under-upper-requires-clause-short
count_under-upper-requires-clause-short c =
    let pairs = c.args.pool.now.pairs in
    let root : slice_index pairs 0 ≡ 1 = c.requires.root in
    let first : address_at pairs 0 ≡ 2 = omega arith in
    let second : address_at pairs 1 ≡ 3 = omega arith in
    let halves = halves_of c.args.pool.now.n pairs (2 * c.n-levels.result) first second
    (ap (λ n. 2 * n) c.n-levels.ensures.value) in
    let count = halves.count in
    let all = c.leaf_count-leaves.ensures.leaves in
    let most = c.leaf_count-leaves.ensures.value in
    let short = c.requires.short in
    omega (arith, count, all, most, short)

pub plus-requires-clause-inside : goal.plus-requires-clause-inside
plus-requires-clause-inside c =
    let pairs = c.args.pool.now.pairs in
    let root : slice_index pairs 0 ≡ 1 = c.requires.root in
    let first : address_at pairs 0 ≡ 2 = omega arith in
    let second : address_at pairs 1 ≡ 3 = omega arith in
    let halves = halves_of c.args.pool.now.n pairs (2 * c.n-levels.result) first second
    (ap (λ n. 2 * n) c.n-levels.ensures.value) in
    let count = halves.count in
    let all = c.leaf_count-leaves.ensures.leaves in
    let most = c.leaf_count-leaves.ensures.value in
    let short = c.requires.short in
    let lower = (HasMarks-few c.args.outlook.now _ _ _ _ c.count_under-lower.ensures).0 in
    let upper = (HasMarks-few c.args.outlook.now _ _ _ _ c.count_under-upper.ensures).0 in
    omega (arith, count, all, most, short, lower, upper)

pub plus-requires-clause-cut : goal.plus-requires-clause-cut
plus-requires-clause-cut c =
    let pairs = c.args.pool.now.pairs in
    let root : slice_index pairs 0 ≡ 1 = c.requires.root in
    let first : address_at pairs 0 ≡ 2 = omega arith in
    let second : address_at pairs 1 ≡ 3 = omega arith in
    let halves = halves_of c.args.pool.now.n pairs (2 * c.n-levels.result) first second
    (ap (λ n. 2 * n) c.n-levels.ensures.value) in
    let count = halves.count in
    let all = c.leaf_count-leaves.ensures.leaves in
    let most = c.leaf_count-leaves.ensures.value in
    let short = c.requires.short in
    let lower = (HasMarks-few c.args.outlook.now _ _ _ _ c.count_under-lower.ensures).1.0 in
    let upper = (HasMarks-few c.args.outlook.now _ _ _ _ c.count_under-upper.ensures).1.0 in
    omega (arith, count, all, most, short, lower, upper)

pub plus-requires-clause-outside : goal.plus-requires-clause-outside
plus-requires-clause-outside c =
    let pairs = c.args.pool.now.pairs in
    let root : slice_index pairs 0 ≡ 1 = c.requires.root in
    let first : address_at pairs 0 ≡ 2 = omega arith in
    let second : address_at pairs 1 ≡ 3 = omega arith in
    let halves = halves_of c.args.pool.now.n pairs (2 * c.n-levels.result) first second
    (ap (λ n. 2 * n) c.n-levels.ensures.value) in
    let count = halves.count in
    let all = c.leaf_count-leaves.ensures.leaves in
    let most = c.leaf_count-leaves.ensures.value in
    let short = c.requires.short in
    let lower = (HasMarks-few c.args.outlook.now _ _ _ _ c.count_under-lower.ensures).1.1 in
    let upper = (HasMarks-few c.args.outlook.now _ _ _ _ c.count_under-upper.ensures).1.1 in
    omega (arith, count, all, most, short, lower, upper)

pub returns : goal.returns
returns c =
    let pairs = c.args.pool.now.pairs in
    let root : slice_index pairs 0 ≡ 1 = c.requires.root in
    let first : address_at pairs 0 ≡ 2 = omega arith in
    let second : address_at pairs 1 ≡ 3 = omega arith in
    let halves = halves_of c.args.pool.now.n pairs (2 * c.n-levels.result) first second
    (ap (λ n. 2 * n) c.n-levels.ensures.value) in
    rw c.plus.ensures (HasMarks-append c.args.outlook.now _ _ _ _ _ _ _ _ _ c.count_under-lower.ensures
    c.count_under-upper.ensures halves.list)

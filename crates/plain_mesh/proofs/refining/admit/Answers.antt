-- A grown set has fewer than 2 ^ 30 members, and two leaves more than members.
use Rattle.std.proofs.Common.{◌≡◌, ℕ, ◌+◌, ◌<◌, ◌≤◌, ◌^◌, List, length, ap, arith, rules}
use Rattle.mesh_defs.specs.ClosedSet.{leaves_of, among}
use Rattle.mesh_defs.specs.Greedy.{with_triangle}
use Rattle.mesh_defs.specs.GridSet.{IsGridSet, IsForced, IsGain}
use Rattle.mesh_laws.proofs.SizeLemmas.{length-grown, length-leaves_of}
use Rattle.mesh_laws.proofs.MemberLemmas.{ascending_unique}
use Rattle.mesh_laws.proofs.ClosureLemmas.{IsLeastClosed-unique}
use Rattle.plain_mesh.specs.Stop.{IsOver}
use Rattle.plain_mesh.proofs.refining.admit.Goals as goal

-- the size with the gain
grown_few : (n : ℕ) (members : List ℕ) (t gain : ℕ) → IsGridSet n members → IsGain n members t gain →
    length members + gain ≤ 2 ^ 30
grown_few n members t gain valid g =
    let few = length-grown n (with_triangle (among members) t) g.after valid.n_low valid.n_high
    g.forced.ascending g.forced.least in
    let grown = g.grown in omega arith

pub overflow_add-need : goal.overflow_add-need
overflow_add-need c =
    let few = grown_few c.args.split.now.n c.args.split.now.members c.args.t c.in_ok-need.field-0 c.size.ensures.valid
    c.in_ok-need.ensures.ok in
    search rules

pub overflow_add-need-2 : goal.overflow_add-need-2
overflow_add-need-2 c =
    let few = grown_few c.args.split.now.n c.args.split.now.members c.args.t c.in_ok-need.field-0 c.size.ensures.valid
    c.in_ok-need.ensures.ok in
    search rules

-- the leaves of the set with the triangle
grown_leaves : (n : ℕ) (members : List ℕ) (t : ℕ) (after : List ℕ) → IsForced n members t after →
    length (leaves_of n (among after)) ≡ length after + 2
grown_leaves n members t after f = length-leaves_of n after f.ascending f.least.closed

-- more than the budget
is_over : (n budget : ℕ) (members : List ℕ) (t size gain : ℕ) → size ≡ length members → IsGain n members t gain →
    budget < size + gain + 2 →
    IsOver n budget members t (size + gain + 2)
is_over n budget members t size gain e g more = record {
  after = g.after;
  forced = g.forced;
  counted = let l = grown_leaves n members t g.after g.forced in let grown = g.grown in omega arith;
  over = more;
}

pub returns-then-need-budget-clause-over : goal.returns-then-need-budget-clause-over
returns-then-need-budget-clause-over c =
    is_over c.args.split.now.n c.args.budget c.args.split.now.members c.args.t c.size.result
    c.in_ok-need.field-0 c.size.ensures.value
    c.in_ok-need.ensures.ok c.if-need-budget.true

-- no more than the budget
fits : (n budget : ℕ) (members : List ℕ) (t size gain : ℕ) (after : List ℕ) → size ≡ length members →
    IsGain n members t gain →
    size + gain + 2 ≤ budget → IsForced n members t after → length (leaves_of n (among after)) ≤ budget
fits n budget members t size gain after e g less f =
    let l = grown_leaves n members t after f in
    let same : g.after ≡ after = ascending_unique g.after after g.forced.ascending f.ascending
    (IsLeastClosed-unique n (with_triangle (among members) t) (among g.after) (among after) g.forced.least f.least) in
    let k = ap length same in let grown = g.grown in omega arith

pub returns-clause-fits : goal.returns-clause-fits
returns-clause-fits c = λ none.
    fits c.args.split.now.n c.args.budget c.args.split.now.members c.args.t c.size.result c.in_ok-need.field-0
    c.split_forced.new.self.members
    c.size.ensures.value c.in_ok-need.ensures.ok c.if-need-budget.false c.in_ok-split_forced.ensures.ok

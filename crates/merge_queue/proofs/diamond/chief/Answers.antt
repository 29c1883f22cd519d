use Rattle.std.proofs.Common.{◌≡◌, ℕ, ◌≤◌, min, refl, sym, arith, ap, ◌∙◌, ⊎_elim}
use Rattle.std.proofs.lemmas.Bool.{true≢false, cases_lt}
use Rattle.mesh_laws.specs.Edge.{mate_of}
use Rattle.mesh_laws.specs.Chief.{chief_of}
use Rattle.mesh_laws.specs.Slots.{address_at, has_children}
use Rattle.mesh_laws.proofs.SlotLemmas.{member_mate}
use Rattle.mesh_laws.proofs.ChiefLemmas.{chief_of-alone, chief_of-mates}
use Rattle.merge_queue.proofs.ChiefLemmas.{mate_live, chief_same}
use Rattle.merge_queue.proofs.diamond.chief.Goals as goal
use Rattle.merge_queue.proofs.diamond.chief.Goals.{In-Some, After-number}

-- where the pool tells a slot across the base, the triangle has a mate
has_mate : (c : In-Some) → 1 ≤ mate_of (address_at c.args.pool.now.pairs c.args.s.0)
has_mate c = ⊎_elim
    (λ few. absurd (true≢false (c.in-Some.ensures.none.1 (omega arith))))
    (λ h. h) (cases_lt (mate_of (address_at c.args.pool.now.pairs c.args.s.0)) 1)

pub tri-requires-in-Some : goal.tri-requires-in-Some
tri-requires-in-Some c =
    let a : ℕ = address_at c.args.pool.now.pairs c.args.s.0 in
    let some = has_mate (goal.at.tri-requires-in-Some c).In-Some in
    record {
      live = mate_live c.args.pool.now.pairs c.args.s.0 c.in-Some.mate.0 c.requires.live some c.in-Some.ensures.some;
    }

pub returns-then-number-own-clause-split : goal.returns-then-number-own-clause-split
returns-then-number-own-clause-split c =
    let a : ℕ = address_at c.args.pool.now.pairs c.args.s.0 in
    let some = has_mate (goal.at.returns-then-number-own-clause-split c).In-Some in
    ap (has_children c.args.pool.now.pairs) c.in-Some.ensures.some ∙ member_mate c.args.pool.now.n c.args.pool.now.pairs
    a c.tri.ensures.valid c.requires.live c.requires.split some

-- the chief has the lesser of the two numbers
lesser : (c : After-number) → 1 ≤ mate_of (address_at c.args.pool.now.pairs c.args.s.0) →
    chief_of (address_at c.args.pool.now.pairs c.args.s.0) ≡ min c.number-own.result c.number.result
lesser c some =
    let least = chief_of-mates (address_at c.args.pool.now.pairs c.args.s.0) some in
    let mate = c.in-Some.ensures.some in
    let own = c.tri.ensures.value in let own_number = c.number-own.ensures.value in
    let other = c.tri-in-Some.ensures.value in let other_number = c.number.ensures.value in
    omega arith

pub returns-then-number-own-clause-same : goal.returns-then-number-own-clause-same
returns-then-number-own-clause-same c =
    let least = lesser (goal.at.returns-then-number-own-clause-same c).After-number
    (has_mate (goal.at.returns-then-number-own-clause-same c).In-Some) in
    chief_same c.args.pool.now.n c.args.pool.now.pairs c.args.s c.in-Some.mate c.tri.ensures.valid c.requires.live
    c.requires.split (omega arith)

pub returns-else-number-own-clause-same : goal.returns-else-number-own-clause-same
returns-else-number-own-clause-same c =
    let least = lesser (goal.at.returns-else-number-own-clause-same c).After-number
    (has_mate (goal.at.returns-else-number-own-clause-same c).In-Some) in
    chief_same c.args.pool.now.n c.args.pool.now.pairs c.args.s c.args.s c.tri.ensures.valid c.requires.live
    c.requires.split (omega arith)

pub returns-in-None-clause-same : goal.returns-in-None-clause-same
returns-in-None-clause-same c =
    let a : ℕ = address_at c.args.pool.now.pairs c.args.s.0 in
    let alone = chief_of-alone a (c.in-None.ensures.none.0 refl) in
    chief_same c.args.pool.now.n c.args.pool.now.pairs c.args.s c.args.s c.tri.ensures.valid c.requires.live
    c.requires.split (sym alone)

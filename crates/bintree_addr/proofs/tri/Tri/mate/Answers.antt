use Rattle.std.proofs.Common.{◌≡◌, ℕ, Option, Some, None, refl, arith}
use Rattle.mesh_defs.specs.Triangle.{level_of}
use Rattle.bintree_laws.specs.Pair.{IsPair}
use Rattle.bintree_laws.proofs.MateLemmas.{mate_answer, mate_no_answer, answer_off_border, no_answer_on_border}
use Rattle.bintree_addr.proofs.tri.Tri.mate.Goals as goal
use Rattle.bintree_addr.proofs.tri.Tri.mate.Goals.{In-Some, In-None}

is_pair : (c : In-Some) → IsPair (level_of c.args.self) c.args.self c.in-Some.number
is_pair c = rw c.self.view_is at ((c.in-Some.ensures.pair c.in-Some.number).0 refl)

has_no_pair : (c : In-None) (b : ℕ) → IsPair (level_of c.args.self) c.args.self b → ⊥
has_no_pair c b pair =
    let inside : IsPair (level_of c.self.inside.number) c.self.inside.number b = rw c.self.view_is pair in
    let none : ◌≡◌ {A = Option ℕ} None (Some b) = (c.in-None.ensures.pair b).1 inside in cc

pub returns-in-Some-clause-mate : goal.returns-in-Some-clause-mate
returns-in-Some-clause-mate c k = mate_answer c.args.n c.args.self c.in-Some.number (omega arith) (omega arith)
    (is_pair c) k

pub returns-in-Some-clause-border : goal.returns-in-Some-clause-border
returns-in-Some-clause-border c = answer_off_border c.args.n c.args.self c.in-Some.number (omega arith) (is_pair c)

pub returns-in-None-clause-mate : goal.returns-in-None-clause-mate
returns-in-None-clause-mate c k = mate_no_answer c.args.n c.args.self (omega arith) (omega arith) (has_no_pair c) k

pub returns-in-None-clause-border : goal.returns-in-None-clause-border
returns-in-None-clause-border c = no_answer_on_border c.args.n c.args.self (omega arith) (omega arith) (has_no_pair c)

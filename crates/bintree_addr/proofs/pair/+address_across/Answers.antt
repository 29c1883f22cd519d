use Rattle.std.proofs.Common.{◌≡◌, ℕ, ◌+◌, ◌-◌, ◌*◌, ◌%◌, Option, Some, None, refl, arith}
use Rattle.mesh_defs.specs.Triangle.{level_of}
use Rattle.bintree_laws.specs.Pair.{IsPair}
use Rattle.bintree_laws.proofs.PairLemmas.{IsPair-root, no_pair-first, IsPair-inner_first, IsPair-inner_last}
use Rattle.bintree_laws.proofs.PairLemmas.{IsPair-outer, no_pair-outer, pair_answer, pair_no_answer, pair_range}
use Rattle.bintree_addr.proofs.pair.+address_across.Goals as goal
use Rattle.bintree_addr.proofs.pair.+address_across.Goals.{In_ok-above-in_default-2}

pub returns-in-0-to-3-clause-pair : goal.returns-in-0-to-3-clause-pair
returns-in-0-to-3-clause-pair t c k =
    pair_answer c.args.number (5 - c.args.number) (IsPair-root c.args.number (omega arith) (omega arith)) k

pub returns-in-4-to-7-clause-pair : goal.returns-in-4-to-7-clause-pair
returns-in-4-to-7-clause-pair t c k =
    pair_no_answer c.args.number (λ b. no_pair-first c.args.number b (omega arith) (omega arith)) k

pub returns-in-0-clause-pair : goal.returns-in-0-clause-pair
returns-in-0-clause-pair t c k =
    pair_answer c.args.number (c.args.number + 3) (IsPair-inner_first c.args.number (omega arith) (omega arith)) k

pub returns-in-3-clause-pair : goal.returns-in-3-clause-pair
returns-in-3-clause-pair t c k =
    pair_answer c.args.number (c.args.number - 3) (IsPair-inner_last c.args.number (omega arith) (omega arith)) k

pub returns-in_err-above-in_default-2-clause-pair : goal.returns-in_err-above-in_default-2-clause-pair
returns-in_err-above-in_default-2-clause-pair t c k =
    rw c.from_residual.ensures
    (pair_no_answer c.args.number
    (λ b. no_pair-outer c.args.number b (omega arith) (λ (first : c.args.number % 4 ≡ 0). omega arith)
    (λ (last : c.args.number % 4 ≡ 3). omega arith)
    (λ d pair. let none : ◌≡◌ {A = Option ℕ} None (Some d) = (c.in_err-above-in_default-2.ensures.pair d).1 pair in cc))
    k)

is_pair : (t : ℕ) (c : In_ok-above-in_default-2 t) → IsPair (level_of c.args.number) c.args.number
    (4 * c.in_ok-above-in_default-2.above + 3 - c.args.number % 4)
is_pair t c =
    IsPair-outer c.args.number c.in_ok-above-in_default-2.above (omega arith)
    (λ (first : c.args.number % 4 ≡ 0). omega arith) (λ (last : c.args.number % 4 ≡ 3). omega arith)
    ((c.in_ok-above-in_default-2.ensures.pair c.in_ok-above-in_default-2.above).0 refl)

pub returns-in_ok-above-in_default-2-clause-pair : goal.returns-in_ok-above-in_default-2-clause-pair
returns-in_ok-above-in_default-2-clause-pair t c k =
    pair_answer c.args.number (4 * c.in_ok-above-in_default-2.above + 3 - c.args.number % 4) (is_pair t c) k

pub returns-in_ok-above-in_default-2-clause-range : goal.returns-in_ok-above-in_default-2-clause-range
returns-in_ok-above-in_default-2-clause-range t c =
    pair_range c.args.number (4 * c.in_ok-above-in_default-2.above + 3 - c.args.number % 4) (omega arith) (omega arith)
    (is_pair t c)

use Rattle.std.proofs.Common.{◌+◌, arith}
use Rattle.mesh_within.proofs.ColumnLemmas.{left-up, left-down}
use Rattle.mesh_within.proofs.columns.narrowed.Goals as goal

pub returns-then-p-q-clause-held : goal.returns-then-p-q-clause-held
returns-then-p-q-clause-held c = λ x.
    let law = left-down c.args.p c.args.q x c.args.y (c.product.result + c.product-2.result) (c.product-3.result + c.product-4.result)
    c.saturating_sub.result (omega arith) (omega arith) (omega arith) (omega arith) in (
      λ inside. (
        record { from = omega (arith, inside.from); before = inside.before },
        law.1 (omega (arith, inside.from)),
      ),
      λ both. record { from = omega (arith, both.0.from, law.0 both.1); before = both.0.before },
    )

pub returns-then-columns-most-clause-held : goal.returns-then-columns-most-clause-held
returns-then-columns-most-clause-held c = λ x.
    let law = left-up c.args.p c.args.q x c.args.y (c.product.result + c.product-2.result) (c.product-3.result + c.product-4.result)
    (omega arith) (omega arith) (omega arith) (omega arith) in
    (λ inside. (inside, law.1 (omega (arith, inside.before))), λ both. both.0)

pub returns-clause-held : goal.returns-clause-held
returns-clause-held c = λ x.
    let law = left-up c.args.p c.args.q x c.args.y (c.product.result + c.product-2.result) (c.product-3.result + c.product-4.result)
    (omega arith) (omega arith) (omega arith) (omega arith) in (
      λ inside. (
        record { from = inside.from; before = omega (arith, inside.before) },
        law.1 (omega (arith, inside.before)),
      ),
      λ both. record { from = both.0.from; before = omega (arith, law.0 both.1) },
    )

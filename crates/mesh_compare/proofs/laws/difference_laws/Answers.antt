use Rattle.std.proofs.Common.{◌∙◌, sym, ap}
use Rattle.mesh_compare.specs.Differs.{first_difference}
use Rattle.mesh_compare.proofs.LawLemmas.{differs-not, same-text, same-before, other-at}
use Rattle.mesh_compare.proofs.laws.difference_laws.Goals as goal

pub returns-clause-none : goal.returns-clause-none
returns-clause-none c text bytes =
    (same-text text bytes, λ same. ap (first_difference text) (sym same) ∙ differs-not text)

pub returns-clause-before : goal.returns-clause-before
returns-clause-before c = same-before

pub returns-clause-differs : goal.returns-clause-differs
returns-clause-differs c = other-at

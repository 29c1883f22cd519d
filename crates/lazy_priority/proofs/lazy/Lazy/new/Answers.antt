use Rattle.std.proofs.Common.{◌∙◌, ap₂, sym, subst, None, replicate}
use Rattle.list_laws.proofs.ZipLemmas.{zip2-replicate}
use Rattle.lazy_priority.specs.declared.deadlines.Deadline.TheVariants.{Absent}
use Rattle.lazy_priority.specs.Kept.{kept, from_key, IsSoundLazy}
use Rattle.lazy_priority.proofs.KeptLemmas.{IsSoundLazy-none}
use Rattle.lazy_priority.proofs.lazy.Lazy.new.Goals as goal

pub invariant_of-result : goal.invariant_of-result
invariant_of-result c =
    subst (λ l. IsSoundLazy l c.in_ok-new-2.field-0) (sym c.in_ok-new.ensures)
    (subst (IsSoundLazy (replicate c.args.slots None)) (sym c.in_ok-new-2.ensures) (IsSoundLazy-none c.args.slots))

pub returns : goal.returns
returns c = ap₂ kept c.in_ok-new.ensures c.in_ok-new-2.ensures ∙ zip2-replicate from_key c.args.slots Absent None

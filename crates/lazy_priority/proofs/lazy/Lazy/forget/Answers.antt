use Rattle.std.proofs.Common.{rules, None, slice_set, sym, ◌∙◌, ap, subst}
use Rattle.list_laws.proofs.ZipLemmas.{zip2-set_left}
use Rattle.lazy_priority.specs.declared.deadlines.Deadline.TheVariants.{Absent}
use Rattle.lazy_priority.specs.Kept.{kept, from_key, IsSoundLazy}
use Rattle.lazy_priority.proofs.KeptLemmas.{IsSoundLazy-deadline}
use Rattle.lazy_priority.proofs.lazy.Lazy.forget.Goals as goal

pub invariant_of-self : goal.invariant_of-self
invariant_of-self c =
    subst (IsSoundLazy c.self.inside.due_from) (sym c.clear.ensures)
    (IsSoundLazy-deadline c.self.inside.due_from c.self.inside.deadlines c.args.slot.0 Absent (search rules) c.self.invariant)

pub returns : goal.returns
returns c =
    ap (kept c.self.inside.due_from) c.clear.ensures
    ∙ zip2-set_left from_key c.self.inside.deadlines c.self.inside.due_from c.args.slot.0 Absent None
    ∙ ap (λ l. slice_set l c.args.slot.0 None) c.self.view_is

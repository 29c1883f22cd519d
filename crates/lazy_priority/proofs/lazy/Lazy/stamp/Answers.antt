use Rattle.std.proofs.Common.{rules, ◌+◌, Some, length, slice_set, sym, ◌∙◌, ap, subst, arith}
use Rattle.std.proofs.lemmas.Simd.{length-zip2}
use Rattle.list_laws.proofs.ZipLemmas.{zip2-set}
use Rattle.lazy_priority.specs.declared.deadlines.Deadline.TheVariants.{Stands}
use Rattle.lazy_priority.specs.Kept.{kept, from_key, IsSoundLazy}
use Rattle.lazy_priority.proofs.KeptLemmas.{IsSoundLazy-set}
use Rattle.lazy_priority.proofs.lazy.Lazy.stamp.Goals as goal

pub set-requires : goal.set-requires
set-requires c =
    let long = c.self.invariant.0 in
    let same = length-zip2 from_key c.self.inside.deadlines c.self.inside.due_from long in
    let seen = ap length c.self.view_is in
    let below = c.requires.in_range in
    omega (arith, same, seen, long)

pub keep-requires : goal.keep-requires
keep-requires c =
    let same = length-zip2 from_key c.self.inside.deadlines c.self.inside.due_from c.self.invariant.0 in
    let seen = ap length c.self.view_is in
    let below = c.requires.in_range in
    omega (arith, same, seen)

pub invariant_of-self : goal.invariant_of-self
invariant_of-self c =
    let keys = c.self.inside.due_from in
    let i = c.args.slot.0 in
    let due_from = c.args.odometer + c.args.slack + 1 in
    subst (λ l. IsSoundLazy l c.keep.new.self) (sym c.set.ensures)
    (subst (IsSoundLazy (slice_set keys i (Some due_from))) (sym c.keep.ensures)
    (IsSoundLazy-set keys c.self.inside.deadlines i (Some due_from) Stands (search rules) c.self.invariant))

pub returns : goal.returns
returns c =
    let keys = c.self.inside.due_from in
    let i = c.args.slot.0 in
    let due_from = c.args.odometer + c.args.slack + 1 in
    ap (λ l. kept l c.keep.new.self) c.set.ensures ∙ ap (kept (slice_set keys i (Some due_from))) c.keep.ensures
    ∙ zip2-set from_key c.self.inside.deadlines keys i Stands (Some due_from)
    ∙ ap (λ l. slice_set l i (Some due_from)) c.self.view_is

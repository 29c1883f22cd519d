use Rattle.std.proofs.Common.{rules, ◌≡◌, ℕ, List, Option, Some, None, option_map, slice_set, slice_index_or, refl, sym, ◌∙◌}
use Rattle.std.proofs.Common.{ap, subst, ◌⊎◌}
use Rattle.slot_heap.specs.Keys.{key_of}
use Rattle.list_laws.proofs.ZipLemmas.{zip2-set_left, zip2-set_right}
use Rattle.lazy_priority.specs.declared.deadlines.Deadline.TheVariants.{Absent, Stands, Expired}
use Rattle.lazy_priority.specs.Kept.{kept, HasKey, from_key, IsSoundLazy}
use Rattle.lazy_priority.proofs.KeptLemmas.{kept-expired, kept-no_expire}
use Rattle.lazy_priority.proofs.KeptLemmas.{IsSoundLazy-key, IsSoundLazy-deadline}
use Rattle.lazy_priority.proofs.lazy.Lazy.expire.Goals as goal

-- the deadlines of which one has expired
abbrev expired : List (Option ℕ) → ℕ → List (Option ℕ)
expired from i = slice_set from i (option_map {U = ℕ} (λ _. 0) (slice_index_or from i None))

pub rekey-requires : goal.rekey-requires
rekey-requires c = record {
  present = subst (λ d. HasKey d (key_of c.self.inside.due_from c.args.slot)) (sym c.get.ensures ∙ c.in-Stands.is)
      (c.self.invariant.1 c.args.slot);
}

pub invariant_of-self : goal.invariant_of-self
invariant_of-self c =
    let keys = c.self.inside.due_from in
    let deadlines = c.self.inside.deadlines in
    let i = c.args.slot.0 in
    let stands : slice_index_or deadlines i Absent ≡ Stands = sym c.get.ensures ∙ c.in-Stands.is in
    subst (λ l. IsSoundLazy l c.expire.new.self) (sym c.rekey.ensures)
    (subst (IsSoundLazy (slice_set keys i (Some 0))) (sym (c.if-not-expire.ensures.full refl))
    (IsSoundLazy-key keys deadlines i (Some 0) (subst (λ d. HasKey d (Some 0)) (sym stands) (search rules)) c.self.invariant))

pub invariant_of-self-else-not-expire : goal.invariant_of-self-else-not-expire
invariant_of-self-else-not-expire c =
    subst (IsSoundLazy c.self.inside.due_from) (sym (c.if-not-expire.ensures.noted refl))
    (IsSoundLazy-deadline c.self.inside.due_from c.self.inside.deadlines c.args.slot.0 Expired (search rules) c.self.invariant)

pub returns-then-not-expire : goal.returns-then-not-expire
returns-then-not-expire c =
    let keys = c.self.inside.due_from in
    let deadlines = c.self.inside.deadlines in
    let i = c.args.slot.0 in
    let stands : slice_index_or deadlines i Absent ≡ Stands = sym c.get.ensures ∙ c.in-Stands.is in
    let some = subst (λ d. HasKey d (key_of keys c.args.slot)) stands (c.self.invariant.1 c.args.slot) in
    ap (λ l. kept l c.expire.new.self) c.rekey.ensures
    ∙ ap (kept (slice_set keys i (Some 0))) (c.if-not-expire.ensures.full refl)
    ∙ zip2-set_right from_key deadlines keys i (Some 0) Absent
    ∙ ap (λ d. slice_set (kept keys deadlines) i (from_key d (Some 0))) stands
    ∙ kept-expired keys deadlines i c.self.invariant.0 stands some ∙ ap (λ l. expired l i) c.self.view_is

pub returns-else-not-expire : goal.returns-else-not-expire
returns-else-not-expire c =
    let keys = c.self.inside.due_from in
    let deadlines = c.self.inside.deadlines in
    let i = c.args.slot.0 in
    let stands : slice_index_or deadlines i Absent ≡ Stands = sym c.get.ensures ∙ c.in-Stands.is in
    let some = subst (λ d. HasKey d (key_of keys c.args.slot)) stands (c.self.invariant.1 c.args.slot) in
    ap (kept keys) (c.if-not-expire.ensures.noted refl)
    ∙ zip2-set_left from_key deadlines keys i Expired None
    ∙ kept-expired keys deadlines i c.self.invariant.0 stands some ∙ ap (λ l. expired l i) c.self.view_is

pub returns-in-Absent : goal.returns-in-Absent
returns-in-Absent c =
    let deadlines = c.self.inside.deadlines in
    subst (λ l. l ≡ expired l c.args.slot.0) c.self.view_is
    (kept-no_expire c.self.inside.due_from deadlines c.args.slot.0 c.self.invariant.0
    (subst (λ d. (d ≡ Absent) ⊎ (d ≡ Expired)) c.get.ensures c.in-Absent.is))

use Rattle.std.proofs.Common.{◌≡◌, true, refl, sym, ◌∙◌, ap, subst, slice_index_or}
use Rattle.std.proofs.lemmas.Bool.{both_ways}
use Rattle.std.proofs.lemmas.List.{get_or_read}
use Rattle.roam_mesh.specs.declared.entry.Entry.{Entry}
use Rattle.roam_mesh.specs.Parts.{PartsState, is_entry_at, blank}
use Rattle.roam_mesh.specs.Change.{taken_out}
use Rattle.roam_mesh.specs.contracts.parts.Parts.{the_view}
use Rattle.roam_mesh.proofs.PlacedLemmas.{whole_kept, entry_below}
use Rattle.roam_mesh.proofs.parts.Parts.leave.Goals as goal

pub invariant_of-self : goal.invariant_of-self
invariant_of-self c =
    let same : the_view c.self.inside ≡ taken_out c.args.self.now c.args.s.0 = c.self.view_is ∙ c.take_out.ensures in
    let entry : is_entry_at c.self.inside.pool.pairs c.args.s.0 ≡ true =
    subst (λ (q : PartsState). is_entry_at q.pool.pairs c.args.s.0 ≡ true) (sym same) c.requires.entry in
    let below = entry_below (the_view c.self.inside) c.args.s.0 c.self.invariant.0 entry in
    let was : c.index_mut.result.now ≡ slice_index_or c.self.inside.entries.items c.args.s.0 blank =
    get_or_read c.self.inside.entries.items c.args.s.0 c.index_mut.result.now below c.index_mut.ensures.value blank in (
      whole_kept (the_view c.self.inside) c.args.s.0 c.leave.new.self c.self.inside.split_queue
          c.self.inside.merge_queue c.self.inside.deadlines
          c.self.invariant.0 below refl refl refl
          (ap (λ (e : Entry). e.listed) c.leave.ensures ∙ ap (λ (e : Entry). e.listed) was)
          (ap (λ (e : Entry). e.fresh) c.leave.ensures ∙ ap (λ (e : Entry). e.fresh) was)
          (λ known. absurd (both_ways c.leave.new.self.known (ap (λ (e : Entry). e.known) c.leave.ensures) known)),
      c.self.invariant.1,
      c.self.invariant.2,
    )

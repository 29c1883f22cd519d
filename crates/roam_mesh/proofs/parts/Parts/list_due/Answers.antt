use Rattle.std.proofs.lemmas.Grind.{common_steps}
use Rattle.std.proofs.Common.{ℕ, List, Option, None, slice_set, set-set, ap, subst, ◌∙◌, arith}
use Rattle.lazy_priority.specs.Due.{IsDue}
use Rattle.roam_mesh.specs.Parts.{PartsState, parts_of}
use Rattle.roam_mesh.specs.Change.{taken_out, pushed, begun_at}
use Rattle.roam_mesh.proofs.parts.Parts.list_due.Goals as goal

pub returns-clause-some : goal.returns-clause-some
returns-clause-some c _ =
    let m = c.self.inside in
    let s = c.in-Some.s in
    let parts : PartsState = parts_of m.pool m.entries.items m.split_queue m.merge_queue m.deadlines m.asked.items
    m.asked_count m.fresh.items m.fresh_count in
    let out = c.take_out.ensures
    ∙ ap (λ (d : List (Option ℕ)). record (taken_out parts s.0)
    { due = slice_set d s.0 None }) c.in-Some.ensures.dropped
    ∙ ap (λ (d : List (Option ℕ)). record (taken_out parts s.0) { due = d }) (set-set m.deadlines s.0 None None) in (
      s,
      subst (λ (p : PartsState). IsDue p.due c.args.odometer s) c.self.view_is c.in-Some.ensures.due,
      c.push_fresh.ensures ∙ ap (λ (p : PartsState). pushed p s.0) out
          ∙ ap (λ (p : PartsState). begun_at p s.0) c.self.view_is,
    )

pub push_fresh-requires : goal.push_fresh-requires
push_fresh-requires c = grind (arith, common_steps)

use Rattle.std.proofs.Common.{◌≡◌, ◌+◌, ◌&&◌, not, false, List, Option, None, Some, option_map, ℕ, slice_index_or}
use Rattle.std.proofs.Common.{slice_set, get_or-set_same, set-set, sym, ◌∙◌, ap, ap₂}
use Rattle.std.proofs.lemmas.Bool.{cond-false, and_left, and_right, not_from_true}
use Rattle.roam_mesh.proofs.entry.Entry.renew.Goals as goal
use Rattle.roam_mesh.proofs.entry.Entry.renew.Goals.{else-self-via-then-self+else-not-self, else-self-via-else-self}

pub returns-else-self : goal.returns-else-self
returns-else-self c =
    let d = c.args.deadlines.now in
    let s = c.args.s.0 in
    let e = c.args.self.now in
    let key = ap (λ (l : List (Option ℕ)). slice_index_or l s None) c.stamp-else-self.ensures
    ∙ get_or-set_same d s (Some 1) None c.requires.place in
    let none : (e.stamped && not e.expired) ≡ false = elim c.else-self.branch [
      | else-self-via-then-self+else-not-self w ↦
          and_right e.stamped (not e.expired) (not_from_true e.expired w.if-not-self.false)
      | else-self-via-else-self w ↦ and_left e.stamped (not e.expired) w.if-self.false
    ] in
    c.expire.ensures ∙ ap₂ (λ (l : List (Option ℕ)) (k : Option ℕ).
    slice_set l s (option_map (λ _. 0) k)) c.stamp-else-self.ensures key ∙ set-set d s (Some 1) (Some 0)
    ∙ ap (λ (k : ℕ). slice_set d s (Some k))
    (sym (cond-false (e.stamped && not e.expired) (e.odometer + e.slack + 1) 0 none))

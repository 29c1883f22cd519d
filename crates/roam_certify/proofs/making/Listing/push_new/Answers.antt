-- It is left out, or it is listed and flagged.
use Rattle.std.proofs.Common.{false, inl, inr, sym, ◌∙◌, ap, get_or, arith}
use Rattle.mesh_laws.specs.Sweep.{is_flagged}
use Rattle.roam_certify.specs.declared.making.Listing.{Listing}
use Rattle.roam_certify.specs.Making.{left_out, listed}
use Rattle.roam_certify.proofs.making.Listing.push_new.Goals.{else-len-limit-via-then-len-limit+else-not-flags-number}
use Rattle.roam_certify.proofs.making.Listing.push_new.Goals.{else-len-limit-via-else-len-limit}
use Rattle.roam_certify.proofs.making.Listing.push_new.Goals as goal

pub returns-in_ok-push : goal.returns-in_ok-push
unfolding is_flagged
returns-in_ok-push c = record {
  pushed = listed (sym (ap (λ i. get_or c.args.self.now.flags.now i false) c.number.ensures.value) ∙ c.if-not-flags-number.true)
      (let less = c.if-len-limit.true in let same = c.len.ensures in omega arith)
      c.flag.ensures.room c.flag.ensures.added c.in_ok-push.ensures.items;
}

pub returns-else-len-limit : goal.returns-else-len-limit
unfolding is_flagged
returns-else-len-limit c = record {
  pushed = elim c.else-len-limit.branch [
    | else-len-limit-via-then-len-limit+else-not-flags-number w ↦
        left_out (inl (sym (ap (λ i. get_or c.args.self.now.flags.now i false) w.number.ensures.value)
        ∙ w.if-not-flags-number.false))
        (ap (λ (s : Listing). s.flags.now) w.self-is) (ap (λ (s : Listing). s.reasons.items) w.self-is)
    | else-len-limit-via-else-len-limit w ↦
        left_out (inr (let full = w.if-len-limit.false in let same = c.len.ensures in omega arith))
        (ap (λ (s : Listing). s.flags.now) w.self-is) (ap (λ (s : Listing). s.reasons.items) w.self-is)
  ];
}

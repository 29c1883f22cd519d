-- A finest triangle has no reason, and each test is the cause of its kind.
use Rattle.std.proofs.Common.{◌≡◌, ◌*◌, ◌≤◌, ◌↔◌, inl, inr, false, IsTrue, Some, refl, sym, ◌∙◌, subst, ⊎_elim, leb, arith, rules}
use Rattle.std.proofs.lemmas.Bool.{leb-true, le-leb, both_ways, false≢true}
use Rattle.mesh_laws.specs.Sweep.{is_flagged}
use Rattle.certificate_laws.specs.Certificate.{IsReason}
use Rattle.mesh_defs.specs.State.{priority_seen}
use Rattle.roam_certify.proofs.CheckingLemmas.{reason-old, reason-want, reason-parent, reason-mate, reason-no_mate}
use Rattle.roam_certify.proofs.checking.is_reason.Goals as goal

pub returns-then-level-n : goal.returns-then-level-n
returns-then-level-n c = record {
  value = (λ h. absurd (false≢true h), λ r. let coarse = r.splittable.coarse in absurd (omega arith));
}

pub returns-then-is_set : goal.returns-then-is_set
returns-then-is_set c = record {
  value = (
    (λ h. absurd (false≢true h)),
    (λ r. absurd (reason-old c.args.n (priority_seen c.args.scene.now) c.args.worst
        (is_flagged c.args.flags.now) c.args.t
        (search rules) c.args.kind
        (sym c.is_set.ensures.value ∙ c.if-is_set.true) r)),
  );
}

pub returns-then-is_set-2 : goal.returns-then-is_set-2
returns-then-is_set-2 c = record {
  value = subst (λ k. IsTrue c.is_set-in-Parent.result ↔
      IsReason c.args.n (priority_seen c.args.scene.now) c.args.worst (is_flagged c.args.flags.now)
      (record { kind = k; triangle = c.args.t })) (sym c.in-Parent.is)
      (reason-parent c.args.n (priority_seen c.args.scene.now) c.args.worst
      (is_flagged c.args.flags.now) c.args.t (search rules)
      c.is_set-in-Parent.result (sym c.is_set.ensures.value ∙ c.if-is_set.false) (
        (λ h. inl (subst (λ z. IsTrue (is_flagged c.args.flags.now z)) c.left.ensures.value
            (sym c.is_set-in-Parent.ensures.value ∙ h))),
        (λ w. c.if-is_set-2.true),
      ));
}

pub returns-else-is_set-2 : goal.returns-else-is_set-2
returns-else-is_set-2 c = record {
  value = subst (λ k. IsTrue c.is_set-else-is_set-2.result ↔
      IsReason c.args.n (priority_seen c.args.scene.now) c.args.worst (is_flagged c.args.flags.now)
      (record { kind = k; triangle = c.args.t })) (sym c.in-Parent.is)
      (reason-parent c.args.n (priority_seen c.args.scene.now) c.args.worst
      (is_flagged c.args.flags.now) c.args.t (search rules)
      c.is_set-else-is_set-2.result (sym c.is_set.ensures.value ∙ c.if-is_set.false) (
        (λ h. inr (subst (λ z. IsTrue (is_flagged c.args.flags.now z)) c.right.ensures.value
            (sym c.is_set-else-is_set-2.ensures.value ∙ h))),
        (λ w. ⊎_elim
            (λ left. absurd (both_ways (is_flagged c.args.flags.now (2 * c.args.t))
            (subst (λ z. is_flagged c.args.flags.now z ≡ false) c.left.ensures.value
            (sym c.is_set-in-Parent.ensures.value ∙ c.if-is_set-2.false)) left))
            (λ right. c.is_set-else-is_set-2.ensures.value
            ∙ subst (λ z. IsTrue (is_flagged c.args.flags.now z)) (sym c.right.ensures.value) right)
            w),
      ));
}

pub returns-in-None : goal.returns-in-None
returns-in-None c = record {
  value = (
    (λ h. absurd (false≢true h)),
    (λ r. absurd (reason-no_mate c.args.n (priority_seen c.args.scene.now) c.args.worst
        (is_flagged c.args.flags.now) c.args.t
        (search rules) c.requires.addresses
        (λ m mate. let e = (c.in-None.ensures.mate m).1 mate in cc)
        (subst (λ k. IsReason c.args.n (priority_seen c.args.scene.now) c.args.worst (is_flagged c.args.flags.now)
        (record { kind = k; triangle = c.args.t })) c.in-Mate.is r))),
  );
}

pub returns-in-Some : goal.returns-in-Some
returns-in-Some c =
    let e : Some c.in-Some.mate ≡ Some c.in-Some.mate = refl in
    record {
      value = subst (λ k. IsTrue c.is_set-in-Some.result ↔
          IsReason c.args.n (priority_seen c.args.scene.now) c.args.worst (is_flagged c.args.flags.now)
          (record { kind = k; triangle = c.args.t })) (sym c.in-Mate.is)
          (reason-mate c.args.n (priority_seen c.args.scene.now) c.args.worst
          (is_flagged c.args.flags.now) c.args.t (search rules)
          c.in-Some.mate c.is_set-in-Some.result c.requires.addresses ((c.in-Some.ensures.mate c.in-Some.mate).0 e)
          (sym c.is_set.ensures.value ∙ c.if-is_set.false) c.is_set-in-Some.ensures.value);
    }

pub returns-in-Want : goal.returns-in-Want
returns-in-Want c =
    let told = c.priority.ensures.value in
    record {
      value = subst (λ k. IsTrue (leb c.args.worst c.priority.result) ↔
          IsReason c.args.n (priority_seen c.args.scene.now) c.args.worst (is_flagged c.args.flags.now)
          (record { kind = k; triangle = c.args.t })) (sym c.in-Want.is)
          (reason-want c.args.n (priority_seen c.args.scene.now) c.args.worst
          (is_flagged c.args.flags.now) c.args.t (search rules)
          (leb c.args.worst c.priority.result)
          (sym c.is_set.ensures.value ∙ c.if-is_set.false) (
            (λ h. subst (λ k. c.args.worst ≤ k) told (leb-true c.args.worst c.priority.result h)),
            (λ fits. le-leb c.args.worst c.priority.result (subst (λ k. c.args.worst ≤ k) (sym told) fits)),
          ));
    }

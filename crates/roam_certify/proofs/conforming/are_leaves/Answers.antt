-- One entry a turn.
use Rattle.std.proofs.Common.{inl, inr, refl, sym, ◌∙◌, arith}
use Rattle.std.proofs.lemmas.Bool.{false≢true}
use Rattle.mesh_laws.specs.Sweep.{is_flagged}
use Rattle.certificate_laws.proofs.DistinctLemmas.{distinct-none}
use Rattle.roam_certify.proofs.ClimbLemmas.{seen-next, leaves-next, leaves-bad}
use Rattle.roam_certify.proofs.conforming.are_leaves.Goals.{then-is_set-via-then-is_set}
use Rattle.roam_certify.proofs.conforming.are_leaves.Goals.{then-is_set-via-else-is_set+then-is_set-2}
use Rattle.roam_certify.proofs.conforming.are_leaves.Goals as goal

pub loop-index-init : goal.loop-index-init
loop-index-init c = record {
  room = refl;
  same = c.requires.seen_empty;
  leaves = record { distinct = distinct-none; outside = λ a listed. let none = listed.1 in absurd (omega arith) };
}

pub returns-then-is_set : goal.returns-then-is_set
returns-then-is_set c = record {
  value = (
    (λ h. absurd (false≢true h)),
    (λ are. absurd (leaves-bad c.args.triangles.now c.loop-index.index c.index-triangles-index.result
        c.loop-index-test.true c.index-triangles-index.is
        (is_flagged c.args.flags.now)
        (elim c.then-is_set.branch [
          | then-is_set-via-then-is_set w ↦ inl (sym c.is_set.ensures.value ∙ w.if-is_set.true)
          | then-is_set-via-else-is_set+then-is_set-2 w ↦
              inr (sym (c.loop-index.invariant.same c.index-triangles-index.result)
              ∙ sym w.is_set-else-is_set.ensures.value ∙ w.if-is_set-2.true)
        ]) are)),
  );
}

pub loop-index-preserved : goal.loop-index-preserved
loop-index-preserved c = record {
  room = c.flag.ensures.room ∙ c.loop-index.invariant.room;
  same = seen-next c.args.triangles.now c.loop-index.index c.index-triangles-index.result c.loop-index-test.true
      c.index-triangles-index.is
      (is_flagged c.loop-index.seen) (is_flagged c.flag.new.flags) c.loop-index.invariant.same c.flag.ensures.added;
  leaves = leaves-next c.args.triangles.now c.loop-index.index c.index-triangles-index.result c.loop-index-test.true
      c.index-triangles-index.is
      (is_flagged c.args.flags.now) c.loop-index.invariant.leaves (sym c.is_set.ensures.value ∙ c.if-is_set.false)
      (sym (c.loop-index.invariant.same c.index-triangles-index.result)
      ∙ sym c.is_set-else-is_set.ensures.value ∙ c.if-is_set-2.false);
}

-- A turn lists the triangle, or finds that it is not wanted; a full list has nothing more to hold.
use Rattle.std.proofs.Common.{◌≡◌, ◌*◌, ◌<◌, ◌≤◌, IfSome, IsTrue, length, sym, subst, arith}
use Rattle.mesh_defs.specs.Triangle.{IsSplittable}
use Rattle.bintree_laws.proofs.LevelLemmas.{level_of-below}
use Rattle.certificate_laws.specs.Certificate.{named_in}
use Rattle.mesh_defs.specs.State.{priority_seen}
use Rattle.roam_certify.specs.declared.making.Wants.{Wants}
use Rattle.roam_certify.specs.Making.{AreWanted}
use Rattle.roam_certify.proofs.MakingLemmas.{wanted-next}
use Rattle.roam_certify.proofs.making.Listing.push_wants.Goals as goal

pub push_wanted-requires : goal.push_wanted-requires
push_wanted-requires c =
    let w : Wants = c.args.wants.now in
    let visited : c.unwrap-t.result ≡ c.loop-number.number =
    subst (λ o. IfSome o (λ t. t ≡ c.loop-number.number)) c.unwrap-t.ensures c.at.ensures.value in
    let low : 2 ≤ c.loop-number.number = c.loop-number.auto.number in
    let more = c.loop-number-test.true in
    let end = c.end-number-end.ensures.value in
    let splittable : IsSplittable w.n c.loop-number.number =
    record { low = low; coarse = (level_of-below c.loop-number.number (2 * w.n) low).1 (omega arith) } in
    record {
      listed = c.loop-number.invariant.listed;
      splittable = subst (λ t. IsSplittable w.n t) (sym visited) splittable;
      before = subst (λ t. AreWanted w t c.loop-number.self.reasons.items) (sym visited) c.loop-number.invariant.wanted;
    }

pub loop-number-preserved : goal.loop-number-preserved
loop-number-preserved c =
    let w : Wants = c.args.wants.now in
    let visited : c.unwrap-t.result ≡ c.loop-number.number =
    subst (λ o. IfSome o (λ t. t ≡ c.loop-number.number)) c.unwrap-t.ensures c.at.ensures.value in
    record {
      listed = c.in_ok-push_wanted.ensures.listed;
      wanted =
          wanted-next w c.loop-number.number c.loop-number.self.reasons.items c.push_wanted.new.self.reasons.items
          c.in_ok-push_wanted.ensures.grown c.loop-number.invariant.wanted
          (subst (λ t. length c.push_wanted.new.self.reasons.items < w.limit → w.worst ≤ priority_seen w.scene.now t →
          IsTrue (named_in c.push_wanted.new.self.reasons.items t)) visited c.in_ok-push_wanted.ensures.wanted);
    }

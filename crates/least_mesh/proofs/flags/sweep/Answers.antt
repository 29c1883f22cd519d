-- One visit a turn; at the end 2 was visited.
use Rattle.std.proofs.Common.{◌≡◌, ◌-◌, IfSome, refl, sym, ◌∙◌, subst, arith}
use Rattle.mesh_defs.specs.Triangle.{IsSplittable}
use Rattle.mesh_laws.specs.Sweep.{is_flagged, IsSwept, IsMarked}
use Rattle.mesh_laws.proofs.SweepLemmas.{swept_at_first, swept_skip, swept_mark, swept_at_last}
use Rattle.least_mesh.proofs.flags.sweep.Goals as goal

pub loop-number-init : goal.loop-number-init
loop-number-init c = record {
  room = refl;
  swept = subst (λ k. IsSwept c.args.n (is_flagged c.args.flags.now) (is_flagged c.args.flags.now) k)
      (sym c.end-number.ensures.value)
      (swept_at_first c.args.n (is_flagged c.args.flags.now) c.requires.splittable);
}

pub unwrap-requires : goal.unwrap-requires
unwrap-requires c =
    let most = c.loop-number.auto.number in
    let more = c.loop-number-test.true in
    let high = c.end-number.ensures.high in
    c.at.ensures.valid.1 (omega arith, omega arith)

pub visit-requires : goal.visit-requires
unfolding is_flagged
visit-requires c =
    let visited : c.unwrap.result ≡ c.loop-number.number - 1 =
    subst (λ o. IfSome o (λ t. t ≡ c.loop-number.number - 1)) c.unwrap.ensures c.at.ensures.value in
    record {
      in_grid = c.requires.in_grid;
      room = c.loop-number.invariant.room ∙ c.requires.room;
      splittable = subst (λ t. IsSplittable c.args.n t) (sym visited)
          (c.loop-number.invariant.swept.splittable (c.loop-number.number - 1) c.if-flags-number.true);
    }

pub loop-number-preserved-then-flags-number : goal.loop-number-preserved-then-flags-number
unfolding is_flagged
loop-number-preserved-then-flags-number c =
    let more = c.loop-number-test.true in
    let visited : c.unwrap.result ≡ c.loop-number.number - 1 =
    subst (λ o. IfSome o (λ t. t ≡ c.loop-number.number - 1)) c.unwrap.ensures c.at.ensures.value in
    record {
      room = c.visit.auto.flags ∙ c.loop-number.invariant.room;
      swept = swept_mark c.args.n (is_flagged c.args.flags.now) (is_flagged c.loop-number.flags)
          (is_flagged c.visit.new.flags) (c.loop-number.number - 1)
          (subst (λ k. IsSwept c.args.n (is_flagged c.args.flags.now) (is_flagged c.loop-number.flags) k)
          (omega arith) c.loop-number.invariant.swept)
          c.if-flags-number.true
          (subst (λ t. IsMarked c.args.n t (is_flagged c.loop-number.flags) (is_flagged c.visit.new.flags)) visited
          c.visit.ensures.marked);
    }

pub loop-number-preserved : goal.loop-number-preserved
unfolding is_flagged
loop-number-preserved c =
    let more = c.loop-number-test.true in
    record {
      room = c.loop-number.invariant.room;
      swept =
          swept_skip c.args.n (is_flagged c.args.flags.now) (is_flagged c.loop-number.flags) (c.loop-number.number - 1)
          (subst (λ k. IsSwept c.args.n (is_flagged c.args.flags.now) (is_flagged c.loop-number.flags) k)
          (omega arith) c.loop-number.invariant.swept)
          c.if-flags-number.false;
    }

pub returns : goal.returns
returns c =
    let done = c.loop-number-test.false in
    record {
      least = swept_at_last c.args.n (is_flagged c.args.flags.now) (is_flagged c.loop-number.flags)
          record {
            holds = c.loop-number.invariant.swept.holds;
            forced = c.loop-number.invariant.swept.forced;
            splittable = c.loop-number.invariant.swept.splittable;
            parent = λ a low h big. c.loop-number.invariant.swept.parent a (omega arith) h big;
            mate = λ a b low h m. c.loop-number.invariant.swept.mate a b (omega arith) h m;
          };
    }

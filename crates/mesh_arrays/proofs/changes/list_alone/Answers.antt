use Rattle.std.proofs.Common.{refl, sym, ◌∙◌, ◌+◌, get_or, subst, arith}
use Rattle.std.proofs.lemmas.List.Elements.{All-get_or}
use Rattle.mesh_arrays.specs.Changes.{IsTriangle}
use Rattle.mesh_arrays.proofs.ChangeLemmas.{IsAloneSoFar, so_far-there, so_far-alone}
use Rattle.mesh_arrays.proofs.changes.list_alone.Goals as goal

pub loop-t-preserved-then-stands_at : goal.loop-t-preserved-then-stands_at
loop-t-preserved-then-stands_at c =
    let these = c.args.these.now in
    let seen = c.loop-t.t-index in
    let within = c.loop-t-test.true in
    record {
      within = c.pass-passed.ensures.within;
      few = omega arith;
      so_far = λ ordered others_ordered.
          let is = All-get_or IsTriangle these seen 0 within ordered.addresses in
          so_far-there these c.args.those.now c.args.out.now seen c.loop-t.passed c.pass-passed.result c.loop-t.count
          (get_or these seen 0) c.loop-t.out
          ordered others_ordered within refl (c.loop-t.invariant.so_far ordered others_ordered)
          (c.pass-passed.ensures.before others_ordered.addresses is)
          (c.pass-passed.ensures.here others_ordered.addresses is)
          (sym c.stands_at.ensures ∙ c.if-stands_at.true);
    }

pub loop-t-preserved : goal.loop-t-preserved
loop-t-preserved c =
    let these = c.args.these.now in
    let seen = c.loop-t.t-index in
    let within = c.loop-t-test.true in
    record {
      within = c.pass-passed.ensures.within;
      few = omega arith;
      so_far = λ ordered others_ordered.
          let is = All-get_or IsTriangle these seen 0 within ordered.addresses in
          subst (IsAloneSoFar these c.args.those.now c.args.out.now (seen + 1) c.pass-passed.result
          (c.loop-t.count + 1)) (sym c.write_at.ensures)
          (so_far-alone these c.args.those.now c.args.out.now seen c.loop-t.passed c.pass-passed.result c.loop-t.count
          (get_or these seen 0) c.loop-t.out
          ordered others_ordered within refl (c.loop-t.invariant.so_far ordered others_ordered)
          (c.pass-passed.ensures.before others_ordered.addresses is)
          (c.pass-passed.ensures.here others_ordered.addresses is)
          (sym c.stands_at.ensures ∙ c.if-stands_at.false));
    }

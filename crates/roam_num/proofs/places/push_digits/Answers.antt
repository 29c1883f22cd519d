use Rattle.std.proofs.Common.{◌*◌, arith}
use Rattle.std.proofs.Math.Nat.{mod-lt}
use Rattle.roam_num.proofs.PlacesLemmas.{next-digit, no-digit}
use Rattle.roam_num.proofs.places.push_digits.Goals as goal
use Rattle.roam_num.proofs.places.push_digits.Goals.{then-left-gt0, else-left-gt0}

pub loop-place-preserved : goal.loop-place-preserved
loop-place-preserved g c =
    let before = c.loop-place.invariant in
    let less = c.loop-place-test.true in
    elim c.if-left-gt0.branch [
      | then-left-gt0 w ↦ record {
        below = rw w.left-is (mod-lt (10 * c.loop-place.left) {m = c.args.over} (omega (arith, before.below)));
        items = rw (w.text-is, w.left-is) (next-digit _ c.loop-place.text.items w.push_bytes.new.text.items c.args.most
            c.loop-place._place c.loop-place.left c.args.over
            less w.if-left-gt0.true before.items w.push_bytes.ensures.items);
        len = rw w.text-is (let len = w.push_bytes.ensures.len in omega (arith, len, before.len));
      }
      | else-left-gt0 w ↦ record {
        below = rw w.left-is before.below;
        items =
            rw (w.text-is, w.left-is)
            (no-digit _ c.loop-place.text.items c.args.most c.loop-place._place c.loop-place.left c.args.over
            (let none = w.if-left-gt0.false in omega (arith, none)) before.items);
        len = rw w.text-is (omega (arith, before.len));
      }
    ]

use Rattle.std.proofs.Common.{◌≡◌, ◌+◌, ◌-◌, ◌<◌, ◌≤◌, ◌++◌}
use Rattle.arrayvec.specs.ArrayVec.{array_vec_len}
use Rattle.roam_num.specs.Places.{fraction_digits}
use Rattle.roam_num.proofs.places.push_digits.Given as goal

abbrev pub invariant-loop-place : goal.invariant-loop-place
invariant-loop-place g l =
    record {
      below : l.left < l.over;
      items : l.text.items ++ fraction_digits (l.most - l._place) l.left l.over
          ≡ l.fn.text.items ++ fraction_digits l.most l.rest l.over;
      len : array_vec_len l.text ≤ array_vec_len l.fn.text + l._place;
    }

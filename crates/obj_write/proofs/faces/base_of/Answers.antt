use Rattle.std.proofs.Common.{◌≡◌, ◌%◌, arith}
use Rattle.obj_write.proofs.FaceLemmas.{left-v0, left-v1, right-v0, right-v1}
use Rattle.obj_write.proofs.faces.base_of.Goals as goal

pub returns-then-number-eq0-clause-v0 : goal.returns-then-number-eq0-clause-v0
returns-then-number-eq0-clause-v0 c n numbers face =
    let even : c.args.t % 2 ≡ 0 = omega arith in
    left-v0 n c.args.t numbers c.args.parent.now c.requires.child c.requires.of face even

pub returns-then-number-eq0-clause-v1 : goal.returns-then-number-eq0-clause-v1
returns-then-number-eq0-clause-v1 c n numbers face =
    let even : c.args.t % 2 ≡ 0 = omega arith in
    left-v1 n c.args.t numbers c.args.parent.now c.requires.child c.requires.of face even

pub returns-else-number-eq0-clause-v0 : goal.returns-else-number-eq0-clause-v0
returns-else-number-eq0-clause-v0 c n numbers face =
    let odd : c.args.t % 2 ≡ 1 = omega arith in
    right-v0 n c.args.t numbers c.args.parent.now c.requires.child c.requires.of face odd

pub returns-else-number-eq0-clause-v1 : goal.returns-else-number-eq0-clause-v1
returns-else-number-eq0-clause-v1 c n numbers face =
    let odd : c.args.t % 2 ≡ 1 = omega arith in
    right-v1 n c.args.t numbers c.args.parent.now c.requires.child c.requires.of face odd

-- The square lies in the largest terrain.
use Rattle.std.proofs.Common.{◌≡◌, ◌+◌, ◌-◌, ◌*◌, ◌^◌, ◌≤◌, ap, sym, ◌∙◌, arith}
use Rattle.std.proofs.Math.Nat.{mul-le-mul_left}
use Rattle.std.proofs.lemmas.Nat.{pow-add}
use Rattle.page_store.proofs.edits.start_of.Goals as goal

pub returns-clause-bounded : goal.returns-clause-bounded
returns-clause-bounded c =
    let e : c.args.n + (14 - c.args.n) ≡ 14 = omega arith in
    let p : 2 ^ c.args.n * 2 ^ (14 - c.args.n) ≡ 16384 = sym (pow-add 2 c.args.n (14 - c.args.n)) ∙ ap (λ k. 2 ^ k) e in
    let m : 2 ^ c.args.n * c.args.square ≤ 2 ^ c.args.n * 2 ^ (14 - c.args.n) = mul-le-mul_left (2 ^ c.args.n) (omega arith) in
    let swap : c.args.square * 2 ^ c.args.n ≡ 2 ^ c.args.n * c.args.square = omega arith in
    omega arith

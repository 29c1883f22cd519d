-- Nothing is shifted out, and the level is that of the leading bit.
use Rattle.std.proofs.Common.{◌≡◌, ℕ, ◌+◌, ◌*◌, ◌%◌, ◌^◌, ◌<◌, ◌≤◌, ◌∙◌, ap, arith, pow_pos, refl}
use Rattle.std.proofs.Math.Pow.{pow_mono}
use Rattle.std.proofs.Math.Nat.{mod-lt}
use Rattle.std.proofs.lemmas.Nat.{mul-add-lt}
use Rattle.mesh_defs.specs.Triangle.{level_of}
use Rattle.bintree_laws.proofs.LevelLemmas.{pow_next, pow_after, level_of-at}
use Rattle.page_store.proofs.wedge.local.Goals as goal

record IsSum (k number b : ℕ) : Type 0 where
  is : (4 + k) * 2 ^ b % 4294967296 + number % (1 * 2 ^ b % 4294967296) ≡ 2 ^ b * (4 + k) + number % 2 ^ b
  low : 2 ^ (b + 1 + 1) ≤ 2 ^ b * (4 + k) + number % 2 ^ b
  high : 2 ^ b * (4 + k) + number % 2 ^ b < 2 ^ (b + 1 + 2)
  small : 2 ^ (b + 1 + 2) ≤ 2 ^ 30
  some : 2 ≤ 2 ^ (b + 1 + 1)

sum-is : (k number b : ℕ) → k < 4 → b ≤ 27 → IsSum k number b
sum-is k number b less few =
    let m : 0 < 2 ^ b = pow_pos b in
    let rest : number % 2 ^ b < 2 ^ b = mod-lt number (pow_pos b) in
    let two : 2 ^ (b + 1 + 1) ≡ 4 * 2 ^ b = pow_next (b + 1) ∙ (let e = pow_next b in omega arith) in
    let three : 2 ^ (b + 1 + 2) ≡ 8 * 2 ^ b = pow_after (b + 1) ∙ (let e = pow_next (b + 1) in let f =
    pow_next b in omega arith) in
    let le : b + 1 + 2 ≤ 30 = omega arith in
    let mono : 2 ^ (b + 1 + 2) ≤ 2 ^ 30 = pow_mono le in
    let swap : (4 + k) * 2 ^ b ≡ 2 ^ b * (4 + k) = omega arith in
    let room = mul-add-lt (4 + k) (2 ^ b) (number % 2 ^ b) 8 (omega arith) rest in
    let least : 2 ^ b * (4 + k) ≡ 4 * 2 ^ b + k * 2 ^ b = omega arith in
    let one : 1 * 2 ^ b % 4294967296 ≡ 2 ^ b = omega arith in
    let lead : (4 + k) * 2 ^ b % 4294967296 ≡ 2 ^ b * (4 + k) = omega arith in
    record {
      is = rw (one, lead) refl;
      low = omega arith;
      high = omega arith;
      small = mono;
      some = omega arith;
    }

pub overflow_add-quarter-2 : goal.overflow_add-quarter-2
overflow_add-quarter-2 c =
    let s = sum-is c.args.quarter c.args.number c.args.below c.requires.in_square c.requires.few in
    let is = s.is in let high = s.high in let small = s.small in
    omega arith

pub unwrap-requires : goal.unwrap-requires
unwrap-requires c =
    let s = sum-is c.args.quarter c.args.number c.args.below c.requires.in_square c.requires.few in
    let is = s.is in let high = s.high in let small = s.small in let low = s.low in let some = s.some in
    c.at.ensures.valid.1 (omega arith, omega arith)

pub returns-clause-value : goal.returns-clause-value
returns-clause-value c =
    let s = sum-is c.args.quarter c.args.number c.args.below c.requires.in_square c.requires.few in
    rw c.unwrap.ensures at c.at.ensures.value ∙ s.is

pub returns-clause-level : goal.returns-clause-level
returns-clause-level c =
    let s = sum-is c.args.quarter c.args.number c.args.below c.requires.in_square c.requires.few in
    let e = rw c.unwrap.ensures at c.at.ensures.value in
    ap level_of (e ∙ s.is)
    ∙ level_of-at (c.args.below + 1) (2 ^ c.args.below * (4 + c.args.quarter) + c.args.number % 2 ^ c.args.below)
    record { low = s.low; high = s.high }

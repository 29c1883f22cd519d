-- The page's corner is subtracted from the point in steps of the page.
use Rattle.std.proofs.Common.{◌≡◌, ℕ, ◌+◌, ◌-◌, ◌*◌, ◌/◌, ◌%◌, ◌^◌, ◌<◌, ◌≤◌, ◌∙◌, ap, arith, pow_pos, rules}
use Rattle.std.proofs.Math.Nat.{mul-div_cancel_left, le-mul_of_pos_right}
use Rattle.mesh_defs.specs.declared.point.Point.{Point}
use Rattle.bintree_laws.proofs.LatticeLemmas.{same_point}
use Rattle.page_laws.specs.Pages.{IsPagePoint}
use Rattle.page_store.proofs.locate.local_point.Goals as goal

record IsShifted (q m t p : ℕ) : Type 0 where
  below : t * m % 4294967296 ≤ p / 2 ^ q
  value : p / 2 ^ q - t * m % 4294967296 ≡ p / 2 ^ q - m * t

shifted : (q m t r p : ℕ) → p ≡ 2 ^ q * (m * t + r) → p < 4294967296 → IsShifted q m t p
shifted q m t r p is fits =
    let e : p / 2 ^ q ≡ m * t + r = ap (λ k. k / 2 ^ q) is ∙ mul-div_cancel_left (m * t + r) (pow_pos q) in
    let whole : m * t + r ≤ (m * t + r) * 2 ^ q = le-mul_of_pos_right (m * t + r) (pow_pos q) in
    let swap : t * m ≡ m * t = omega arith in
    let small : t * m % 4294967296 ≡ t * m = omega arith in
    record { below = omega arith; value = omega arith }

column : (n q : ℕ) (t p : Point) → IsPagePoint n q t p → p.x < 4294967296 → IsShifted q (2 ^ n) t.x p.x
column n q t p r fits = shifted q (2 ^ n) t.x r.0.x p.x (ap (λ (p : Point). p.x) r.2) fits

row : (n q : ℕ) (t p : Point) → IsPagePoint n q t p → p.y < 4294967296 → IsShifted q (2 ^ n) t.y p.y
row n q t p r fits = shifted q (2 ^ n) t.y r.0.y p.y (ap (λ (p : Point). p.y) r.2) fits

pub overflow_sub-result : goal.overflow_sub-result
overflow_sub-result c =
    (column c.args.n c.args.q c.args.square c.args.point c.requires.inside (search rules)).below

pub overflow_sub-result-2 : goal.overflow_sub-result-2
overflow_sub-result-2 c =
    (row c.args.n c.args.q c.args.square c.args.point c.requires.inside (search rules)).below

pub returns : goal.returns
returns c = same_point _ _ _ _
    (column c.args.n c.args.q c.args.square c.args.point c.requires.inside (search rules)).value
    (row c.args.n c.args.q c.args.square c.args.point c.requires.inside (search rules)).value

-- Side by side.
use Rattle.std.proofs.Common.{◌≡◌, ℕ, ◌+◌, ◌*◌, ◌^◌, ◌<◌, ◌≤◌, length, take, set, refl, sym, ◌∙◌}
use Rattle.std.proofs.Common.{arith, inl, ⊎_elim, eqb, eq-eqb, ap, pow-add, pow_pos, length-set}
use Rattle.std.proofs.Common.{nat_eq, subst, [], ◌∷◌}
use Rattle.std.proofs.Math.Seq.{take-suc-set}
use Rattle.std.specs.List.{IsDistinct}
use Rattle.std.proofs.lemmas.Bool.{eqb-true, cases_lt}
use Rattle.std.proofs.lemmas.Nat.{mul-le}
use Rattle.mesh_defs.specs.ClosedSet.{among}
use Rattle.mosaic_rounds.specs.Across.{IsAcross}
use Rattle.mosaic_rounds.proofs.AskedLemmas.{among-more, asked-more, asked-apart}
use Rattle.mosaic_rounds.proofs.asked.tell.Goals as goal

-- a single entry
one-distinct : IsDistinct nat_eq (2 ∷ [])
unfolding IsDistinct
one-distinct = (tt, tt)

pub loop-side-init : goal.loop-side-init
loop-side-init c =
    let some = c.requires.list in
    let all = pow_pos (c.args.shape.n + 2) in
    let one : (a : ℕ) → among (take 1 (set c.args.list.now 0 2)) a ≡ eqb 2 a =
    λ a. among-more 0 2 a c.args.list.now (omega arith) in (
      refl,
      omega arith,
      omega arith,
      λ a. (
        (λ h. inl (sym (eqb-true 2 a (sym (one a) ∙ h)))),
        (λ h. one a ∙ ⊎_elim
            (λ two. eq-eqb 2 a (sym two))
            (λ (p : (side : ℕ) × (side < 0) × IsAcross c.args.shape c.args.words.now c.args.t side a).
            let none = p.1 in absurd (omega arith))
            h),
      ),
      subst (IsDistinct nat_eq) (sym (take-suc-set c.args.list.now 0 2 (omega arith))) one-distinct,
    )

pub loop-side-preserved : goal.loop-side-preserved
loop-side-preserved c =
    let old = c.loop-side.invariant in
    let few = old.2 in
    let some = old.1 in
    let within = c.tell_across-count.ensures.within in (
      c.tell_across-count.ensures.room ∙ old.0,
      omega arith,
      omega arith,
      asked-more c.args.shape c.args.words.now c.args.t c.loop-side.side
          (among (take c.loop-side.count c.loop-side.list))
          (among (take c.tell_across-count.result c.tell_across-count.new.list)) old.3 c.tell_across-count.ensures.just,
      c.tell_across-count.ensures.distinct
          (λ a h is. asked-apart c.args.shape c.args.words.now c.args.t c.loop-side.side a ((old.3 a).0 h) is) old.4,
    )

-- the list has room for all sides
four-sides : (n side count room : ℕ) → side < 4 → count + side ≤ 1 + side * 2 ^ n → 2 ^ (n + 2) ≤ room →
    count + 2 ^ n ≤ room
four-sides n side count room small few enough =
    let four : 2 ^ (n + 2) ≡ 2 ^ n * 2 ^ 2 = pow-add 2 n 2 in
    let some = pow_pos n in
    let step : side * 2 ^ n ≤ 3 * 2 ^ n = mul-le side (2 ^ n) 3 (2 ^ n) (omega arith) (omega arith) in
    ⊎_elim
    (λ (none : side < 1). let nothing : side * 2 ^ n ≤ 0 * 2 ^ n =
    mul-le side (2 ^ n) 0 (2 ^ n) (omega arith) (omega arith) in omega arith)
    (λ (more : 1 ≤ side). omega arith)
    (cases_lt side 1)

pub tell_across-count-requires-clause-list : goal.tell_across-count-requires-clause-list
tell_across-count-requires-clause-list c =
    let same = c.loop-side.invariant.0 in
    let set_same = length-set c.args.list.now 0 2 in
    let room = c.requires.list in
    four-sides c.args.shape.n c.loop-side.side c.loop-side.count (length c.loop-side.list) c.loop-side-test.true
    c.loop-side.invariant.2 (omega arith)

pub returns-clause-within : goal.returns-clause-within
returns-clause-within c =
    let from = c.loop-side-test.false in
    let to = c.loop-side.auto.side-end in
    let few = c.loop-side.invariant.2 in
    let four : 2 ^ (c.args.shape.n + 2) ≡ 2 ^ c.args.shape.n * 2 ^ 2 = pow-add 2 c.args.shape.n 2 in
    let all : c.loop-side.side * 2 ^ c.args.shape.n ≡ 4 * 2 ^ c.args.shape.n =
    ap (λ k. k * 2 ^ c.args.shape.n) (omega arith) in omega arith

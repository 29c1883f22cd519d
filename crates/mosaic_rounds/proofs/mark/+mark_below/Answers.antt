-- The chain of triangles on a side goes on as long as there are second and third grandchildren.
use Rattle.std.proofs.Common.{◌≡◌, ◌⊎◌, ℕ, ◌+◌, ◌-◌, ◌*◌, ◌/◌, ◌%◌, ◌^◌, ◌<◌, ◌≤◌, arith, IsTrue, sym, ◌∙◌, ap, subst}
use Rattle.std.proofs.Common.{inl, inr}
use Rattle.std.proofs.Common.{⊎_elim, ◌||◌, eqb}
use Rattle.std.specs.Prelude.{bit_and}
use Rattle.std.proofs.lemmas.Bool.{cases_eq}
use Rattle.std.proofs.lemmas.Nat.{shr-shr, and_mask}
use Rattle.mesh_defs.specs.Triangle.{level_of}
use Rattle.mosaic_rounds.specs.Border.{backward, is_border, side_of, place_of, bit_of}
use Rattle.mosaic_rounds.specs.Bits.{has_bit}
use Rattle.mosaic_rounds.proofs.BorderLemmas.{border-big, border-placed, border-small, border-half, IsHalf}
use Rattle.mosaic_rounds.proofs.SplitLemmas.{border-low}
use Rattle.mosaic_rounds.proofs.MarkLemmas.{above-shift, chain-level, chain-last, chain-end, chain-on, marks-none}
use Rattle.mosaic_rounds.proofs.mark.+mark_below.Goals as goal
use Rattle.mosaic_rounds.proofs.mark.+mark_below.Goals.{then-last-eq0-via-then-last-eq0}
use Rattle.mosaic_rounds.proofs.mark.+mark_below.Goals.{then-last-eq0-via-else-last-eq0+then-last-eq3}

pub returns-then-above-eq0-clause-marks : goal.returns-then-above-eq0-clause-marks
returns-then-above-eq0-clause-marks t c =
    let zero = c.if-above-eq0.true in
    marks-none c.args.n c.args.leaf (level_of c.args.leaf - c.args.above) c.args.words.now (omega arith)

pub side_bit-requires-clause-side : goal.side_bit-requires-clause-side
side_bit-requires-clause-side t c =
    let here = c.requires.border in
    let side = c.requires.side in
    let small = (border-placed (c.args.leaf / 2 ^ c.args.above)
    (border-low (c.args.leaf / 2 ^ c.args.above) here) here).side in
    omega arith

pub side_bit-requires-clause-place : goal.side_bit-requires-clause-place
side_bit-requires-clause-place t c =
    let here = c.requires.border in
    let place = c.requires.place in
    let level = chain-level c.args.n c.args.leaf c.args.above c.requires.address c.requires.above here in
    let fits = c.requires.level in
    let some = c.if-above-eq0.false in
    let small = border-small c.args.n (c.args.leaf / 2 ^ c.args.above)
    (border-low (c.args.leaf / 2 ^ c.args.above) here) here
    (omega arith) in
    omega arith

-- the bit is that of the triangle
same-bit : (n b side place bit : ℕ) → side ≡ side_of b → place ≡ place_of b → bit ≡ side * 2 ^ n + place →
    bit ≡ bit_of n b
same-bit n b side place bit s p e =
    let q : side * 2 ^ n ≡ side_of b * 2 ^ n = ap (λ k. k * 2 ^ n) s in omega arith

pub returns-then-above-eq1-clause-marks : goal.returns-then-above-eq1-clause-marks
returns-then-above-eq1-clause-marks t c =
    let leaf = c.args.leaf in
    let one = c.if-above-eq1.true in
    let less = c.requires.above in
    let same : c.side_bit.result ≡ bit_of c.args.n (c.args.leaf / 2 ^ c.args.above) =
    same-bit c.args.n (c.args.leaf / 2 ^ c.args.above) c.args.side c.args.place c.side_bit.result c.requires.side
    c.requires.place c.side_bit.ensures.value in
    chain-end c.args.n c.args.leaf c.args.above c.requires.address less c.requires.border c.requires.level (omega arith)
    c.args.words.now c.set.new.words
    (subst (λ k. (j : ℕ) → has_bit c.set.new.words j ≡
    (has_bit c.args.words.now j || eqb k j)) same c.set.ensures.added)
    (λ a kept from is. let p = above-shift a c.args.leaf is in let less' = p.1 in omega arith)

pub returns-then-last-eq0-clause-marks : goal.returns-then-last-eq0-clause-marks
returns-then-last-eq0-clause-marks t c =
    let zero = c.if-above-eq0.false in
    let one = c.if-above-eq1.false in
    let same : c.side_bit.result ≡ bit_of c.args.n (c.args.leaf / 2 ^ c.args.above) =
    same-bit c.args.n (c.args.leaf / 2 ^ c.args.above) c.args.side c.args.place c.side_bit.result c.requires.side
    c.requires.place c.side_bit.ensures.value in
    let digits : bit_and (c.args.leaf / 2 ^ (c.args.above - 2)) 3 ≡ c.args.leaf / 2 ^ (c.args.above - 2) % 4 =
    and_mask (c.args.leaf / 2 ^ (c.args.above - 2)) 2 in
    let first_or_last : (bit_and (c.args.leaf / 2 ^ (c.args.above - 2)) 3 ≡ 0)
    ⊎ (bit_and (c.args.leaf / 2 ^ (c.args.above - 2)) 3 ≡ 3) =
    elim c.then-last-eq0.branch [
      | then-last-eq0-via-then-last-eq0 w ↦ inl w.if-last-eq0.true
      | then-last-eq0-via-else-last-eq0+then-last-eq3 w ↦ inr w.if-last-eq3.true
    ] in
    chain-end c.args.n c.args.leaf c.args.above c.requires.address c.requires.above c.requires.border c.requires.level
    (omega arith) c.args.words.now c.set.new.words
    (subst (λ k. (j : ℕ) → has_bit c.set.new.words j ≡
    (has_bit c.args.words.now j || eqb k j)) same c.set.ensures.added)
    (λ a kept from is.
    neither (c.args.leaf / 2 ^ (c.args.above - 2) % 4)
    (bit_and (c.args.leaf / 2 ^ (c.args.above - 2)) 3) digits first_or_last
    (chain-last c.args.n c.args.leaf c.args.above c.requires.address c.requires.above c.requires.border a (omega arith)
    kept from is))
  where
    neither : (last digit : ℕ) → digit ≡ last → (digit ≡ 0) ⊎ (digit ≡ 3) → (last ≡ 1) ⊎ (last ≡ 2) → ⊥
    neither last digit e (inl h) (inl k) = omega arith
    neither last digit e (inl h) (inr k) = omega arith
    neither last digit e (inr h) (inl k) = omega arith
    neither last digit e (inr h) (inr k) = omega arith

pub backwards-requires : goal.backwards-requires
backwards-requires t c =
    let here = c.requires.border in
    let side = c.requires.side in
    let small = (border-placed (c.args.leaf / 2 ^ c.args.above)
    (border-low (c.args.leaf / 2 ^ c.args.above) here) here).side in
    omega arith

-- two levels down there is a second or a third grandchild
next-half : (leaf above last : ℕ) → 2 ≤ above → IsTrue (is_border (leaf / 2 ^ above)) →
    last ≡ leaf / 2 ^ (above - 2) % 4 → (last ≡ 0 → ⊥) → (last ≡ 3 → ⊥) →
    IsHalf (leaf / 2 ^ (above - 2)) (leaf / 2 ^ above) last
next-half leaf above last two here is zero three =
    let up : leaf / 2 ^ (above - 2) / 4 ≡ leaf / 2 ^ above =
    shr-shr leaf (above - 2) 2 ∙ ap (λ j. leaf / 2 ^ j) (omega arith) in
    border-half (leaf / 2 ^ (above - 2)) (leaf / 2 ^ above) last
    (border-big (leaf / 2 ^ above) (border-low (leaf / 2 ^ above) here) here) up (sym is)
    (either last (omega arith) zero three) here
  where
    either : (last : ℕ) → last < 4 → (last ≡ 0 → ⊥) → (last ≡ 3 → ⊥) → (last ≡ 1) ⊎ (last ≡ 2)
    either last small zero three = ⊎_elim (λ e. inl e) (λ other. inr (omega arith)) (cases_eq last 1)

pub mark_below-requires : goal.mark_below-requires
mark_below-requires t c =
    let zero = c.if-above-eq0.false in
    let one = c.if-above-eq1.false in
    let less = c.requires.above in
    let falls = c.decreases in
    let digits : bit_and (c.args.leaf / 2 ^ (c.args.above - 2)) 3 ≡ c.args.leaf / 2 ^ (c.args.above - 2) % 4 =
    and_mask (c.args.leaf / 2 ^ (c.args.above - 2)) 2 in
    let h = next-half c.args.leaf c.args.above (bit_and (c.args.leaf / 2 ^ (c.args.above - 2)) 3) (omega arith)
    c.requires.border digits c.if-last-eq0.false c.if-last-eq3.false in
    let side : c.args.side ≡ side_of (c.args.leaf / 2 ^ c.args.above) = c.requires.side in
    let place = c.requires.place in
    let place_h = h.place in
    let back = c.backwards.ensures.value in
    let same : backward c.args.side ≡ backward (side_of (c.args.leaf / 2 ^ c.args.above)) = ap backward side in
    let room = c.requires.room in
    let length_is = c.set.ensures.room in (
      omega arith,
      (
        c.requires.in_grid,
        (
          omega arith,
          (
            c.requires.address,
            (
              c.requires.level,
              (
                omega arith,
                (h.border, (side ∙ sym h.side, omega arith)),
              ),
            ),
          ),
        ),
      ),
    )

pub returns-clause-marks : goal.returns-clause-marks
returns-clause-marks t c =
    let zero = c.if-above-eq0.false in
    let one = c.if-above-eq1.false in
    let same : c.side_bit.result ≡ bit_of c.args.n (c.args.leaf / 2 ^ c.args.above) =
    same-bit c.args.n (c.args.leaf / 2 ^ c.args.above) c.args.side c.args.place c.side_bit.result c.requires.side
    c.requires.place c.side_bit.ensures.value in
    chain-on c.args.n c.args.leaf c.args.above c.requires.address c.requires.above c.requires.border c.requires.level
    (omega arith) c.args.words.now c.set.new.words
    (subst (λ k. (j : ℕ) → has_bit c.set.new.words j ≡
    (has_bit c.args.words.now j || eqb k j)) same c.set.ensures.added)
    c.mark_below.new.words c.mark_below.ensures.marks (omega arith)

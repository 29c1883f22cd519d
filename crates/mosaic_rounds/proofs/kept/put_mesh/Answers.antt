-- The bits of the mesh beside those that were kept.
use Rattle.std.proofs.Common.{◌≡◌, ℕ, ◌+◌, ◌*◌, ◌%◌, ◌^◌, ◌<◌, ◌≤◌, ◌&&◌, ◌||◌, refl, sym, ◌∙◌, ap, subst, true, IsTrue}
use Rattle.std.proofs.Common.{nat_lt, List, arith}
use Rattle.std.proofs.lemmas.Bool.{both_ways}
use Rattle.mosaic_rounds.specs.Bits.{has_bit, splits_at}
use Rattle.mosaic_rounds.specs.Shape.{first_of}
use Rattle.mosaic_rounds.proofs.BitLemmas.{tile-bits}
use Rattle.mosaic_rounds.proofs.RoundsLemmas.{put-splits, put-others}
use Rattle.mosaic_rounds.proofs.kept.put_mesh.Goals as goal

-- the bits of the tile after all are added, by where it begins
all-added : (old new fresh : List ℕ) (first k n bits : ℕ) → first ≡ k → n ≤ 14 → bits ≡ 1 * 2 ^ (n + 2) % 2 ^ 64 →
    ((j : ℕ) → has_bit new (first + j)
    ≡ (has_bit old (first + j) || (nat_lt j bits && has_bit fresh (0 + j)))) →
    (j : ℕ) → has_bit new (k + j) ≡ (has_bit old (k + j) || (nat_lt j (2 ^ (n + 2)) && has_bit fresh j))
all-added old new fresh first k n bits same high all added j =
    let none : 0 + j ≡ j = omega arith in
    ap (λ i. has_bit new (i + j)) (sym same) ∙ added j
    ∙ ap (λ i. has_bit old (i + j) || (nat_lt j bits && has_bit fresh (0 + j))) same
    ∙ ap (λ i. has_bit old (k + j) || (nat_lt j i && has_bit fresh (0 + j))) (all ∙ tile-bits n high)
    ∙ ap (λ i. has_bit old (k + j) || (nat_lt j (2 ^ (n + 2)) && has_bit fresh i)) none

pub returns-then-lacks_kept-clause-shrunk : goal.returns-then-lacks_kept-clause-shrunk
returns-then-lacks_kept-clause-shrunk c = (
  (λ e.
      let h = c.lacks_kept.ensures.value.0 c.if-lacks_kept.true in (
        h.0,
        subst (λ k. IsTrue (splits_at c.args.shape.n c.args.words.now k h.0)) c.first_bit-first.ensures.value h.1,
        h.2,
      )),
  (λ h. refl),
)

pub returns-clause-splits : goal.returns-clause-splits
returns-clause-splits c e =
    put-splits c.args.shape.n (first_of c.args.shape c.args.t) c.args.words.now c.args.fresh.now c.add.new.words
    (all-added c.args.words.now c.add.new.words c.args.fresh.now c.first_bit-first.result
    (first_of c.args.shape c.args.t) c.args.shape.n (1 * 2 ^ (c.args.shape.n + 2) % 2 ^ 64)
    c.first_bit-first.ensures.value c.requires.shape.n_high refl c.add.ensures.added)
    (λ x is off. both_ways c.lacks_kept.result c.if-lacks_kept.false (c.lacks_kept.ensures.value.1 (
      x,
      subst (λ k. IsTrue (splits_at c.args.shape.n c.args.words.now k x))
          (sym c.first_bit-first.ensures.value) is,
      off,
    )))

pub returns-clause-shrunk : goal.returns-clause-shrunk
returns-clause-shrunk c = (
  (λ e. absurd (both_ways true e refl)),
  (λ h.
      absurd (both_ways c.lacks_kept.result c.if-lacks_kept.false (c.lacks_kept.ensures.value.1 (
        h.0,
        subst (λ k. IsTrue (splits_at c.args.shape.n c.args.words.now k h.0)) (sym c.first_bit-first.ensures.value) h.1,
        h.2,
      )))),
)

pub returns-clause-others : goal.returns-clause-others
returns-clause-others c u a tile other =
    put-others c.args.shape c.args.words.now c.add.new.words c.args.fresh.now c.args.t u a c.requires.tile
    tile other
    (all-added c.args.words.now c.add.new.words c.args.fresh.now c.first_bit-first.result
    (first_of c.args.shape c.args.t) c.args.shape.n (1 * 2 ^ (c.args.shape.n + 2) % 2 ^ 64)
    c.first_bit-first.ensures.value c.requires.shape.n_high refl c.add.ensures.added)
    (subst (λ k. (j : ℕ) → j < k → has_bit c.add.new.words j ≡ has_bit c.args.words.now j)
    c.first_bit-first.ensures.value c.add.ensures.before)

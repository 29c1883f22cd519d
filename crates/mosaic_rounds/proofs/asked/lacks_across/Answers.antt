-- By the places of the two sides.
use Rattle.std.proofs.Common.{◌≡◌, ℕ, ◌+◌, ◌*◌, ◌%◌, ◌^◌, sym, ◌∙◌, ap, arith, List, length}
use Rattle.mosaic_rounds.specs.Bits.{has_bit}
use Rattle.mosaic_rounds.specs.Shape.{first_of}
use Rattle.mosaic_rounds.proofs.ShapeLemmas.{side-ends}
use Rattle.mosaic_rounds.proofs.AskedLemmas.{lacks-yes, lacks-at}
use Rattle.mosaic_rounds.proofs.asked.lacks_across.Goals as goal

-- a bit by the parts of its number
bit-parts : (words : List ℕ) (k first bit at rest p : ℕ) → k ≡ first → bit ≡ at * rest + 0 →
    has_bit words (k + bit + p) ≡ has_bit words (first + (at * rest + p))
bit-parts words k first bit at rest p e f =
    let same : k + bit + p ≡ first + (at * rest + p) = omega arith in ap (has_bit words) same

pub side_exceeds-requires-clause-room : goal.side_exceeds-requires-clause-room
side_exceeds-requires-clause-room c =
    let facing = c.facing.ensures.value in
    side-ends c.args.shape.n c.facing.result c.first_bit-there.result c.side_bit-opposite.result
    (c.args.shape.columns * c.args.shape.rows * 2 ^ (c.args.shape.n + 2)) (64 * length c.args.words.now)
    (omega arith) c.side_bit-opposite.ensures.value c.first_bit-there.ensures.room c.requires.room

pub side_exceeds-requires-clause-others : goal.side_exceeds-requires-clause-others
side_exceeds-requires-clause-others c =
    side-ends c.args.shape.n c.args.side c.first_bit-here.result c.side_bit-own.result
    (c.args.shape.columns * c.args.shape.rows * 2 ^ (c.args.shape.n + 2)) (64 * length c.args.words.now)
    c.requires.side c.side_bit-own.ensures.value c.first_bit-here.ensures.room c.requires.room

pub returns : goal.returns
returns c =
    let opposite : c.side_bit-opposite.result ≡ (c.args.side + 2) % 4 * 2 ^ c.args.shape.n + 0 =
    c.side_bit-opposite.ensures.value ∙ ap (λ k. k * 2 ^ c.args.shape.n + 0) c.facing.ensures.value in
    let there : (p : ℕ) → has_bit c.args.words.now (c.first_bit-there.result + c.side_bit-opposite.result + p)
    ≡ has_bit c.args.words.now
    (first_of c.args.shape c.in-Some.u + ((c.args.side + 2) % 4 * 2 ^ c.args.shape.n + p)) =
    λ p. bit-parts c.args.words.now c.first_bit-there.result (first_of c.args.shape c.in-Some.u)
    c.side_bit-opposite.result ((c.args.side + 2) % 4) (2 ^ c.args.shape.n) p c.first_bit-there.ensures.value opposite in
    let here : (p : ℕ) → has_bit c.args.words.now (c.first_bit-here.result + c.side_bit-own.result + p)
    ≡ has_bit c.args.words.now (first_of c.args.shape c.args.t + (c.args.side * 2 ^ c.args.shape.n + p)) =
    λ p. bit-parts c.args.words.now c.first_bit-here.result (first_of c.args.shape c.args.t)
    c.side_bit-own.result c.args.side (2 ^ c.args.shape.n) p c.first_bit-here.ensures.value
    c.side_bit-own.ensures.value in record {
      value = (
        (λ e.
            let h = c.side_exceeds.ensures.value.0 e in
            lacks-yes c.args.shape c.args.words.now c.args.t c.args.side c.in-Some.u c.in-Some.ensures.some.0
            c.in-Some.ensures.some.1 c.requires.side h.0 h.1 h.2 (sym (there h.0) ∙ h.3) (sym (here h.0) ∙ h.4)),
        (λ lacks.
            let h = lacks-at c.args.shape c.args.words.now c.args.t c.args.side c.in-Some.u c.in-Some.ensures.some.0
            c.in-Some.ensures.some.1 lacks in
            c.side_exceeds.ensures.value.1 (h.0, h.1, h.2, there h.0 ∙ h.3, here h.0 ∙ h.4)),
      );
    }

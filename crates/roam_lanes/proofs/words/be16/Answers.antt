use Rattle.std.proofs.Common.{◌≡◌, ◌/◌, ◌*◌, ◌∙◌, ap, subst, ℕ, length, take, arith}
use Rattle.std.proofs.lemmas.List.{take_rest}
use Rattle.text_laws.specs.Words.{words_of}
use Rattle.roam_lanes.proofs.LaneLemmas.{words_block, words_rest}
use Rattle.roam_lanes.proofs.words.be16.Goals as goal

pub loop-k-preserved : goal.loop-k-preserved
loop-k-preserved c =
    words_block c.args.bytes.now c.loop-k.out c.be16_block.new.out c.loop-k.k (omega arith)
    (omega arith) c.loop-k.invariant (omega arith) c.be16_block.ensures

pub returns : goal.returns
returns c =
    let last : c.loop-k.k ≡ length c.args.out.now / 8 = omega arith in
    let written : take (8 * (length c.args.out.now / 8)) c.loop-k.out
    ≡ words_of (take (16 * (length c.args.out.now / 8)) c.args.bytes.now) =
    subst (λ (k : ℕ). take (8 * k) c.loop-k.out ≡ words_of (take (16 * k) c.args.bytes.now)) last c.loop-k.invariant in
    record {
      value = words_rest c.args.bytes.now c.loop-k.out c.be16_plain.new.out (length c.args.out.now / 8) _
          (omega arith) (omega arith) written
          (c.be16_plain.ensures.value ∙ ap words_of (take_rest c.args.bytes.now (16 * (length c.args.out.now / 8))))
          (omega arith);
    }

use Rattle.std.proofs.lemmas.List.Elements.{All-from_get_or}
use Rattle.std.proofs.Common.{◌<◌, ℕ}
use Rattle.roam_lanes.proofs.LaneLemmas.{block_words}
use Rattle.roam_lanes.proofs.words.be16_block.Goals as goal

pub returns : goal.returns
returns c = block_words c.args.bytes.now c.args.out.now c.requires.bytes_of_a_block c.requires.places_of_a_block
    (All-from_get_or (λ (b : ℕ). b < 256) c.args.bytes.now 0 (λ k _. (c.type_inv.bytes k).fits))

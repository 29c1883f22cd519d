use Rattle.std.proofs.Common.{◌≡◌, ◌+◌, ◌-◌, ◌%◌, min, ap, ◌∙◌, List, ℕ, map, replicate, arith}
use Rattle.std.proofs.lemmas.List.{length-map, take_all}
use Rattle.std.specs.Simd.Lanes.{zip2, put_chunk}
use Rattle.roam_lanes.proofs.LaneLemmas.{raised_lanes, stored}
use Rattle.roam_lanes.proofs.raising.raise_block.Goals as goal

pub returns : goal.returns
returns c =
    let block : List ℕ = c.args.block.now in
    let changed : List ℕ = map (λ (h : ℕ). min (h + c.args.by) c.args.maxval) block in
    let lesser_is : c.lesser-lanes.result ≡ zip2 min block (replicate 8 (c.args.maxval - c.min-by.result)) =
    c.lesser-lanes.ensures ∙ ap (λ (xs : List ℕ). zip2 min xs (replicate 8 (c.args.maxval - c.min-by.result)))
    (take_all 8 block (omega arith)) in
    let lanes : zip2 (λ (a : ℕ) (b : ℕ). (a + b) % 65536) c.lesser-lanes.result
    (replicate 8 c.min-by.result) ≡ changed =
    ap (λ (xs : List ℕ). zip2 (λ (a : ℕ) (b : ℕ). (a + b) % 65536) xs (replicate 8 c.min-by.result)) lesser_is
    ∙ raised_lanes 8 c.args.by c.min-by.result (c.args.maxval - c.min-by.result) c.args.maxval block c.requires
    (omega arith) c.min-by.ensures (omega arith) in
    ap (λ (xs : List ℕ). put_chunk 0 block xs) lanes
    ∙ stored block changed c.requires (length-map block (λ (h : ℕ). min (h + c.args.by) c.args.maxval) ∙ c.requires)

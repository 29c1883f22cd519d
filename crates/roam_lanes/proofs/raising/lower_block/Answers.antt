use Rattle.std.proofs.Common.{◌≡◌, ◌-◌, ap, ◌∙◌, List, ℕ, map, arith}
use Rattle.std.proofs.lemmas.List.{length-map, take_all}
use Rattle.std.specs.Simd.Lanes.{put_chunk}
use Rattle.roam_lanes.proofs.LaneLemmas.{stored}
use Rattle.roam_lanes.proofs.raising.lower_block.Goals as goal

pub returns : goal.returns
returns c =
    let block : List ℕ = c.args.block.now in
    let changed : List ℕ = map (λ (h : ℕ). h - c.args.by) block in
    let lanes : c.lowered.result ≡ changed =
    c.lowered.ensures ∙ ap (λ (xs : List ℕ). map (λ (h : ℕ). h - c.args.by) xs) (take_all 8 block (omega arith)) in
    ap (λ (xs : List ℕ). put_chunk 0 block xs) lanes
    ∙ stored block changed c.requires (length-map block (λ (h : ℕ). h - c.args.by) ∙ c.requires)

use Rattle.std.proofs.Common.{◌-◌, ◌*◌, ◌/◌, ◌≡◌, ℕ, length, map, take, drop, subst, arith}
use Rattle.roam_lanes.proofs.LaneLemmas.{map_block, map_rest}
use Rattle.roam_lanes.proofs.raising.lower_by.Goals as goal

pub loop-k-preserved : goal.loop-k-preserved
loop-k-preserved c =
    map_block (λ (h : ℕ). h - c.args.by) c.loop-k.row c.args.row.now c.lower_block.new.block c.loop-k.k (omega arith)
    (omega arith) c.loop-k.invariant.0 c.loop-k.invariant.1 c.lower_block.ensures

pub returns : goal.returns
returns c =
    let last : c.loop-k.k ≡ length c.args.row.now / 8 = omega arith in
    let before = subst (λ (k : ℕ). take (8 * k) c.loop-k.row
    ≡ map (λ (h : ℕ). h - c.args.by) (take (8 * k) c.args.row.now)) last c.loop-k.invariant.0 in
    let after = subst (λ (k : ℕ). drop (8 * k) c.loop-k.row ≡ drop (8 * k) c.args.row.now) last c.loop-k.invariant.1 in
    map_rest (λ (h : ℕ). h - c.args.by) c.loop-k.row c.args.row.now c.lower_by_plain.new.row
    (8 * (length c.args.row.now / 8)) _ (omega arith) (omega arith) before after c.lower_by_plain.ensures

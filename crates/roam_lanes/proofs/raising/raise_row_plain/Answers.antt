use Rattle.std.proofs.Common.{◌≡◌, ◌-◌, ◌≤◌, ◌<ℤ◌, pos, unsigned_abs, w32, ℕ, ap, ◌∙◌, arith}
use Rattle.std.proofs.lemmas.Int.{ints, to_z-of_z}
use Rattle.std.proofs.lemmas.List.Elements.{All-weaker}
use Rattle.roam_lanes.specs.Raising.{raised}
use Rattle.roam_lanes.proofs.LaneLemmas.{map_same, raised-down}
use Rattle.roam_lanes.proofs.raising.raise_row_plain.Goals as goal

pub returns-then-delta-lt0 : goal.returns-then-delta-lt0
returns-then-delta-lt0 c =
    let down : c.args.delta <ℤ pos 0 = omega (arith, ints) in
    let size : c.size_of_step.result ≡ unsigned_abs c.args.delta =
    c.size_of_step.ensures ∙ ap unsigned_abs (to_z-of_z w32 c.args.delta c.ranges.delta) in
    record {
      value = c.lower_by_plain.ensures
          ∙ map_same (λ (h : ℕ). h - c.size_of_step.result)
          (λ (h : ℕ). raised c.args.maxval c.args.delta h) c.args.row.now
          (All-weaker (λ (h : ℕ). h ≤ c.args.maxval)
          (λ (h : ℕ). h - c.size_of_step.result ≡ raised c.args.maxval c.args.delta h)
          (λ h bound. ap (λ (n : ℕ). h - n) size ∙ raised-down c.args.maxval h c.args.delta bound down)
          c.args.row.now c.requires.bounded);
    }

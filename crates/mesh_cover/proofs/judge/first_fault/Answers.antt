use Rattle.std.proofs.Common.{◌≡◌, ◌<◌, ◌∙◌, ap, arith, length, cond, Bool, ℕ}
use Rattle.mesh_cover.specs.Conforming.{rises_before}
use Rattle.mesh_cover.proofs.ConformingLemmas.{conforming-tiles}
use Rattle.mesh_cover.proofs.RowLemmas.{once-single}
use Rattle.mesh_cover.proofs.judge.first_fault.Goals as goal

pub returns-in-Some-first_doubled-clause-none : goal.returns-in-Some-first_doubled-clause-none
returns-in-Some-first_doubled-clause-none c = (
  λ e. cc,
  λ mesh. absurd (c.in-Some-first_doubled.ensures.some.wrong (once-single c.args.right (length c.args.rows.now) (length c.args.corners.now)
      c.in-Some-first_doubled.h c.args.points.now c.args.corners.now c.args.across.now c.in-Some-first_doubled.ensures.some.below mesh.sides)),
)

pub returns-clause-tiles : goal.returns-clause-tiles
returns-clause-tiles c = λ _.
    let marked : (y : ℕ) → y < length c.args.rows.now → rises_before c.args.right c.args.points.now c.args.corners.now c.args.across.now (length c.args.corners.now) y ≡ 1 =
    (λ y less. c.in_default-first_doubled.ensures.none y less ∙ ap (λ (b : Bool). cond {A = ℕ} b 1 0) (c.in_default-first_bare.ensures.none y (omega arith))) in
    conforming-tiles c.args.right (length c.args.rows.now) c.args.points.now c.args.heights.now c.args.corners.now c.args.across.now
    c.requires.columns c.requires.rows c.requires.threes (record {
      corner = c.in_default.ensures.none;
      turned = c.in_default-first_flipped.ensures.none;
      joined = c.in_default-first_unpaired.ensures.none;
      sides = marked;
    })

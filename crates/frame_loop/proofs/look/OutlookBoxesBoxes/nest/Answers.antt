use Rattle.std.proofs.Common.{◌≡◌, ℕ, ◌+◌, ◌*◌, ◌/◌, refl, sym, subst, arith, ⊎_elim}
use Rattle.mesh_defs.specs.BoundingBox.{BoundingBox, box_of}
use Rattle.mesh_defs.specs.Triangle.{IsSplittable}
use Rattle.bintree_laws.proofs.LevelLemmas.{level_of-parent, left-or-right}
use Rattle.cull_marks.specs.Nesting.{IsInside}
use Rattle.frame_loop.proofs.look.OutlookBoxesBoxes.nest.Goals as goal

pub returns : goal.returns
returns c =
    let o = c.args.self.now.outlook.now in
    let box : ℕ → BoundingBox = box_of o.grid.n o.grid.heights o.view.spacing in
    record {
      parent = λ a has big level. refl;
      inside = λ a has big level.
          let up = level_of-parent a big in
          let split : IsSplittable o.grid.n (a / 2) = record { low = omega arith; coarse = omega arith } in
          ⊎_elim
          (λ (left : a ≡ 2 * (a / 2)). subst (λ z. IsInside (box z) (box (a / 2))) (sym left)
          (c.priority_laws.ensures.left_box o.grid.n o.grid.heights o.view.spacing (a / 2) split))
          (λ (right : a ≡ 2 * (a / 2) + 1). subst (λ z. IsInside (box z) (box (a / 2))) (sym right)
          (c.priority_laws.ensures.right_box o.grid.n o.grid.heights o.view.spacing (a / 2) split))
          (left-or-right a);
    }

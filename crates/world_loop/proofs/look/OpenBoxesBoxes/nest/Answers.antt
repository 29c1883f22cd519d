use Rattle.std.proofs.Common.{◌≡◌, ◌+◌, ◌*◌, ◌/◌, sym, subst, ⊎_elim}
use Rattle.bintree_laws.proofs.LevelLemmas.{left-or-right}
use Rattle.cull_marks.specs.Nesting.{IsInside}
use Rattle.page_laws.specs.Pages.{IsPyramid}
use Rattle.page_priority.specs.Loaded.{LoadedState, loaded_box}
use Rattle.page_priority.specs.Scene.{loaded_in}
use Rattle.world_loop.proofs.look.OpenBoxesBoxes.nest.Goals as goal

pub returns : goal.returns
returns c =
    let s : LoadedState = loaded_in c.args.self.now.scene in
    let pyramid : IsPyramid s.pages = rw (← c.self.view_is) c.large-valid.ensures.valid.table.pyramid in
    let found = c.pyramid_laws.ensures.found s.pages pyramid in
    record {
      parent = λ a has big level. found.closed.parent a has big;
      inside = λ a has big level.
          let known = found.inside (a / 2) (found.closed.parent a has big) in
          ⊎_elim
          (λ (left : a ≡ 2 * (a / 2)). subst (λ z. IsInside (loaded_box s z) (loaded_box s (a / 2))) (sym left)
          (c.nesting_laws.ensures.left_box s (a / 2) pyramid known))
          (λ (right : a ≡ 2 * (a / 2) + 1). subst (λ z. IsInside (loaded_box s z) (loaded_box s (a / 2))) (sym right)
          (c.nesting_laws.ensures.right_box s (a / 2) pyramid known))
          (left-or-right a);
    }

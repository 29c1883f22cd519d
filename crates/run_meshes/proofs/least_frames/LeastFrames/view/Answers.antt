-- The mesh is that of the scene that the outlook lends.
use Rattle.std.proofs.Common.{◌≡◌, ℕ, ◌*◌, ◌≤◌, List, All, sym, ◌∙◌, ap, subst}
use Rattle.mesh_defs.specs.Triangle.{level_of}
use Rattle.mesh_defs.specs.MeshText.{mesh_text}
use Rattle.mesh_defs.specs.State.{SceneState}
use Rattle.obj_write.specs.Numbers.{numbers_of}
use Rattle.obj_write.specs.MeshView.{view_text, IsView}
use Rattle.run_laws.proofs.OrderLemmas.{conforming-levels}
use Rattle.run_meshes.proofs.least_frames.LeastFrames.view.Goals as goal

pub returns-clause-valid : goal.returns-clause-valid
returns-clause-valid c =
    let f = c.args.self.now in
    let n : ℕ = c.scene.inside.wedges.now.n in
    let level : f.least.n ≡ n =
    c.requires.level ∙ sym (ap (λ (s : SceneState). s.grid.n) (c.scene.view_is ∙ c.scene-scene.ensures)) in
    subst IsView (sym c.by_table.ensures) (record {
      levels = subst (λ (l : List ℕ). All (λ a. level_of a ≤ 2 * n) l) (sym c.leaves.ensures.value)
          (conforming-levels f.least.n n f.least.leaves level c.leaves.ensures.conforming);
      vertex_numbers = c.numbers.ensures.value ∙ ap (λ (k : ℕ). numbers_of k f.least.leaves) level ∙ ap (numbers_of n)
          (sym c.leaves.ensures.value);
      spacing_low = c.scene.invariant.0;
      spacing_high = c.scene.invariant.1;
    })

pub returns-clause-text : goal.returns-clause-text
returns-clause-text c =
    let f = c.args.self.now in
    let text : SceneState → List ℕ → List ℕ = λ s l. mesh_text s.grid.n s.grid.heights s.view.spacing s.view.planes l in
    ap view_text c.by_table.ensures
    ∙ ap (λ (s : SceneState). text s c.leaves.result.now) (c.scene.view_is ∙ c.scene-scene.ensures)
    ∙ ap (text f.outlook) c.leaves.ensures.value

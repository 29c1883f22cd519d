use Rattle.std.proofs.Common.{◌≡◌, ℕ, List, [], ◌∷◌, sym, ◌∙◌, ap, ap₂}
use Rattle.mesh_defs.specs.HeightField.{HeightField}
use Rattle.mesh_defs.specs.View.{ViewPlane}
use Rattle.mesh_defs.specs.MeshText.{mesh_text}
use Rattle.obj_write.specs.Numbers.{numbers_of}
use Rattle.obj_write.specs.MeshView.{view_text}
use Rattle.obj_write.specs.declared.mesh.MeshView.{MeshView}
use Rattle.run_laws.specs.Act.{Act, WholeMesh, ReportText}
use Rattle.run_laws.specs.Fit.{fit_text}
use Rattle.run_laws.proofs.OrderLemmas.{conforming-levels}
use Rattle.run_laws.proofs.DoesLemmas.{does-same}
use Rattle.run_meshes.specs.FittedSeen.{fit_numbers}
use Rattle.run_meshes.proofs.run.show.Goals as goal

-- the text of a view without planes
text-of : (v : MeshView) (grid : HeightField) (leaves : List ℕ) (spacing : ℕ) → v.wedges.now ≡ grid
    → v.leaves.now ≡ leaves → v.spacing ≡ spacing → v.planes.now ≡ [] → view_text v ≡ fit_text spacing grid leaves
text-of v grid leaves spacing heights triangles steps none =
    ap (λ (g : HeightField). mesh_text g.n g.heights v.spacing v.planes.now v.leaves.now) heights
    ∙ ap (λ k. mesh_text grid.n grid.heights k v.planes.now v.leaves.now) steps
    ∙ ap (λ (p : List ViewPlane). mesh_text grid.n grid.heights spacing p v.leaves.now) none
    ∙ ap (mesh_text grid.n grid.heights spacing []) triangles

pub show_mesh-requires-clause-view : goal.show_mesh-requires-clause-view
show_mesh-requires-clause-view g c =
    let f = c.args.fitted.now in
    let v = c.of_heights-view.ensures in
    let view = c.of_heights-view.result in
    let same : view.leaves.now ≡ f.fit.leaves = v.leaves ∙ c.leaves.ensures.value in
    let n_is : view.wedges.now.n ≡ f.grid.n = ap (λ (g : HeightField). g.n) v.heights in
    record {
      levels = rw (same, n_is) (conforming-levels f.fit.n f.grid.n f.fit.leaves c.requires.level c.leaves.ensures.conforming);
      vertex_numbers = v.numbers ∙ c.numbers.ensures.value
          ∙ ap₂ (λ (k : ℕ) l. numbers_of k l) (c.requires.level ∙ sym n_is) (sym same);
      spacing_low = rw v.spacing c.requires.spacing_low;
      spacing_high = rw v.spacing c.requires.spacing_high;
    }

pub returns-clause-does : goal.returns-clause-does
returns-clause-does g c =
    let f = c.args.fitted.now in
    let v = c.of_heights-view.ensures in
    let acts : List ℕ → List ℕ → List Act =
    λ text line. WholeMesh c.args.prefix.now 1 text ∷ (ReportText line ∷ []) in
    let text_is = text-of c.of_heights-view.result f.grid f.fit.leaves c.args.spacing v.heights
    (v.leaves ∙ c.leaves.ensures.value) v.spacing v.planes in
    let line_is = c.as_slice.ensures.value ∙ c.fit_report-line.ensures
    ∙ ap (λ (n : ℕ). fit_numbers n f.note.triangles f.note.vertices f.note.deviation) c.n.ensures.value in
    does-same _ _ _ _ c.show_mesh.result (ap (λ (t : List ℕ). acts t c.as_slice.result.now) text_is
    ∙ ap (λ (t : List ℕ). acts (fit_text c.args.spacing f.grid f.fit.leaves) t) line_is) c.show_mesh.ensures.does

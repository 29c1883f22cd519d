use Rattle.std.proofs.Common.{ℕ, List, [], ◌∷◌, ◌∙◌, ap}
use Rattle.mesh_defs.specs.State.{text_in}
use Rattle.run_laws.specs.Act.{Act, WholeMesh, ReportText}
use Rattle.run_laws.proofs.DoesLemmas.{does-same}
use Rattle.run_meshes.specs.LeastSeen.{state_seen}
use Rattle.run_meshes.proofs.least_frames.LeastFrames.show.Goals as goal

pub returns-clause-does : goal.returns-clause-does
returns-clause-does g c =
    let f = c.args.self.now in
    let acts : List ℕ → List ℕ → List Act =
    λ text line. WholeMesh f.prefix.now f.frames text ∷ (ReportText line ∷ []) in
    does-same _ _ _ _ c.show_mesh.result
    (ap (λ (t : List ℕ). acts t c.as_slice.result.now) c.view.ensures.text
    ∙ ap (acts (text_in (state_seen f) f.least.leaves)) (c.as_slice.ensures.value ∙ c.least_report-line.ensures))
    c.show_mesh.ensures.does

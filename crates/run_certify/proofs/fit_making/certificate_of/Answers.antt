-- A sound certificate of the goal of the words, without reasons behind the mesh of an error, may be made.
use Rattle.std.proofs.Common.{◌≡◌, ℕ, List, Result, Ok, Err, IfOk, ◌∙◌, ap, subst}
use Rattle.mesh_defs.specs.HeightField.{HeightField}
use Rattle.certificate_laws.specs.declared.fit_reason.Target.{Target}
use Rattle.certificate_laws.specs.FitCertificate.{FitCertificate, IsFitSound}
use Rattle.certificate_laws.specs.Making.{HasNoneBehind}
use Rattle.certificate_laws.proofs.FitSoundLemmas.{sound-few}
use Rattle.run_words.specs.Words.{FitMaking}
use Rattle.run_laws.specs.Certify.{IsFitMade}
use Rattle.run_laws.specs.Fit.{target_of}
use Rattle.run_words.specs.FitView.{goal_seen}
use Rattle.run_certify.proofs.fit_making.certificate_of.Goals as goal

made : {E : Type 0} (m : FitMaking) (grid : HeightField) (target : Target) (r : Result FitCertificate E) →
    target ≡ target_of grid.n m.goal
    → IfOk r (λ c. (mesh : List ℕ) × IsFitSound grid.n grid.heights target c mesh) →
    IfOk r (λ c. HasNoneBehind target c.beyond) → IfOk r (λ c. IsFitMade m grid c)
made m grid target (Ok cert) same sound behind =
    let is = subst (λ (t : Target). IsFitSound grid.n grid.heights t cert sound.0) same sound.1 in
    record {
      triangles = sound.0;
      sound = is;
      behind = subst (λ (t : Target). HasNoneBehind t cert.beyond) same behind;
      few = sound-few grid.n grid.heights (target_of grid.n m.goal) cert sound.0 is;
    }
made m grid target (Err e) same sound behind = tt

pub returns : goal.returns
returns c =
    made _ c.args.grid.now c.target_in-target.result c.make.result
    (c.target_in-target.ensures.value ∙ ap (λ (n : ℕ). target_of n (goal_seen c.args.words.now.goal)) c.n.ensures.value)
    c.make.ensures.sound c.make.ensures.behind

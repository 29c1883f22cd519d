-- The reasons of two passes are a sound certificate.
use Rattle.std.proofs.Common.{ℕ, ◌-◌, ◌<◌, ◌≤◌, inl, inr, Bool, List, length, refl, arith, ⊎_elim}
use Rattle.std.proofs.lemmas.Bool.{cases_lt}
use Rattle.mesh_defs.specs.ClosedSet.{IsClosed, leaves_of}
use Rattle.mesh_defs.specs.Priority.{worst_of}
use Rattle.mesh_laws.proofs.ConformityLemmas.{IsConforming-leaves_of}
use Rattle.fit_laws.specs.Error.{error_of}
use Rattle.fit_laws.proofs.FitLemmas.{fit_mesh}
use Rattle.certificate_laws.specs.declared.fit_reason.Target.{Target}
use Rattle.certificate_laws.specs.declared.fit_reason.Target.TheVariants.{Error, Budget}
use Rattle.certificate_laws.specs.FitCertificate.{FitCertificate, LeadsTo, LeadsToFit, IsFor, IsWithinTarget, IsEnough}
use Rattle.certificate_laws.specs.FitCertificate.{IsFitSound}
use Rattle.certificate_laws.proofs.LeadLemmas.{leads-closed}
use Rattle.certificate_laws.proofs.FitSoundLemmas.{fitted-closed, fitted-least}
use Rattle.certificate_laws.specs.Making.{IsBestTolerance, IsBelow}

module _ (n : ℕ) (heights : List ℕ) (cert : FitCertificate) (has over : ℕ → Bool)
    (fitted : LeadsToFit n heights cert has)
    (beyond : LeadsTo n heights (cert.tolerance - 1) has cert.beyond over) where
  -- the tolerance is that of the target
  made-for : (target : Target) → IsBestTolerance n (error_of n heights) target cert.tolerance →
      IsFor target cert.tolerance
  made-for (Error tolerance) best = best
  made-for (Budget triangles) best = tt

  -- the mesh has no more triangles than the one that was found
  made-within : (target : Target) → IsBestTolerance n (error_of n heights) target cert.tolerance
      → IsWithinTarget target (length (leaves_of n has))
  made-within (Error tolerance) best = tt
  made-within (Budget triangles) best =
      let fit = fit_mesh n cert.tolerance (error_of n heights) has (fitted-least n heights cert has fitted) in
      let few : length (leaves_of n has) ≤ length best.0 = fit.fewest best.0 best.1.conforming best.1.within in
      let small = best.2 in omega arith

  -- and what has a lower error exceeds the budget
  made-enough : (target : Target) → IsBestTolerance n (error_of n heights) target cert.tolerance →
      IsBelow target (error_of n heights) (cert.tolerance - 1) (leaves_of n over)
      → IsEnough target cert.tolerance (length (leaves_of n over))
  made-enough (Error tolerance) best below = tt
  made-enough (Budget triangles) best below = ⊎_elim
      (λ (some : 0 < cert.tolerance). ⊎_elim
      (λ (many : triangles < length (leaves_of n over)). inr many)
      (λ (few : length (leaves_of n over) ≤ triangles).
      let closed : IsClosed n over = leads-closed n heights (cert.tolerance - 1) has cert.beyond over
      (fitted-closed n heights cert has fitted) beyond in
      let least : worst_of (error_of n heights) best.0 ≤ worst_of (error_of n heights) (leaves_of n over) =
      (best.4 some).optimal (leaves_of n over) (IsConforming-leaves_of n over closed) few in
      let own = best.3 in
      let lower : worst_of (error_of n heights) (leaves_of n over) ≤ cert.tolerance - 1 = below in
      absurd (omega arith))
      (cases_lt triangles (length (leaves_of n over))))
      (λ (none : cert.tolerance ≤ 0). inl (omega arith))
      (cases_lt 0 cert.tolerance)

  -- so it is sound
  pub made-sound : (target : Target) → IsBestTolerance n (error_of n heights) target cert.tolerance →
      IsBelow target (error_of n heights) (cert.tolerance - 1) (leaves_of n over) →
      IsFitSound n heights target cert (leaves_of n has)
  made-sound target best below = record {
    has = has;
    over = over;
    own = made-for target best;
    fitted = fitted;
    few = made-within target best;
    beyond = beyond;
    enough = made-enough target best below;
    leaves = refl;
  }

-- A sound certificate proves its mesh the best for its target, and how great it is at most.
use Rattle.std.proofs.Common.{◌≡◌, ℕ, ◌+◌, ◌-◌, ◌*◌, ◌^◌, ◌<◌, ◌≤◌, Bool, false, List, [], ◌∷◌, All, length}
use Rattle.std.proofs.Common.{length-append, sym, ◌∙◌, ap, subst, arith, ⊎_elim, pow-add}
use Rattle.std.proofs.lemmas.Bool.{cases_lt}
use Rattle.mesh_defs.specs.BoundingBox.{point}
use Rattle.mesh_defs.specs.ClosedSet.{IsClosed, leaves_of, leaves_under}
use Rattle.mesh_defs.specs.Priority.{worst_of}
use Rattle.mesh_laws.specs.Ancestors.{ancestors_of}
use Rattle.mesh_laws.proofs.DescentLemmas.{IsAddress-splittable}
use Rattle.mesh_laws.proofs.ClosureLemmas.{nothing_closed, leaves_under-some, leaves_of-same}
use Rattle.mesh_laws.proofs.LeafLemmas.{leaves-most, four-power}
use Rattle.fit_laws.proofs.PlaneLemmas.{off_plane-most}
use Rattle.mesh_laws.specs.Least.{IsLeastMesh}
use Rattle.fit_laws.specs.Error.{error_of}
use Rattle.fit_laws.specs.Settled.{IsLeastSettled}
use Rattle.fit_laws.specs.Budget.{IsBudgetMesh}
use Rattle.fit_laws.proofs.SettledLemmas.{nothing_needed, needed-lower}
use Rattle.fit_laws.proofs.FitLemmas.{fit_mesh, fit_tight}
use Rattle.fit_laws.proofs.BudgetLemmas.{budget_end, budget_exact}
use Rattle.fit_laws.proofs.OrderLemmas.{leaves-order}
use Rattle.certificate_laws.specs.declared.fit_reason.Witness.{Witness}
use Rattle.certificate_laws.specs.declared.fit_reason.Target.{Target}
use Rattle.certificate_laws.specs.declared.fit_reason.Target.TheVariants.{Error, Budget}
use Rattle.certificate_laws.specs.FitCertificate.{FitCertificate, IsFitReason, LeadsTo, LeadsToFit, IsFitSound}
use Rattle.certificate_laws.proofs.LeadLemmas.{leads-closed, leads-needed, leads-grown}

-- the set of the mesh is closed
pub fitted-closed : (n : ℕ) (heights : List ℕ) (cert : FitCertificate) (has : ℕ → Bool) →
    LeadsToFit n heights cert has → IsClosed n has
fitted-closed n heights cert has fitted = leads-closed n heights cert.tolerance (λ a. false) cert.needed has
    (nothing_closed n) fitted.needed

-- and the least settled one
pub fitted-least : (n : ℕ) (heights : List ℕ) (cert : FitCertificate) (has : ℕ → Bool) → LeadsToFit n heights cert has →
    IsLeastSettled n cert.tolerance (error_of n heights) has
fitted-least n heights cert has fitted = record {
  settled = record { closed = fitted-closed n heights cert has fitted; within = fitted.within };
  needed = leads-needed n heights cert.tolerance (λ a. false) cert.needed has (nothing_closed n)
      (nothing_needed n cert.tolerance (error_of n heights)) fitted.needed;
}

-- so the mesh is the fewest triangles for the tolerance
pub sound-least : (n : ℕ) (heights : List ℕ) (target : Target) (cert : FitCertificate) (mesh : List ℕ)
    → IsFitSound n heights target cert mesh →
    IsLeastMesh n cert.tolerance (error_of n heights) mesh
sound-least n heights target cert mesh sound =
    subst (λ (l : List ℕ). IsLeastMesh n cert.tolerance (error_of n heights) l) (sym sound.leaves)
    (fit_mesh n cert.tolerance (error_of n heights) sound.has (fitted-least n heights cert sound.has sound.fitted))

-- which is that of the target
pub sound-error : (n : ℕ) (heights : List ℕ) (tolerance : ℕ) (cert : FitCertificate) (mesh : List ℕ)
    → IsFitSound n heights (Error tolerance) cert mesh →
    IsLeastMesh n tolerance (error_of n heights) mesh
sound-error n heights tolerance cert mesh sound =
    subst (λ k. IsLeastMesh n k (error_of n heights) mesh) sound.own
    (sound-least n heights (Error tolerance) cert mesh sound)

-- and no mesh of the budget is off by less
pub sound-budget : (n : ℕ) (heights : List ℕ) (triangles : ℕ) (cert : FitCertificate) (mesh : List ℕ) →
    IsFitSound n heights (Budget triangles) cert mesh → IsBudgetMesh n triangles (error_of n heights) mesh
sound-budget n heights triangles cert mesh sound =
    let e : ℕ → ℕ = error_of n heights in
    let has : ℕ → Bool = sound.has in
    let fit : IsLeastSettled n cert.tolerance e has = fitted-least n heights cert has sound.fitted in
    let within : worst_of e (leaves_of n has) ≤ cert.tolerance = sound.fitted.within in
    let exact : cert.tolerance ≡ 0 → IsBudgetMesh n triangles e (leaves_of n has) =
    λ none. budget_exact n triangles e has (subst (λ k. IsLeastSettled n k e has) none fit) sound.few in
    subst (λ (l : List ℕ). IsBudgetMesh n triangles e l) (sym sound.leaves) (⊎_elim
    exact
    (λ (many : triangles < length (leaves_of n sound.over)). ⊎_elim
    (λ (some : 0 < cert.tolerance).
    budget_end n triangles e has sound.over (fit_tight n cert.tolerance e has fit) sound.few
    (cert.tolerance - 1) (omega arith)
    (leads-needed n heights (cert.tolerance - 1) has cert.beyond sound.over fit.settled.closed
    (needed-lower n cert.tolerance e has (cert.tolerance - 1) (omega arith) fit.needed) sound.beyond) many)
    (λ (none : cert.tolerance ≤ 0). exact (omega arith))
    (cases_lt 0 cert.tolerance))
    sound.enough)

-- the mesh stands depth first
pub sound-order : (n : ℕ) (heights : List ℕ) (target : Target) (cert : FitCertificate) (mesh : List ℕ)
    → IsFitSound n heights target cert mesh →
    leaves_of n (ancestors_of mesh) ≡ mesh
sound-order n heights target cert mesh sound =
    ap (λ (l : List ℕ). leaves_of n (ancestors_of l)) sound.leaves
    ∙ leaves-order n sound.has (fitted-closed n heights cert sound.has sound.fitted) ∙ sym sound.leaves

-- how great it is

-- the halves of the square have a leaf each
pub leaves-two : (n : ℕ) (has : ℕ → Bool) → 2 ≤ length (leaves_of n has)
unfolding leaves_of
leaves-two n has =
    let lower = leaves_under-some (2 * n) has 2 in let upper = leaves_under-some (2 * n) has 3 in
    let both = length-append (leaves_under (2 * n) has 2) (leaves_under (2 * n) has 3) in
    omega arith

-- each reason splits a triangle, so there are no more of them than triangles that may be split
pub sound-few : (n : ℕ) (heights : List ℕ) (target : Target) (cert : FitCertificate) (mesh : List ℕ)
    → IsFitSound n heights target cert mesh →
    length cert.needed + length cert.beyond + 2 ≤ 2 ^ (2 * n + 1)
sound-few n heights target cert mesh sound =
    let two = leaves-two n (λ a. false) in
    let first = leads-grown n heights cert.tolerance (λ a. false) cert.needed sound.has (nothing_closed n)
    sound.fitted.needed in
    let second = leads-grown n heights (cert.tolerance - 1) sound.has cert.beyond sound.over
    (fitted-closed n heights cert sound.has sound.fitted) sound.beyond in
    let most = leaves-most n sound.over in
    let four = four-power n in
    let double = pow-add 2 (2 * n) 1 in
    omega arith

-- no way off a plane is above the greatest height, so neither is the tolerance of a reason
reason-low : (n : ℕ) (heights : List ℕ) (tolerance top : ℕ) (has : ℕ → Bool) (r : Witness)
    → All (λ h. h ≤ top) heights →
    IsFitReason n heights tolerance has r → tolerance < 2 ^ n * top
reason-low n heights tolerance top has r bounded reason =
    let most = off_plane-most n heights top r.triangle (point r.x r.y)
    (IsAddress-splittable n r.triangle reason.splittable) bounded reason.off.held in
    let above = reason.off.above in omega arith

-- nor that of reasons that split anything
leads-low : (n : ℕ) (heights : List ℕ) (tolerance top : ℕ) (has : ℕ → Bool) (reasons : List Witness)
    (after : ℕ → Bool) →
    All (λ h. h ≤ top) heights → LeadsTo n heights tolerance has reasons after →
    length (leaves_of n has) < length (leaves_of n after) → tolerance < 2 ^ n * top
leads-low n heights tolerance top has [] after bounded leads more =
    let same = ap (λ (l : List ℕ). length l) (leaves_of-same n has after leads) in absurd (omega arith)
leads-low n heights tolerance top has (r ∷ reasons) after bounded leads more =
    reason-low n heights tolerance top has r bounded leads.1

-- for a budget the tolerance is at most the greatest height, times 2 ^ n
pub sound-low : (n : ℕ) (heights : List ℕ) (triangles top : ℕ) (cert : FitCertificate) (mesh : List ℕ) →
    All (λ h. h ≤ top) heights → IsFitSound n heights (Budget triangles) cert mesh → cert.tolerance ≤ 2 ^ n * top
sound-low n heights triangles top cert mesh bounded sound =
    let few : length (leaves_of n sound.has) ≤ triangles = sound.few in
    ⊎_elim
    (λ (none : cert.tolerance ≡ 0). omega arith)
    (λ (many : triangles < length (leaves_of n sound.over)).
    let low = leads-low n heights (cert.tolerance - 1) top sound.has cert.beyond sound.over bounded sound.beyond
    (omega arith) in
    omega arith)
    sound.enough

-- The reasons of a sound certificate, replayed, make its mesh.
use Rattle.std.proofs.Common.{◌≡◌, ℕ, Bool, false, List, Option, Some, None, IfSome, IfNone, sym, ◌∙◌, subst}
use Rattle.mesh_defs.specs.ClosedSet.{leaves_of}
use Rattle.mesh_laws.proofs.ClosureLemmas.{leaves_of-same}
use Rattle.certificate_laws.specs.declared.fit_reason.Witness.{Witness}
use Rattle.certificate_laws.specs.declared.fit_reason.Target.{Target}
use Rattle.certificate_laws.specs.FitCertificate.{FitCertificate, LeadsTo, IsFirstBadFit, IsFitSound}
use Rattle.certificate_laws.proofs.LeadLemmas.{leads-unique, leads-no_bad}

pub mesh-listed : (n : ℕ) (heights : List ℕ) (target : Target) (cert : FitCertificate) (mesh : List ℕ) (own : ℕ)
    (reasons : List Witness) (old has : ℕ → Bool)
    (answer : Option ℕ) → IsFitSound n heights target cert mesh → own ≡ cert.tolerance → reasons ≡ cert.needed →
    ((a : ℕ) → old a ≡ false) →
    IfNone answer (LeadsTo n heights own old reasons has) →
    IfSome answer (λ k. IsFirstBadFit n heights own old reasons k) → leaves_of n has ≡ mesh
mesh-listed n heights target cert mesh own reasons old has (Some k) sound e f none all bad =
    absurd (leads-no_bad n heights cert.tolerance old (λ a. false) cert.needed k sound.has none
    (subst (λ (l : List Witness). IsFirstBadFit n heights cert.tolerance old l k) f
    (subst (λ t. IsFirstBadFit n heights t old reasons k) e bad)) sound.fitted.needed)
mesh-listed n heights target cert mesh own reasons old has None sound e f none all bad =
    leaves_of-same n has sound.has
    (leads-unique n heights cert.tolerance old (λ a. false) cert.needed has sound.has none
    (subst (λ (l : List Witness). LeadsTo n heights cert.tolerance old l has) f
    (subst (λ t. LeadsTo n heights t old reasons has) e all)) sound.fitted.needed)
    ∙ sym sound.leaves

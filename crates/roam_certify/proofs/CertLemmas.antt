-- What a maker lists is sound.
use Rattle.std.proofs.Common.{◌≡◌, ℕ, ◌+◌, ◌≤◌, ◌⊎◌, List, [], length, subst, ⊎_elim}
use Rattle.mesh_defs.specs.Priority.{worst_of}
use Rattle.mesh_defs.specs.Falling.{IsFalling}
use Rattle.certificate_laws.specs.declared.reason.Reason.{Reason}
use Rattle.certificate_laws.specs.Certificate.{AreReasons, AreAllReasons, IsSound, IsOptimal}
use Rattle.certificate_laws.proofs.MakeLemmas.{all-enough}

-- reasons of an optimal mesh, that are as many as the budget asks for or all that there are
pub sound-made : (n m budget worst : ℕ) (priority : ℕ → ℕ) (leaves : List ℕ) (reasons : List Reason) →
    IsFalling n priority →
    IsOptimal n budget priority leaves → worst ≡ worst_of priority leaves → m ≡ n →
    AreReasons m priority worst [] reasons →
    (budget ≤ length reasons + 1) ⊎ AreAllReasons m priority worst reasons → IsSound n budget priority leaves reasons
sound-made n m budget worst priority leaves reasons falling optimal greatest grid are many =
    let own : AreReasons n priority (worst_of priority leaves) [] reasons =
    subst (λ w. AreReasons n priority w [] reasons) greatest
    (subst (λ k. AreReasons k priority worst [] reasons) grid are) in
    record {
      conforming = optimal.conforming;
      within = optimal.within;
      reasoned = own;
      enough = λ some. ⊎_elim
          (λ full. full)
          (λ all. all-enough n budget priority leaves reasons falling optimal own
          (subst (λ w. AreAllReasons n priority w reasons) greatest
          (subst (λ k. AreAllReasons k priority worst reasons) grid all)) some)
          many;
    }

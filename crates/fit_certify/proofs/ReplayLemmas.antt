-- One reason more of a list, and the first that is none.
use Rattle.std.proofs.Common.{◌≡◌, ℕ, ◌+◌, ◌<◌, Bool, List, [], ◌∷◌, ◌++◌, length, take, drop, get_or, append_assoc}
use Rattle.std.proofs.Common.{sym, ◌∙◌, ap, subst, arith}
use Rattle.std.proofs.lemmas.List.{take_more, take-append-drop, length-take-le}
use Rattle.mesh_defs.specs.ClosedSet.{IsLeastClosed}
use Rattle.mesh_defs.specs.Greedy.{with_triangle}
use Rattle.certificate_laws.specs.declared.fit_reason.Witness.{Witness}
use Rattle.certificate_laws.specs.FitCertificate.{IsFitReason, LeadsTo, IsFirstBadFit}
use Rattle.certificate_laws.proofs.LeadLemmas.{leads-next}

-- the first ones with one more
take-next : (reasons : List Witness) (k : ℕ) (r : Witness) → k < length reasons → r ≡ get_or reasons k r
    → take (k + 1) reasons ≡ take k reasons ++ r ∷ []
take-next reasons k r within is = take_more reasons k r within ∙ ap (λ x. take k reasons ++ x ∷ []) (sym is)

module _ (n : ℕ) (heights : List ℕ) (tolerance : ℕ) (has mid : ℕ → Bool) (reasons : List Witness) (k : ℕ) (r : Witness)
    (within : k < length reasons)
    (is : r ≡ get_or reasons k r) (leads : LeadsTo n heights tolerance has (take k reasons) mid) where
  -- that is a reason, too
  pub replay-next : (next : ℕ → Bool) → IsFitReason n heights tolerance mid r →
      IsLeastClosed n (with_triangle mid r.triangle) next →
      LeadsTo n heights tolerance has (take (k + 1) reasons) next
  replay-next next reason least =
      subst (λ (l : List Witness). LeadsTo n heights tolerance has l next) (sym (take-next reasons k r within is))
      (leads-next n heights tolerance has (take k reasons) mid next r leads reason least)

  -- or is the first that is none
  pub replay-bad : (IsFitReason n heights tolerance mid r → ⊥) → IsFirstBadFit n heights tolerance has reasons (k + 1)
  replay-bad fails = record {
    good = take k reasons;
    bad = r;
    rest = drop (k + 1) reasons;
    after = mid;
    parts = sym (take-append-drop (k + 1) reasons)
        ∙ ap (λ (l : List Witness). l ++ drop (k + 1) reasons) (take-next reasons k r within is)
        ∙ append_assoc (take k reasons) (r ∷ []) (drop (k + 1) reasons);
    place = ap (λ m. m + 1) (length-take-le k reasons (omega arith));
    leads = leads;
    fails = fails;
  }

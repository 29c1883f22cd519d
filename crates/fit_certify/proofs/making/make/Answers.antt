-- Both passes begin at closed sets, and their reasons are sound.
use Rattle.std.proofs.Common.{◌≡◌, ℕ, Bool, false, List, sym, subst}
use Rattle.mesh_defs.specs.ClosedSet.{IsClosed, leaves_of}
use Rattle.mesh_laws.specs.Sweep.{is_flagged}
use Rattle.certificate_laws.specs.FitCertificate.{FitCertificate, LeadsToFit, IsFitSound}
use Rattle.certificate_laws.specs.Making.{HasNoneBehind}
use Rattle.certificate_laws.proofs.LeadLemmas.{leads-closed, leads-same}
use Rattle.certificate_laws.proofs.FitMakeLemmas.{made-sound}
use Rattle.fit_certify.proofs.SettleLemmas.{known-none}
use Rattle.fit_certify.proofs.making.make.Goals as goal

-- what holds of a table holds of its slice
none_in : (flags items : List Bool) → flags ≡ items → ((a : ℕ) → is_flagged items a ≡ false) →
    (a : ℕ) → is_flagged flags a ≡ false
none_in flags items same none = subst (λ (l : List Bool). (a : ℕ) → is_flagged l a ≡ false) (sym same) none

closed_in : (n k : ℕ) (flags items : List Bool) → k ≡ n → flags ≡ items → IsClosed k (is_flagged items) →
    IsClosed n (is_flagged flags)
closed_in n k flags items level same closed =
    subst (λ (l : List Bool). IsClosed n (is_flagged l)) (sym same)
    (subst (λ (i : ℕ). IsClosed i (is_flagged items)) level closed)

pub settle-requires-clause-closed : goal.settle-requires-clause-closed
settle-requires-clause-closed c =
    closed_in _ _ _ _ c.n-n.ensures.value c.as_mut_slice-flags.ensures.value c.in_ok-flags.ensures.closed

pub settle-requires-clause-known : goal.settle-requires-clause-known
settle-requires-clause-known c =
    known-none c.args.grid.now.n c.args.grid.now.heights c.lower_of-lower.result _
    (none_in _ _ c.as_mut_slice-known.ensures.value c.in_ok-known.ensures.empty)

pub settle_below-requires-clause-closed : goal.settle_below-requires-clause-closed
settle_below-requires-clause-closed c =
    leads-closed c.args.grid.now.n c.args.grid.now.heights c.in_ok-tolerance.tolerance
    (is_flagged c.as_mut_slice-flags.result.now) c.in_ok-needed.needed.items
    (is_flagged c.settle.new.flags)
    (closed_in _ _ _ _ c.n-n.ensures.value c.as_mut_slice-flags.ensures.value c.in_ok-flags.ensures.closed)
    c.in_ok-needed.ensures.leads

pub returns : goal.returns
returns c =
    let n : ℕ = c.args.grid.now.n in
    let heights : List ℕ = c.args.grid.now.heights in
    let own : ℕ = c.in_ok-tolerance.tolerance in
    let first : ℕ → Bool = is_flagged c.as_mut_slice-flags.result.now in
    let has : ℕ → Bool = is_flagged c.settle.new.flags in
    let cert : FitCertificate = record {
      tolerance = own;
      needed = c.in_ok-needed.needed.items;
      beyond = c.in_ok-beyond.beyond.items;
    } in
    let fitted : LeadsToFit n heights cert has = record {
      needed = leads-same n heights own first (λ a. false) cert.needed has
          (none_in _ _ c.as_mut_slice-flags.ensures.value c.in_ok-flags.ensures.empty) c.in_ok-needed.ensures.leads;
      within = c.in_ok-needed.ensures.within;
    } in
    record {
      sound = (
        leaves_of n has,
        subst (λ (x : FitCertificate). IsFitSound n heights c.args.target x (leaves_of n has)) (sym c.new.ensures)
            (made-sound n heights cert has (is_flagged c.settle_below.new.flags) fitted
            (c.in_ok-beyond.ensures.leads own c.lower_of-lower.ensures.value)
            c.args.target c.in_ok-tolerance.ensures.best
            (c.in_ok-beyond.ensures.below own c.lower_of-lower.ensures.value)),
      );
      behind = subst (λ (x : FitCertificate). HasNoneBehind c.args.target x.beyond) (sym c.new.ensures)
          c.in_ok-beyond.ensures.none;
    }

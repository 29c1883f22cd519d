-- The points and the reasons of two passes are sound.
use Rattle.std.proofs.Common.{◌≡◌, ℕ, Bool, false, List, [], refl, sym, ◌∙◌, ap, subst}
use Rattle.mesh_defs.specs.declared.point.Point.{Point}
use Rattle.mesh_defs.specs.ClosedSet.{leaves_of}
use Rattle.mesh_laws.specs.Sweep.{is_flagged}
use Rattle.certificate_laws.specs.declared.fit_reason.Witness.{Witness}
use Rattle.certificate_laws.specs.FitCertificate.{FitCertificate}
use Rattle.certificate_laws.specs.Keeping.{KeptCertificate, IsKeptSound}
use Rattle.certificate_laws.proofs.KeepingLemmas.{kept-made}
use Rattle.fit_certify.specs.Keeping.{AreNeeded}
use Rattle.fit_certify.proofs.SettleLemmas.{known-none}
use Rattle.fit_certify.proofs.keeping.make_kept.Goals as goal

-- a certificate of these parts
abbrev kept_of : List Point → FitCertificate → KeptCertificate
kept_of points cert = record { needs = points; rest = cert }

abbrev fit_of : ℕ → List Witness → List Witness → FitCertificate
fit_of own before behind = record { tolerance = own; needed = before; beyond = behind }

pub settle-requires-clause-closed : goal.settle-requires-clause-closed
settle-requires-clause-closed c =
    (subst (λ (k : ℕ). AreNeeded k c.args.points.now c.args.points.now c.in_ok-needs.needs.items c.list_needs.new.flags)
    c.n-n.ensures.value c.in_ok-needs.ensures.needed).begun.closed

pub settle-requires-clause-known : goal.settle-requires-clause-known
settle-requires-clause-known c =
    known-none c.args.grid.now.n c.args.grid.now.heights c.args.tolerance _
    (subst (λ (l : List Bool). (a : ℕ) → is_flagged l a ≡ false) (sym c.deref_mut.ensures.value)
    c.in_ok-known.ensures.empty)

pub returns-clause-sound : goal.returns-clause-sound
returns-clause-sound c =
    let n : ℕ = c.args.grid.now.n in
    let heights : List ℕ = c.args.grid.now.heights in
    let start : ℕ → Bool = is_flagged c.list_needs.new.flags in
    let has : ℕ → Bool = is_flagged c.settle.new.flags in
    let needed =
    subst (λ (k : ℕ). AreNeeded k c.args.points.now c.args.points.now c.in_ok-needs.needs.items c.list_needs.new.flags)
    c.n-n.ensures.value c.in_ok-needs.ensures.needed in
    let cert : KeptCertificate = record {
      needs = c.in_ok-needs.needs.items;
      rest = record { tolerance = c.args.tolerance; needed = c.in_ok-needed.needed.items; beyond = [] };
    } in (
      leaves_of n has,
      subst (λ (x : KeptCertificate). IsKeptSound n heights c.args.points.now c.args.tolerance x (leaves_of n has))
          (sym (c.new-3.ensures ∙ ap (λ (r : FitCertificate). kept_of c.in_ok-needs.needs.items r)
          (c.new-2.ensures ∙ ap (λ (l : List Witness). fit_of c.args.tolerance c.in_ok-needed.needed.items l)
          c.new.ensures.items)))
          (kept-made n heights c.args.points.now cert start has needed.are needed.begun needed.kept
          c.in_ok-needed.ensures.leads c.in_ok-needed.ensures.within refl),
    )

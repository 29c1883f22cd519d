-- Each test that a sound certificate has to pass was passed.
use Rattle.std.proofs.Common.{ℕ, ◌-◌, ◌≤◌, Bool, List, length, refl, ◌∙◌, ap, subst}
use Rattle.mesh_defs.specs.ClosedSet.{leaves_of}
use Rattle.mesh_laws.specs.Sweep.{is_flagged}
use Rattle.fit_laws.proofs.ErrorLemmas.{worst-deviation}
use Rattle.certificate_laws.specs.declared.fit_reason.Witness.{Witness}
use Rattle.certificate_laws.specs.FitCertificate.{LeadsTo, IsWithinTarget, IsEnough}
use Rattle.fit_certify.proofs.verdict.mesh_verdict.Goals as goal

pub returns : goal.returns
returns c =
    let n : ℕ = c.args.grid.now.n in
    let heights : List ℕ = c.args.grid.now.heights in
    let cert = c.args.cert.now in
    let has : ℕ → Bool = is_flagged c.args.flags.now in
    let over : ℕ → Bool = is_flagged c.replay.new.flags in
    let less = c.saturating_sub.ensures ∙ ap (λ k. k - 1) c.tolerance-tolerance.ensures in
    let within = subst (λ k. c.measure-mesh.result.error ≤ k) c.tolerance-tolerance.ensures c.if-mesh-tolerance.false in
    let count = c.list_leaves.ensures.count ∙ ap (λ k. length (leaves_of k over)) c.n.ensures.value in (
      leaves_of n has,
      record {
        has = has;
        over = over;
        own = c.requires.own;
        fitted = record {
          needed = c.requires.leads;
          within = subst (λ k. k ≤ cert.tolerance) c.measure-mesh.ensures.error within;
        };
        few = subst (λ k. IsWithinTarget c.args.target k) c.measure-mesh.ensures.triangles
            (c.is_within.ensures.0 c.if-not-is_within.false);
        beyond = subst (λ (l : List Witness). LeadsTo n heights (cert.tolerance - 1) has l over) c.beyond.ensures.value
            (subst (λ k. LeadsTo n heights k has c.beyond.result.now over) less c.in_default.ensures.all);
        enough = subst (λ k. IsEnough c.args.target cert.tolerance k) count
            (subst (λ k. IsEnough c.args.target k c.list_leaves.result) c.tolerance-tolerance.ensures
            (c.is_enough.ensures.0 c.if-not-is_enough.false));
        leaves = refl;
      },
      c.measure-mesh.ensures.triangles,
      c.measure-mesh.ensures.error ∙ worst-deviation n heights (leaves_of n has),
    )

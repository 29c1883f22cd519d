-- The marks are those of the points on the grid, and the first reason that is none stands behind the points.
use Rattle.std.proofs.Common.{ℕ, ◌+◌, List, All, inl, inr, length, sym, ◌∙◌, ap, subst}
use Rattle.mesh_defs.specs.declared.point.Point.{Point}
use Rattle.certificate_laws.specs.declared.fit_reason.FitVerdict.{FitVerdict}
use Rattle.certificate_laws.specs.Keeping.{IsNeed, IsKeptRejected, IsKeptVerdict}
use Rattle.fit_certify.proofs.KeepingLemmas.{needs-inside}
use Rattle.fit_certify.proofs.kept_verdict.check_kept.Goals as goal

pub returns-in-Some : goal.returns-in-Some
returns-in-Some c =
    let heights : List ℕ = c.args.grid.now.heights in
    let points : List Point = c.args.points.now in
    let cert = c.args.cert.now in
    record {
      verdict = subst (λ (v : FitVerdict). IsKeptVerdict c.args.grid.now.n heights points c.args.tolerance cert v)
          (sym c.rejected.ensures)
          (subst (λ (k : ℕ). IsKeptRejected k heights points c.args.tolerance cert c.in-Some.why)
          (c.in_ok-marks.ensures.n ∙ c.n-n.ensures.value)
          (c.in-Some.ensures.some points heights c.in_ok-marks.ensures.marked));
    }

pub kept_verdict-requires-clause-leads : goal.kept_verdict-requires-clause-leads
kept_verdict-requires-clause-leads c =
    let points : List Point = c.args.points.now in
    let needs = subst (λ (k : ℕ). All (IsNeed k points) c.args.cert.now.needs)
    (c.in_ok-marks.ensures.n ∙ c.n-n.ensures.value) (c.in_default.ensures.needs points c.in_ok-marks.ensures.marked) in
    let all = c.in-None.ensures.all (needs-inside c.args.grid.now.n points c.args.cert.now.needs c.requires.inside needs) in
    record { needs = needs; start = all.0; begun = all.1; needed = all.2 }

pub returns-in-Some-replay_kept : goal.returns-in-Some-replay_kept
returns-in-Some-replay_kept c =
    let n : ℕ = c.args.grid.now.n in
    let heights : List ℕ = c.args.grid.now.heights in
    let points : List Point = c.args.points.now in
    let cert = c.args.cert.now in
    let needs = subst (λ (k : ℕ). All (IsNeed k points) cert.needs)
    (c.in_ok-marks.ensures.n ∙ c.n-n.ensures.value) (c.in_default.ensures.needs points c.in_ok-marks.ensures.marked) in
    let place : ℕ = c.in-Some-replay_kept.place in
    let bad = c.in-Some-replay_kept.ensures.bad (needs-inside n points cert.needs c.requires.inside needs) in
    record {
      verdict = subst (λ (v : FitVerdict). IsKeptVerdict n heights points c.args.tolerance cert v)
          (sym c.rejected-in-Some-replay_kept.ensures) (
            c.in_default.ensures.own,
            inr (inl (
              bad.0,
              needs,
              bad.1,
              place,
              bad.2,
              ap (λ (l : List Point). length l + place) c.needs.ensures.value,
            )),
          );
    }

use Rattle.std.proofs.Common.{List, ℕ, sym, ◌∙◌}
use Rattle.roam_edge.specs.Shelf.{bytes_of}
use Rattle.run_laws.specs.Fit.{fit_text}
use Rattle.run_certify.proofs.FitJudgingLemmas.{same-judged, differs-judged}
use Rattle.run_certify.proofs.fit_judging.judge_mesh.Goals as goal

pub returns-in-Ok-None-clause-ok : goal.returns-in-Ok-None-clause-ok
returns-in-Ok-None-clause-ok g c files told before =
    let bytes : List ℕ = bytes_of files c.args.name.now in
    let text : List ℕ = fit_text c.args.spacing c.args.grid.now c.args.mesh.now in
    same-judged before c.args.grid.now.n c.args.numbers.0 c.args.numbers.1 text bytes
    ((c.difference_laws.ensures.none text bytes).0
    (sym (c.in-Ok-None.ensures.ok files told) ∙ c.in-Ok-None.field-0-is))

pub returns-in-Ok-Some-clause-ok : goal.returns-in-Ok-Some-clause-ok
returns-in-Ok-Some-clause-ok g c files told before =
    let bytes : List ℕ = bytes_of files c.args.name.now in
    let text : List ℕ = fit_text c.args.spacing c.args.grid.now c.args.mesh.now in
    let found = sym (c.in-Ok-Some.ensures.ok files told) ∙ c.in-Ok-Some.field-0-is in
    differs-judged before c.args.grid.now.n text bytes _ c.in-Ok-Some.at
    (c.difference_laws.ensures.before text bytes _ found) (c.difference_laws.ensures.differs text bytes _ found)

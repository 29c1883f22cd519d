-- Each clause is a lemma.
use Rattle.std.proofs.Common.{◌+◌, ◌*◌, sym, ◌∙◌, arith}
use Rattle.std.proofs.lemmas.Bool.{ltb-true, lt-ltb}
use Rattle.mesh_defs.specs.Triangle.{level_of}
use Rattle.page_laws.specs.Pages.{cuts_to}
use Rattle.page_laws.proofs.PyramidLemmas.{loaded-up, known-finest}
use Rattle.page_laws.proofs.finding.finding_laws.Goals as goal

pub returns-clause-coarser : goal.returns-clause-coarser
returns-clause-coarser c w q x s less low deep page =
    loaded-up w s q (q + 1) x (omega arith) (omega arith) low deep page

pub returns-clause-finest : goal.returns-clause-finest
returns-clause-finest c w q x s coarse low deep page none =
    let some = s.some in
    let e = known-finest w s q x coarse low deep page (λ finer end. none finer (omega arith)) in (
      (λ h. ltb-true (level_of x) (2 * (cuts_to w q + w.n)) (sym e ∙ h)),
      (λ less. e ∙ lt-ltb (level_of x) (2 * (cuts_to w q + w.n)) less),
    )

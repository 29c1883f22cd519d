-- Each clause is a lemma.
use Rattle.page_laws.proofs.LoadedLemmas.{joined-page, joined-half, wedge-page}
use Rattle.page_laws.proofs.surfaces.page_wedge_laws.Goals as goal

pub returns-clause-below : goal.returns-clause-below
returns-clause-below c n q p t height heights a left right tile samples big split =
    joined-page n q p t tile height heights samples a left right big split

pub returns-clause-half : goal.returns-clause-half
returns-clause-half c n q p t height heights which left right tile samples some less =
    joined-half n q p t tile height heights samples which left right some less

pub returns-clause-own : goal.returns-clause-own
returns-clause-own c = wedge-page

-- Each clause is a lemma.
use Rattle.page_laws.proofs.PyramidLemmas.{known-in, known-of, known-open, gap-forth, gap-back, open-known, open-from}
use Rattle.page_laws.proofs.PyramidLemmas.{parent-known}
use Rattle.page_laws.proofs.ChangeLemmas.{known-other}
use Rattle.page_laws.proofs.pyramids.pyramid_laws.Goals as goal

pub returns-clause-known : goal.returns-clause-known
returns-clause-known c w x = (known-in w x, known-of w x)

pub returns-clause-found : goal.returns-clause-found
returns-clause-found c = known-open

pub returns-clause-gap : goal.returns-clause-gap
returns-clause-gap c w x y s here mate = (gap-forth w s x y here mate, gap-back w s x y mate)

pub returns-clause-open : goal.returns-clause-open
returns-clause-open c w is_open x s o = (
  open-known w s is_open o x,
  (λ h. open-from w s is_open o x h.0 h.1),
)

pub returns-clause-parent : goal.returns-clause-parent
returns-clause-parent c w x s here big = parent-known w s x here big

pub returns-clause-elsewhere : goal.returns-clause-elsewhere
returns-clause-elsewhere c w loaded q t x others else =
    known-other w loaded q t others x (λ first last is. else first is)

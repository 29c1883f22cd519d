use Rattle.std.proofs.Common.{arith}
use Rattle.page_laws.specs.Pages.{is_known}
use Rattle.page_laws.specs.Loaded.{known_priority}
use Rattle.page_priority.specs.Loaded.{is_open}
use Rattle.page_priority.proofs.FallLemmas.{known-falls}
use Rattle.page_priority.proofs.ReadingLemmas.{in-reading, same-priority, same-planes}
use Rattle.page_priority.proofs.laws.loaded_laws.Goals as goal

pub returns-clause-falls : goal.returns-clause-falls
returns-clause-falls c s pyramid =
    c.open_laws.ensures.falls s.pages.large (is_open s)
    (known_priority s.pages.large s.height (is_known s.pages) s.view)
    (c.pyramid_laws.ensures.found s.pages pyramid).closed
    (known-falls s.pages.large s.height (is_known s.pages) s.view c.box_laws.ensures.flat c.box_laws.ensures.child
    c.box_laws.ensures.nested (λ a. c.pyramid_laws.ensures.parent s.pages a pyramid))

pub returns-clause-between : goal.returns-clause-between
returns-clause-between c pace s odometer to a within =
    in-reading pace s to a c.box_laws.ensures.below c.box_laws.ensures.above (c.nesting_laws.ensures.ordered s a) odometer
    within

pub returns-clause-readings : goal.returns-clause-readings
returns-clause-readings c pace s odometer a address =
    returns-clause-between c pace s odometer s.view.camera a
    (let none = c.view_laws.ensures.no_move s.view.camera in omega arith)

pub returns-clause-same : goal.returns-clause-same
returns-clause-same c = same-priority

pub returns-clause-planes : goal.returns-clause-planes
returns-clause-planes c = same-planes

pub returns-clause-frame : goal.returns-clause-frame
returns-clause-frame c s budget has worst blocked pyramid =
    c.open_laws.ensures.frame s.pages.large budget (is_open s)
    (known_priority s.pages.large s.height (is_known s.pages) s.view) has worst blocked
    (c.pyramid_laws.ensures.found s.pages pyramid).closed

pub returns-clause-vertices : goal.returns-clause-vertices
returns-clause-vertices c s has r pyramid inside =
    c.point_laws.ensures.vertices s.pages has r pyramid
    (λ a h. (c.pyramid_laws.ensures.found s.pages pyramid).inside a (inside a h))

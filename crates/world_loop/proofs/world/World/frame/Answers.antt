use Rattle.std.proofs.Common.{sym, ◌∙◌, ap, subst}
use Rattle.page_laws.specs.Pages.{IsPyramid}
use Rattle.page_store.specs.Store.{Store, pages_of}
use Rattle.world_loop.specs.World.{WorldState, loaded_of, is_split}
use Rattle.world_loop.proofs.world.World.frame.Goals as goal

pub returns-clause-unblocked : goal.returns-clause-unblocked
returns-clause-unblocked c = let done = c.frame_due.ensures in rw (done.store, done.view) done.mesh.unblocked

pub returns-clause-certificate : goal.returns-clause-certificate
returns-clause-certificate c =
    let done = c.frame_due.ensures in rw (done.store, done.view, done.budget) done.mesh.certificate

pub returns-clause-spares : goal.returns-clause-spares
returns-clause-spares c = let done = c.frame_due.ensures in rw (done.store, done.view, done.budget) done.mesh.spares

-- the pages that are loaded stay
pyramid : (c : goal.After-frame_due) → IsPyramid (pages_of c.frame_due.new.self.store)
pyramid c = subst (λ (s : Store). IsPyramid (pages_of s))
    (ap (λ (w : WorldState). w.store) c.self.view_is ∙ sym c.frame_due.ensures.store)
    c.large-valid.ensures.valid.table.pyramid

pub returns-clause-open : goal.returns-clause-open
returns-clause-open c =
    let done = c.frame_due.ensures in
    let after = c.frame_due.new.self in
    c.loaded_laws.ensures.frame (loaded_of after) after.budget (is_split after)
    c.frame_due.result.steps.worst c.frame_due.result.steps.blocked (pyramid c)
    (rw (done.store, done.view, done.budget) done.mesh.frame)

pub returns-clause-vertices : goal.returns-clause-vertices
returns-clause-vertices c p =
    let after = c.frame_due.new.self in
    c.loaded_laws.ensures.vertices (loaded_of after) (is_split after) p (pyramid c) (returns-clause-open c)

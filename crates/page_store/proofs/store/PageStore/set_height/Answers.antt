-- To 0, and from there.
use Rattle.std.proofs.Common.{◌≡◌, refl, ap, ◌∙◌, arith, w32, to_z, of_z, pos}
use Rattle.std.proofs.lemmas.Int.{to_z-of_z, fits_signed_from_abs}
use Rattle.page_store.proofs.RaiseLemmas.{one-loaded, put-height}
use Rattle.page_store.proofs.store.PageStore.set_height.Goals as goal

pub returns-clause-loaded : goal.returns-clause-loaded
returns-clause-loaded c =
    let found = c.raise-loaded.ensures.found in
    let one = one-loaded c.args.self.now c.args.p in
    ((λ on. one.0 (found.0 on)), (λ l. found.1 (one.1 l)))

pub returns-clause-height : goal.returns-clause-height
returns-clause-height c = λ on.
    let range = c.ranges.h.fits in
    let rises : to_z w32 (of_z w32 c.from.result) ≡ pos c.args.h = ap (λ z. to_z w32 (of_z w32 z)) c.from.ensures
    ∙ to_z-of_z w32 (pos c.args.h) (fits_signed_from_abs w32 (pos c.args.h) (omega arith)) in
    put-height c.args.p refl rises c.requires.bounded c.large-before.ensures.valid
    ((one-loaded c.args.self.now c.args.p).0 (c.raise-loaded.ensures.found.0 on)) c.raise-loaded.ensures.raised
    c.raise.ensures.raised

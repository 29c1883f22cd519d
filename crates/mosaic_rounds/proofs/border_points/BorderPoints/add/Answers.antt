-- The bits above the left child, over the state.
use Rattle.std.proofs.Common.{List, ℕ, ◌*◌, ◌||◌, IsTrue, sym, ◌∙◌, ap, subst}
use Rattle.std.proofs.lemmas.List.{with_items_is}
use Rattle.mesh_laws.specs.Ancestors.{is_above}
use Rattle.mosaic_rounds.specs.Bits.{splits_at}
use Rattle.mosaic_rounds.specs.BorderPoints.{IsKept, has_split}
use Rattle.mosaic_rounds.proofs.MarkLemmas.{marks-kept, marks-only}
use Rattle.mosaic_rounds.proofs.RoundsLemmas.{kept-from}
use Rattle.mosaic_rounds.proofs.border_points.BorderPoints.add.Goals as goal

pub returns-clause-added : goal.returns-clause-added
returns-clause-added c a kept =
    ap (λ (w : List ℕ). splits_at c.self.inside.n w 0 a)
    (with_items_is c.self.inside.words c.mark_above.new.words (c.mark_above.ensures.room ∙ c.deref_mut.ensures.len))
    ∙ marks-kept c.self.inside.n c.left.result c.deref_mut.result.now c.mark_above.new.words
    c.mark_above.ensures.marks a
    (kept-from c.self.inside.n a (subst (λ r. IsKept r.n a) (sym c.self.view_is) kept))
    ∙ ap (λ k. splits_at c.self.inside.n c.deref_mut.result.now 0 a || is_above a k) c.left.ensures.value
    ∙ ap (λ (w : List ℕ). splits_at c.self.inside.n w 0 a || is_above a (2 * c.args.t)) c.deref_mut.ensures.value
    ∙ ap (λ r. has_split r a || is_above a (2 * c.args.t)) c.self.view_is

pub returns-clause-only : goal.returns-clause-only
returns-clause-only c a is =
    subst (λ r. IsTrue (has_split r a || is_above a (2 * c.args.t))) c.self.view_is
    (subst (λ (w : List ℕ). IsTrue (splits_at c.self.inside.n w 0 a || is_above a (2 * c.args.t)))
    c.deref_mut.ensures.value
    (subst (λ k. IsTrue (splits_at c.self.inside.n c.deref_mut.result.now 0 a || is_above a k)) c.left.ensures.value
    (marks-only c.self.inside.n c.left.result c.deref_mut.result.now c.mark_above.new.words
    c.mark_above.ensures.marks a
    (subst (λ (w : List ℕ). IsTrue (splits_at c.self.inside.n w 0 a))
    (with_items_is c.self.inside.words c.mark_above.new.words (c.mark_above.ensures.room ∙ c.deref_mut.ensures.len))
    is))))

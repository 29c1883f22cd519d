-- The bits above the leaves, over the state.
use Rattle.std.proofs.Common.{List, ℕ, ◌||◌, IsTrue, sym, ◌∙◌, ap, subst}
use Rattle.std.proofs.lemmas.List.{with_items_is}
use Rattle.mesh_laws.specs.Ancestors.{ancestors_of}
use Rattle.mosaic_rounds.specs.Bits.{splits_at}
use Rattle.mosaic_rounds.specs.BorderPoints.{IsKept, has_split}
use Rattle.mosaic_rounds.proofs.MarkLemmas.{all-kept, all-only}
use Rattle.mosaic_rounds.proofs.RoundsLemmas.{kept-from}
use Rattle.mosaic_rounds.proofs.border_points.BorderPoints.add_leaves.Goals as goal

pub returns-clause-added : goal.returns-clause-added
returns-clause-added c a kept =
    ap (λ (w : List ℕ). splits_at c.self.inside.n w 0 a)
    (with_items_is c.self.inside.words c.mark_splits.new.words (c.mark_splits.ensures.room ∙ c.deref_mut.ensures.len))
    ∙ all-kept c.self.inside.n c.args.leaves.now c.deref_mut.result.now c.mark_splits.new.words
    c.mark_splits.ensures.marks a
    (kept-from c.self.inside.n a (subst (λ r. IsKept r.n a) (sym c.self.view_is) kept))
    ∙ ap (λ (w : List ℕ). splits_at c.self.inside.n w 0 a || ancestors_of c.args.leaves.now a)
    c.deref_mut.ensures.value
    ∙ ap (λ r. has_split r a || ancestors_of c.args.leaves.now a) c.self.view_is

pub returns-clause-only : goal.returns-clause-only
returns-clause-only c a is =
    subst (λ r. IsTrue (has_split r a || ancestors_of c.args.leaves.now a)) c.self.view_is
    (subst (λ (w : List ℕ). IsTrue (splits_at c.self.inside.n w 0 a || ancestors_of c.args.leaves.now a))
    c.deref_mut.ensures.value
    (all-only c.self.inside.n c.args.leaves.now c.deref_mut.result.now c.mark_splits.new.words
    c.mark_splits.ensures.marks a
    (subst (λ (w : List ℕ). IsTrue (splits_at c.self.inside.n w 0 a))
    (with_items_is c.self.inside.words c.mark_splits.new.words (c.mark_splits.ensures.room ∙ c.deref_mut.ensures.len))
    is)))

-- What stands in the bits, over the state.
use Rattle.std.proofs.Common.{ℕ, List, sym, ◌∙◌, ap, subst}
use Rattle.std.proofs.lemmas.List.{with_items_is}
use Rattle.mosaic_laws.specs.Tile.{IsTile}
use Rattle.mosaic_rounds.specs.Bits.{splits_at}
use Rattle.mosaic_rounds.specs.Shape.{first_of}
use Rattle.mosaic_rounds.specs.Rounds.{splits}
use Rattle.mosaic_rounds.proofs.RoundsLemmas.{has-split-at}
use Rattle.mosaic_rounds.proofs.rounds.Rounds.put_border.Goals as goal

pub returns-clause-ok : goal.returns-clause-ok
returns-clause-ok c a =
    ap (λ (w : List ℕ). splits_at c.self.inside.shape.n w (first_of c.self.inside.shape c.args.t) a)
    (with_items_is c.self.inside.words c.put_mesh.new.words (c.put_mesh.ensures.words ∙ c.deref_mut.ensures.len))
    ∙ c.put_mesh.ensures.splits c.if-not-put_mesh.false a
    ∙ has-split-at c.args.border.now c.self.inside.shape.n c.bits.result.now
    (c.requires.n ∙ sym (ap (λ r. r.n) c.self.view_is)) c.bits.ensures.value a

pub returns-clause-others : goal.returns-clause-others
returns-clause-others c u a tile other =
    ap (λ (w : List ℕ). splits_at c.self.inside.shape.n w (first_of c.self.inside.shape u) a)
    (with_items_is c.self.inside.words c.put_mesh.new.words (c.put_mesh.ensures.words ∙ c.deref_mut.ensures.len))
    ∙ c.put_mesh.ensures.others u a (subst (λ r. IsTile r.columns r.rows u) (sym c.self.view_is) tile) other
    ∙ ap (λ (w : List ℕ). splits_at c.self.inside.shape.n w
    (first_of c.self.inside.shape u) a) c.deref_mut.ensures.value
    ∙ ap (λ r. splits r u a) c.self.view_is

-- What stands in the bits, over the state: the room has the bits of this mesh alone.
use Rattle.std.proofs.Common.{◌≡◌, ℕ, List, ◌||◌, false, refl, sym, ◌∙◌, ap, subst, IsTrue}
use Rattle.std.proofs.lemmas.Bool.{both_ways}
use Rattle.std.proofs.lemmas.List.{with_items_is}
use Rattle.mesh_laws.specs.Ancestors.{ancestors_of}
use Rattle.mosaic_laws.specs.Tile.{IsTile}
use Rattle.mosaic_rounds.specs.Bits.{splits_at}
use Rattle.mosaic_rounds.specs.Shape.{first_of}
use Rattle.mosaic_rounds.specs.BorderPoints.{BorderState, IsKept, has_split}
use Rattle.mosaic_rounds.specs.Rounds.{splits}
use Rattle.mosaic_rounds.proofs.SplitLemmas.{splits-kept}
use Rattle.mosaic_rounds.proofs.RoundsLemmas.{kept-to, has-split-at}
use Rattle.mosaic_rounds.proofs.rounds.Rounds.put.Goals as goal

-- what the room says of a mesh that was added to none
module _ (n : ℕ) (leaves words : List ℕ) (clear full : BorderState) (same : clear.n ≡ n) (same' : full.n ≡ n)
    (none : (a : ℕ) → has_split clear a ≡ false)
    (added : (a : ℕ) → IsKept clear.n a → has_split full a ≡ (has_split clear a || ancestors_of leaves a))
    (only : (a : ℕ) → IsTrue (has_split full a) → IsTrue (has_split clear a || ancestors_of leaves a))
    (at : words ≡ full.bits) where
  fresh-is : (a : ℕ) → IsKept n a → splits_at n words 0 a ≡ ancestors_of leaves a
  fresh-is a kept =
      has-split-at full n words same' at a
      ∙ added a (subst (λ k. IsKept k a) (sym same) kept)
      ∙ ap (λ b. b || ancestors_of leaves a) (none a)

  fresh-only : (a : ℕ) → IsTrue (splits_at n words 0 a) → IsTrue (ancestors_of leaves a)
  fresh-only a is =
      subst (λ b. IsTrue (b || ancestors_of leaves a)) (none a)
      (only a (sym (has-split-at full n words same' at a) ∙ is))

  -- a mesh lacks what it has not split
  shrunk-to : (old : List ℕ) (first a : ℕ) → IsTrue (splits_at n old first a) → splits_at n words 0 a ≡ false →
      ancestors_of leaves a ≡ false
  shrunk-to old first a is off = sym (fresh-is a (kept-to n a (splits-kept n old first a is))) ∙ off

  shrunk-from : (old : List ℕ) (first a : ℕ) → IsTrue (splits_at n old first a) → ancestors_of leaves a ≡ false →
      splits_at n words 0 a ≡ false
  shrunk-from old first a is off = fresh-is a (kept-to n a (splits-kept n old first a is)) ∙ off

pub returns-clause-ok : goal.returns-clause-ok
returns-clause-ok c a kept =
    ap (λ (w : List ℕ). splits_at c.self.inside.shape.n w (first_of c.self.inside.shape c.args.t) a)
    (with_items_is c.self.inside.words c.put_mesh.new.words (c.put_mesh.ensures.words ∙ c.deref_mut.ensures.len))
    ∙ c.put_mesh.ensures.splits c.if-not-put_mesh.false a
    ∙ fresh-is c.self.inside.shape.n c.args.leaves.now c.bits.result.now c.clear.new.self c.add_leaves.new.self
    (c.clear.ensures.n ∙ c.self.invariant.one)
    (c.add_leaves.ensures.n ∙ c.clear.ensures.n ∙ c.self.invariant.one) c.clear.ensures.none c.add_leaves.ensures.added
    c.add_leaves.ensures.only c.bits.ensures.value a (subst (λ r. IsKept r.n a) (sym c.self.view_is) kept)

pub returns-clause-only : goal.returns-clause-only
returns-clause-only c a is =
    fresh-only c.self.inside.shape.n c.args.leaves.now c.bits.result.now c.clear.new.self c.add_leaves.new.self
    (c.clear.ensures.n ∙ c.self.invariant.one)
    (c.add_leaves.ensures.n ∙ c.clear.ensures.n ∙ c.self.invariant.one) c.clear.ensures.none c.add_leaves.ensures.added
    c.add_leaves.ensures.only c.bits.ensures.value a
    (sym (c.put_mesh.ensures.splits c.if-not-put_mesh.false a)
    ∙ subst (λ (w : List ℕ). IsTrue (splits_at c.self.inside.shape.n w (first_of c.self.inside.shape c.args.t) a))
    (with_items_is c.self.inside.words c.put_mesh.new.words (c.put_mesh.ensures.words ∙ c.deref_mut.ensures.len)) is)

pub returns-then-not-put_mesh-clause-shrunk : goal.returns-then-not-put_mesh-clause-shrunk
returns-then-not-put_mesh-clause-shrunk c = (
  (λ e.
      let h = c.put_mesh.ensures.shrunk.0 c.if-not-put_mesh.true in (
        h.0,
        subst (λ r. IsTrue (splits r c.args.t h.0)) c.self.view_is
            (subst (λ (w : List ℕ). IsTrue (splits_at c.self.inside.shape.n w
            (first_of c.self.inside.shape c.args.t) h.0)) c.deref_mut.ensures.value h.1),
        shrunk-to c.self.inside.shape.n c.args.leaves.now c.bits.result.now c.clear.new.self c.add_leaves.new.self
            (c.clear.ensures.n ∙ c.self.invariant.one)
            (c.add_leaves.ensures.n ∙ c.clear.ensures.n ∙ c.self.invariant.one) c.clear.ensures.none
            c.add_leaves.ensures.added c.add_leaves.ensures.only c.bits.ensures.value c.deref_mut.result.now
            (first_of c.self.inside.shape c.args.t) h.0 h.1 h.2,
      )),
  (λ h. refl),
)

pub returns-clause-shrunk : goal.returns-clause-shrunk
returns-clause-shrunk c = (
  (λ e. absurd (both_ways false refl e)),
  (λ h.
      let is : IsTrue (splits_at c.self.inside.shape.n c.deref_mut.result.now (first_of c.self.inside.shape c.args.t)
      h.0) =
      subst (λ (w : List ℕ). IsTrue (splits_at c.self.inside.shape.n w (first_of c.self.inside.shape c.args.t) h.0))
      (sym c.deref_mut.ensures.value) (subst (λ r. IsTrue (splits r c.args.t h.0)) (sym c.self.view_is) h.1) in
      absurd (both_ways c.put_mesh.result (c.put_mesh.ensures.shrunk.1 (
        h.0,
        is,
        shrunk-from c.self.inside.shape.n c.args.leaves.now c.bits.result.now c.clear.new.self c.add_leaves.new.self
            (c.clear.ensures.n ∙ c.self.invariant.one)
            (c.add_leaves.ensures.n ∙ c.clear.ensures.n ∙ c.self.invariant.one) c.clear.ensures.none
            c.add_leaves.ensures.added c.add_leaves.ensures.only c.bits.ensures.value c.deref_mut.result.now
            (first_of c.self.inside.shape c.args.t) h.0 is h.2,
      )) c.if-not-put_mesh.false)),
)

pub returns-clause-others : goal.returns-clause-others
returns-clause-others c u a tile other =
    ap (λ (w : List ℕ). splits_at c.self.inside.shape.n w (first_of c.self.inside.shape u) a)
    (with_items_is c.self.inside.words c.put_mesh.new.words (c.put_mesh.ensures.words ∙ c.deref_mut.ensures.len))
    ∙ c.put_mesh.ensures.others u a (subst (λ r. IsTile r.columns r.rows u) (sym c.self.view_is) tile) other
    ∙ ap (λ (w : List ℕ). splits_at c.self.inside.shape.n w
    (first_of c.self.inside.shape u) a) c.deref_mut.ensures.value
    ∙ ap (λ r. splits r u a) c.self.view_is

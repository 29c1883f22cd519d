-- Point by point.
use Rattle.std.proofs.Common.{◌≡◌, ℕ, ◌≤◌, IsTrue, false, refl, sym, ◌∙◌, ap}
use Rattle.std.proofs.Common.{subst, arith, slice_index_or}
use Rattle.std.proofs.lemmas.Bool.{both_ways}
use Rattle.mesh_defs.specs.Triangle.{IsSplittable}
use Rattle.mosaic_rounds.specs.BorderPoints.{IsKept, has_split}
use Rattle.mosaic_rounds.specs.Place.{IsBorderTriangle, IsBorderPlace, centre_place}
use Rattle.mosaic_rounds.proofs.SaidLemmas.{said-first, said-more, said-all, places-more, two-splittable}
use Rattle.mosaic_rounds.proofs.border_points.BorderPoints.put.Goals as goal

pub add-requires : goal.add-requires
add-requires c = record {
  splittable = subst (λ k. IsSplittable k 2) (ap (λ b. b.n) c.self.view_is ∙ sym c.clear.ensures.n)
      (two-splittable c.self.inside.n c.self.invariant.low);
}

pub loop-place-init : goal.loop-place-init
loop-place-init c =
    let n : c.self.inside.n ≡ c.args.self.now.n = ap (λ b. b.n) c.self.view_is in (
      c.add.ensures.n ∙ c.clear.ensures.n,
      (λ k d less. absurd (omega arith)),
      said-first c.args.self.now.n c.args.border.now c.clear.new.self c.add.new.self
          (c.add.ensures.n ∙ c.clear.ensures.n) (subst (λ k. 1 ≤ k) n c.self.invariant.low) c.clear.ensures.none
          (λ kept. c.add.ensures.added 2 (subst (λ k. IsKept k 2) (sym c.clear.ensures.n) kept))
          c.add.ensures.only,
    )

pub returns-in_default-clause-n : goal.returns-in_default-clause-n
returns-in_default-clause-n c = c.loop-place.invariant.0

pub returns-in_default-clause-taken : goal.returns-in_default-clause-taken
returns-in_default-clause-taken c = (
  (λ e. absurd (both_ways false refl e)),
  (λ all.
      let h : IsBorderPlace c.self.inside.n (slice_index_or c.args.border.now c.loop-place.place-index 0) =
      subst (λ n. IsBorderPlace n (slice_index_or c.args.border.now c.loop-place.place-index 0))
      (sym (ap (λ b. b.n) c.self.view_is)) (all c.loop-place.place-index 0 c.loop-place-test.true) in
      absurd (c.in_default.ensures.none refl h.0 h.1 h.2)),
)

-- the border triangle that was found, over the state
module _ (n m place t : ℕ) (same : n ≡ m) where
  found-there : IsBorderTriangle n t × (centre_place n t ≡ place) → IsBorderTriangle m t × (centre_place m t ≡ place)
  found-there = subst (λ k. IsBorderTriangle k t × (centre_place k t ≡ place)) same

  found-only : ((c : ℕ) → IsBorderTriangle n c → centre_place n c ≡ place → c ≡ t) →
      (c : ℕ) → IsBorderTriangle m c → centre_place m c ≡ place → c ≡ t
  found-only = subst (λ k. (c : ℕ) → IsBorderTriangle k c → centre_place k c ≡ place → c ≡ t) same

pub loop-place-preserved : goal.loop-place-preserved
loop-place-preserved c =
    let n : c.self.inside.n ≡ c.args.self.now.n = ap (λ b. b.n) c.self.view_is in
    let there = found-there c.self.inside.n c.args.self.now.n
    (slice_index_or c.args.border.now c.loop-place.place-index 0) c.in-Some.t n c.in-Some.ensures.some in (
      c.add-in-loop-place.ensures.n ∙ c.loop-place.invariant.0,
      places-more c.args.self.now.n c.args.border.now c.loop-place.place-index c.loop-place-test.true
          c.loop-place.invariant.1 (c.in-Some.t, there.0, there.1),
      said-more c.args.self.now.n c.args.border.now c.loop-place.place-index c.loop-place.self
          c.add-in-loop-place.new.self c.in-Some.t (c.add-in-loop-place.ensures.n ∙ c.loop-place.invariant.0) there.0
          there.1
          (found-only c.self.inside.n c.args.self.now.n (slice_index_or c.args.border.now c.loop-place.place-index 0)
          c.in-Some.t n c.in-Some.ensures.only)
          (λ a kept. c.add-in-loop-place.ensures.added a
          (subst (λ k. IsKept k a) (sym c.loop-place.invariant.0) kept))
          c.add-in-loop-place.ensures.only c.loop-place.invariant.2,
    )

pub returns-clause-n : goal.returns-clause-n
returns-clause-n c = c.loop-place.invariant.0

pub returns-clause-taken : goal.returns-clause-taken
returns-clause-taken c = (
  (λ e k d less. c.loop-place.invariant.1 k d (let end = c.loop-place-test.false in omega arith)),
  (λ all. refl),
)

pub returns-clause-says : goal.returns-clause-says
returns-clause-says c = λ e a.
    said-all c.args.self.now.n c.args.border.now c.loop-place.place-index a c.loop-place.auto.place-index-end
    (let end = c.loop-place-test.false in omega arith) (IsTrue (has_split c.loop-place.self a))
    (c.loop-place.invariant.2 a)

-- Place by place.
use Rattle.std.proofs.Common.{◌≡◌, ℕ, suc, ◌+◌, ◌*◌, ◌%◌, ◌^◌, ◌<◌, ◌≤◌, false, List}
use Rattle.std.proofs.Common.{take, set, refl, sym, ◌∙◌, ap, arith, inl, ⊎_elim, subst, pow_mono}
use Rattle.mesh_defs.specs.ClosedSet.{among}
use Rattle.mosaic_rounds.specs.Bits.{has_bit}
use Rattle.mosaic_rounds.specs.Shape.{first_of}
use Rattle.mosaic_rounds.specs.Border.{place_of}
use Rattle.mosaic_rounds.specs.Across.{IsAcross}
use Rattle.mosaic_rounds.proofs.ShapeLemmas.{side-places}
use Rattle.mosaic_rounds.proofs.AskedLemmas.{IsToldTo, across-place, among-more, told-set, told-unset, told-all}
use Rattle.mosaic_rounds.proofs.AskedLemmas.{IsApart, across-from, apart-more}
use Rattle.mosaic_rounds.proofs.asked.tell_across.Goals as goal
use Rattle.mosaic_rounds.proofs.asked.tell_across.Goals.{then-is_set, else-is_set}

pub loop-place-init : goal.loop-place-init
loop-place-init c = (
  refl,
  omega arith,
  omega arith,
  λ a. (
    (λ h. inl h),
    (λ h. ⊎_elim (λ first. first)
        (λ (p : IsAcross c.args.shape c.args.words.now c.args.t c.args.side a × (place_of a < 1)).
        let q = across-place c.args.shape c.args.words.now c.args.t c.args.side a p.0 in
        let some = q.0 in
        let none = p.1 in absurd (omega arith))
        h),
  ),
  λ apart distinct. distinct,
)

pub border_tri-requires-clause-place : goal.border_tri-requires-clause-place
border_tri-requires-clause-place c =
    let all = side-places c.args.shape.n c.requires.shape.n_high in
    let less = c.loop-place-test.true in
    let deep : c.args.shape.n ≤ 14 = c.requires.shape.n_high in
    let most : 2 ^ c.args.shape.n ≤ 2 ^ 14 = pow_mono deep in
    (c.loop-place.auto.place, omega arith)

-- the bit at this place of the tile beyond
bit-there : (words : List ℕ) (k first bit opposite side n place : ℕ) → k ≡ first → opposite ≡ (side + 2) % 4 →
    bit ≡ opposite * 2 ^ n + place → has_bit words (k + bit) ≡ has_bit words (first + ((side + 2) % 4 * 2 ^ n + place))
bit-there words k first bit opposite side n place e f g =
    ap (λ j. has_bit words (j + bit)) e
    ∙ ap (λ j. has_bit words (first + j)) (g ∙ ap (λ j. j * 2 ^ n + place) f)

pub loop-place-preserved : goal.loop-place-preserved
loop-place-preserved c =
    let s = c.args.shape in
    let words = c.args.words.now in
    let old = c.loop-place.invariant in
    let all = side-places c.args.shape.n c.requires.shape.n_high in
    let less = c.loop-place-test.true in
    let length_is = old.0 in
    let from = old.1 in
    let top = old.2 in
    let room = c.requires.list in
    let bit = bit-there c.args.words.now c.first_bit-there.result (first_of c.args.shape c.in-Some.u) c.side_bit.result
    c.facing.result c.args.side c.args.shape.n c.loop-place.place c.first_bit-there.ensures.value c.facing.ensures.value
    c.side_bit.ensures.value in
    elim c.if-is_set.branch [
      | then-is_set w ↦
          let next_is = w.next-is in
          let told : IsToldTo c.args.shape c.args.words.now c.args.t c.args.side
          (among (take c.args.count c.args.list.now)) (c.loop-place.place + 1)
          (among (take (suc c.loop-place.next) (set c.loop-place.list c.loop-place.next w.border_tri.result))) =
          told-set c.args.shape c.args.words.now c.args.t c.args.side c.in-Some.u c.in-Some.ensures.some.0
          c.in-Some.ensures.some.1 (among (take c.args.count c.args.list.now))
          (among (take c.loop-place.next c.loop-place.list))
          (among (take (suc c.loop-place.next) (set c.loop-place.list c.loop-place.next w.border_tri.result)))
          c.loop-place.place old.3 w.border_tri.result w.border_tri.ensures.big w.border_tri.ensures.border
          w.border_tri.ensures.side w.border_tri.ensures.place (omega arith)
          (sym bit ∙ sym c.is_set.ensures.value ∙ w.if-is_set.true)
          (λ a. among-more c.loop-place.next w.border_tri.result a c.loop-place.list (omega arith)) in
          let one : c.if-is_set.next ≡ suc c.loop-place.next = next_is ∙ omega arith in
          let told' : IsToldTo c.args.shape c.args.words.now c.args.t c.args.side
          (among (take c.args.count c.args.list.now)) (c.loop-place.place + 1)
          (among (take c.if-is_set.next c.if-is_set.list)) =
          subst (λ (xs : List ℕ). IsToldTo c.args.shape c.args.words.now c.args.t c.args.side
          (among (take c.args.count c.args.list.now)) (c.loop-place.place + 1) (among (take c.if-is_set.next xs)))
          (sym w.list-is)
          (subst (λ j. IsToldTo c.args.shape c.args.words.now c.args.t c.args.side
          (among (take c.args.count c.args.list.now)) (c.loop-place.place + 1)
          (among (take j (set c.loop-place.list c.loop-place.next w.border_tri.result)))) (sym one) told) in
          let is = across-from c.args.shape c.args.words.now c.args.t c.args.side c.in-Some.u c.in-Some.ensures.some.0
          c.in-Some.ensures.some.1 w.border_tri.result c.loop-place.place w.border_tri.ensures.big
          w.border_tri.ensures.border w.border_tri.ensures.side w.border_tri.ensures.place (omega arith)
          (sym bit ∙ sym c.is_set.ensures.value ∙ w.if-is_set.true) in
          let apart : IsApart c.args.shape c.args.words.now c.args.t c.args.side (take c.args.count c.args.list.now)
          (take (suc c.loop-place.next) (set c.loop-place.list c.loop-place.next w.border_tri.result)) =
          apart-more c.args.shape c.args.words.now c.args.t c.args.side c.loop-place.place c.loop-place.next
          w.border_tri.result (take c.args.count c.args.list.now) c.loop-place.list (omega arith) old.3 is
          w.border_tri.ensures.place old.4 in
          let apart' : IsApart c.args.shape c.args.words.now c.args.t c.args.side
          (take c.args.count c.args.list.now) (take c.if-is_set.next c.if-is_set.list) =
          subst (λ (xs : List ℕ). IsApart c.args.shape c.args.words.now c.args.t c.args.side
          (take c.args.count c.args.list.now) (take c.if-is_set.next xs)) (sym w.list-is)
          (subst (λ j. IsApart c.args.shape c.args.words.now c.args.t c.args.side
          (take c.args.count c.args.list.now)
          (take j (set c.loop-place.list c.loop-place.next w.border_tri.result))) (sym one) apart) in
          (c.if-is_set.auto.list ∙ length_is, omega arith, omega arith, told', apart')
      | else-is_set w ↦
          let same = w.next-is in
          let told : IsToldTo c.args.shape c.args.words.now c.args.t c.args.side
          (among (take c.args.count c.args.list.now)) (c.loop-place.place + 1)
          (among (take c.loop-place.next c.loop-place.list)) =
          told-unset c.args.shape c.args.words.now c.args.t c.args.side c.in-Some.u c.in-Some.ensures.some.0
          c.in-Some.ensures.some.1 (among (take c.args.count c.args.list.now))
          (among (take c.loop-place.next c.loop-place.list)) (λ a. false) c.loop-place.place old.3
          (sym bit ∙ sym c.is_set.ensures.value ∙ w.if-is_set.false) in
          let told' : IsToldTo c.args.shape c.args.words.now c.args.t c.args.side
          (among (take c.args.count c.args.list.now)) (c.loop-place.place + 1)
          (among (take c.if-is_set.next c.if-is_set.list)) =
          subst (λ (xs : List ℕ). IsToldTo c.args.shape c.args.words.now c.args.t c.args.side
          (among (take c.args.count c.args.list.now)) (c.loop-place.place + 1) (among (take c.if-is_set.next xs)))
          (sym w.list-is)
          (subst (λ j. IsToldTo c.args.shape c.args.words.now c.args.t c.args.side
          (among (take c.args.count c.args.list.now)) (c.loop-place.place + 1)
          (among (take j c.loop-place.list))) (sym same) told) in
          let apart : IsApart c.args.shape c.args.words.now c.args.t c.args.side
          (take c.args.count c.args.list.now) (take c.if-is_set.next c.if-is_set.list) =
          subst (λ (xs : List ℕ). IsApart c.args.shape c.args.words.now c.args.t c.args.side
          (take c.args.count c.args.list.now) (take c.if-is_set.next xs)) (sym w.list-is)
          (subst (λ j. IsApart c.args.shape c.args.words.now c.args.t c.args.side
          (take c.args.count c.args.list.now) (take j c.loop-place.list)) (sym same) old.4) in
          (c.if-is_set.auto.list ∙ length_is, omega arith, omega arith, told', apart)
    ]

pub returns-clause-just : goal.returns-clause-just
returns-clause-just c =
    let all = side-places c.args.shape.n c.requires.shape.n_high in
    let end = c.loop-place-test.false in
    told-all c.args.shape c.args.words.now c.args.t c.args.side c.loop-place.place
    (among (take c.args.count c.args.list.now)) (among (take c.loop-place.next c.loop-place.list)) (omega arith)
    c.loop-place.invariant.3

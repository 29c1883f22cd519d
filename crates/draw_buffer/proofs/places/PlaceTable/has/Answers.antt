use Rattle.std.proofs.Common.{◌≡◌, ◌<◌, ◌≤◌, length, get_or, sym, ap, ◌∙◌, arith}
use borrow.Author.Tests.{ltb-true}
use Rattle.std.proofs.lemmas.Bool.{false≢true}
use Rattle.std.proofs.lemmas.List.{get_or_read}
use Rattle.draw_buffer.specs.Places.{PlaceState}
use Rattle.draw_buffer.proofs.LinkLemmas.{linked-place, has-read}
use Rattle.draw_buffer.proofs.places.PlaceTable.has.Goals as goal

pub returns-then-number-len : goal.returns-then-number-len
returns-then-number-len c =
    let seen = ap (λ (p : PlaceState). p.triangles) c.self.view_is in
    let long = c.self.inside.places.ok.0 in (
      λ no. absurd (false≢true no),
      λ some.
          let there = linked-place c.self.inside.triangles.items c.self.inside.places.items c.self.invariant.linked
          c.args.t (rw seen some) in
          absurd (omega (arith, there.0)),
    )

pub returns-then-at-len : goal.returns-then-at-len
returns-then-at-len c =
    let ts = c.self.inside.triangles.items in
    let ps = c.self.inside.places.items in
    let seen = ap (λ (p : PlaceState). p.triangles) c.self.view_is in
    let within : c.number-number.result < length ps = omega (arith, c.self.inside.places.ok.0) in
    let inside : c.index.result.now < length ts = omega (arith, c.self.inside.triangles.ok.0) in
    let at = get_or_read ps c.number-number.result c.index.result.now within c.index.ensures 0
    ∙ ap (λ k. get_or ps k 0) c.number-number.ensures.value in
    let t = get_or_read ts c.index.result.now c.index-then-at-len.result.now inside c.index-then-at-len.ensures 0 in
    let read = has-read ts ps c.self.invariant.linked c.args.t c.index.result.now c.index-then-at-len.result.now
    c.eq.result at inside t c.eq.ensures in
    (λ yes. rw (sym seen) (read.0 yes), λ some. read.1 (rw seen some))

pub returns-else-at-len : goal.returns-else-at-len
returns-else-at-len c =
    let ts = c.self.inside.triangles.items in
    let ps = c.self.inside.places.items in
    let seen = ap (λ (p : PlaceState). p.triangles) c.self.view_is in
    let within : c.number-number.result < length ps = omega (arith, c.self.inside.places.ok.0) in
    let at : c.index.result.now ≡ get_or ps c.args.t 0 =
    get_or_read ps c.number-number.result c.index.result.now within c.index.ensures 0
    ∙ ap (λ k. get_or ps k 0) c.number-number.ensures.value in
    let past : length ts ≤ c.index.result.now = omega (arith, c.self.inside.triangles.ok.0) in (
      λ yes. let below = ltb-true _ _ yes in absurd (omega arith),
      λ some.
          let there = linked-place ts ps c.self.invariant.linked c.args.t (rw seen some) in
          absurd (omega (arith, there.1)),
    )

use Rattle.std.proofs.Common.{◌≡◌, get_or, sym, ap, ◌∙◌, arith}
use Rattle.std.proofs.lemmas.List.{get_or_read}
use Rattle.draw_buffer.specs.Places.{PlaceState}
use Rattle.draw_buffer.proofs.LinkLemmas.{linked-place}
use Rattle.draw_buffer.proofs.places.PlaceTable.place.Goals as goal

pub index-requires : goal.index-requires
index-requires c =
    let seen = ap (λ (p : PlaceState). p.triangles) c.self.view_is in
    let there = linked-place c.self.inside.triangles.items c.self.inside.places.items c.self.invariant.linked c.args.t
    (rw seen c.requires.here) in
    omega (arith, c.self.inside.places.ok.0, there.0, c.number.ensures.value)

pub returns-clause-within : goal.returns-clause-within
returns-clause-within c =
    let seen = ap (λ (p : PlaceState). p.triangles) c.self.view_is in
    let there = linked-place c.self.inside.triangles.items c.self.inside.places.items c.self.invariant.linked c.args.t
    (rw seen c.requires.here) in
    let read = get_or_read c.self.inside.places.items c.number.result c.index.result.now
    (omega (arith, there.0, c.number.ensures.value)) c.index.ensures 0 in
    let at : c.index.result.now ≡ get_or c.self.inside.places.items c.args.t 0 = read
    ∙ ap (λ k. get_or c.self.inside.places.items k 0) c.number.ensures.value in
    rw (sym seen) (omega (arith, there.1))

pub returns-clause-at : goal.returns-clause-at
returns-clause-at c =
    let seen = ap (λ (p : PlaceState). p.triangles) c.self.view_is in
    let there = linked-place c.self.inside.triangles.items c.self.inside.places.items c.self.invariant.linked c.args.t
    (rw seen c.requires.here) in
    let read = get_or_read c.self.inside.places.items c.number.result c.index.result.now
    (omega (arith, there.0, c.number.ensures.value)) c.index.ensures 0 in
    let at : c.index.result.now ≡ get_or c.self.inside.places.items c.args.t 0 = read
    ∙ ap (λ k. get_or c.self.inside.places.items k 0) c.number.ensures.value in
    rw (sym seen) (ap (λ k. get_or c.self.inside.triangles.items k 0) at ∙ there.2)

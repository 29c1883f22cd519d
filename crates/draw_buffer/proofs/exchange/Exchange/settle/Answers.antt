use Rattle.std.proofs.Common.{◌<◌, ◌++◌, [], ◌∷◌, length, ap, ◌∙◌, arith}
use Rattle.draw_buffer.specs.Times.{times}
use Rattle.draw_buffer.specs.Places.{PlaceState}
use Rattle.draw_buffer.specs.Exchange.{ExchangeState, addresses_of}
use Rattle.draw_buffer.proofs.TimesLemmas.{times-push}
use Rattle.draw_buffer.proofs.ToldLemmas.{told-push}
use Rattle.draw_buffer.proofs.ExchangeLemmas.{whole-long, whole-push, next-new, next-times}
use Rattle.draw_buffer.proofs.exchange.Exchange.settle.Goals as goal

pub push-requires-clause-new : goal.push-requires-clause-new
push-requires-clause-new c =
    let i = c.self.inside in
    next-new i.n i.places i.vertices i.corners.items i.waiting.items _ _ _ c.self.invariant c.pop.new.self.items
    c.in-Some.next c.in-Some.ensures.items

pub invariant_of-self : goal.invariant_of-self
invariant_of-self c =
    let i = c.self.inside in
    let seen = ap (λ (e : ExchangeState). e.triangles) c.self.view_is in
    let most = ap (λ (e : ExchangeState). e.most) c.self.view_is in
    let room : length i.places.triangles < i.places.most = rw (seen, most) c.requires.room in
    whole-push i.n i.places i.vertices i.corners.items i.waiting.items _ _ _ c.self.invariant c.pop.new.self.items
    c.in-Some.next c.in-Some.ensures.items
    c.push.new.self c.push_reserved.new.self.items _ _ _ c.push_reserved.ensures.capacity
    (omega (arith, c.in-Some.ensures.capacity)) c.note.ensures.capacity
    room c.push.ensures c.push_reserved.ensures.items

pub returns-clause-total : goal.returns-clause-total
returns-clause-total c a =
    let i = c.self.inside in
    let triangles = ap (λ (e : ExchangeState). times e.triangles a) c.self.view_is in
    let waiting = ap (λ (e : ExchangeState). times (addresses_of e.waiting) a) c.self.view_is in
    let after = ap (λ (p : PlaceState). times p.triangles a) c.push.ensures in
    let more = times-push i.places.triangles c.in-Some.next.tri a in
    let less = next-times i.n i.places i.vertices i.corners.items i.waiting.items _ _ _ c.self.invariant
    c.pop.new.self.items c.in-Some.next c.in-Some.ensures.items a in
    omega arith

pub returns-clause-told : goal.returns-clause-told
returns-clause-told c =
    let i = c.self.inside in
    rw (← c.self.view_is) (told-push _ _ c.in-Some.next.tri c.in-Some.next.corners
    (whole-long i.n i.places i.vertices i.corners.items i.waiting.items _ _ _ c.self.invariant)
    (c.note.ensures.items ∙ ap (λ k. i.written.items ++ k ∷ []) c.len.ensures.value)
    (ap (λ (p : PlaceState). p.triangles) c.push.ensures) c.push_reserved.ensures.items)

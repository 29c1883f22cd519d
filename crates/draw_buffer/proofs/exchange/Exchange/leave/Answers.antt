use Rattle.std.proofs.Common.{refl, ap, ◌∙◌, arith}
use Rattle.std.proofs.lemmas.List.{nil_from_length, append-nil}
use Rattle.draw_buffer.specs.Times.{times, same}
use Rattle.draw_buffer.specs.Places.{PlaceState}
use Rattle.draw_buffer.specs.Exchange.{ExchangeState, addresses_of}
use Rattle.draw_buffer.proofs.TimesLemmas.{times-set, times-swap_remove}
use Rattle.draw_buffer.proofs.ToldLemmas.{told-put, told-gap}
use Rattle.draw_buffer.proofs.ExchangeLemmas.{whole-long, whole-used, whole-put, whole-close, next-new, next-times}
use Rattle.draw_buffer.proofs.exchange.Exchange.leave.Goals as goal

pub put-requires-clause-new : goal.put-requires-clause-new
put-requires-clause-new c =
    let i = c.self.inside in
    next-new i.n i.places i.vertices i.corners.items i.waiting.items _ _ _ c.self.invariant c.pop.new.self.items
    c.in-Some.next c.in-Some.ensures.items

pub invariant_of-self : goal.invariant_of-self
invariant_of-self c =
    let i = c.self.inside in
    let long = whole-long i.n i.places i.vertices i.corners.items i.waiting.items _ _ _ c.self.invariant in
    whole-put i.n i.places i.vertices i.corners.items i.waiting.items _ _ _ c.self.invariant c.pop.new.self.items
    c.in-Some.next c.in-Some.ensures.items
    c.put.new.self c.leave_three.new.vertices c.place-at.result _ _ c.index-old.result.now
    (omega (arith, c.in-Some.ensures.capacity)) c.note.ensures.capacity
    c.place-at.ensures.within c.put.ensures c.index-old.ensures c.leave_three.ensures.rest c.leave_three.ensures.uses
    c.leave_three.ensures.total

pub leave_three-requires : goal.leave_three-requires
leave_three-requires c =
    let i = c.self.inside in
    record {
      used = whole-used i.n i.places i.vertices i.corners.items i.waiting.items _ _ _ c.self.invariant
          c.place-at.result c.index-old.result.now
          c.place-at.ensures.within c.index-old.ensures;
    }

pub leave_three-requires-in-None : goal.leave_three-requires-in-None
leave_three-requires-in-None c =
    let i = c.self.inside in
    record {
      used = whole-used i.n i.places i.vertices i.corners.items i.waiting.items _ _ _ c.self.invariant
          c.place-at.result c.swap_remove-old.result
          c.place-at.ensures.within c.swap_remove-old.ensures.value;
    }

pub invariant_of-self-then-at-len : goal.invariant_of-self-then-at-len
invariant_of-self-then-at-len c =
    let i = c.self.inside in
    let none = nil_from_length c.pop.new.self.items (omega (arith, c.pop.new.self.ok.0, c.in-None.ensures.cases.1)) in
    let before = nil_from_length i.waiting.items (omega (arith, i.waiting.ok.0, c.in-None.ensures.cases.0)) in
    whole-close i.n i.places i.vertices i.corners.items i.waiting.items _ _ _ c.self.invariant c.close.new.self
    c.leave_three-in-None.new.vertices
    c.swap_remove-old.new.self.items c.swap_remove-old.result c.place-at.result _ _ _ c.pop.new.self.items none before
    (omega (arith, c.swap_remove-old.ensures.capacity)) (omega (arith, c.in-None.ensures.capacity))
    c.note-then-at-len.ensures.capacity c.place-at.ensures.within c.close.ensures
    c.swap_remove-old.ensures.items c.swap_remove-old.ensures.value c.leave_three-in-None.ensures.rest
    c.leave_three-in-None.ensures.uses c.leave_three-in-None.ensures.total

pub invariant_of-self-else-at-len : goal.invariant_of-self-else-at-len
invariant_of-self-else-at-len c =
    let i = c.self.inside in
    let none = nil_from_length c.pop.new.self.items (omega (arith, c.pop.new.self.ok.0, c.in-None.ensures.cases.1)) in
    let before = nil_from_length i.waiting.items (omega (arith, i.waiting.ok.0, c.in-None.ensures.cases.0)) in
    whole-close i.n i.places i.vertices i.corners.items i.waiting.items _ _ _ c.self.invariant c.close.new.self
    c.leave_three-in-None.new.vertices
    c.swap_remove-old.new.self.items c.swap_remove-old.result c.place-at.result _ _ _ c.pop.new.self.items none before
    (omega (arith, c.swap_remove-old.ensures.capacity)) (omega (arith, c.in-None.ensures.capacity))
    (omega arith) c.place-at.ensures.within c.close.ensures
    c.swap_remove-old.ensures.items c.swap_remove-old.ensures.value c.leave_three-in-None.ensures.rest
    c.leave_three-in-None.ensures.uses c.leave_three-in-None.ensures.total

pub returns-in-Some-clause-total : goal.returns-in-Some-clause-total
returns-in-Some-clause-total c a =
    let i = c.self.inside in
    let triangles = ap (λ (e : ExchangeState). times e.triangles a) c.self.view_is in
    let waiting = ap (λ (e : ExchangeState). times (addresses_of e.waiting) a) c.self.view_is in
    let after = ap (λ (p : PlaceState). times p.triangles a) c.put.ensures in
    let change = times-set i.places.triangles c.place-at.result c.in-Some.next.tri a c.place-at.ensures.within in
    let here = ap (λ t. same t a) c.place-at.ensures.at in
    let less = next-times i.n i.places i.vertices i.corners.items i.waiting.items _ _ _ c.self.invariant
    c.pop.new.self.items c.in-Some.next c.in-Some.ensures.items a in
    omega arith

pub returns-in-Some-clause-left : goal.returns-in-Some-clause-left
returns-in-Some-clause-left c a =
    let i = c.self.inside in
    let triangles = ap (λ (e : ExchangeState). times e.triangles a) c.self.view_is in
    let after = ap (λ (p : PlaceState). times p.triangles a) c.put.ensures in
    let change = times-set i.places.triangles c.place-at.result c.in-Some.next.tri a c.place-at.ensures.within in
    let here = ap (λ t. same t a) c.place-at.ensures.at in
    omega arith

pub returns-in-Some-clause-told : goal.returns-in-Some-clause-told
returns-in-Some-clause-told c =
    let i = c.self.inside in
    rw (← c.self.view_is) (told-put _ _ c.place-at.result c.in-Some.next.tri c.in-Some.next.corners c.note.ensures.items
    (ap (λ (p : PlaceState). p.triangles) c.put.ensures) refl)

pub returns-then-at-len-clause-total : goal.returns-then-at-len-clause-total
returns-then-at-len-clause-total c a =
    let i = c.self.inside in
    let triangles = ap (λ (e : ExchangeState). times e.triangles a) c.self.view_is in
    let waiting = ap (λ (e : ExchangeState). times (addresses_of e.waiting) a) c.self.view_is in
    let after = ap (λ (p : PlaceState). times p.triangles a) c.close.ensures in
    let change = times-swap_remove i.places.triangles c.place-at.result 0 a c.place-at.ensures.within in
    let here = ap (λ t. same t a) c.place-at.ensures.at in
    let none = ap (λ ws. times (addresses_of ws) a) (c.in-None.ensures.items ∙ append-nil c.pop.new.self.items) in
    omega arith

pub returns-then-at-len-clause-left : goal.returns-then-at-len-clause-left
returns-then-at-len-clause-left c a =
    let i = c.self.inside in
    let triangles = ap (λ (e : ExchangeState). times e.triangles a) c.self.view_is in
    let after = ap (λ (p : PlaceState). times p.triangles a) c.close.ensures in
    let change = times-swap_remove i.places.triangles c.place-at.result 0 a c.place-at.ensures.within in
    let here = ap (λ t. same t a) c.place-at.ensures.at in
    omega arith

pub returns-then-at-len-clause-told : goal.returns-then-at-len-clause-told
returns-then-at-len-clause-told c =
    let i = c.self.inside in
    rw (← c.self.view_is) (told-gap _ _ c.place-at.result c.swap_remove-old.result c.place-at.ensures.within
    (whole-long i.n i.places i.vertices i.corners.items i.waiting.items _ _ _ c.self.invariant)
    c.note-then-at-len.ensures.items
    (ap (λ (p : PlaceState). p.triangles) c.close.ensures) c.swap_remove-old.ensures.items)

pub returns-else-at-len-clause-total : goal.returns-else-at-len-clause-total
returns-else-at-len-clause-total c a =
    let i = c.self.inside in
    let triangles = ap (λ (e : ExchangeState). times e.triangles a) c.self.view_is in
    let waiting = ap (λ (e : ExchangeState). times (addresses_of e.waiting) a) c.self.view_is in
    let after = ap (λ (p : PlaceState). times p.triangles a) c.close.ensures in
    let change = times-swap_remove i.places.triangles c.place-at.result 0 a c.place-at.ensures.within in
    let here = ap (λ t. same t a) c.place-at.ensures.at in
    let none = ap (λ ws. times (addresses_of ws) a) (c.in-None.ensures.items ∙ append-nil c.pop.new.self.items) in
    omega arith

pub returns-else-at-len-clause-left : goal.returns-else-at-len-clause-left
returns-else-at-len-clause-left c a =
    let i = c.self.inside in
    let triangles = ap (λ (e : ExchangeState). times e.triangles a) c.self.view_is in
    let after = ap (λ (p : PlaceState). times p.triangles a) c.close.ensures in
    let change = times-swap_remove i.places.triangles c.place-at.result 0 a c.place-at.ensures.within in
    let here = ap (λ t. same t a) c.place-at.ensures.at in
    omega arith

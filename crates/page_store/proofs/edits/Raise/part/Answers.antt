-- Its first corner is a point of the area.
use Rattle.std.proofs.Common.{arith, refl}
use Rattle.bintree_laws.proofs.AreaLemmas.{made-area}
use Rattle.page_store.specs.Edit.{area_in}
use Rattle.page_store.proofs.edits.Raise.part.Goals as goal

pub returns-clause-found : goal.returns-clause-found
returns-clause-found c =
    let x-order = c.in_ok-x0.ensures.order in
    let y-order = c.in_ok-y0.ensures.order in
    let x-within = c.in_ok-x0.ensures.within in
    let y-within = c.in_ok-y0.ensures.within in
    let x = (c.in_ok-x0.ensures.some c.in_ok-x0.x0 (omega arith)).1 (omega arith, omega arith) in
    let y = (c.in_ok-y0.ensures.some c.in_ok-y0.y0 (omega arith)).1 (omega arith, omega arith) in (
      (λ _. record {
        point = record { x = c.in_ok-x0.x0; y = c.in_ok-y0.y0 };
        inside = record { x = omega arith; y = omega arith };
        there = made-area (area_in c.args.self) _ _ record { left = x.0; right = x.1; bottom = y.0; top = y.1 };
      }),
      (λ _. refl),
    )

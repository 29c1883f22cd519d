use Rattle.std.proofs.Common.{◌++◌, [], ◌∷◌, length, take, sym, ap, refl, ◌∙◌, arith}
use Rattle.std.proofs.lemmas.List.{get_or_read, take_more}
use Rattle.draw_buffer.specs.Times.{times}
use Rattle.draw_buffer.specs.Exchange.{ExchangeState, addresses_of}
use Rattle.draw_buffer.proofs.TimesLemmas.{times-before}
use Rattle.draw_buffer.proofs.ToldLemmas.{given-none, given-trans}
use Rattle.draw_buffer.proofs.buffer.admit_all.Goals as goal

pub admit-requires-clause-new : goal.admit-requires-clause-new
admit-requires-clause-new c =
    let t = c.t-item.result in
    let read = get_or_read c.args.come.now c.loop-t.t-index t c.loop-t-test.true c.t-item.is 0 in
    let before = times-before c.args.come.now c.loop-t.t-index t c.loop-t-test.true (sym read) in
    let here = ap (λ (e : ExchangeState). times e.triangles t) c.loop-t.invariant.rest in
    let waiting = ap (λ ts. times ts t) c.loop-t.invariant.waiting in
    omega (arith, c.requires.come t)

pub loop-t-init : goal.loop-t-init
loop-t-init c = record {
  rest = refl;
  waiting = ap addresses_of c.requires.none;
  given = given-none c.args.exchange.now;
  few = omega (arith, ap length c.requires.given);
}

pub loop-t-preserved : goal.loop-t-preserved
loop-t-preserved c =
    let i = c.loop-t.invariant in
    let t = c.t-item.result in
    let more = take_more c.args.come.now c.loop-t.t-index t c.loop-t-test.true in
    let read = get_or_read c.args.come.now c.loop-t.t-index t c.loop-t-test.true c.t-item.is t in
    let wider : ExchangeState → ExchangeState = λ e. record e {
      waiting = c.admit.new.self.waiting;
      points = c.admit.new.self.points;
      uses = c.admit.new.self.uses;
      given = c.admit.new.self.given;
    } in
    record {
      rest = c.admit.ensures.rest ∙ ap wider i.rest;
      waiting = c.admit.ensures.waiting ∙ ap (λ ts. ts ++ t ∷ []) i.waiting
          ∙ ap (λ u. take c.loop-t.t-index c.args.come.now ++ u ∷ []) read ∙ sym more;
      given = given-trans c.args.exchange.now c.loop-t.exchange c.admit.new.self i.given c.admit.ensures.given;
      few = (let h = i.few in let k = c.admit.ensures.few in omega arith);
    }

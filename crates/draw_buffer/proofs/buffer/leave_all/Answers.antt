use Rattle.std.proofs.Common.{length, sym, ap, refl, ◌∙◌, arith}
use Rattle.std.proofs.lemmas.List.{get_or_read}
use Rattle.draw_buffer.specs.Times.{same}
use Rattle.draw_buffer.proofs.TimesLemmas.{times-none, times-take, times-drop, same-one}
use Rattle.draw_buffer.proofs.ToldLemmas.{told-none, told-trans}
use Rattle.draw_buffer.proofs.buffer.leave_all.Goals as goal

pub loop-t-init : goal.loop-t-init
loop-t-init c = record {
  n = refl;
  most = refl;
  points = refl;
  given = refl;
  total = λ a. let none = times-none a in omega arith;
  here = c.requires.here;
  waiting = omega arith;
  count = omega arith;
  told = told-none c.args.exchange.now;
  few = (let none = ap length c.requires.none in omega arith);
}

pub leave-requires-clause-here : goal.leave-requires-clause-here
leave-requires-clause-here c =
    let t = c.t-item.result in
    let read = get_or_read c.args.gone.now c.loop-t.t-index t c.loop-t-test.true c.t-item.is 0 in
    let more = times-drop c.args.gone.now c.loop-t.t-index t c.loop-t-test.true in
    let one = same-one _ t (sym read) in
    omega (arith, c.loop-t.invariant.here t)

pub loop-t-preserved : goal.loop-t-preserved
loop-t-preserved c =
    let t = c.t-item.result in
    let i = c.loop-t.invariant in
    let read = get_or_read c.args.gone.now c.loop-t.t-index t c.loop-t-test.true c.t-item.is 0 in
    record {
      n = c.leave.ensures.n ∙ i.n;
      most = c.leave.ensures.most ∙ i.most;
      points = c.leave.ensures.points ∙ i.points;
      given = c.leave.ensures.given ∙ i.given;
      total = λ a.
          let more = times-take c.args.gone.now c.loop-t.t-index a c.loop-t-test.true in
          let same_one = ap (λ s. same s a) read in
          omega (arith, c.leave.ensures.total a, i.total a);
      here = λ a.
          let more = times-drop c.args.gone.now c.loop-t.t-index a c.loop-t-test.true in
          let same_one = ap (λ s. same s a) read in
          omega (arith, c.leave.ensures.left a, i.here a);
      waiting = (let h = i.waiting in let k = c.leave.ensures.waiting in omega arith);
      count = (let h = i.count in let k = c.leave.ensures.count in omega arith);
      told = told-trans c.args.exchange.now c.loop-t.exchange c.leave.new.self i.told c.leave.ensures.told;
      few = (let h = i.few in let k = c.leave.ensures.few in omega arith);
    }

use Rattle.std.proofs.Common.{sym, length, get_or, ap, ◌∙◌, arith}
use Rattle.std.proofs.lemmas.List.{length-map}
use Rattle.draw_buffer.specs.Times.{times}
use Rattle.draw_buffer.specs.Exchange.{ExchangeState}
use Rattle.draw_buffer.specs.Buffer.{BufferState}
use Rattle.draw_buffer.proofs.TimesLemmas.{length-le-times, times-none}
use Rattle.draw_buffer.proofs.ToldLemmas.{told-trans}
use Rattle.draw_buffer.proofs.buffer.DrawBuffer.patch.Goals as goal

-- no more go than there are, so no more come than there is room for
pub admit_all-requires-clause-room : goal.admit_all-requires-clause-room
admit_all-requires-clause-room c =
    let few = length-le-times c.args.gone.now c.args.self.now.triangles c.requires.gone in
    let most = ap (λ (b : BufferState). b.most) c.self.view_is in
    let begun = ap (λ (e : ExchangeState). e.most) c.begin.ensures.value in
    let room = c.requires.room in
    omega arith

pub leave_all-requires-clause-room : goal.leave_all-requires-clause-room
leave_all-requires-clause-room c =
    let few = length-le-times c.args.gone.now c.args.self.now.triangles c.requires.gone in
    let seen = ap (λ (b : BufferState). length b.triangles) c.self.view_is in
    let all = c.begin.ensures.few in
    let begun = ap (λ (e : ExchangeState). e.most) c.begin.ensures.value in
    let most = ap (λ (e : ExchangeState). e.most) c.admit_all.ensures.rest in
    omega arith

pub settle_all-requires-clause-written : goal.settle_all-requires-clause-written
settle_all-requires-clause-written c =
    let few = length-le-times c.args.gone.now c.args.self.now.triangles c.requires.gone in
    let seen = ap (λ (b : BufferState). length b.triangles) c.self.view_is in
    let limit = ap (λ (b : BufferState). b.most) c.self.view_is in
    let all = c.begin.ensures.few in
    let begun = ap (λ (e : ExchangeState). e.most) c.begin.ensures.value in
    let room = c.requires.room in
    let waiting = ap length c.admit_all.ensures.waiting in
    let long = length-map c.admit_all.new.exchange.waiting (λ w. w.tri) in
    let most = ap (λ (e : ExchangeState). e.most) c.admit_all.ensures.rest in
    let same = c.leave_all.ensures.most in
    let written = c.leave_all.ensures.few in
    let rest = c.leave_all.ensures.waiting in
    omega arith

pub returns-clause-kept : goal.returns-clause-kept
returns-clause-kept c =
    let triangles = ap (λ (e : ExchangeState). e.triangles) c.admit_all.ensures.rest
    ∙ ap (λ (e : ExchangeState). e.triangles) c.begin.ensures.value in
    let corners = ap (λ (e : ExchangeState). e.corners) c.admit_all.ensures.rest
    ∙ ap (λ (e : ExchangeState). e.corners) c.begin.ensures.value in
    let told = told-trans c.admit_all.new.exchange c.leave_all.new.exchange c.settle_all.new.exchange
    c.leave_all.ensures.told c.settle_all.ensures.told in
    rw (← c.self.view_is) (record {
      within = λ k inside none. let h = told.within k inside none in omega (arith, ap length triangles);
      triangle = λ k inside none. told.triangles_stay k inside none ∙ ap (λ ts. get_or ts k 0) triangles;
      corner = λ k d inside none. told.corners_stay k d inside none ∙ ap (λ xs. get_or xs k d) corners;
      point = λ v none.
          let given = c.settle_all.ensures.given ∙ c.leave_all.ensures.given in
          let points = c.settle_all.ensures.points ∙ c.leave_all.ensures.points in
          let before = ap (λ (e : ExchangeState). e.points) c.begin.ensures.value in
          ap (λ ps. get_or ps v 0) points ∙ c.admit_all.ensures.given.points_stay v (ap (λ gs. times gs v) (sym given)
          ∙ none) ∙ ap (λ ps. get_or ps v 0) before;
    })

-- what is in use is not given out, and at first nothing was
pub returns-clause-apart : goal.returns-clause-apart
returns-clause-apart c = rw (← c.self.view_is) (λ v some.
    let used = c.begin.ensures.used v in
    let begun = ap (λ (e : ExchangeState). get_or e.uses v 0) c.begin.ensures.value in
    let none = ap (λ (e : ExchangeState). times e.given v) c.begin.ensures.value in
    let empty = times-none v in
    let admitted = c.admit_all.ensures.given.used v (omega arith) in
    let given = ap (λ gs. times gs v) (c.settle_all.ensures.given ∙ c.leave_all.ensures.given) in
    omega (arith, admitted.1))

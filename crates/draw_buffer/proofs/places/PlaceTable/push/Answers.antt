use Rattle.std.proofs.Common.{◌≡◌, ◌<◌, length, ap, ◌∙◌, arith}
use Rattle.std.proofs.lemmas.List.{length_push}
use Rattle.draw_buffer.specs.Times.{times}
use Rattle.draw_buffer.specs.Places.{PlaceState}
use Rattle.draw_buffer.proofs.LinkLemmas.{IsLinked-push}
use Rattle.draw_buffer.proofs.places.PlaceTable.push.Goals as goal

pub invariant_of-self : goal.invariant_of-self
invariant_of-self c =
    let ts = c.self.inside.triangles.items in
    let ps = c.self.inside.places.items in
    let seen = ap (λ (p : PlaceState). p.triangles) c.self.view_is in
    let end = ap (λ (p : PlaceState). p.end) c.self.view_is in
    let most = ap (λ (p : PlaceState). p.most) c.self.view_is in
    let away : times ts c.args.t ≡ 0 = rw seen c.requires.new in
    let low : c.args.t < length ps = rw end c.requires.address in
    let some : length ts < c.self.inside.most = rw (seen, most) c.requires.room in
    let long = length_push ts c.args.t in
    let at : c.len.result ≡ length ts = c.len.ensures ∙ c.self.inside.triangles.ok.0 in
    rw (c.push_reserved.ensures.items, c.number.ensures.value, at) (record {
      linked = IsLinked-push ts ps c.self.invariant.linked c.args.t low away;
      few = omega arith;
      room = (let room = c.self.invariant.room in let more = c.push_reserved.ensures.capacity in omega arith);
      small = c.self.invariant.small;
    })

use Rattle.std.proofs.Common.{◌≡◌, ◌<◌, length, ap, arith}
use Rattle.std.proofs.lemmas.List.{length-set}
use Rattle.draw_buffer.specs.Times.{times}
use Rattle.draw_buffer.specs.Places.{PlaceState}
use Rattle.draw_buffer.proofs.LinkLemmas.{IsLinked-put}
use Rattle.draw_buffer.proofs.places.PlaceTable.put.Goals as goal

pub invariant_of-self : goal.invariant_of-self
invariant_of-self c =
    let ts = c.self.inside.triangles.items in
    let ps = c.self.inside.places.items in
    let seen = ap (λ (p : PlaceState). p.triangles) c.self.view_is in
    let end = ap (λ (p : PlaceState). p.end) c.self.view_is in
    let within : c.args.at < length ts = rw seen c.requires.within in
    let away : times ts c.args.t ≡ 0 = rw seen c.requires.new in
    let low : c.args.t < length ps = rw end c.requires.address in
    let same = length-set ts c.args.at c.args.t in
    record {
      linked =
          rw c.number.ensures.value (IsLinked-put ts ps c.self.invariant.linked c.args.at c.args.t within low away);
      few = (let few = c.self.invariant.few in omega arith);
      room = c.self.invariant.room;
      small = c.self.invariant.small;
    }

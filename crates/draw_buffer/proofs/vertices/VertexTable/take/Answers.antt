use Rattle.std.proofs.Common.{◌≡◌, ℕ, ◌+◌, ◌<◌, length, get_or, set, ap, sym, ◌∙◌, arith}
use Rattle.std.proofs.lemmas.List.{get_or_read}
use Rattle.draw_buffer.specs.Vertices.{VertexState}
use Rattle.draw_buffer.proofs.TakenLemmas.{sound-stay, taken-again}
use Rattle.draw_buffer.proofs.vertices.VertexTable.take.Goals as goal

pub invariant_of-self : goal.invariant_of-self
invariant_of-self c =
    let i = c.self.inside in
    let v = c.index-v.result.now in
    let long = c.self.invariant.long in
    let within : v < length i.uses.items = omega (arith, i.points.ok.0, i.uses.ok.0) in
    let used : c.index.result.now ≡ get_or i.uses.items v 0 =
    get_or_read i.uses.items v c.index.result.now within c.index.ensures 0 in
    sound-stay i.points.items i.uses.items i.numbers.items i.free.items i.most _ _ _ _ c.self.invariant v
    (c.index_mut.result.now + 1) (omega arith) (omega arith)

pub returns-then-index-point : goal.returns-then-index-point
returns-then-index-point c =
    let i = c.self.inside in
    let v = c.index-v.result.now in
    let long = c.self.invariant.long in
    let within : v < length i.uses.items = omega (arith, i.points.ok.0, i.uses.ok.0) in
    let near : v < length i.points.items = omega arith in
    let used : c.index.result.now ≡ get_or i.uses.items v 0 =
    get_or_read i.uses.items v c.index.result.now within c.index.ensures 0 in
    let now : c.index_mut.result.now ≡ get_or i.uses.items v 0 =
    get_or_read i.uses.items v c.index_mut.result.now within c.index_mut.ensures.value 0 in
    let point : c.index-then-index-gt0.result.now ≡ get_or i.points.items v 0 =
    get_or_read i.points.items v c.index-then-index-gt0.result.now near c.index-then-index-gt0.ensures 0 in
    let built : ℕ → VertexState = λ u. record {
      points = i.points.items;
      uses = set i.uses.items v (u + 1);
      given = i.given.items;
      end = length i.numbers.items;
      most = i.most;
    } in
    rw (← c.self.view_is)
    (taken-again _ _ c.args.point v (omega arith) (sym point ∙ c.if-index-point.true) (ap built now))

use Rattle.std.proofs.Common.{◌≡◌, ◌≢◌, ℕ, ◌<◌, length, get_or, sum, ap, sym, ◌∙◌, refl, arith}
use Rattle.std.proofs.lemmas.List.{nil_from_length, length-set, get_or-set_other, get_or_past}
use Rattle.draw_buffer.specs.Vertices.{VertexState}
use Rattle.draw_buffer.proofs.VertexLemmas.{last-low, last-unused, set-here, push-here, push-other, sum-set, sum-push}
use Rattle.draw_buffer.proofs.TakenLemmas.{sound-give, sound-new, new-room, taken-first}
use Rattle.draw_buffer.proofs.vertices.VertexTable.give.Goals as goal

pub invariant_of-self : goal.invariant_of-self
invariant_of-self c =
    let i = c.self.inside in
    let end = ap (λ (t : VertexState). t.end) c.self.view_is in
    let uses = ap (λ (t : VertexState). t.uses) c.self.view_is in
    let points = ap (λ (t : VertexState). t.points) c.self.view_is in
    let within : c.args.point < length i.numbers.items = rw end c.requires.point in
    let away : (w : ℕ) → 0 < get_or i.uses.items w 0 → get_or i.points.items w 0 ≢ c.args.point =
    rw (uses, points) c.requires.new in
    sound-give i.points.items i.uses.items i.numbers.items i.free.items i.most _ _ _ _ c.self.invariant
    c.pop.new.self.items c.in-Some.v c.args.point _ _
    c.in-Some.ensures.items within away (omega (arith, c.in-Some.ensures.capacity)) c.note.ensures.capacity

pub note-requires-in-None : goal.note-requires-in-None
note-requires-in-None c =
    let i = c.self.inside in
    let uses = ap (λ (t : VertexState). sum t.uses) c.self.view_is in
    let most = ap (λ (t : VertexState). t.most) c.self.view_is in
    let room : sum i.uses.items < i.most = (let room = c.requires.room in omega arith) in
    let none = nil_from_length i.free.items (omega (arith, i.free.ok.0, c.in-None.ensures.cases.0)) in
    let some =
    new-room i.points.items i.uses.items i.numbers.items i.free.items i.most _ _ _ _ c.self.invariant none room in
    let space = c.self.invariant.point_space in
    omega arith

pub note-requires-in-None-2 : goal.note-requires-in-None-2
note-requires-in-None-2 c =
    let i = c.self.inside in
    let uses = ap (λ (t : VertexState). sum t.uses) c.self.view_is in
    let most = ap (λ (t : VertexState). t.most) c.self.view_is in
    let room : sum i.uses.items < i.most = (let room = c.requires.room in omega arith) in
    let none = nil_from_length i.free.items (omega (arith, i.free.ok.0, c.in-None.ensures.cases.0)) in
    let some =
    new-room i.points.items i.uses.items i.numbers.items i.free.items i.most _ _ _ _ c.self.invariant none room in
    let long = c.self.invariant.long in
    let space = c.self.invariant.use_space in
    omega arith

pub invariant_of-self-in-None : goal.invariant_of-self-in-None
invariant_of-self-in-None c =
    let i = c.self.inside in
    let end = ap (λ (t : VertexState). t.end) c.self.view_is in
    let uses = ap (λ (t : VertexState). t.uses) c.self.view_is in
    let total = ap (λ (t : VertexState). sum t.uses) c.self.view_is in
    let most = ap (λ (t : VertexState). t.most) c.self.view_is in
    let points = ap (λ (t : VertexState). t.points) c.self.view_is in
    let within : c.args.point < length i.numbers.items = rw end c.requires.point in
    let away : (w : ℕ) → 0 < get_or i.uses.items w 0 → get_or i.points.items w 0 ≢ c.args.point =
    rw (uses, points) c.requires.new in
    let room : sum i.uses.items < i.most = (let room = c.requires.room in omega arith) in
    let none = nil_from_length i.free.items (omega (arith, i.free.ok.0, c.in-None.ensures.cases.0)) in
    let still = nil_from_length c.pop.new.self.items (omega (arith, c.pop.new.self.ok.0, c.in-None.ensures.cases.1)) in
    let at : c.len-v.result ≡ length i.points.items = c.len-v.ensures ∙ i.points.ok.0 in
    sound-new i.points.items i.uses.items i.numbers.items i.free.items i.most _ _ _ _ c.self.invariant
    c.note-in-None.new.numbers.items
    c.note-in-None-2.new.numbers.items c.pop.new.self.items c.len-v.result c.args.point _ _ _ _ none
    still room at within away
    c.note-in-None.ensures.items c.note-in-None-2.ensures.items c.note-in-None.ensures.capacity
    c.note-in-None-2.ensures.capacity
    (omega (arith, c.in-None.ensures.capacity)) c.note-in-None-3.ensures.capacity

pub returns-in-Some : goal.returns-in-Some
returns-in-Some c =
    let i = c.self.inside in
    let v = c.in-Some.v in
    let low =
    last-low i.uses.items i.free.items c.pop.new.self.items v c.self.invariant.vacant c.in-Some.ensures.items in
    let unused =
    last-unused i.uses.items i.free.items c.pop.new.self.items v c.self.invariant.vacant c.in-Some.ensures.items in
    let long = c.self.invariant.long in
    rw (← c.self.view_is) (taken-first _ _ c.args.point v unused (set-here i.uses.items v 1 v low refl)
    (λ w u. get_or-set_other i.uses.items v w 1 0 u)
    (let change = sum-set i.uses.items v 1 low in omega arith)
    (set-here i.points.items v c.args.point v (omega arith) refl)
    (λ w u. get_or-set_other i.points.items v w c.args.point 0 u)
    c.note.ensures.items (length-set i.numbers.items c.args.point v) refl)

pub returns-in-None : goal.returns-in-None
returns-in-None c =
    let i = c.self.inside in
    let v = c.len-v.result in
    let long = c.self.invariant.long in
    let at : v ≡ length i.points.items = c.len-v.ensures ∙ i.points.ok.0 in
    let past : v ≡ length i.uses.items = omega arith in
    rw (← c.self.view_is) (taken-first _ _ c.args.point v (get_or_past i.uses.items v 0 (omega arith))
    (ap (λ us. get_or us v 0) c.note-in-None-2.ensures.items ∙ push-here i.uses.items 1 v past)
    (λ w u. ap (λ us. get_or us w 0) c.note-in-None-2.ensures.items
    ∙ push-other i.uses.items 1 w (λ e. u (e ∙ sym past)))
    (ap sum c.note-in-None-2.ensures.items ∙ sum-push i.uses.items 1)
    (ap (λ ps. get_or ps v 0) c.note-in-None.ensures.items ∙ push-here i.points.items c.args.point v at)
    (λ w u. ap (λ ps. get_or ps w 0) c.note-in-None.ensures.items
    ∙ push-other i.points.items c.args.point w (λ e. u (e ∙ sym at)))
    c.note-in-None-3.ensures.items (length-set i.numbers.items c.args.point v) refl)

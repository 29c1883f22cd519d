use Rattle.std.proofs.Common.{◌≡◌, ℕ, ◌-◌, ◌<◌, get_or, set, ap, ◌∙◌, refl, arith}
use Rattle.std.proofs.lemmas.List.{get_or_read, length-set}
use Rattle.draw_buffer.specs.Vertices.{VertexState}
use Rattle.draw_buffer.proofs.VertexLemmas.{used-within, free-room, set-here}
use Rattle.draw_buffer.proofs.TakenLemmas.{sound-stay, sound-leave, uses-less}
use Rattle.draw_buffer.proofs.vertices.VertexTable.leave.Goals as goal

pub note-requires : goal.note-requires
note-requires c =
    let i = c.self.inside in
    let uses = ap (λ (t : VertexState). get_or t.uses c.args.v 0) c.self.view_is in
    let used : 0 < get_or i.uses.items c.args.v 0 = (let used = c.requires.used in omega arith) in
    let room = free-room i.uses.items i.free.items c.args.v c.self.invariant.vacant used in
    let long = c.self.invariant.long in
    let few = c.self.invariant.few in
    let space = c.self.invariant.free_space in
    omega arith

pub invariant_of-self : goal.invariant_of-self
invariant_of-self c =
    let i = c.self.inside in
    let uses = ap (λ (t : VertexState). get_or t.uses c.args.v 0) c.self.view_is in
    let used : 0 < get_or i.uses.items c.args.v 0 = (let used = c.requires.used in omega arith) in
    let within = used-within i.uses.items c.args.v used in
    let left : ℕ = c.index_mut.result.now - 1 in
    let here = set-here i.uses.items c.args.v left c.args.v within refl in
    let read = get_or_read (set i.uses.items c.args.v left) c.args.v c.index.result.now
    (omega (arith, length-set i.uses.items c.args.v left)) c.index.ensures 0 in
    let none : c.index_mut.result.now - 1 ≡ 0 = omega arith in
    rw none (sound-leave i.points.items i.uses.items i.numbers.items i.free.items i.most _ _ _ _ c.self.invariant
    c.args.v c.note.new.numbers.items _ used
    c.note.ensures.items c.note.ensures.capacity)

pub invariant_of-self-else-index-eq0 : goal.invariant_of-self-else-index-eq0
invariant_of-self-else-index-eq0 c =
    let i = c.self.inside in
    let uses = ap (λ (t : VertexState). get_or t.uses c.args.v 0) c.self.view_is in
    let used : 0 < get_or i.uses.items c.args.v 0 = (let used = c.requires.used in omega arith) in
    let within = used-within i.uses.items c.args.v used in
    let left : ℕ = c.index_mut.result.now - 1 in
    let here = set-here i.uses.items c.args.v left c.args.v within refl in
    let read = get_or_read (set i.uses.items c.args.v left) c.args.v c.index.result.now
    (omega (arith, length-set i.uses.items c.args.v left)) c.index.ensures 0 in
    let some : 0 < c.index_mut.result.now - 1 = omega arith in
    sound-stay i.points.items i.uses.items i.numbers.items i.free.items i.most _ _ _ _ c.self.invariant c.args.v
    (c.index_mut.result.now - 1) used some

pub returns-then-index-eq0-clause-uses : goal.returns-then-index-eq0-clause-uses
returns-then-index-eq0-clause-uses c w =
    let i = c.self.inside in
    let uses = ap (λ (t : VertexState). get_or t.uses c.args.v 0) c.self.view_is in
    let used : 0 < get_or i.uses.items c.args.v 0 = (let used = c.requires.used in omega arith) in
    let within = used-within i.uses.items c.args.v used in
    let now = get_or_read i.uses.items c.args.v c.index_mut.result.now within c.index_mut.ensures.value 0 in
    uses-less i.uses.items c.args.v (c.index_mut.result.now - 1) used (omega arith) w
    ∙ ap (λ (t : VertexState). get_or t.uses w 0) c.self.view_is

pub returns-else-index-eq0-clause-uses : goal.returns-else-index-eq0-clause-uses
returns-else-index-eq0-clause-uses c w =
    let i = c.self.inside in
    let uses = ap (λ (t : VertexState). get_or t.uses c.args.v 0) c.self.view_is in
    let used : 0 < get_or i.uses.items c.args.v 0 = (let used = c.requires.used in omega arith) in
    let within = used-within i.uses.items c.args.v used in
    let now = get_or_read i.uses.items c.args.v c.index_mut.result.now within c.index_mut.ensures.value 0 in
    uses-less i.uses.items c.args.v (c.index_mut.result.now - 1) used (omega arith) w
    ∙ ap (λ (t : VertexState). get_or t.uses w 0) c.self.view_is

use Rattle.std.proofs.Common.{◌≡◌, ℕ, Bool, true, sym, ap, ◌∙◌}
use Rattle.std.proofs.lemmas.Bool.{false≢true}
use Rattle.mesh_defs.specs.BoundingBox.{BoundingBox}
use Rattle.mesh_defs.specs.View.{mark_of}
use Rattle.cull_marks.specs.Cuboid.{as_box}
use Rattle.view_mesh.specs.Turn.{is_settled}
use Rattle.view_mesh.proofs.TurnLemmas.{settled_where, settled-below, none-below}
use Rattle.view_mesh.proofs.turn.TurnExpiry.at.Goals as goal

pub returns-in-Some-clause-nothing : goal.returns-in-Some-clause-nothing
returns-in-Some-clause-nothing g c none =
    let t = c.args.self.now in
    let has : ℕ → Bool = g.B.Boxes.has_box t.boxes.now in
    let box : ℕ → BoundingBox = g.B.Boxes.box_at t.boxes.now in
    let at : as_box c.in-Some.cuboid ≡ box c.args.t = c.in-Some.ensures.value in
    let settled : is_settled (mark_of t.before.now (box c.args.t)) (mark_of t.after.now (box c.args.t)) ≡ true =
    ap (λ m. is_settled m (mark_of t.after.now (box c.args.t))) (sym (c.mark.ensures ∙ ap (mark_of t.before.now) at))
    ∙ ap (is_settled c.mark.result) (sym (c.mark-in-Some.ensures ∙ ap (mark_of t.after.now) at))
    ∙ settled_where (is_settled c.mark.result c.mark-in-Some.result) (sym c.expiring_between.ensures.below ∙ none) in
    settled-below (g.B.Boxes.n t.boxes.now) has box c.nest.ensures c.mark_laws.ensures.outside c.mark_laws.ensures.inside
    t.before.now t.after.now c.args.t settled

pub returns-in-None-clause-nothing : goal.returns-in-None-clause-nothing
returns-in-None-clause-nothing g c none =
    let t = c.args.self.now in
    none-below (g.B.Boxes.n t.boxes.now) (g.B.Boxes.has_box t.boxes.now) (g.B.Boxes.box_at t.boxes.now) c.nest.ensures
    t.before.now t.after.now c.args.t (λ is. false≢true (c.in-None.ensures.some.1 is))

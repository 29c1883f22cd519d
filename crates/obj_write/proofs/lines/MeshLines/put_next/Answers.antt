use Rattle.std.proofs.Common.{rules, length, get_or, Some, ◌<◌, ◌*◌, ◌+◌, ◌++◌, ◌∙◌, sym, ap, ap₂, refl, arith, List, ℕ}
use Rattle.mesh_defs.specs.HeightField.{side_of}
use Rattle.mesh_defs.specs.Triangle.{corners_of}
use Rattle.mesh_defs.specs.MeshText.{face_line, vertices_of, triangle_mark}
use Rattle.obj_write.specs.LineView.{mesh_seen}
use Rattle.obj_write.specs.LinesLeft.{LinesLeft, vertex_text, face_text}
use Rattle.obj_write.proofs.LineLemmas.{places, vertex-text-passed, vertex-text-step, vertex-text-end, face-text-step}
use Rattle.obj_write.proofs.LineLemmas.{face-text-end, line-of-vertex, lines-of-triangle}
use Rattle.obj_write.proofs.lines.MeshLines.put_next.Goals as goal

pub put_vertex-requires : goal.put_vertex-requires
put_vertex-requires g c =
    let grid = c.self.inside.view.grid.now in
    let below : c.first_from-self-inside.result < side_of grid.n * side_of grid.n =
    omega (arith, places (mesh_seen c.self.inside.view) c.self.invariant.0, c.if-self-places.true) in
    search rules

pub returns-then-self-places-clause-text : goal.returns-then-self-places-clause-text
returns-then-self-places-clause-text g c =
    let v = mesh_seen c.self.inside.view in
    let found = c.first_from-self-inside in
    let at = found.result in
    let below : at < length v.numbers.now = omega (arith, c.if-self-places.true) in
    let faces = face_text v c.self.inside.face c.self.inside.before in
    let passed = vertex-text-passed v c.self.invariant.0 c.self.inside.place at found.ensures.later
    found.ensures.within found.ensures.clear in
    ap (λ t. t ++ (vertex_text v (at + 1) ++ faces)) c.put_vertex.ensures.text
    ∙ line-of-vertex c.args.page.now _ (vertex_text v c.self.inside.place) _ faces
    (sym passed ∙ vertex-text-step v c.self.invariant.0 at below (found.ensures.number below))
    ∙ ap (λ (l : LinesLeft). c.args.page.now ++ l.text) c.self.view_is

pub returns-then-self-clause-text : goal.returns-then-self-clause-text
returns-then-self-clause-text g c =
    let v = mesh_seen c.self.inside.view in
    let found = c.first_from-self-inside in
    let passed = vertex-text-passed v c.self.invariant.0 c.self.inside.place found.result found.ensures.later
    found.ensures.within found.ensures.clear in
    ap (λ t. c.args.page.now ++ (t ++ face_text v c.self.inside.face c.self.inside.before)) passed
    ∙ ap (λ (l : LinesLeft). c.args.page.now ++ l.text) c.self.view_is

pub returns-then-self-clause-ended : goal.returns-then-self-clause-ended
returns-then-self-clause-ended g c _ =
    let v = mesh_seen c.self.inside.view in
    let found = c.first_from-self-inside in
    let passed = vertex-text-passed v c.self.invariant.0 c.self.inside.place found.result found.ensures.later
    found.ensures.within found.ensures.clear in
    let vertices =
    vertex-text-end v c.self.invariant.0 found.result (omega (arith, c.if-self-places.false)) in
    let faces = face-text-end v c.self.inside.face c.self.inside.before (omega (arith, c.if-self.true)) in (
      ap (λ (l : LinesLeft). l.text) (sym c.self.view_is)
          ∙ ap₂ (λ (xs ys : List ℕ). xs ++ ys) (sym passed ∙ vertices) faces,
      ap₂ (λ (xs ys : List ℕ). xs ++ ys) vertices faces,
    )

pub returns-clause-text : goal.returns-clause-text
returns-clause-text g c =
    let v = mesh_seen c.self.inside.view in
    let i = c.self.inside.face in
    let found = c.first_from-self-inside in
    let at = found.result in
    let passed = vertex-text-passed v c.self.invariant.0 c.self.inside.place at found.ensures.later
    found.ensures.within found.ensures.clear in
    let vertices = vertex-text-end v c.self.invariant.0 at (omega (arith, c.if-self-places.false)) in
    let leaf = get_or v.leaves.now i c.index-self-self.result in
    let mark = triangle_mark v.wedges.now.n v.wedges.now.heights v.spacing v.planes.now leaf in
    let faces = face-text-step v i c.index-self-self.result c.self.inside.before mark
    (omega (arith, c.if-self.false, c.self.invariant)) refl in
    ap (λ t. c.put_face.new.page ++ (vertex_text v at ++ t)) (c.put_group-self-inside.ensures.before (i + 1))
    ∙ ap (λ t. t ++ (vertex_text v at ++ face_text v (i + 1) (Some mark)))
    (c.put_face.ensures.text
    ∙ ap (λ t. t ++ face_line (vertices_of v.wedges.now.n v.leaves.now)
    (corners_of v.wedges.now.n leaf)) c.put_group-self-inside.ensures.text)
    ∙ lines-of-triangle c.args.page.now _ _ _ _ _ vertices faces
    ∙ ap (λ t. c.args.page.now ++ (t ++ face_text v i c.self.inside.before)) passed
    ∙ ap (λ (l : LinesLeft). c.args.page.now ++ l.text) c.self.view_is

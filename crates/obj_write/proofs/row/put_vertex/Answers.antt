use Rattle.std.proofs.Common.{◌≡◌, ◌<◌, ◌+◌, ◌-◌, ◌*◌, ◌++◌, ◌∙◌, sym, ap, arith}
use Rattle.mesh_defs.specs.HeightField.{side_of}
use Rattle.mesh_defs.specs.Thickness.{height_of}
use Rattle.mesh_defs.specs.BoundingBox.{point}
use Rattle.mesh_defs.specs.MeshText.{numbers_line, vertex_line}
use Rattle.obj_write.specs.LineView.{mesh_seen}
use Rattle.obj_write.proofs.FieldLemmas.{fields-line}
use Rattle.obj_write.proofs.RowLemmas.{point-in-row}
use Rattle.obj_write.proofs.row.put_vertex.Goals as goal

pub returns-clause-text : goal.returns-clause-text
returns-clause-text g c =
    let v = mesh_seen c.args.view.now in
    let n = v.wedges.now.n in
    let row = c.go_to_row.new.row in
    let is = c.go_to_row.ensures.row in
    let x = c.args.at - row.start in
    let low : x < side_of n = omega (arith, c.go_to_row.ensures.before, c.go_to_row.ensures.behind) in
    let there : c.args.at ≡ row.y * side_of n + x = omega (arith, c.go_to_row.ensures.before, is.begins) in
    let high : c.from.result ≡ height_of n v.wedges.now.heights (point x row.y) =
    c.from.ensures ∙ c.height-height.ensures.value in
    c.push_line.ensures.text
    ∙ ap (λ t. c.args.page.now ++ t) (fields-line 118 _ _ _ _ _ _ c.field_of.ensures is.field_is c.field_of-2.ensures)
    ∙ ap (λ k. c.args.page.now ++ numbers_line 118 (v.spacing * x) (v.spacing * row.y) k) high
    ∙ ap (λ p. c.args.page.now ++ vertex_line n v.wedges.now.heights v.spacing p)
    (sym (point-in-row n row.y x c.args.at low there))

use Rattle.std.proofs.Common.{◌*◌, ◌∙◌, sym, ap, subst, arith}
use Rattle.mesh_defs.specs.HeightField.{side_of}
use Rattle.obj_write.specs.LineView.{mesh_seen}
use Rattle.obj_write.specs.Faces.{AreFaces}
use Rattle.obj_write.proofs.LineLemmas.{text-start, places}
use Rattle.obj_write.proofs.lines.MeshLines.of.Goals as goal

pub first_faces-faces-requires-clause-places : goal.first_faces-faces-requires-clause-places
first_faces-faces-requires-clause-places c =
    let same = c.n.ensures.value in
    places (mesh_seen c.args.view) c.requires.view ∙ sym (ap (λ n. side_of n * side_of n) same)

pub invariant_of-result : goal.invariant_of-result
invariant_of-result c =
    let same = c.n.ensures.value in (
      c.requires.view,
      omega arith,
      omega arith,
      c.first_row.ensures.row c.args.view.grid.now.n c.args.view.spacing,
      omega (arith, c.first_row.ensures.start),
      subst (λ n. AreFaces n c.args.view.numbers.now c.first_faces-faces.result) same c.first_faces-faces.ensures.known,
      c.requires.flagged,
      c.requires.boxes,
    )

pub returns-clause-text : goal.returns-clause-text
returns-clause-text c = text-start (mesh_seen c.args.view)

-- A triangle more: the greatest of what was found and of its own.
use Rattle.std.proofs.Common.{◌≡◌, ◌∙◌, ◌<◌, ◌≤◌, ◌*◌, List, All, length, max, sym, ap, ap₂, subst, arith}
use Rattle.std.proofs.lemmas.List.{take_all}
use Rattle.mesh_defs.specs.HeightField.{HeightField}
use Rattle.mesh_defs.specs.Triangle.{level_of, IsAddress}
use Rattle.mesh_defs.specs.BoundingBox.{greatest}
use Rattle.mesh_laws.proofs.DescentLemmas.{IsAddress-leaves_of}
use Rattle.fit_laws.specs.PlaneHeight.{offs_in, deviation_of}
use Rattle.fit_laws.proofs.ListLemmas.{deviation_of-more, deviation_of-none, deviation_of-le, level-leaf}
use Rattle.mesh_measure.proofs.mesh.deviation.Goals as goal

pub loop-t-init : goal.loop-t-init
loop-t-init c = sym (deviation_of-none c.args.w.now.n c.args.w.now.heights)

pub off_triangle-requires : goal.off_triangle-requires
off_triangle-requires c = record {
  level = subst (λ (g : HeightField). level_of c.t-item.result ≤ 2 * g.n) (sym c.grid.ensures.value)
      (level-leaf c.args.w.now.n c.requires.leaves.0 c.args.leaves.now c.loop-t.t-index c.t-item.result
      c.requires.leaves.2 (omega arith) c.t-item.is);
}

pub loop-t-preserved : goal.loop-t-preserved
loop-t-preserved c =
    let below : c.loop-t.t-index < length c.args.leaves.now = omega arith in
    let own = subst (λ (g : HeightField). c.off_triangle.result ≡ greatest (offs_in g.n g.heights c.t-item.result))
    c.grid.ensures.value c.off_triangle.ensures in
    c.greater-most.ensures
    ∙ ap₂ max c.loop-t.invariant (c.from.ensures ∙ own
    ∙ ap (λ z. greatest (offs_in c.args.w.now.n c.args.w.now.heights z)) c.t-item.is)
    ∙ sym (deviation_of-more c.args.w.now.n c.args.w.now.heights c.args.leaves.now
    c.loop-t.t-index c.t-item.result below)

pub returns-clause-bound : goal.returns-clause-bound
returns-clause-bound c =
    let n = c.args.w.now.n in
    let addresses : All (IsAddress n) c.args.leaves.now =
    subst (λ (xs : List _). All (IsAddress n) xs) (sym c.requires.leaves.2)
    (IsAddress-leaves_of n c.requires.leaves.0) in
    let value : c.loop-t.most ≡ deviation_of n c.args.w.now.heights c.args.leaves.now =
    c.loop-t.invariant
    ∙ ap (deviation_of n c.args.w.now.heights) (take_all c.loop-t.t-index c.args.leaves.now (omega arith)) in
    rw value (deviation_of-le n c.args.w.now.heights c.args.leaves.now addresses)

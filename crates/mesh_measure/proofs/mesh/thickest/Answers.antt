-- A triangle more: the greatest of what was found and of its own thickness.
use Rattle.std.proofs.Common.{◌∙◌, ◌<◌, length, max, sym, ap, ap₂, arith}
use Rattle.mesh_defs.specs.Thickness.{thickness_of}
use Rattle.fit_laws.proofs.ListLemmas.{thickest_of-more, thickest_of-none, level-leaf}
use Rattle.mesh_measure.proofs.mesh.thickest.Goals as goal

pub loop-t-init : goal.loop-t-init
loop-t-init c = sym (thickest_of-none c.args.w.now.n c.args.w.now.heights)

pub thickness-requires : goal.thickness-requires
thickness-requires c = record {
  level = level-leaf c.args.w.now.n c.requires.leaves.0 c.args.leaves.now c.loop-t.t-index c.t-item.result
      c.requires.leaves.2 (omega arith) c.t-item.is;
}

pub loop-t-preserved : goal.loop-t-preserved
loop-t-preserved c =
    let below : c.loop-t.t-index < length c.args.leaves.now = omega arith in
    c.thicker-most.ensures
    ∙ ap₂ max c.loop-t.invariant (c.thickness.ensures.value
    ∙ ap (thickness_of c.args.w.now.n c.args.w.now.heights) c.t-item.is)
    ∙ sym (thickest_of-more c.args.w.now.n c.args.w.now.heights c.args.leaves.now
    c.loop-t.t-index c.t-item.result below)

use Rattle.std.proofs.Common.{◌≡◌, ◌*◌, ◌∙◌, ap, sym, arith}
use Rattle.mesh_defs.specs.HeightField.{HeightField}
use Rattle.mesh_defs.specs.Thickness.{thickness_of}
use Rattle.mesh_defs.specs.Triangle.{level_of}
use Rattle.wedgie_tree.proofs.wedges.Wedges.thickness.Goals as goal

pub returns-then-level-n-clause-value : goal.returns-then-level-n-clause-value
returns-then-level-n-clause-value c =
    let finest : level_of c.args.t ≡ 2 * c.args.self.now.n = sym c.level.ensures.value ∙ c.if-level-n.true
    ∙ ap (λ k. 2 * k) (c.n.ensures.value ∙ ap (λ (g : HeightField). g.n) c.self.view_is) in
    sym (c.wedge_laws.ensures.finest_thickness _ _ _ finest)

pub returns-else-level-n-clause-value : goal.returns-else-level-n-clause-value
returns-else-level-n-clause-value c = c.wedge.ensures.thickness

pub returns-then-level-n-clause-bounded : goal.returns-then-level-n-clause-bounded
returns-then-level-n-clause-bounded c = omega arith

pub returns-else-level-n-clause-bounded : goal.returns-else-level-n-clause-bounded
returns-else-level-n-clause-bounded c =
    let small = c.wedge_laws.ensures.bounded c.self.inside.grid c.args.t c.self.invariant.valid in
    let own = c.wedge.ensures.thickness
    ∙ ap (λ (g : HeightField). thickness_of g.n g.heights c.args.t) (sym c.self.view_is) in
    let level = ap (λ (g : HeightField). g.n) c.self.view_is in
    omega arith

use Rattle.std.proofs.Common.{◌≡◌, ℕ, false}
use Rattle.mesh_defs.specs.Triangle.{IsAddress}
use Rattle.mesh_defs.specs.BoundingBox.{holds_point, point}
use Rattle.wedgie_tree.specs.Edits.{AgreesOn}
use Rattle.height_edit.proofs.SameLemmas.{HeldLaws, AgreesOn-point, level-fits}
use Rattle.height_edit.proofs.point.set_point.Goals as goal
use Rattle.height_edit.proofs.point.set_point.Goals.{After-holders}

-- the laws that the calls state
laws : After-holders → HeldLaws
laws c = record {
  below = c.level_laws.ensures.below;
  within = c.corner_laws.ensures.within;
  rectangle = c.edit_laws.ensures.rectangle;
}

-- each height of a triangle that does not hold the point is as it was
agrees : (c : After-holders) → (a : ℕ) → IsAddress c.args.wedges.now.n a →
    holds_point c.args.wedges.now.n a (point c.args.x c.args.y) ≡ false →
    AgreesOn c.args.wedges.now.n c.set.new.self.heights c.args.wedges.now.heights a
agrees c =
    AgreesOn-point (laws c) c.args.wedges.now.n c.set.new.self.heights c.args.wedges.now.heights c.args.x
    c.args.y c.set.ensures.others

pub returns-clause-same_thickness : goal.returns-clause-same_thickness
returns-clause-same_thickness c = λ a address apart.
    c.edit_laws.ensures.same_thickness c.args.wedges.now.n c.set.new.self.heights c.args.wedges.now.heights a
    address.low (level-fits (laws c) c.args.wedges.now.n a address) (agrees c a address apart)

pub returns-clause-same_box : goal.returns-clause-same_box
returns-clause-same_box c = λ a spacing address apart.
    c.edit_laws.ensures.same_box c.args.wedges.now.n c.set.new.self.heights c.args.wedges.now.heights spacing a
    (agrees c a address apart)

use Rattle.std.proofs.Common.{◌≡◌, ℕ, ◌^◌, ◌≤◌, true, subst}
use Rattle.mesh_defs.specs.HeightField.{height_at}
use Rattle.mesh_defs.specs.State as state
use Rattle.mesh_defs.specs.Triangle.{corners_of, IsAddress}
use Rattle.bintree_laws.specs.Areas.{MeetsArea}
use Rattle.wedgie_tree.specs.Edits.{AgreesOn, area_between}
use Rattle.height_edit.proofs.SameLemmas.{HeldLaws, AgreesOn-area, level-fits}
use Rattle.height_edit.proofs.area.raise_area.Goals as goal
use Rattle.height_edit.proofs.area.raise_area.Goals.{After-raise}

-- the laws that the calls state
laws : After-raise → HeldLaws
laws c = record {
  below = c.level_laws.ensures.below;
  within = c.corner_laws.ensures.within;
  rectangle = c.edit_laws.ensures.rectangle;
}

-- each height of a triangle that does not meet the area is as it was
agrees : (c : After-raise) → (a : ℕ) → IsAddress c.args.wedges.now.n a →
    (MeetsArea (corners_of c.args.wedges.now.n a) (area_between c.args.x0 c.args.y0 c.args.x1 c.args.y1) → ⊥) →
    AgreesOn c.args.wedges.now.n c.raise.new.self.heights c.args.wedges.now.heights a
agrees c =
    let P : state.Area → Type 0 = λ area. (i j : ℕ) → i ≤ 2 ^ c.args.wedges.now.n → j ≤ 2 ^ c.args.wedges.now.n →
    (state.is_in_area area i j ≡ true → ⊥) →
    height_at c.args.wedges.now.n c.raise.new.self.heights i j
    ≡ height_at c.args.wedges.now.n c.args.wedges.now.heights i j in
    AgreesOn-area (laws c) c.args.wedges.now.n c.raise.new.self.heights c.args.wedges.now.heights
    (area_between c.args.x0 c.args.y0 c.args.x1 c.args.y1) (subst P c.new.ensures c.raise.ensures.others)

pub returns-clause-same_thickness : goal.returns-clause-same_thickness
returns-clause-same_thickness c = λ a address apart.
    c.edit_laws.ensures.same_thickness c.args.wedges.now.n c.raise.new.self.heights c.args.wedges.now.heights a
    address.low (level-fits (laws c) c.args.wedges.now.n a address) (agrees c a address apart)

pub returns-clause-same_box : goal.returns-clause-same_box
returns-clause-same_box c = λ a spacing address apart.
    c.edit_laws.ensures.same_box c.args.wedges.now.n c.raise.new.self.heights c.args.wedges.now.heights spacing a
    (agrees c a address apart)

use Rattle.wedgie_tree.proofs.AreaLemmas.{address_laws}
use Rattle.wedgie_tree.proofs.HeightLemmas.{holds_point-children}
use Rattle.wedgie_tree.proofs.EditLemmas.{thickness_of-same, box_of-same, IsInRectangle-held}
use Rattle.wedgie_tree.proofs.laws.edit_laws.Goals as goal

pub returns-clause-same_thickness : goal.returns-clause-same_thickness
returns-clause-same_thickness c = thickness_of-same address_laws

pub returns-clause-same_box : goal.returns-clause-same_box
returns-clause-same_box c = box_of-same

pub returns-clause-children : goal.returns-clause-children
returns-clause-children c = λ n a r split. holds_point-children address_laws n a split r

pub returns-clause-rectangle : goal.returns-clause-rectangle
returns-clause-rectangle c = IsInRectangle-held address_laws

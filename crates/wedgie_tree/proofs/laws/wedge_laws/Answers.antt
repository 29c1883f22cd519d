use Rattle.wedgie_tree.proofs.AreaLemmas.{address_laws}
use Rattle.wedgie_tree.proofs.HeightLemmas.{low_of-children, high_of-children, low_of-finest, high_of-finest, low_of-le}
use Rattle.wedgie_tree.proofs.ThicknessLemmas.{thickness_of-finest, thickness_of-children, thickness_of-le}
use Rattle.wedgie_tree.proofs.laws.wedge_laws.Goals as goal

pub returns-clause-finest_thickness : goal.returns-clause-finest_thickness
returns-clause-finest_thickness c = thickness_of-finest

pub returns-clause-finest_low : goal.returns-clause-finest_low
returns-clause-finest_low c = low_of-finest address_laws

pub returns-clause-finest_high : goal.returns-clause-finest_high
returns-clause-finest_high c = high_of-finest address_laws

pub returns-clause-thickness : goal.returns-clause-thickness
returns-clause-thickness c = thickness_of-children address_laws

pub returns-clause-low : goal.returns-clause-low
returns-clause-low c = low_of-children address_laws

pub returns-clause-high : goal.returns-clause-high
returns-clause-high c = high_of-children address_laws

pub returns-clause-ordered : goal.returns-clause-ordered
returns-clause-ordered c = low_of-le address_laws

pub returns-clause-bounded : goal.returns-clause-bounded
returns-clause-bounded c = thickness_of-le

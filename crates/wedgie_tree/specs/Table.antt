-- The table of wedges: an entry for each triangle above the last splittable levels, at its address.
-- Words: kept_levels, IsInTable, IsWedge, HasEntry, AllUnder, IsRightOff, IsTable.
use Rattle.std.specs.Prelude.{◌≡◌, ℕ, zero, suc, ◌+◌, ◌-◌, ◌*◌, ◌^◌, ◌<◌, ◌≤◌, List, length, slice_index_or}
use Rattle.mesh_defs.specs.HeightField.{HeightField, IsHeightField}
use Rattle.mesh_defs.specs.Triangle.{level_of}
use Rattle.mesh_defs.specs.Thickness.{thickness_of}
use Rattle.mesh_defs.specs.BoundingBox.{low_of, high_of}
use Rattle.mesh_defs.specs.State.{Area}
use Rattle.wedgie_tree.specs.Edits.{IsClearOf}
use Rattle.wedgie_tree.specs.declared.wedge.Wedge.{Wedge}
use Rattle.wedgie_tree.specs.declared.table.TheConstants.{LEFT_OUT}

-- how many levels have a place in the table, from the coarsest on: none where all splittable ones are left out
abbrev pub kept_levels : ℕ → ℕ
kept_levels n = 2 * n - LEFT_OUT

-- the table has a place for triangle a
pub record IsInTable (n a : ℕ) : Type 0 where
  pub low : 2 ≤ a
  pub coarse : level_of a < kept_levels n

-- w has the thickness and the least and greatest height of triangle a in this height field
pub record IsWedge (g : HeightField) (a : ℕ) (w : Wedge) : Type 0 where
  pub thickness : w.thickness ≡ thickness_of g.n g.heights a
  pub low : w.low ≡ low_of g.n g.heights a
  pub high : w.high ≡ high_of g.n g.heights a

-- the table has at place a the wedge of triangle a
abbrev pub HasEntry : HeightField → List Wedge → ℕ → Type 0
HasEntry g table a = (d : Wedge) → IsWedge g a (slice_index_or table a d)

-- P holds of a and its descendants down to levels - 1 levels below it
abbrev pub AllUnder : ℕ → (ℕ → Type 0) → ℕ → Type 0
AllUnder zero P a = Unit {0}
AllUnder (suc levels) P a = P a × AllUnder levels P (2 * a) × AllUnder levels P (2 * a + 1)

-- the entry of each kept triangle that holds no point of the area is its wedge
abbrev pub IsRightOff : HeightField → Area → List Wedge → Type 0
IsRightOff g area table = (a : ℕ) → IsInTable g.n a → IsClearOf g.n area a → HasEntry g table a

-- the table of a height field has a place for each address of a kept level, and the wedge of each kept triangle
pub record IsTable (g : HeightField) (table : List Wedge) : Type 0 where
  pub valid : IsHeightField g
  pub count : length table ≡ 2 ^ (kept_levels g.n + 1)
  pub each : (a : ℕ) → IsInTable g.n a → HasEntry g table a

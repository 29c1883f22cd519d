-- What the calls on a mosaic do and answer. All of it is this project's own.
-- Words: IsSide, IsMosaicShape, IsMosaicAnswer, IsMosaicOpened, SameBooks, IsNextTold, AreRequiredTold, IsBorderKept.
use Rattle.std.specs.Prelude.{◌≡◌, ◌≢◌, ◌⊎◌, ◌↔◌, ℕ, ◌+◌, ◌*◌, ◌^◌, ◌<◌, ◌≤◌, false, IsTrue, All, List, ◌++◌, length, drop}
use Rattle.std.specs.Prelude.{Contains}
use Rattle.mesh_defs.specs.declared.point.Point.{Point}
use Rattle.mesh_defs.specs.HeightField.{side_of}
use Rattle.mesh_defs.specs.declared.level.TheConstants.{GREATEST_LEVEL}
use Rattle.mosaic_laws.specs.Tile.{IsTile}
use Rattle.mosaic_rounds.specs.declared.shape.TheConstants.{MOST_ACROSS}
use Rattle.mosaic_rounds.specs.Place.{centre_place, IsBorderPlace, IsSaidBy}
use Rattle.mosaic_rounds.specs.Rounds.{RoundsState, splits, IsAskedOf, IsSettled, Lacks, turn_of, wait_of}
use Rattle.roam_embed.specs.declared.answer.Answer.{Answer}
use Rattle.roam_embed.specs.declared.answer.Answer.TheVariants.{Done, NoMemory, BadGrid, OutsideGrid, NoRoom, Shrunk}
use Rattle.roam_embed.specs.declared.notes.Tile.{Tile}
use Rattle.roam_embed.specs.declared.notes.Required.{Required}

-- a grid with this n has so many points a side
pub record IsSide (side n : ℕ) : Type 0 where
  pub low : 1 ≤ n
  pub high : n ≤ GREATEST_LEVEL
  pub count : side ≡ side_of n

-- there is a terrain of so many tiles with so many points a side
pub record IsMosaicShape (columns rows side : ℕ) : Type 0 where
  pub some_columns : 1 ≤ columns
  pub few_columns : columns ≤ MOST_ACROSS
  pub some_rows : 1 ≤ rows
  pub few_rows : rows ≤ MOST_ACROSS
  pub level : (n : ℕ) × IsSide side n

-- what a call that opens a mosaic may answer
pub record IsMosaicAnswer (columns rows side : ℕ) (answer : Answer) : Type 0 where
  pub bad_grid : (answer ≡ BadGrid) ↔ (IsMosaicShape columns rows side → ⊥)
  pub others : ((answer ≡ Done) ⊎ (answer ≡ NoMemory)) ↔ IsMosaicShape columns rows side

-- so many tiles, of which none has a mesh
pub record IsMosaicOpened (wide high side : ℕ) (m : RoundsState) : Type 0 where
  pub columns : m.columns ≡ wide
  pub rows : m.rows ≡ high
  pub level : IsSide side m.n
  pub turn : m.turn ≡ 0
  pub none : (t : Point) (a : ℕ) → splits m t a ≡ false

-- the same tiles, and the same border points of each
pub record SameBooks (before after : RoundsState) : Type 0 where
  pub columns : after.columns ≡ before.columns
  pub rows : after.rows ≡ before.rows
  pub n : after.n ≡ before.n
  pub splits : (t : Point) (a : ℕ) → splits after t a ≡ splits before t a

-- The next tile that has to be fitted is told, the first from the next turn on; or that there is none, as each tile has
-- what its neighbours have.
pub record IsNextTold (before after : RoundsState) (told : Tile) (answer : Answer) : Type 0 where
  pub done : answer ≡ Done
  pub none : (told.waits ≡ 0) ↔ IsSettled before
  pub one : told.waits ≤ 1
  pub tile : told.waits ≡ 1 → IsTile before.columns before.rows (record { x = told.column; y = told.row })
      × Lacks before (record { x = told.column; y = told.row })
  pub order : told.waits ≡ 1 → (u : Point) → IsTile before.columns before.rows u → Lacks before u →
      wait_of before (record { x = told.column; y = told.row }) ≤ wait_of before u
  pub turn : told.waits ≡ 1 → after.turn ≡ turn_of before (record { x = told.column; y = told.row }) + 1
  pub same : told.waits ≡ 0 → after.turn ≡ before.turn
  pub column : told.waits ≡ 0 → told.column ≡ 0
  pub row : told.waits ≡ 0 → told.row ≡ 0
  pub spare : told.spare ≡ 0
  pub books : SameBooks before after

-- The places of what a tile's mesh has to have stand first in the array: its centre, and the border points that its
-- neighbours have; how many they are, and whether the tile lacks one.
pub record AreRequiredTold (m : RoundsState) (t : Point) (array_before array : List ℕ) (told_before told : Required)
    (answer : Answer) : Type 0 where
  pub outside_grid : (answer ≡ OutsideGrid) ↔ (IsTile m.columns m.rows t → ⊥)
  pub places : List ℕ
  pub just : IsTile m.columns m.rows t → (p : ℕ) →
      (Contains places p ↔ ((a : ℕ) × IsAskedOf m t a × (centre_place m.n a ≡ p)))
  pub few : length places ≤ 4 * 2 ^ m.n
  pub done : (answer ≡ Done) ↔ (IsTile m.columns m.rows t × (length places ≤ length array_before))
  pub no_room : (answer ≡ NoRoom) ↔ (IsTile m.columns m.rows t × (length array_before < length places))
  pub written : answer ≡ Done → array ≡ places ++ drop (length places) array_before
  pub counted : answer ≡ Done → told.count ≡ length places
  pub lacks : answer ≡ Done → ((told.lacks ≡ 1) ↔ Lacks m t)
  pub one : answer ≡ Done → told.lacks ≤ 1
  pub spare : answer ≡ Done → told.spare ≡ 0
  pub unwritten : (answer ≡ Done → ⊥) → array ≡ array_before
  pub untold : (answer ≡ Done → ⊥) → told ≡ told_before

-- The tile has just these border points then, and the centre, with those that a mesh has where it has them; that is
-- refused where it had another one.
pub record IsBorderKept (before after : RoundsState) (t : Point) (border : List ℕ) (answer : Answer) : Type 0 where
  pub outside_grid : (answer ≡ OutsideGrid)
      ↔ (IsTile before.columns before.rows t × All (IsBorderPlace before.n) border → ⊥)
  pub shrunk : (answer ≡ Shrunk) ↔ (IsTile before.columns before.rows t × All (IsBorderPlace before.n) border
      × ((a : ℕ) × IsTrue (splits before t a) × (IsSaidBy before.n border a → ⊥)))
  pub done : (answer ≡ Done) ↔ (IsTile before.columns before.rows t × All (IsBorderPlace before.n) border
      × ((a : ℕ) → IsTrue (splits before t a) → IsSaidBy before.n border a))
  pub put : answer ≡ Done → (a : ℕ) → (IsTrue (splits after t a) ↔ IsSaidBy before.n border a)
  pub others : (u : Point) (a : ℕ) → IsTile before.columns before.rows u → u ≢ t →
      splits after u a ≡ splits before u a
  pub kept : (answer ≡ Done → ⊥) → (u : Point) (a : ℕ) → splits after u a ≡ splits before u a
  pub columns : after.columns ≡ before.columns
  pub rows : after.rows ≡ before.rows
  pub n : after.n ≡ before.n
  pub turn : after.turn ≡ before.turn

-- When a page can be loaded.
-- This project's own. Words: CanLoad, HasFinerSquare, IsLoadFault.
use Rattle.std.specs.Prelude.{◌≡◌, ◌≢◌, ℕ, ◌+◌, ◌^◌, ◌<◌, IsTrue, false, None, is_some}
use Rattle.mesh_defs.specs.declared.point.Point.{Point}
use Rattle.mesh_defs.specs.HeightField.{HeightField}
use Rattle.mosaic_laws.specs.Tile.{IsTile}
use Rattle.page_laws.specs.Pages.{square_above, AreBeside}
use Rattle.page_store.specs.declared.load.LoadFault.{LoadFault}
use Rattle.page_store.specs.declared.load.LoadFault.TheVariants.{NoSuchPage, AlreadyLoaded, WrongSide, WrongBound}
use Rattle.page_store.specs.declared.load.LoadFault.TheVariants.{CoarserMissing, BesideMissing, HeightsDiffer}
use Rattle.page_store.specs.Store.{Store, cuts_of, page_at, maxval_of}
use Rattle.page_store.specs.Agreement.{IsAgreed, IsDiffering}

-- A page with this grid can be loaded in a square: there is such a square, finer than the coarsest one and free, the
-- page above it and those beside that are loaded, and its bound and heights that are loaded are the same.
pub record CanLoad (s : Store) (q : ℕ) (t : Point) (grid : HeightField) : Type 0 where
  pub coarse : s.n + q < s.large
  pub tile : IsTile (2 ^ cuts_of s q) (2 ^ cuts_of s q) t
  pub absent : page_at s q t ≡ None
  pub side : grid.n ≡ s.n
  pub bound : grid.maxval ≡ maxval_of s
  pub above : IsTrue (is_some (page_at s (q + 1) (square_above t)))
  pub beside : (u : Point) → IsTile (2 ^ cuts_of s (q + 1)) (2 ^ cuts_of s (q + 1)) u → AreBeside (square_above t) u →
      IsTrue (is_some (page_at s (q + 1) u))
  pub heights : IsAgreed s q t grid.heights

-- there is such a square, finer than the coarsest one
abbrev pub HasFinerSquare : Store → ℕ → Point → Type 0
HasFinerSquare s q t = (s.n + q < s.large) × IsTile (2 ^ cuts_of s q) (2 ^ cuts_of s q) t

-- The first cause, in the order of the variants, for which a page with this grid cannot be loaded.
abbrev pub IsLoadFault : Store → ℕ → Point → HeightField → LoadFault → Type 0
IsLoadFault s q t grid NoSuchPage = ¬ (HasFinerSquare s q t)
IsLoadFault s q t grid AlreadyLoaded = HasFinerSquare s q t × IsTrue (is_some (page_at s q t))
IsLoadFault s q t grid WrongSide = HasFinerSquare s q t × (page_at s q t ≡ None) × (grid.n ≢ s.n)
IsLoadFault s q t grid WrongBound = HasFinerSquare s q t × (page_at s q t ≡ None) × (grid.n ≡ s.n)
    × (grid.maxval ≢ maxval_of s)
IsLoadFault s q t grid CoarserMissing = HasFinerSquare s q t × (page_at s q t ≡ None) × (grid.n ≡ s.n)
    × (grid.maxval ≡ maxval_of s)
    × (page_at s (q + 1) (square_above t) ≡ None)
IsLoadFault s q t grid BesideMissing = HasFinerSquare s q t × (page_at s q t ≡ None) × (grid.n ≡ s.n)
    × (grid.maxval ≡ maxval_of s)
    × IsTrue (is_some (page_at s (q + 1) (square_above t)))
    × ((u : Point) × IsTile (2 ^ cuts_of s (q + 1)) (2 ^ cuts_of s (q + 1)) u × AreBeside (square_above t) u
    × (is_some (page_at s (q + 1) u) ≡ false))
IsLoadFault s q t grid (HeightsDiffer at) = HasFinerSquare s q t × (page_at s q t ≡ None) × (grid.n ≡ s.n)
    × (grid.maxval ≡ maxval_of s)
    × IsTrue (is_some (page_at s (q + 1) (square_above t)))
    × ((u : Point) → IsTile (2 ^ cuts_of s (q + 1)) (2 ^ cuts_of s (q + 1)) u → AreBeside (square_above t) u →
    IsTrue (is_some (page_at s (q + 1) u)))
    × IsDiffering s q t grid.heights at

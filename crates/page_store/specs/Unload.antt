-- When a page can be unloaded.
-- This project's own. Words: IsFree, IsNeeded, IsUnloadFault.
use Rattle.std.specs.Prelude.{◌≡◌, ◌⊎◌, ℕ, ◌+◌, ◌-◌, ◌<◌, ◌≤◌, IsTrue, None, is_some}
use Rattle.mesh_defs.specs.declared.point.Point.{Point}
use Rattle.page_laws.specs.Pages.{square_above, AreBeside}
use Rattle.page_store.specs.declared.unload.UnloadFault.{UnloadFault}
use Rattle.page_store.specs.declared.unload.UnloadFault.TheVariants.{NotLoaded, IsCoarsest, IsNeededByFiner}
use Rattle.page_store.specs.Store.{Store, page_at}

-- no page of the resolution before lies in the square, or in one beside it
abbrev pub IsFree : Store → ℕ → Point → Type 0
IsFree s q t = 1 ≤ q → (u : Point) → IsTrue (is_some (page_at s (q - 1) u)) →
    (square_above u ≡ t → ⊥) × (AreBeside (square_above u) t → ⊥)

-- some page of the resolution before does
pub record IsNeeded (s : Store) (q : ℕ) (t : Point) : Type 0 where
  pub square : Point
  pub loaded : IsTrue (is_some (page_at s (q - 1) square))
  pub near : (square_above square ≡ t) ⊎ AreBeside (square_above square) t

-- The first cause, in the order of the variants, for which a page cannot be unloaded.
abbrev pub IsUnloadFault : Store → ℕ → Point → UnloadFault → Type 0
IsUnloadFault s q t NotLoaded = page_at s q t ≡ None
IsUnloadFault s q t IsCoarsest = IsTrue (is_some (page_at s q t)) × (s.large ≤ s.n + q)
IsUnloadFault s q t IsNeededByFiner = IsTrue (is_some (page_at s q t)) × (s.n + q < s.large) × (1 ≤ q) × IsNeeded s q t

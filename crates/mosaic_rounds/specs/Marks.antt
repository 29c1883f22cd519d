-- What the leaves of a mesh add to the bits of a tile. This project's own form. Words: Marks, MarksAll, IsClear.
use Rattle.std.specs.Prelude.{◌≡◌, ℕ, false, ◌&&◌, ◌||◌, nat_le, List}
use Rattle.mesh_defs.specs.Triangle.{level_of}
use Rattle.mesh_laws.specs.Ancestors.{is_above, ancestors_of}
use Rattle.mosaic_rounds.specs.Bits.{is_kept, splits_at}

-- beside what they said, the bits say that what is kept and lies above the leaf, from this level on, is split
abbrev pub Marks : ℕ → ℕ → ℕ → List ℕ → List ℕ → Type 0
Marks n leaf level old new =
    (a : ℕ) → splits_at n new 0 a ≡
    (splits_at n old 0 a || (is_kept n a && (nat_le level (level_of a) && is_above a leaf)))

-- the same for all leaves, from the first level on
abbrev pub MarksAll : ℕ → List ℕ → List ℕ → List ℕ → Type 0
MarksAll n leaves old new = (a : ℕ) → splits_at n new 0 a ≡
    (splits_at n old 0 a || (is_kept n a && ancestors_of leaves a))

-- no bit of the tile says that anything is split
abbrev pub IsClear : ℕ → List ℕ → Type 0
IsClear n words = (a : ℕ) → splits_at n words 0 a ≡ false

-- Pairs of addresses whose triangles have one base, told by the addresses alone. The grandchildren of a are
-- 4a to 4a + 3. The first and the last of them share a base, and the second and the third share theirs
-- with the third and the second grandchild of the triangle across the base of a. This project's own form.
-- That a pair is a triangle and its mate is a clause of `Tri::mate`.
use Rattle.std.specs.Prelude.{◌≡◌, ◌⊎◌, ℕ, zero, suc, ◌+◌, ◌/◌, ◌%◌}

-- the first or the last grandchild, which is in a pair with the other of the two
abbrev pub IsInner : ℕ → Type 0
IsInner zero = Unit {0}
IsInner (suc zero) = ⊥
IsInner (suc (suc zero)) = ⊥
IsInner (suc (suc (suc _))) = Unit {0}

-- the second or the third grandchild, which is in a pair beyond the base of a, if there is one
abbrev pub IsOuter : ℕ → Type 0
IsOuter zero = ⊥
IsOuter (suc zero) = Unit {0}
IsOuter (suc (suc zero)) = Unit {0}
IsOuter (suc (suc (suc _))) = ⊥

-- a and b, of this level, are a pair: 2 and 3 at level 0, none at level 1
abbrev pub IsPair : ℕ → ℕ → ℕ → Type 0
IsPair zero a b = a + b ≡ 5
IsPair (suc zero) a b = ⊥
IsPair (suc (suc level)) a b =
    (a % 4 + b % 4 ≡ 3) × ((IsInner (a % 4) × (a / 4 ≡ b / 4)) ⊎ (IsOuter (a % 4) × IsPair level (a / 4) (b / 4)))

-- Errors of triangles. To the laws an error is any number of a triangle, which may rise from a triangle to its child;
-- nothing is asked of it but that a finest triangle has none.
-- This project's own form. Words: error_of, IsExactAtFinest.
use Rattle.std.specs.Prelude.{◌≡◌, ℕ, ◌*◌, List}
use Rattle.mesh_defs.specs.Triangle.{level_of, IsAddress}
use Rattle.mesh_defs.specs.BoundingBox.{greatest}
use Rattle.fit_laws.specs.PlaneHeight.{offs_in}

-- The error of triangle a over a height field, times 2 ^ n: how far the surface is from the triangle's plane at most,
-- up or down, at a grid point that the triangle holds.
unfoldable pub error_of : ℕ → List ℕ → ℕ → ℕ
error_of n heights a = greatest (offs_in n heights a)

-- no finest triangle has an error: the grid points that it holds are its corners
abbrev pub IsExactAtFinest : ℕ → (ℕ → ℕ) → Type 0
IsExactAtFinest n error = (a : ℕ) → IsAddress n a → level_of a ≡ 2 * n → error a ≡ 0

-- The least mesh for a tolerance: what is worse than the tolerance is split, with what that forces, and no more.
-- Source: the forced splits of Duchaineau et al., "ROAMing Terrain", IEEE Visualization 1997; a mesh for a
-- tolerance, and that it is the least, are this project's own.
-- Words: is_worse, IsLeastList, IsLyingIn, IsLeastMesh.
use Rattle.std.specs.Prelude.{◌≡◌, ℕ, ◌*◌, ◌≤◌, ◌⊎◌, Bool, ◌&&◌, IsTrue, nat_lt, nat_le, List, length, Contains}
use Rattle.mesh_defs.specs.Triangle.{level_of}
use Rattle.mesh_defs.specs.Tiling.{IsConforming}
use Rattle.mesh_defs.specs.Priority.{worst_of}
use Rattle.mesh_defs.specs.ClosedSet.{IsSubset, IsLeastClosed, leaves_of}
use Rattle.mesh_laws.specs.Ancestors.{is_above, ancestors_of}

-- the splittable triangles whose priority is above the tolerance (0 and 1 have level 0 and are no triangles)
abbrev pub is_worse : ℕ → ℕ → (ℕ → ℕ) → ℕ → Bool
is_worse n tolerance priority a = (nat_le 2 a && nat_lt (level_of a) (2 * n)) && nat_lt tolerance (priority a)

-- The list of a tolerance: the leaves, depth first, of the least closed set of all that is worse than it.
pub record IsLeastList (n tolerance : ℕ) (priority : ℕ → ℕ) (triangles : List ℕ) : Type 0 where
  pub has : ℕ → Bool
  pub closure : IsLeastClosed n (is_worse n tolerance priority) has
  pub leaves : triangles ≡ leaves_of n has

-- triangle a is an entry, or lies below one
abbrev pub IsLyingIn : List ℕ → ℕ → Type 0
IsLyingIn triangles a = (v : ℕ) × Contains triangles v × ((v ≡ a) ⊎ IsTrue (is_above v a))

-- A least mesh for a tolerance: conforming, no entry worse than the tolerance, and each such list refines it:
-- what is split in this mesh is split there, there are at least as many triangles, and each of them lies in one of
-- this mesh.
pub record IsLeastMesh (n tolerance : ℕ) (priority : ℕ → ℕ) (triangles : List ℕ) : Type 0 where
  pub conforming : IsConforming n triangles
  pub within : worst_of priority triangles ≤ tolerance
  pub inside : (others : List ℕ) → IsConforming n others → worst_of priority others ≤ tolerance →
      IsSubset (ancestors_of triangles) (ancestors_of others)
  pub fewest : (others : List ℕ) → IsConforming n others → worst_of priority others ≤ tolerance →
      length triangles ≤ length others
  pub refined : (others : List ℕ) → IsConforming n others → worst_of priority others ≤ tolerance →
      (a : ℕ) → Contains others a → IsLyingIn triangles a

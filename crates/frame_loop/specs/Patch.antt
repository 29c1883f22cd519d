-- Changes of vertices, by the triangles that a frame may have split or merged. All of it is this project's own.
-- Words: change_of, AreNumbersBefore.
use Rattle.std.specs.Prelude.{◌≡◌, ℕ, Bool, List}
use Rattle.mesh_defs.specs.ClosedSet.{IsClosed, leaves_of}
use Rattle.mesh_laws.specs.Vertex.{centre_of}
use Rattle.obj_write.specs.declared.patch.VertexChange.{VertexChange}
use Rattle.obj_write.specs.Numbers.{numbers_of}
use Rattle.mesh_arrays.specs.List.{IsCovered}

-- the centre of a triangle, which is a vertex where the triangle is a member
abbrev pub change_of : ℕ → (ℕ → Bool) → ℕ → VertexChange
change_of n has a = record { point = centre_of n a; shown = has a }

-- the leaves and the numbers of their vertices are those of a closed set that differs from this one by triangles of the
-- list alone
pub record AreNumbersBefore (n : ℕ) (leaves numbers : List ℕ) (after : ℕ → Bool) (changed : List ℕ) : Type 0 where
  pub before : ℕ → Bool
  pub closed : IsClosed n before
  pub leaves_are : leaves ≡ leaves_of n before
  pub numbers_are : numbers ≡ numbers_of n (leaves_of n before)
  pub covered : IsCovered before after changed

-- What went and what came from one list of triangles to another. This project's own.
-- Words: IsChange; alone is that of mesh_arrays: those of a list that the other has not, in their order.
use Rattle.std.specs.Prelude.{◌≡◌, ℕ, List}
pub use Rattle.mesh_arrays.specs.Changes.{alone}

-- Just the triangles of the first list that are not in the second are gone, just those of the second that are not in
-- the first have come, each in the order of its list, and without them the two lists are one.
pub record IsChange (before after gone come : List ℕ) : Type 0 where
  pub left : gone ≡ alone before after
  pub new : come ≡ alone after before
  pub kept : alone before gone ≡ alone after come

-- What a frame took out of a mesh and what it put in. This project's own.
-- Words: LeafChanges, no_changes, changes_of, AreChangesOf.
use Rattle.std.specs.Prelude.{ℕ, List, []}
use Rattle.mesh_arrays.specs.ListChange.{IsChange}
use Rattle.mesh_arrays.specs.List.{ListState}

-- the triangles that it took out, and those that it put in
pub record LeafChanges : Type 0 where
  pub gone : List ℕ
  pub come : List ℕ

-- none
abbrev pub no_changes : LeafChanges
no_changes = record { gone = []; come = [] }

-- those that a list of leaves tells
abbrev pub changes_of : ListState → LeafChanges
changes_of list = record { gone = list.gone; come = list.come }

-- from the one list of triangles to the other just these went and came
abbrev pub AreChangesOf : List ℕ → List ℕ → LeafChanges → Type 0
AreChangesOf before after changes = IsChange before after changes.gone changes.come

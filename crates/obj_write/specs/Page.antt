-- What text does that goes through a page to the last mesh of a sink. This project's own words.
use Rattle.std.specs.Prelude.{◌≡◌, ℕ, List, [], ◌∷◌, ◌++◌, Option, Some}
use Rattle.roam_edge.specs.MeshSink.{WrittenMesh, longer}
use Rattle.roam_edge.specs.Told.{IsPrefix}

-- The text came behind the page, and what the page has no more, the last mesh has got.
pub record Passed (before now : Option (List WrittenMesh)) (page page' text : List ℕ) : Type 0 where
  pub meshes : (all : List WrittenMesh) (mesh : WrittenMesh) → before ≡ Some (all ++ mesh ∷ [])
      → (piece : List ℕ) × (page ++ text ≡ piece ++ page') × (now ≡ Some (all ++ longer mesh piece ∷ []))

-- The last mesh has got a prefix of the page with this text behind it.
pub record Broken (before now : Option (List WrittenMesh)) (text : List ℕ) : Type 0 where
  pub meshes : (all : List WrittenMesh) (mesh : WrittenMesh) → before ≡ Some (all ++ mesh ∷ [])
      → (front : List ℕ) × IsPrefix front text × (now ≡ Some (all ++ longer mesh front ∷ []))

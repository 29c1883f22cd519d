-- What a sink of meshes gets of one mesh: all of it, or a part. This project's own words.
use Rattle.std.specs.Prelude.{◌≡◌, ℕ, ◌⊎◌, Bool, false, List, [], ◌∷◌, ◌++◌, Option, Some}
use Rattle.roam_edge.specs.MeshSink.{WrittenMesh}
use Rattle.roam_edge.specs.Told.{IsPrefix}

-- the mesh of a sink with these bytes
abbrev pub mesh_with : List ℕ → ℕ → List ℕ → Bool → WrittenMesh
mesh_with name count text is_finished =
    record { prefix = name; number = count; bytes = text; finished = is_finished }

-- where it is told, this came behind what was there
abbrev pub Grows : {A : Type 0} → Option (List A) → Option (List A) → List A → Type 0
Grows {A} before now more = (all : List A) → before ≡ Some all → now ≡ Some (all ++ more)

-- nothing of the mesh, or an unfinished mesh with a prefix of its bytes
abbrev pub IsPartOfMesh : List ℕ → ℕ → List ℕ → List WrittenMesh → Type 0
IsPartOfMesh prefix number bytes part =
    (part ≡ []) ⊎ ((front : List ℕ) × IsPrefix front bytes × (part ≡ mesh_with prefix number front false ∷ []))

-- where it is told, one unfinished mesh with a prefix of these bytes came behind what was there
abbrev pub GrowsByPart : Option (List WrittenMesh) → Option (List WrittenMesh) → List ℕ → ℕ → List ℕ → Type 0
GrowsByPart before now name number bytes =
    (all : List WrittenMesh) → before ≡ Some all →
    (front : List ℕ) × IsPrefix front bytes × (now ≡ Some (all ++ mesh_with name number front false ∷ []))

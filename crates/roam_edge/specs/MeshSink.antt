-- What a sink of meshes tells, and what its calls do. This project's own words.
use Rattle.std.specs.Prelude.{◌≡◌, ℕ, Bool, true, false, List, [], ◌∷◌, ◌++◌, Option, Some, Result, OnOk, OnErr}
use Rattle.roam_edge.specs.Told.{StaysTold, IsPrefix}

-- a mesh of a sink: the prefix of its name, its number, its bytes so far, and whether it is finished
pub record WrittenMesh : Type 0 where
  pub prefix : List ℕ
  pub number : ℕ
  pub bytes : List ℕ
  pub finished : Bool

-- a mesh that has just begun: unfinished and without bytes
abbrev pub begun : List ℕ → ℕ → WrittenMesh
begun name count = record { prefix = name; number = count; bytes = []; finished = false }

-- the mesh with these bytes behind its own
abbrev pub longer : WrittenMesh → List ℕ → WrittenMesh
longer mesh piece = record mesh { bytes = mesh.bytes ++ piece }

-- the mesh, finished
abbrev pub closed : WrittenMesh → WrittenMesh
closed mesh = record mesh { finished = true }

-- beginning adds an unfinished mesh without bytes, and failing leaves all as before
pub record BeginsMesh {T E : Type 0} (before now : Option (List WrittenMesh)) (name : List ℕ) (count : ℕ)
    (answer : Result T E) : Type 0 where
  pub ok : OnOk answer ((all : List WrittenMesh) → before ≡ Some all → now ≡ Some (all ++ begun name count ∷ []))
  pub failed : OnErr answer (now ≡ before)
  pub told : StaysTold before now

-- writing appends the piece to the last mesh, and failing appends a prefix of it
pub record Writes {T E : Type 0} (before now : Option (List WrittenMesh)) (piece : List ℕ)
    (answer : Result T E) : Type 0 where
  pub ok : OnOk answer ((all : List WrittenMesh) (mesh : WrittenMesh) → before ≡ Some (all ++ mesh ∷ [])
      → now ≡ Some (all ++ longer mesh piece ∷ []))
  pub failed : OnErr answer ((all : List WrittenMesh) (mesh : WrittenMesh) → before ≡ Some (all ++ mesh ∷ [])
      → (front : List ℕ) × IsPrefix front piece × (now ≡ Some (all ++ longer mesh front ∷ [])))
  pub told : StaysTold before now

-- finishing marks the last mesh as finished, and failing leaves all as before
pub record Finishes {T E : Type 0} (before now : Option (List WrittenMesh)) (answer : Result T E) : Type 0 where
  pub ok : OnOk answer ((all : List WrittenMesh) (mesh : WrittenMesh) → before ≡ Some (all ++ mesh ∷ [])
      → now ≡ Some (all ++ closed mesh ∷ []))
  pub failed : OnErr answer (now ≡ before)
  pub told : StaysTold before now

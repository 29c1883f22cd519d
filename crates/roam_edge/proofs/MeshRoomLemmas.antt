-- Lemmas on meshes that lie one after the other in a room of bytes.
use Rattle.std.proofs.Common.{◌≡◌, ℕ, zero, suc, ◌-◌, ◌<◌, ◌≤◌, nat_lt, inl, inr, slice_get, option_to_list, List, []}
use Rattle.std.proofs.Common.{◌∷◌, ◌++◌, length, drop, Option, Some, None, option_map, ap, refl, arith, subst, ◌∙◌, map}
use Rattle.std.proofs.Common.{length-drop}
use Rattle.std.specs.Prelude.{slice_range}
use Rattle.std.proofs.lemmas.Bool.{cases_lt}
use Rattle.std.proofs.lemmas.Bool.Decides.{nat_tests}
use Rattle.std.proofs.lemmas.List.{drop-append-le, take-append-le}
use Rattle.std.proofs.lemmas.List.Elements.{All-head, All-tail}
use Rattle.roam_edge.specs.MeshSink.{WrittenMesh, longer}
use Rattle.roam_edge.specs.MeshRoom.{mesh_from, mesh_at, LieWithin, StartsWithin}
use Rattle.roam_edge.specs.declared.mesh_room.Heading.{Heading}
use Rattle.roam_edge.specs.declared.mesh_room.Placed.{Placed}

-- a part of the room stays as it was where the room grows
slice_range-append : (room piece : List ℕ) (start end : ℕ) → start ≤ end → end ≤ length room →
    slice_range (room ++ piece) start end ≡ slice_range room start end
slice_range-append room piece start end in_order within =
    rw (
      drop-append-le start room piece (omega arith),
      take-append-le (end - start) (drop start room) piece (omega (arith, length-drop start room)),
    )

-- finished meshes stay as they were where the room grows
mesh_at-append : (room piece : List ℕ) (done : List Placed) → LieWithin done (length room) →
    map (mesh_at (room ++ piece)) done ≡ map (mesh_at room) done
mesh_at-append room piece [] within = refl
mesh_at-append room piece (placed ∷ done) within =
    let lies = All-head (λ (p : Placed). (p.heading.start ≤ p.end) × (p.end ≤ length room)) placed done within in
    let same = slice_range-append room piece placed.heading.start placed.end lies.0 lies.1 in
    let others = mesh_at-append room piece done
    (All-tail (λ (p : Placed). (p.heading.start ≤ p.end) × (p.end ≤ length room)) placed done within) in
    rw (same, others)

pub mesh_at-grown : (room piece now : List ℕ) (done : List Placed) (size : ℕ) → now ≡ room ++ piece →
    size ≡ length room → LieWithin done size
    → map (mesh_at now) done ≡ map (mesh_at room) done
mesh_at-grown room piece now done size grown all within =
    rw grown (mesh_at-append room piece done (subst (λ (n : ℕ). LieWithin done n) all within))

-- the mesh under way gets the bytes by which the room grows
mesh_from-append : (room piece : List ℕ) (current : Option Heading) → StartsWithin current (length room)
    → option_map (mesh_from (room ++ piece)) current
    ≡ option_map (λ mesh. longer mesh piece) (option_map (mesh_from room) current)
mesh_from-append room piece None within = refl
mesh_from-append room piece (Some heading) within = rw (drop-append-le heading.start room piece (within heading refl))

pub mesh_from-grown : (room piece now : List ℕ) (current : Option Heading) (size : ℕ) → now ≡ room ++ piece →
    size ≡ length room → StartsWithin current size
    → option_map (mesh_from now) current ≡ option_map (λ mesh. longer mesh piece) (option_map (mesh_from room) current)
mesh_from-grown room piece now current size grown all within =
    rw grown (mesh_from-append room piece current (subst (λ (n : ℕ). StartsWithin current n) all within))

nat_lt-suc : (i n : ℕ) → nat_lt i n ≡ nat_lt (suc i) (suc n)
nat_lt-suc i n = elim (cases_lt i n) [ inl below ↦ grind (arith, nat_tests) | inr above ↦ grind (arith, nat_tests) ]

-- a mesh is finished exactly where its place is one of the finished meshes
finished_at : (room : List ℕ) (done : List Placed) (current : Option Heading) (i : ℕ)
    → i < length (map (mesh_at room) done ++ option_to_list (option_map (mesh_from room) current))
    → option_map (λ mesh. mesh.finished)
    (slice_get (map (mesh_at room) done ++ option_to_list (option_map (mesh_from room) current)) i)
    ≡ Some (nat_lt i (length done))
finished_at room [] None i within = absurd (omega arith)
finished_at room [] (Some heading) zero within = refl
finished_at room [] (Some heading) (suc i) within = absurd (omega arith)
finished_at room (placed ∷ done) current zero within = grind (arith, nat_tests)
finished_at room (placed ∷ done) current (suc i) within =
    finished_at room done current i (omega arith) ∙ ap Some (nat_lt-suc i (length done))

pub finished-place : (room : List ℕ) (done : List Placed) (current : Option Heading)
    (meshes : List WrittenMesh) (i count : ℕ)
    → map (mesh_at room) done ++ option_to_list (option_map (mesh_from room) current) ≡ meshes →
    count ≡ length done → i < length meshes
    → option_map (λ mesh. mesh.finished) (slice_get meshes i) ≡ Some (nat_lt i count)
finished-place room done current meshes i count are all within =
    rw (← are, all) (finished_at room done current i (rw are within))

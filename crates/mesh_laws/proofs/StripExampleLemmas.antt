-- The strip of a mesh of nine triangles, worked by hand.
use Rattle.std.proofs.Common.{◌≡◌, ℕ, List, [], ◌∷◌, refl}
use Rattle.mesh_defs.specs.Triangle.{level_of}
use Rattle.mesh_defs.specs.ClosedSet.{among, leaves_of}
use Rattle.mesh_laws.specs.Strip.{strip_of}

-- the members of the mesh
abbrev members : List ℕ
members = 2 ∷ (3 ∷ (4 ∷ (5 ∷ (8 ∷ (11 ∷ (17 ∷ []))))))

leaves : leaves_of 2 (among members) ≡ 16 ∷ (34 ∷ (35 ∷ (9 ∷ (10 ∷ (22 ∷ (23 ∷ (6 ∷ (7 ∷ []))))))))
unfolding leaves_of
leaves = refl

strip : strip_of 2 (among members) ≡ 9 ∷ (16 ∷ (35 ∷ (34 ∷ (22 ∷ (23 ∷ (10 ∷ (6 ∷ (7 ∷ []))))))))
unfolding strip_of level_of
strip = refl

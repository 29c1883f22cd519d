-- Numbers that stand in the first places of a caller's array. This project's own.
-- Words: AreIndicesOf, AreNumbersTold.
use Rattle.std.specs.Prelude.{◌≡◌, ℕ, ◌*◌, ◌<◌, ◌≤◌, ◌↔◌, List, ◌++◌, length, drop}
use Rattle.mesh_arrays.specs.Indices.{indices_of}
use Rattle.roam_embed.specs.declared.answer.Answer.{Answer}
use Rattle.roam_embed.specs.declared.answer.Answer.TheVariants.{Done, NoRoom}

-- the indices of triangles stand in the first places of an array, and how many triangles there are is told
pub record AreIndicesOf (n : ℕ) (triangles array_before array : List ℕ) (count_before count : ℕ)
    (answer : Answer) : Type 0 where
  pub done : (answer ≡ Done) ↔ (3 * length triangles ≤ length array_before)
  pub no_room : (answer ≡ NoRoom) ↔ (length array_before < 3 * length triangles)
  pub written : answer ≡ Done → array ≡ indices_of n triangles ++ drop (3 * length triangles) array_before
  pub counted : answer ≡ Done → count ≡ length triangles
  pub unwritten : (answer ≡ Done → ⊥) → array ≡ array_before
  pub uncounted : (answer ≡ Done → ⊥) → count ≡ count_before

-- numbers stand in the first places of an array, and how many they are is told
pub record AreNumbersTold (numbers array_before array : List ℕ) (count_before count : ℕ) (answer : Answer) : Type 0 where
  pub done : (answer ≡ Done) ↔ (length numbers ≤ length array_before)
  pub no_room : (answer ≡ NoRoom) ↔ (length array_before < length numbers)
  pub written : answer ≡ Done → array ≡ numbers ++ drop (length numbers) array_before
  pub counted : answer ≡ Done → count ≡ length numbers
  pub unwritten : (answer ≡ Done → ⊥) → array ≡ array_before
  pub uncounted : (answer ≡ Done → ⊥) → count ≡ count_before

-- What each call does to a fitter and to the caller's arrays, and when each answer comes. Where several causes hold, the
-- answer is the one with the least number, and out of memory comes last; after an answer other than Done all is as
-- before. All of it is this project's own.
-- Words: IsFitterOpened, IsAskedAnswer, IsMeshFitted, IsMeshRefined, IsMeshRestored, IsFitterDeviationTold.
use Rattle.std.specs.Prelude.{◌≡◌, ℕ, ◌^◌, ◌↔◌, Bool, ◌||◌, List, [], ◌∷◌, length}
use Rattle.fit_laws.specs.PlaneHeight.{deviation_of}
use Rattle.mesh_laws.specs.Ancestors.{ancestors_of}
use Rattle.fit_laws.specs.Required.{IsLeastMeshWith}
use Rattle.fit_mesh.specs.Required.{is_centred_at}
use Rattle.fit_mesh.specs.Splits.{IsMeshListed, IsGrownFrom}
use Rattle.roam_embed.specs.declared.answer.Answer.{Answer}
use Rattle.roam_embed.specs.declared.answer.Answer.TheVariants.{Done, OutsideGrid}
use Rattle.roam_embed.specs.declared.answer.Answer.TheVariants.{BadTolerance, BadMesh}
use Rattle.roam_embed.specs.declared.notes.Deviation.{Deviation}
use Rattle.roam_embed.specs.Grid.{IsPointCount}
use Rattle.roam_embed.specs.Asked.{scaled, AreTolerances, ArePlaces, tolerance_for, error_for}
use Rattle.roam_embed.specs.FitterState.{FitterState}

-- a fitter of these heights, with the two halves of the square
pub record IsFitterOpened (heights : List ℕ) (f : FitterState) : Type 0 where
  pub level : IsPointCount (length heights) f.grid.n
  pub grid : f.grid ≡ record { n = f.grid.n; maxval = 65535; heights = heights }
  pub leaves : f.leaves ≡ 2 ∷ (3 ∷ [])

-- of tolerances and required points: which of them is refused
pub record IsAskedAnswer (n thousandths : ℕ) (tolerances required : List ℕ) (answer : Answer) : Type 0 where
  pub outside_grid : (answer ≡ OutsideGrid) ↔ (ArePlaces n required → ⊥)
  pub bad_tolerance : (answer ≡ BadTolerance) ↔ (ArePlaces n required × (AreTolerances n thousandths tolerances → ⊥))
  pub done : (answer ≡ Done) ↔ (ArePlaces n required × AreTolerances n thousandths tolerances)

-- The mesh is the one of the fewest triangles within the tolerances in which each triangle with a required point as its
-- centre is split, so that each required point is a vertex; it stands depth first, and how many triangles it has is
-- told.
pub record IsMeshFitted (before after : FitterState) (thousandths : ℕ) (tolerances required : List ℕ)
    (told_before told : ℕ) (answer : Answer) : Type 0 where
  pub cause : IsAskedAnswer before.grid.n thousandths tolerances required answer
  pub grid : after.grid ≡ before.grid
  pub least : answer ≡ Done → IsLeastMeshWith before.grid.n
      (tolerance_for before.grid.n thousandths (scaled before.grid.n tolerances))
      (error_for before.grid.n before.grid.heights (scaled before.grid.n tolerances))
      (is_centred_at before.grid.n required) after.leaves
  pub listed : answer ≡ Done → IsMeshListed before.grid.n after.leaves
  pub counted : answer ≡ Done → told ≡ length after.leaves
  pub kept : (answer ≡ Done → ⊥) → after ≡ before
  pub untold : (answer ≡ Done → ⊥) → told ≡ told_before

-- The same, going on from the mesh: it keeps what it splits, splits what is required, and of what comes with that
-- whatever is off by more, and no more than that. Where it was the least mesh of these tolerances with something
-- required it is that of this and what is required now.
pub record IsMeshRefined (before after : FitterState) (thousandths : ℕ) (tolerances required : List ℕ)
    (told_before told : ℕ) (answer : Answer) : Type 0 where
  pub cause : IsAskedAnswer before.grid.n thousandths tolerances required answer
  pub grid : after.grid ≡ before.grid
  pub least : answer ≡ Done → (earlier : ℕ → Bool) → IsLeastMeshWith before.grid.n
      (tolerance_for before.grid.n thousandths (scaled before.grid.n tolerances))
      (error_for before.grid.n before.grid.heights (scaled before.grid.n tolerances)) earlier before.leaves →
      IsLeastMeshWith before.grid.n
      (tolerance_for before.grid.n thousandths (scaled before.grid.n tolerances))
      (error_for before.grid.n before.grid.heights (scaled before.grid.n tolerances))
      (λ a. earlier a || is_centred_at before.grid.n required a) after.leaves
  pub grown : answer ≡ Done → IsGrownFrom before.grid.n
      (tolerance_for before.grid.n thousandths (scaled before.grid.n tolerances))
      (error_for before.grid.n before.grid.heights (scaled before.grid.n tolerances))
      (ancestors_of before.leaves) (is_centred_at before.grid.n required) (ancestors_of after.leaves)
  pub listed : answer ≡ Done → IsMeshListed before.grid.n after.leaves
  pub counted : answer ≡ Done → told ≡ length after.leaves
  pub kept : (answer ≡ Done → ⊥) → after ≡ before
  pub untold : (answer ≡ Done → ⊥) → told ≡ told_before

-- the mesh of these addresses is the mesh
pub record IsMeshRestored (before after : FitterState) (addresses : List ℕ) (answer : Answer) : Type 0 where
  pub done : (answer ≡ Done) ↔ IsMeshListed before.grid.n addresses
  pub bad_mesh : (answer ≡ BadMesh) ↔ (IsMeshListed before.grid.n addresses → ⊥)
  pub restored : answer ≡ Done → after ≡ record before { leaves = addresses }
  pub kept : (answer ≡ Done → ⊥) → after ≡ before

-- the greatest distance between surface and mesh at a grid point is told
pub record IsFitterDeviationTold (f : FitterState) (told : Deviation) (answer : Answer) : Type 0 where
  pub done : answer ≡ Done
  pub off : told.off ≡ deviation_of f.grid.n f.grid.heights f.leaves
  pub over : told.over ≡ 2 ^ f.grid.n

-- What is told of the mesh that was fitted to the heights.
use Rattle.std.proofs.Common.{◌≡◌, ◌⊎◌, inl, inr, ℕ, ◌*◌, ◌^◌, List, ◌++◌, length, drop, sym, ◌∙◌, ap, subst, ⊎_elim}
use Rattle.mesh_defs.specs.HeightField.{HeightField}
use Rattle.mesh_defs.specs.MeshText.{vertices_of}
use Rattle.fit_laws.specs.PlaneHeight.{deviation_of}
use Rattle.fit_laws.specs.Required.{IsLeastMeshWith}
use Rattle.fit_mesh.specs.Required.{is_centred_at}
use Rattle.fit_mesh.specs.Splits.{IsMeshListed}
use Rattle.mesh_arrays.specs.Indices.{indices_of}
use Rattle.roam_embed.specs.declared.answer.Answer.{Answer}
use Rattle.roam_embed.specs.declared.answer.Answer.TheVariants.{Done, NoMemory, BadGrid, OutsideGrid, NoRoom, BadTolerance}
use Rattle.roam_embed.specs.Asked.{scaled, tolerance_for, error_for, ArePlaces, AreTolerances}
use Rattle.roam_embed.specs.FitWith.{IsFitWith}
use Rattle.roam_embed.proofs.fitted.tell_fit_with.Goals as goal

-- three answers are none of the others
not-grid : (answer : Answer) → (answer ≡ Done) ⊎ ((answer ≡ NoRoom) ⊎ (answer ≡ NoMemory)) → answer ≡ BadGrid → ⊥
not-grid answer (inl d) e = cc
not-grid answer (inr (inl d)) e = cc
not-grid answer (inr (inr d)) e = cc

not-outside : (answer : Answer) → (answer ≡ Done) ⊎ ((answer ≡ NoRoom) ⊎ (answer ≡ NoMemory)) →
    answer ≡ OutsideGrid → ⊥
not-outside answer (inl d) e = cc
not-outside answer (inr (inl d)) e = cc
not-outside answer (inr (inr d)) e = cc

not-tolerance : (answer : Answer) → (answer ≡ Done) ⊎ ((answer ≡ NoRoom) ⊎ (answer ≡ NoMemory)) →
    answer ≡ BadTolerance → ⊥
not-tolerance answer (inl d) e = cc
not-tolerance answer (inr (inl d)) e = cc
not-tolerance answer (inr (inr d)) e = cc

pub returns-in-Ok : goal.returns-in-Ok
returns-in-Ok c =
    let n : ℕ = c.in-Some.n in
    let level = c.in-Some.ensures.level in
    let answer : Answer = c.tell_fitted.result in
    let leaves : List ℕ = c.fit.new.self.leaves in
    let others = c.tell_fitted.ensures.others in
    let grid : c.in-Ok.fitter.grid ≡ record { n = n; maxval = 65535; heights = c.args.heights.now } = c.in-Ok.ensures.grid in
    let after : c.fit.new.self.grid ≡ record { n = n; maxval = 65535; heights = c.args.heights.now } =
    c.fit.ensures.grid ∙ grid in
    let places : ArePlaces n c.args.required.now = c.are_places.ensures.0 c.if-not-are_places.false in
    let tolerances : AreTolerances n c.args.thousandths c.args.tolerances.now =
    c.are_tolerances.ensures.0 c.if-not-are_tolerances.false in
    let found : IsFitWith n c.args.heights.now c.args.thousandths c.args.tolerances.now c.args.required.now leaves = record {
      least = subst (λ (g : HeightField). IsLeastMeshWith g.n
          (tolerance_for g.n c.args.thousandths (scaled g.n c.args.tolerances.now))
          (error_for g.n g.heights (scaled g.n c.args.tolerances.now)) (is_centred_at g.n c.args.required.now) leaves)
          grid c.fit.ensures.least;
      listed = subst (λ (g : HeightField). IsMeshListed g.n leaves) grid c.fit.ensures.listed;
    } in
    record {
      bad_grid = (λ e. absurd (not-grid answer others e), λ none. absurd (none (n, level)));
      of_grid = λ some. (
        n,
        level,
        record {
          outside_grid = (λ e. absurd (not-outside answer others e), λ none. absurd (none places));
          bad_tolerance = (λ e. absurd (not-tolerance answer others e), λ none. absurd (none.1 tolerances));
          others = (λ e. (places, tolerances), λ both. others);
          no_room = λ e. (leaves, found, c.tell_fitted.ensures.no_room e);
          fitted = λ e. (
            leaves,
            found,
            c.tell_fitted.ensures.written e ∙ ap (λ (g : HeightField). indices_of g.n leaves
                ++ drop (3 * length leaves) c.args.out.now) after,
            c.tell_fitted.ensures.off e ∙ ap (λ (g : HeightField). deviation_of g.n g.heights leaves) after,
            c.tell_fitted.ensures.over e ∙ ap (λ (g : HeightField). 2 ^ g.n) after,
            c.tell_fitted.ensures.triangles e,
            c.tell_fitted.ensures.vertices e ∙ ap (λ (g : HeightField). length (vertices_of g.n leaves)) after,
          );
        },
      );
      unwritten = c.tell_fitted.ensures.unwritten;
      untold = c.tell_fitted.ensures.untold;
    }

-- The limit is that of what was asked.
use Rattle.std.proofs.Common.{◌≡◌, ℕ, Bool, ◌||◌, List, sym, ◌∙◌, ap, subst}
use Rattle.mesh_defs.specs.HeightField.{HeightField}
use Rattle.mesh_laws.specs.Ancestors.{ancestors_of}
use Rattle.fit_laws.specs.Required.{IsLeastMeshWith}
use Rattle.fit_mesh.specs.Limit.{tolerance_of, error_within}
use Rattle.fit_mesh.specs.Required.{is_centred_at}
use Rattle.fit_mesh.specs.Splits.{IsGrownFrom}
use Rattle.roam_embed.specs.Asked.{scaled, tolerance_for, error_for}
use Rattle.roam_embed.specs.FitterState.{FitterState}
use Rattle.roam_embed.proofs.fitter.Fitter.more.Goals as goal

-- of one pair of a tolerance and an error, by other names
by-names : (n : ℕ) (t u : ℕ) (e f : ℕ → ℕ) (earlier all : ℕ → Bool) (before after : List ℕ) → t ≡ u → e ≡ f →
    (IsLeastMeshWith n t e earlier before → IsLeastMeshWith n t e all after) →
    IsLeastMeshWith n u f earlier before → IsLeastMeshWith n u f all after
by-names n t u e f earlier all before after same other step =
    subst (λ (h : ℕ → ℕ). IsLeastMeshWith n u h earlier before → IsLeastMeshWith n u h all after) other
    (subst (λ k. IsLeastMeshWith n k e earlier before → IsLeastMeshWith n k e all after) same step)

grown-by-names : (n : ℕ) (t u : ℕ) (e f : ℕ → ℕ) (before required has : ℕ → Bool) → t ≡ u → e ≡ f →
    IsGrownFrom n t e before required has → IsGrownFrom n u f before required has
grown-by-names n t u e f before required has same other grown =
    subst (λ (h : ℕ → ℕ). IsGrownFrom n u h before required has) other
    (subst (λ k. IsGrownFrom n k e before required has) same grown)

pub returns-clause-least : goal.returns-clause-least
returns-clause-least c earlier =
    let grid : HeightField = c.self.inside.grid in
    let own : List ℕ = scaled grid.n c.args.tolerances.now in
    let limit = c.limit_of-limit in
    let n : c.n-n.result ≡ grid.n = c.n-n.ensures.value in
    let lists : c.deref.result.now ≡ own =
    c.deref.ensures.value ∙ c.put_scaled.ensures.scaled ∙ ap (λ k. scaled k c.args.tolerances.now) n in
    let same : tolerance_of limit.result ≡ tolerance_for grid.n c.args.thousandths own =
    limit.ensures.tolerance ∙ ap (λ k. tolerance_for k c.args.thousandths c.deref.result.now) n
    ∙ ap (λ (l : List ℕ). tolerance_for grid.n c.args.thousandths l) lists in
    let other : error_within grid.n grid.heights limit.result ≡ error_for grid.n grid.heights own =
    subst (λ k. error_within k grid.heights limit.result ≡ error_for k grid.heights c.deref.result.now) n
    (limit.ensures.error grid.heights)
    ∙ ap (λ (l : List ℕ). error_for grid.n grid.heights l) lists in
    let step = by-names grid.n (tolerance_of limit.result) (tolerance_for grid.n c.args.thousandths own)
    (error_within grid.n grid.heights limit.result) (error_for grid.n grid.heights own) earlier
    (λ a. earlier a || is_centred_at grid.n c.args.required.now a) c.self.inside.set.leaves c.more.new.self.leaves
    same other (c.more.ensures.least earlier) in
    subst (λ (s : FitterState). IsLeastMeshWith s.grid.n
    (tolerance_for s.grid.n c.args.thousandths (scaled s.grid.n c.args.tolerances.now))
    (error_for s.grid.n s.grid.heights (scaled s.grid.n c.args.tolerances.now)) earlier s.leaves →
    IsLeastMeshWith s.grid.n
    (tolerance_for s.grid.n c.args.thousandths (scaled s.grid.n c.args.tolerances.now))
    (error_for s.grid.n s.grid.heights (scaled s.grid.n c.args.tolerances.now))
    (λ a. earlier a || is_centred_at s.grid.n c.args.required.now a) c.more.new.self.leaves) c.self.view_is step

pub returns-clause-grown : goal.returns-clause-grown
returns-clause-grown c =
    let grid : HeightField = c.self.inside.grid in
    let own : List ℕ = scaled grid.n c.args.tolerances.now in
    let limit = c.limit_of-limit in
    let n : c.n-n.result ≡ grid.n = c.n-n.ensures.value in
    let lists : c.deref.result.now ≡ own =
    c.deref.ensures.value ∙ c.put_scaled.ensures.scaled ∙ ap (λ k. scaled k c.args.tolerances.now) n in
    let same : tolerance_of limit.result ≡ tolerance_for grid.n c.args.thousandths own =
    limit.ensures.tolerance ∙ ap (λ k. tolerance_for k c.args.thousandths c.deref.result.now) n
    ∙ ap (λ (l : List ℕ). tolerance_for grid.n c.args.thousandths l) lists in
    let other : error_within grid.n grid.heights limit.result ≡ error_for grid.n grid.heights own =
    subst (λ k. error_within k grid.heights limit.result ≡ error_for k grid.heights c.deref.result.now) n
    (limit.ensures.error grid.heights)
    ∙ ap (λ (l : List ℕ). error_for grid.n grid.heights l) lists in
    let step = grown-by-names grid.n (tolerance_of limit.result) (tolerance_for grid.n c.args.thousandths own)
    (error_within grid.n grid.heights limit.result) (error_for grid.n grid.heights own)
    (ancestors_of c.self.inside.set.leaves) (is_centred_at grid.n c.args.required.now)
    (ancestors_of c.more.new.self.leaves) same other c.more.ensures.grown in
    subst (λ (s : FitterState). IsGrownFrom s.grid.n
    (tolerance_for s.grid.n c.args.thousandths (scaled s.grid.n c.args.tolerances.now))
    (error_for s.grid.n s.grid.heights (scaled s.grid.n c.args.tolerances.now)) (ancestors_of s.leaves)
    (is_centred_at s.grid.n c.args.required.now) (ancestors_of c.more.new.self.leaves)) c.self.view_is step

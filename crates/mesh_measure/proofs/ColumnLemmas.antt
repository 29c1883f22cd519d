-- The greatest value along columns.
use Rattle.std.proofs.Common.{◌≡◌, ℕ, ◌+◌, ◌<◌, ◌≤◌, inl, inr, max, sym, ◌∙◌, ap}
use Rattle.std.proofs.Common.{arith, ⊎_elim}
use Rattle.std.proofs.lemmas.Bool.{cases_lt}
use Rattle.mesh_measure.specs.Columns.{IsGreatestAlong}

-- one more
pub greatest-next : (count : ℕ) (f : ℕ → ℕ) (most value : ℕ) → value ≡ f count → IsGreatestAlong count f most →
    IsGreatestAlong (count + 1) f (max most value)
greatest-next count f most value is g = record {
  bound = λ k below. ⊎_elim
      (λ less. let le = g.bound k less in omega arith)
      (λ least.
      let same : count ≡ k = omega arith in
      let e : value ≡ f k = is ∙ ap f same in omega arith)
      (cases_lt k count);
  reached = ⊎_elim
      (λ (less : most < value). inr (count, omega arith, omega arith))
      (λ (least : value ≤ most).
      let stays : max most value ≡ most = omega arith in
      ⊎_elim
      (λ none. inl (stays ∙ none))
      (λ (s : (k : ℕ) × (k < count) × (f k ≡ most)). inr (s.0, (let b = s.1 in omega arith), s.2 ∙ sym stays))
      g.reached)
      (cases_lt most value);
}

-- A mesh that is kept with its numbers, after another mesh was put in its place.
use Rattle.std.proofs.Common.{◌≡◌, ℕ, ◌+◌, ◌*◌, ◌^◌, ◌<◌, ◌≤◌, List, length, sym, ◌∙◌, ap, subst, arith}
use Rattle.mesh_defs.specs.HeightField.{side_of}
use Rattle.mesh_defs.specs.Tiling.{IsConforming}
use Rattle.obj_write.specs.Numbers.{numbers_of}
use Rattle.fit_mesh.specs.Kept.{IsKeptForFit}

-- a conforming mesh of the grid with the numbers of its vertices, and a heap no smaller
pub kept-next : (n j k budget : ℕ) (leaves list numbers vertices : List ℕ) (capacity later : ℕ) →
    IsKeptForFit n budget leaves numbers capacity → j ≡ n → n ≡ k → IsConforming k list →
    length vertices ≡ length numbers → vertices ≡ numbers_of j list → capacity ≤ later →
    IsKeptForFit j budget list vertices later
kept-next n j k budget leaves list numbers vertices capacity later kept own same conforming places numbered roomy =
    let at : j ≡ k = own ∙ same in record {
      n_low = (let low = kept.n_low in omega arith);
      n_high = (let high = kept.n_high in omega arith);
      budget_low = kept.budget_low;
      conforming = subst (λ i. IsConforming i list) (sym at) conforming;
      places = places ∙ kept.places ∙ ap (λ i. side_of i * side_of i) (sym own);
      numbered = numbered;
      waiting = λ small. (let old = kept.waiting (subst (λ i. budget < 2 ^ (2 * i + 1)) own small) in omega arith);
    }

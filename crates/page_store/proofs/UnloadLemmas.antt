-- The squares in a square, and beside it.
use Rattle.std.proofs.Common.{◌≡◌, ℕ, ◌+◌, ◌*◌, ◌/◌, ◌%◌, ◌^◌, ◌<◌, ◌≤◌, ◌-◌, inl, inr, sym, ap, arith, suc, subst, IsTrue}
use Rattle.std.proofs.Common.{Some, None, Option, Bor, is_some, refl, false}
use Rattle.std.specs.Option.{option_copied}
use Rattle.std.proofs.lemmas.Bool.{both_ways}
use Rattle.std.proofs.Math.Pow.{pow_mono}
use Rattle.mesh_defs.specs.declared.point.Point.{Point}
use Rattle.bintree_laws.proofs.LatticeLemmas.{same_point}
use Rattle.mosaic_laws.specs.Tile.{IsTile}
use Rattle.page_laws.specs.Pages.{square_above, AreBeside}
use Rattle.page_wedges.specs.Page.{Page}
use Rattle.page_store.specs.Store.{Store, cuts_of, page_at, IsTable}
use Rattle.page_store.specs.Agreement.{IsBesideAt}
use Rattle.page_store.specs.Unload.{IsFree}
use Rattle.page_store.proofs.TableLemmas.{page_at-some, loaded-page}
use Rattle.page_store.proofs.AboveLemmas.{above-tile}
use Rattle.page_store.proofs.AgreementLemmas.{beside-side}

-- each is beside the other
pub beside-back : (t u : Point) → AreBeside t u → AreBeside u t
beside-back t u (inl (row, inl next)) = inl (sym row, inr next)
beside-back t u (inl (row, inr next)) = inl (sym row, inl next)
beside-back t u (inr (column, inl next)) = inr (sym column, inr next)
beside-back t u (inr (column, inr next)) = inr (sym column, inl next)

-- the four squares in a square
pub in-square : (t u : Point) → square_above u ≡ t →
    u ≡ record { x = 2 * t.x + (2 * (u.y % 2) + u.x % 2) % 2; y = 2 * t.y + (2 * (u.y % 2) + u.x % 2) / 2 }
in-square t u above =
    let column : u.x / 2 ≡ t.x = ap (λ (p : Point). p.x) above in
    let row : u.y / 2 ≡ t.y = ap (λ (p : Point). p.y) above in
    same_point u.x u.y (2 * t.x + (2 * (u.y % 2) + u.x % 2) % 2) (2 * t.y + (2 * (u.y % 2) + u.x % 2) / 2)
    (omega arith) (omega arith)

pub four-above : (t : Point) (k : ℕ) → k < 4 →
    square_above (record { x = 2 * t.x + k % 2; y = 2 * t.y + k / 2 }) ≡ t
four-above t k small = same_point ((2 * t.x + k % 2) / 2) ((2 * t.y + k / 2) / 2) t.x t.y (omega arith) (omega arith)

-- squares of the terrain are not far
pub square-small : (s : Store) (q : ℕ) (t : Point) → IsTable s → IsTile (2 ^ cuts_of s q) (2 ^ cuts_of s q) t →
    (t.x < 2 ^ 30) × (t.y < 2 ^ 30)
square-small s q t i tile =
    let column = tile.column in
    let row = tile.row in
    let small = i.small in
    let few : cuts_of s q ≤ 14 = omega arith in
    let mono : 2 ^ cuts_of s q ≤ 2 ^ 14 = pow_mono few in
    (omega arith, omega arith)

-- the square above a page is one of the terrain
above-loaded : (s : Store) (q : ℕ) (u : Point) → 1 ≤ q → s.n + q ≤ s.large → IsTrue (is_some (page_at s (q - 1) u)) →
    IsTile (2 ^ cuts_of s q) (2 ^ cuts_of s q) (square_above u)
above-loaded s q u finer coarse loaded =
    let page = loaded-page s (q - 1) u loaded in
    let e : cuts_of s (q - 1) ≡ suc (cuts_of s q) = omega arith in
    above-tile (cuts_of s q) u
    (subst (λ k. IsTile (2 ^ k) (2 ^ k) u) e (page_at-some s (q - 1) u page.0 page.1).tile)

-- what is copied is something where it was
pub copied-loaded : (o : Option (Bor Page)) → is_some (option_copied o) ≡ is_some o
copied-loaded None = refl
copied-loaded (Some b) = refl

-- no finer page lies in the square, nor in those beside it
pub free-from : (s : Store) (q : ℕ) (t : Point) → s.n + q ≤ s.large →
    ((u : Point) → square_above u ≡ t → is_some (page_at s (q - 1) u) ≡ false) →
    ((side : ℕ) (other u : Point) → side < 4 → IsBesideAt side t other →
    IsTile (2 ^ cuts_of s q) (2 ^ cuts_of s q) other → square_above u ≡ other →
    is_some (page_at s (q - 1) u) ≡ false) → IsFree s q t
free-from s q t coarse here near finer u loaded = (
  (λ above. both_ways (is_some (page_at s (q - 1) u)) (here u above) loaded),
  (λ beside.
      let b = beside-side t (square_above u) (beside-back (square_above u) t beside) in
      both_ways (is_some (page_at s (q - 1) u))
      (near b.0 (square_above u) u b.1 b.2 (above-loaded s q u finer coarse loaded) refl) loaded),
)

-- The pages in which a square lies, joined from the finest up.
use Rattle.std.proofs.Common.{◌≡◌, ℕ, zero, suc, ◌+◌, ◌-◌, ◌*◌, ◌/◌, ◌^◌, ◌<◌, ◌≤◌, sym, ◌∙◌, ap, ap₂, subst, arith}
use Rattle.std.proofs.Common.{refl}
use Rattle.std.proofs.Common.{⊎_elim, Option, Some, None, option_map}
use Rattle.std.proofs.Math.Nat.{pow-succ', div-div-eq-div-mul}
use Rattle.std.proofs.lemmas.Bool.{cases_lt}
use Rattle.mesh_defs.specs.declared.point.Point.{Point}
use Rattle.bintree_laws.proofs.LatticeLemmas.{same_point}
use Rattle.mosaic_laws.specs.Tile.{IsTile}
use Rattle.page_laws.specs.Pages.{square_above}
use Rattle.page_wedges.specs.Page.{Page}
use Rattle.page_store.specs.Store.{Store, top_of, page_at, AreJoined, joined_page}
use Rattle.page_store.specs.Change.{IsPageJoined, AreSameGrids, AreOthersJoined}
use Rattle.page_store.specs.Edit.{AreJoinedBut}
use Rattle.page_store.proofs.TableLemmas.{page_at-some}
use Rattle.page_store.proofs.ChangeLemmas.{same-or-other, AreSameTerrain, same-terrain, grids-but}
use Rattle.page_store.proofs.JoinLemmas.{terrain-wedge, joined-kept, AreFinerJoined}

-- the square above is one of half as many columns and rows
pub above-tile : (p : ℕ) (t : Point) → IsTile (2 ^ suc p) (2 ^ suc p) t → IsTile (2 ^ p) (2 ^ p) (square_above t)
above-tile p t tile =
    let e : 2 ^ suc p ≡ 2 * 2 ^ p = pow-succ' 2 p in
    let column = tile.column in
    let row = tile.row in
    record { column = omega arith; row = omega arith }

-- a page joined changes no grid
pub page-grids : {s s' : Store} {q : ℕ} {t : Point} → IsPageJoined s s' q t → AreSameGrids s s'
page-grids {s} {s'} {q} {t} j = record {
  large = j.large;
  n = j.n;
  grids = grids-but s s' q t (joined_page s q t) (λ _. refl) j.here j.others;
}

pub grids-then : {a b c : Store} → AreSameGrids a b → AreSameGrids b c → AreSameGrids a c
grids-then one two = record {
  large = two.large ∙ one.large;
  n = two.n ∙ one.n;
  grids = λ q t. two.grids q t ∙ one.grids q t;
}

pub grids-self : (s : Store) → AreSameGrids s s
grids-self s = record { large = refl; n = refl; grids = λ q t. refl }

-- the pages of the square above are not among those left out
pub others-finer : (s : Store) (p : ℕ) (t : Point) → AreOthersJoined s (top_of s - suc p) t →
    AreFinerJoined s p (square_above t)
others-finer s p t others u finer above at =
    let e : p + 1 ≡ suc p = omega arith in
    subst (λ j. AreJoined s (top_of s - j) u finer) (sym e)
    (others (top_of s - suc p) u finer (λ less is. omega arith) (ap (λ j. page_at s (top_of s - j) u) (sym e) ∙ at))

-- the squares above the square above
half-then : (a k : ℕ) → a / 2 ^ suc k ≡ a / 2 / 2 ^ k
half-then a k = ap (λ j. a / j) (pow-succ' 2 k) ∙ sym (div-div-eq-div-mul a 2 (2 ^ k))

-- the page as joined has the wedges of its quarters
is-joined : {s s' : Store} (q : ℕ) (t : Point) (page : Page) → AreSameTerrain s s' → s'.large ≡ s.large → s'.n ≡ s.n →
    AreJoined s' q t (joined_page s q t page)
is-joined q t page same large n zero small = sym (terrain-wedge q t 0 same large n)
is-joined q t page same large n (suc zero) small = sym (terrain-wedge q t 1 same large n)
is-joined q t page same large n (suc (suc zero)) small = sym (terrain-wedge q t 2 same large n)
is-joined q t page same large n (suc (suc (suc zero))) small = sym (terrain-wedge q t 3 same large n)
is-joined q t page same large n (suc (suc (suc (suc k)))) small = absurd (omega (arith, small))

-- a page is joined, and is not due any more
pub join-step : {s s' : Store} {q : ℕ} {t : Point} (due other : ℕ → Point → Type 0) → IsPageJoined s s' q t →
    AreJoinedBut s due → ((r : ℕ) (u : Point) → (other r u → ⊥) → due r u → (r ≡ q) × (u ≡ t)) → AreJoinedBut s' other
join-step {s} {s'} {q} {t} due other j joined less r u page not at = ⊎_elim
    (λ (same : (r ≡ q) × (u ≡ t)).
    let there : option_map (joined_page s q t) (page_at s q t) ≡ Some page =
    sym j.here ∙ sym (ap₂ (λ i v. page_at s' i v) same.0 same.1) ∙ at in
    subst (λ i. AreJoined s' i u page) (sym same.0)
    (subst (λ v. AreJoined s' q v page) (sym same.1) (was (page_at s q t) there)))
    (λ (apart : r ≡ q → u ≡ t → ⊥).
    joined-kept r u page terrain j.large j.n
    (joined r u page (λ is. let e = less r u not is in apart e.0 e.1) (sym (j.others r u apart) ∙ at)))
    (same-or-other q r t u)
  where
    terrain : AreSameTerrain s s'
    terrain = same-terrain s s' j.large j.n (page-grids j).grids

    was : (o : Option Page) → option_map (joined_page s q t) o ≡ Some page → AreJoined s' q t page
    was None e = absurd cc
    was (Some old) e =
        let f : joined_page s q t old ≡ page = cc in
        subst (AreJoined s' q t) f (is-joined q t old terrain j.large j.n)

-- the square u of resolution r, which is coarser than q, has the square t of resolution q in it
abbrev IsOver : ℕ → Point → ℕ → Point → Type 0
IsOver q t r u = (q < r) × (u ≡ record { x = t.x / 2 ^ (r - q); y = t.y / 2 ^ (r - q) })

-- a step up
pub above-step : (s s' : Store) (p : ℕ) (t : Point) → p < top_of s → AreOthersJoined s (top_of s - suc p) t →
    IsPageJoined s s' (top_of s - p) (square_above t) → AreOthersJoined s' (top_of s - p) (square_above t)
above-step s s' p t coarse others j r u page not at =
    join-step (IsOver (top_of s - suc p) t) (IsOver (top_of s - p) (square_above t)) j
    (λ r u page not at. others r u page (λ less is. not (less, is)) at) next r u page (λ d. not d.0 d.1) at
  where
    next : (r : ℕ) (u : Point) → (IsOver (top_of s - p) (square_above t) r u → ⊥) → IsOver (top_of s - suc p) t r u →
        (r ≡ top_of s - p) × (u ≡ square_above t)
    next r u not over = ⊎_elim
        (λ (less : r < top_of s - p + 1).
        let below = over.0 in
        let one : r - (top_of s - suc p) ≡ 1 = omega arith in (
          omega arith,
          over.1 ∙ ap (λ k. record { x = t.x / 2 ^ k; y = t.y / 2 ^ k }) one
              ∙ same_point (t.x / 2 ^ 1) (t.y / 2 ^ 1) (t.x / 2) (t.y / 2) (omega arith) (omega arith),
        ))
        (λ (more : top_of s - p + 1 ≤ r).
        let e : r - (top_of s - suc p) ≡ suc (r - (top_of s - p)) = omega arith in
        absurd (not (
          omega arith,
          over.1 ∙ ap (λ k. record { x = t.x / 2 ^ k; y = t.y / 2 ^ k }) e
              ∙ same_point (t.x / 2 ^ suc (r - (top_of s - p))) (t.y / 2 ^ suc (r - (top_of s - p)))
              (t.x / 2 / 2 ^ (r - (top_of s - p))) (t.y / 2 / 2 ^ (r - (top_of s - p)))
              (half-then t.x (r - (top_of s - p))) (half-then t.y (r - (top_of s - p))),
        )))
        (cases_lt r (top_of s - p + 1))

-- at the coarsest page all are
pub above-all : (s : Store) (t : Point) → AreOthersJoined s (top_of s - 0) t → (q : ℕ) (u : Point) (page : Page) →
    page_at s q u ≡ Some page → AreJoined s q u page
above-all s t others q u page at =
    let square = page_at-some s q u page at in
    let coarse = square.coarse in
    others q u page (λ less is. omega arith) at

-- A table with another page at one place.
use Rattle.std.proofs.Common.{◌≡◌, ◌≢◌, ℕ, zero, suc, ◌-◌, ◌*◌, ◌^◌, ◌<◌, ◌⊎◌, inl, inr, sym, ◌∙◌, ap, ap₂}
use Rattle.std.proofs.Common.{subst, arith, ⊎_elim, refl, true, false, nat_eq, Option, Some, None, is_some}
use Rattle.std.proofs.Common.{option_map, unwrap_or, cond, List, length, slice_set}
use Rattle.std.proofs.lemmas.Bool.{cases_Bool, eqb-true, eqb-false, both_ways}
use Rattle.std.proofs.lemmas.List.{get_or-set_other, get_or-set_same}
use Rattle.mesh_defs.specs.declared.point.Point.{Point}
use Rattle.mesh_defs.specs.HeightField.{HeightField}
use Rattle.mesh_defs.specs.Thickness.{height_of}
use Rattle.mosaic_laws.proofs.ClosedLemmas.{cases_point}
use Rattle.page_laws.specs.Pages.{is_known}
use Rattle.page_wedges.specs.Page.{Page}
use Rattle.page_store.specs.Store.{Store, cuts_of, place, page_at, grid_at, pages_of, height_from, numbered, has_point}
use Rattle.page_store.specs.Store.{local_point, is_square}
use Rattle.page_store.specs.Store.{first_height, first_in, first_down, height_in, known_in}
use Rattle.page_store.proofs.PlaceLemmas.{place-apart}
use Rattle.page_store.proofs.TableLemmas.{IsSquare, page_at-square, page_at-none, square-parts, square-from}

-- one square or another
pub same-or-other : (q r : ℕ) (t u : Point) → ((r ≡ q) × (u ≡ t)) ⊎ (r ≡ q → u ≡ t → ⊥)
same-or-other q r t u = ⊎_elim
    (λ (yes : nat_eq r q ≡ true). ⊎_elim
    (λ (same : u ≡ t). inl (eqb-true r q yes, same))
    (λ (other : u ≢ t). inr (λ e f. other f))
    (cases_point u t))
    (λ (no : nat_eq r q ≡ false). inr (λ e f. eqb-false r q no e))
    (cases_Bool (nat_eq r q))

-- where one page is another, with the same grid, all grids are the same
pub grids-but : (s s' : Store) (q : ℕ) (t : Point) (other : Page → Page) → ((page : Page) → (other page).field ≡ page.field) →
    page_at s' q t ≡ option_map other (page_at s q t) →
    ((r : ℕ) (u : Point) → (r ≡ q → u ≡ t → ⊥) → page_at s' r u ≡ page_at s r u) →
    (r : ℕ) (u : Point) → grid_at s' r u ≡ grid_at s r u
grids-but s s' q t other kept here others r u = ⊎_elim
    (λ (same : (r ≡ q) × (u ≡ t)).
    ap₂ (λ j v. grid_at s' j v) same.0 same.1
    ∙ ap (option_map (λ (g : Page). g.field)) here
    ∙ fields (page_at s q t)
    ∙ sym (ap₂ (λ j v. grid_at s j v) same.0 same.1))
    (λ (apart : r ≡ q → u ≡ t → ⊥). ap (option_map (λ (g : Page). g.field)) (others r u apart))
    (same-or-other q r t u)
  where
    fields : (o : Option Page) → option_map (λ (g : Page). g.field) (option_map other o)
        ≡ option_map (λ (g : Page). g.field) o
    fields None = refl
    fields (Some page) = ap Some (kept page)

-- grids alone count

from-grid : (n q : ℕ) (t p : Point) (o z : Option Page) → option_map (λ page. page.field) o ≡ option_map (λ page.
    page.field) z →
    height_from n q t p o ≡ height_from n q t p z
from-grid n q t p None None e = refl
from-grid n q t p None (Some page) e = absurd cc
from-grid n q t p (Some page) None e = absurd cc
from-grid n q t p (Some page) (Some other) e =
    let f : page.field ≡ other.field = cc in
    ap (λ (g : HeightField). cond (has_point n q t p) (Some (height_of n g.heights (local_point n q t p))) None) f

loaded-grid : (o z : Option Page) → option_map (λ page. page.field) o ≡ option_map (λ page. page.field) z →
    is_some o ≡ is_some z
loaded-grid None None e = refl
loaded-grid None (Some page) e = absurd cc
loaded-grid (Some page) None e = absurd cc
loaded-grid (Some page) (Some other) e = refl

-- two tables of one terrain, with the same grids
module _ (large n : ℕ) (xs ys : List (Option Page)) where
  abbrev before : Store
  before = record { large = large; n = n; pages = xs }

  abbrev after : Store
  after = record { large = large; n = n; pages = ys }

  module _ (same : (q : ℕ) (t : Point) → grid_at after q t ≡ grid_at before q t) where
    first-grid : (q i : ℕ) (p : Point) → first_in after q p i ≡ first_in before q p i
    first-grid q zero p = refl
    first-grid q (suc i) p = ap₂ first_height (first-grid q i p)
        (from-grid n q (numbered (cuts_of before q) i) p (page_at after q (numbered (cuts_of before q) i))
        (page_at before q (numbered (cuts_of before q) i)) (same q (numbered (cuts_of before q) i)))

    down-grid : (more : ℕ) (p : Point) → first_down after p more ≡ first_down before p more
    down-grid zero p = refl
    down-grid (suc more) p = ap₂ first_height (down-grid more p) (first-grid (large - n - more) (2 ^ (2 * more)) p)

    height-grid : (p : Point) → height_in after p ≡ height_in before p
    unfolding height_in
    height-grid p = ap (λ o. unwrap_or o 0) (down-grid (suc (large - n)) p)

    loaded-same : (q : ℕ) (t : Point) → is_some (page_at after q t) ≡ is_some (page_at before q t)
    loaded-same q t = loaded-grid (page_at after q t) (page_at before q t) (same q t)

    heights-same : height_in after ≡ height_in before
    heights-same = λ i p. height-grid p i

    pages-same : pages_of after ≡ pages_of before
    pages-same = λ i. record { large = large; n = n; top = large - n; loaded = λ q t. loaded-same q t i }

    known-same : known_in after ≡ known_in before
    known-same = ap is_known pages-same

-- the same of any two tables
pub record AreSameTerrain (s s' : Store) : Type 0 where
  pub heights : height_in s' ≡ height_in s
  pub known : known_in s' ≡ known_in s
  pub pages : pages_of s' ≡ pages_of s

pub same-terrain : (s s' : Store) → s'.large ≡ s.large → s'.n ≡ s.n →
    ((q : ℕ) (t : Point) → grid_at s' q t ≡ grid_at s q t) → AreSameTerrain s s'
same-terrain s s' large n same = moved s'.large s'.n large n s'.pages same
  where
    moved : (l m : ℕ) → l ≡ s.large → m ≡ s.n → (ys : List (Option Page)) →
        ((q : ℕ) (t : Point) → grid_at (record { large = l; n = m; pages = ys }) q t ≡ grid_at s q t) →
        AreSameTerrain s (record { large = l; n = m; pages = ys })
    moved l m a b ys = subst (λ k.
        ((q : ℕ) (t : Point) → grid_at (record { large = k; n = m; pages = ys }) q t ≡ grid_at s q t) →
        AreSameTerrain s (record { large = k; n = m; pages = ys })) (sym a)
        (subst (λ k.
        ((q : ℕ) (t : Point) → grid_at (record { large = s.large; n = k; pages = ys }) q t ≡ grid_at s q t) →
        AreSameTerrain s (record { large = s.large; n = k; pages = ys })) (sym b)
        (λ f. record {
          heights = heights-same s.large s.n s.pages ys f;
          known = known-same s.large s.n s.pages ys f;
          pages = pages-same s.large s.n s.pages ys f;
        }))

-- a place written

module _ (large n : ℕ) (xs : List (Option Page)) (q : ℕ) (t : Point) (o : Option Page)
    (square : IsSquare (record { large = large; n = n; pages = xs }) q t) where
  abbrev old : Store
  old = record { large = large; n = n; pages = xs }

  abbrev new : Store
  new = record { large = large; n = n; pages = slice_set xs (place (cuts_of old q) t) o }

  -- it has the new page
  pub set-here : place (cuts_of old q) t < length xs → page_at new q t ≡ o
  set-here less =
      page_at-square new q t record { coarse = square.coarse; tile = square.tile }
      ∙ get_or-set_same xs (place (cuts_of old q) t) o None less

  -- and the others have theirs
  pub set-others : (r : ℕ) (u : Point) → (r ≡ q → u ≡ t → ⊥) → page_at new r u ≡ page_at old r u
  set-others r u other = ⊎_elim
      (λ (yes : is_square old r u ≡ true).
      let there : IsSquare old r u = square-parts old r u yes in
      let coarse = there.coarse in
      let coarse' = square.coarse in
      page_at-square new r u record { coarse = there.coarse; tile = there.tile }
      ∙ get_or-set_other xs (place (cuts_of old q) t) (place (cuts_of old r) u) o None (λ same.
      let both = place-apart (cuts_of old r) (cuts_of old q) u t there.tile square.tile same in
      let cuts = both.0 in
      other (omega arith) both.1)
      ∙ sym (page_at-square old r u there))
      (λ (no : is_square old r u ≡ false).
      page_at-none new r u (λ there. both_ways (is_square old r u) no
      (square-from old r u record { coarse = there.coarse; tile = there.tile }))
      ∙ sym (page_at-none old r u (λ there. both_ways (is_square old r u) no (square-from old r u there))))
      (cases_Bool (is_square old r u))

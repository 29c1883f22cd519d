-- The page of a square, by the table.
use Rattle.std.proofs.Common.{◌≡◌, ℕ, ◌+◌, ◌^◌, ◌≤◌, sym, ◌∙◌, ap, ⊎_elim}
use Rattle.std.proofs.Common.{true, false, ◌&&◌, IsTrue, nat_le, nat_lt, cond, Option, Some, None, is_some}
use Rattle.std.proofs.Common.{slice_index_or, refl}
use Rattle.std.proofs.lemmas.Bool.{cases_Bool, and_parts, and_from, leb-true, le-leb, ltb-true, lt-ltb}
use Rattle.mesh_defs.specs.declared.point.Point.{Point}
use Rattle.mosaic_laws.specs.Tile.{IsTile}
use Rattle.page_wedges.specs.Page.{Page}
use Rattle.page_store.specs.Store.{Store, cuts_of, place, is_square, page_at}

-- a square of the terrain
pub record IsSquare (s : Store) (q : ℕ) (t : Point) : Type 0 where
  pub coarse : s.n + q ≤ s.large
  pub tile : IsTile (2 ^ cuts_of s q) (2 ^ cuts_of s q) t

module _ (s : Store) (q : ℕ) (t : Point) where
  pub square-parts : IsTrue (is_square s q t) → IsSquare s q t
  square-parts h =
      let a = and_parts (nat_le (s.n + q) s.large)
      (nat_lt t.x (2 ^ cuts_of s q) && nat_lt t.y (2 ^ cuts_of s q)) h in
      let b = and_parts (nat_lt t.x (2 ^ cuts_of s q)) (nat_lt t.y (2 ^ cuts_of s q)) a.1 in
      record {
        coarse = leb-true (s.n + q) s.large a.0;
        tile = record { column = ltb-true t.x (2 ^ cuts_of s q) b.0; row = ltb-true t.y (2 ^ cuts_of s q) b.1 };
      }

  pub square-from : IsSquare s q t → IsTrue (is_square s q t)
  square-from i = and_from (nat_le (s.n + q) s.large)
      (nat_lt t.x (2 ^ cuts_of s q) && nat_lt t.y (2 ^ cuts_of s q)) (le-leb (s.n + q) s.large i.coarse)
      (and_from (nat_lt t.x (2 ^ cuts_of s q)) (nat_lt t.y (2 ^ cuts_of s q))
      (lt-ltb t.x (2 ^ cuts_of s q) i.tile.column) (lt-ltb t.y (2 ^ cuts_of s q) i.tile.row))

  -- of a square of the terrain it is what stands at its place
  pub page_at-square : IsSquare s q t → page_at s q t ≡ slice_index_or s.pages (place (cuts_of s q) t) None
  unfolding page_at
  page_at-square i =
      ap (λ b. cond b (slice_index_or s.pages (place (cuts_of s q) t) None) None) (square-from i)

  -- and there is none elsewhere
  pub page_at-some : (page : Page) → page_at s q t ≡ Some page → IsSquare s q t
  unfolding page_at
  page_at-some page h = ⊎_elim
      (λ (yes : is_square s q t ≡ true). square-parts yes)
      (λ (no : is_square s q t ≡ false).
      absurd (let e : None ≡ Some page =
      sym (ap (λ b. cond b (slice_index_or s.pages (place (cuts_of s q) t) None) None) no) ∙ h in cc))
      (cases_Bool (is_square s q t))

  pub page_at-none : (IsSquare s q t → ⊥) → page_at s q t ≡ None
  unfolding page_at
  page_at-none not = ⊎_elim
      (λ (yes : is_square s q t ≡ true). absurd (not (square-parts yes)))
      (λ (no : is_square s q t ≡ false).
      ap (λ b. cond b (slice_index_or s.pages (place (cuts_of s q) t) None) None) no)
      (cases_Bool (is_square s q t))

  -- loaded is what has a page
  pub loaded-page : IsTrue (is_some (page_at s q t)) → (page : Page) × (page_at s q t ≡ Some page)
  loaded-page h = has (page_at s q t) h
    where
      has : (o : Option Page) → IsTrue (is_some o) → (page : Page) × (o ≡ Some page)
      has None h = absurd (let e : false ≡ true = h in cc)
      has (Some page) h = (page, refl)

  pub page-loaded : (page : Page) → page_at s q t ≡ Some page → IsTrue (is_some (page_at s q t))
  page-loaded page h = ap is_some h

  pub unloaded-page : is_some (page_at s q t) ≡ false → page_at s q t ≡ None
  unloaded-page h = lacks (page_at s q t) h
    where
      lacks : (o : Option Page) → is_some o ≡ false → o ≡ None
      lacks None h = refl
      lacks (Some page) h = absurd (let e : true ≡ false = h in cc)

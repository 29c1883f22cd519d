-- From the page of a resolution that a triangle lies in to that of the next one.
use Rattle.std.proofs.Common.{◌≡◌, ℕ, zero, suc, ◌+◌, ◌-◌, ◌*◌, ◌/◌, ◌%◌, ◌^◌, ◌<◌, ◌≤◌, sym, ◌∙◌, ap, subst, arith}
use Rattle.std.proofs.Common.{refl}
use Rattle.std.proofs.Common.{Option, Some, None, true, slice_index_or, length, Bor, get_or}
use Rattle.std.proofs.Math.Pow.{pow_mono}
use Rattle.std.proofs.lemmas.List.{get_or_read}
use Rattle.std.specs.Option.{IsSome, option_copied}
use Rattle.std.proofs.Math.Nat.{pow-succ', div-div-eq-div-mul}
use Rattle.mesh_defs.specs.declared.point.Point.{Point}
use Rattle.mesh_defs.specs.Triangle.{level_of}
use Rattle.bintree_laws.proofs.LevelLemmas.{level_of-left}
use Rattle.bintree_laws.proofs.LatticeLemmas.{same_point}
use Rattle.mosaic_laws.specs.Tile.{IsTile}
use Rattle.mosaic_laws.specs.Glue.{quarter_in, square_in, quarter_of, square_of, prefix_at, prefix_of, tile_of}
use Rattle.mosaic_laws.proofs.AddressLemmas.{quarter_of-small, square_of-small}
use Rattle.page_wedges.specs.Page.{Page}
use Rattle.page_store.specs.Store.{Store, top_of, cuts_of, place, page_at, pages_of, IsTable}
use Rattle.page_store.specs.Walk.{IsFound}
use Rattle.page_store.proofs.PlaceLemmas.{place-less}
use Rattle.page_store.proofs.TableLemmas.{page_at-square, loaded-page}

-- the table

-- each square has a place
pub place-in : (s : Store) (p : ℕ) (t : Point) → IsTable s → p ≤ top_of s → IsTile (2 ^ p) (2 ^ p) t →
    place p t < length s.pages
place-in s p t i coarse tile =
    let e = i.places in
    let less = place-less p (top_of s + 1) t tile (omega arith) in
    omega arith

-- and so it has one in the list of a table's fields
pub place-inside : {v s : Store} (p : ℕ) (t : Point) {at : ℕ} → v ≡ s → IsTable v → p ≤ top_of s →
    IsTile (2 ^ p) (2 ^ p) t → at ≡ place p t → at < length v.pages
place-inside {v} {s} p t same i coarse tile is =
    let e : top_of v ≡ top_of s = ap top_of same in
    let less = place-in v p t i (omega arith) tile in
    omega arith

-- where its page stands
pub page-there : (s : Store) (p : ℕ) (t : Point) → s.n ≤ s.large → p ≤ top_of s → IsTile (2 ^ p) (2 ^ p) t →
    page_at s (top_of s - p) t ≡ slice_index_or s.pages (place p t) None
page-there s p t fits coarse tile =
    let e : cuts_of s (top_of s - p) ≡ p = omega arith in
    page_at-square s (top_of s - p) t record {
      coarse = omega arith;
      tile = subst (λ k. IsTile (2 ^ k) (2 ^ k) t) (sym e) tile;
    }
    ∙ ap (λ k. slice_index_or s.pages (place k t) None) e

-- as it is read there
pub page-read : {v s : Store} (p : ℕ) (t : Point) {at : ℕ} {o : Option Page} → v ≡ s → IsTable v → p ≤ top_of s →
    IsTile (2 ^ p) (2 ^ p) t → at ≡ place p t → o ≡ get_or v.pages at o → o ≡ page_at s (top_of s - p) t
page-read {v} {s} p t {at} {o} same i coarse tile is read =
    get_or_read v.pages at o (place-inside p t same i coarse tile is) read None
    ∙ ap (λ k. slice_index_or v.pages k None) is
    ∙ ap (λ (z : Store). slice_index_or z.pages (place p t) None) same
    ∙ sym (page-there s p t (subst (λ (z : Store). z.n ≤ z.large) same i.fits) coarse tile)

-- the bits of an address

pub prefix-shift : (levels x : ℕ) → prefix_at levels x ≡ x / 2 ^ levels
prefix-shift zero x = omega arith
prefix-shift (suc levels) x =
    prefix-shift levels (x / 2) ∙ div-div-eq-div-mul x 2 (2 ^ levels) ∙ ap (λ k. x / k) (sym (pow-succ' 2 levels))

-- the quarter of a square that x or its left child lies in, as a shift
pub prefix-is : (p x : ℕ) → 2 ≤ x → 2 * p ≤ level_of x → prefix_of p (2 * x) ≡ 2 * x / 2 ^ (level_of x - 2 * p)
prefix-is p x low deep =
    let l = level_of-left x low in
    let e : level_of (2 * x) - (2 * p + 1) ≡ level_of x - 2 * p = omega arith in
    prefix-shift (level_of (2 * x) - (2 * p + 1)) (2 * x) ∙ ap (λ k. 2 * x / 2 ^ k) e

-- two bits more
prefix-next : (p x : ℕ) → 2 ≤ x → 2 * suc p ≤ level_of x → prefix_of (suc p) (2 * x) / 4 ≡ prefix_of p (2 * x)
prefix-next p x low deep =
    let e : level_of x - 2 * p ≡ suc (suc (level_of x - 2 * suc p)) = omega arith in
    let f = pow-succ' 2 (suc (level_of x - 2 * suc p)) in
    let g = pow-succ' 2 (level_of x - 2 * suc p) in
    let four : 2 ^ (level_of x - 2 * p) ≡ 2 ^ (level_of x - 2 * suc p) * 4 =
    ap (λ k. 2 ^ k) e ∙ omega arith in
    ap (λ k. k / 4) (prefix-is (suc p) x low deep)
    ∙ div-div-eq-div-mul (2 * x) (2 ^ (level_of x - 2 * suc p)) 4
    ∙ ap (λ k. 2 * x / k) (sym four)
    ∙ sym (prefix-is p x low (omega arith))

-- the coarsest page

pub whole-quarter : (x : ℕ) → 2 ≤ x → quarter_of 0 (prefix_of 0 (2 * x)) ≡ 2 * x / 2 ^ level_of x % 4
whole-quarter x low =
    let e : level_of x - 2 * 0 ≡ level_of x = omega arith in
    ap (λ k. k % 4) (prefix-is 0 x low (omega arith) ∙ ap (λ k. 2 * x / 2 ^ k) e)

pub coarsest-loaded : (s : Store) → IsTable s →
    (page : Page) × (page_at s (top_of s - 0) record { x = 0; y = 0 } ≡ Some page)
coarsest-loaded s i =
    let fits = i.fits in
    let e : top_of s - 0 ≡ top_of s = omega arith in
    let c : s.large - (s.n + top_of s) ≡ 0 = omega arith in
    let h = i.pyramid.coarsest record { x = 0; y = 0 } (subst (λ k. IsTile (2 ^ k) (2 ^ k) record { x = 0; y = 0 })
    (sym c) record { column = omega arith; row = omega arith }) in
    loaded-page s (top_of s - 0) record { x = 0; y = 0 } (subst (λ k. (pages_of s).loaded k record {
      x = 0;
      y =
          0;
    } ≡ true) (sym e) h)

-- the next page

-- what the two bits below say of the next square
pub record IsBelow (x p k : ℕ) (t : Point) (bits : ℕ) (k' : ℕ) (t' : Point) : Type 0 where
  pub bits-are : 2 * x / 2 ^ (level_of x - 2 * (p + 1)) % 4 ≡ bits
  pub part : k' ≡ quarter_in k bits
  pub column : t'.x ≡ 2 * t.x + (square_in k (bits / 2)).x
  pub row : t'.y ≡ 2 * t.y + (square_in k (bits / 2)).y

module _ {x p k : ℕ} {t : Point} {bits k' : ℕ} {t' : Point} (b : IsBelow x p k t bits k' t') (low : 2 ≤ x)
    (deep : 2 * (p + 1) ≤ level_of x) (part : quarter_of p (prefix_of p (2 * x)) ≡ k) (square : tile_of p (2 * x) ≡ t)
  where
    next : p + 1 ≡ suc p
    next = omega arith

    last : prefix_of (suc p) (2 * x) % 4 ≡ bits
    last = ap (λ j. j % 4) (prefix-is (suc p) x low (omega arith))
        ∙ ap (λ j. 2 * x / 2 ^ (level_of x - 2 * j) % 4) (sym next)
        ∙ b.bits-are

    pub part-next : quarter_of (p + 1) (prefix_of (p + 1) (2 * x)) ≡ k'
    part-next =
        let up = prefix-next p x low (omega arith) in
        ap (λ j. quarter_of j (prefix_of j (2 * x))) next
        ∙ ap (λ j. quarter_in (quarter_of p j) (prefix_of (suc p) (2 * x) % 4)) up
        ∙ ap (λ j. quarter_in j (prefix_of (suc p) (2 * x) % 4)) part
        ∙ ap (quarter_in k) last
        ∙ sym b.part

    pub square-next : tile_of (p + 1) (2 * x) ≡ t'
    square-next =
        let up = prefix-next p x low (omega arith) in
        let e : square_of (suc p) (prefix_of (suc p) (2 * x))
        ≡ record { x = 2 * t.x + (square_in k (bits / 2)).x; y = 2 * t.y + (square_in k (bits / 2)).y } =
        ap (λ j. record {
          x = 2 * (square_of p j).x + (square_in (quarter_of p j) (prefix_of (suc p) (2 * x) % 4 / 2)).x;
          y = 2 * (square_of p j).y + (square_in (quarter_of p j) (prefix_of (suc p) (2 * x) % 4 / 2)).y;
        }) up
        ∙ ap (λ (u : Point). record {
          x = 2 * u.x + (square_in (quarter_of p (prefix_of p (2 * x))) (prefix_of (suc p) (2 * x) % 4 / 2)).x;
          y = 2 * u.y + (square_in (quarter_of p (prefix_of p (2 * x))) (prefix_of (suc p) (2 * x) % 4 / 2)).y;
        }) square
        ∙ ap (λ j. record {
          x = 2 * t.x + (square_in j (prefix_of (suc p) (2 * x) % 4 / 2)).x;
          y = 2 * t.y + (square_in j (prefix_of (suc p) (2 * x) % 4 / 2)).y;
        }) part
        ∙ ap (λ j. record { x = 2 * t.x + (square_in k (j / 2)).x; y = 2 * t.y + (square_in k (j / 2)).y }) last in
        ap (λ j. tile_of j (2 * x)) next
        ∙ e
        ∙ same_point (2 * t.x + (square_in k (bits / 2)).x) (2 * t.y + (square_in k (bits / 2)).y) t'.x t'.y
        (sym b.column) (sym b.row)

-- the square of a triangle is one of so many columns and rows
pub tile-small : (p x : ℕ) → IsTile (2 ^ p) (2 ^ p) (tile_of p x)
tile-small p x = let h = square_of-small p (prefix_of p x) in record { column = h.0; row = h.1 }

-- what is copied is something where it was
pub copied-some : (o : Option (Bor Page)) (page : Page) → option_copied o ≡ Some page → IsSome o
copied-some None page e = absurd cc
copied-some (Some b) page e = refl

-- a square has few columns and rows, and four quarters
pub record IsSmallPart (k : ℕ) (t : Point) : Type 0 where
  pub quarter : k < 4
  pub column : t.x < 2 ^ 31
  pub row : t.y < 2 ^ 31

pub found-small : {s : Store} {x p k : ℕ} {t : Point} {page : Page} → IsTable s → IsFound s x p k t page → IsSmallPart k t
found-small {s} {x} {p} {k} {t} i f =
    let coarse = f.coarse in
    let small = i.small in
    let few : p ≤ 31 = omega arith in
    let mono : 2 ^ p ≤ 2 ^ 31 = pow_mono few in
    let tile : IsTile (2 ^ p) (2 ^ p) t = subst (IsTile (2 ^ p) (2 ^ p)) f.square (tile-small p (2 * x)) in
    let column = tile.column in
    let row = tile.row in
    record {
      quarter = subst (λ j. j < 4) f.part (quarter_of-small p (prefix_of p (2 * x)));
      column = omega arith;
      row = omega arith;
    }

-- The tiles' lists one after another: they are a union, and their lengths add up.
use Rattle.std.proofs.Common.{◌≡◌, ◌≢◌, ℕ, zero, suc, ◌+◌, ◌*◌, ◌/◌, ◌%◌, ◌^◌, ◌<◌, ◌≤◌, inl, inr, Bool}
use Rattle.std.proofs.Common.{eqb, cond, List, [], ◌∷◌, map, length, Contains, count_by, refl, sym, ◌∙◌, ap}
use Rattle.std.proofs.Common.{subst, arith, ⊎_elim, eq-eqb, length-append, mul-le-mul_left}
use Rattle.std.proofs.Math.Nat.{div-lt_iff_lt-mul, mod-lt}
use Rattle.std.proofs.lemmas.Nat.{div-mul-add, mod-mul-add, div-add-mod'}
use Rattle.std.proofs.lemmas.List.{length-map}
use Rattle.std.proofs.lemmas.Bool.{cases_eq, cases_lt, eqb-true}
use Rattle.std.proofs.lemmas.List.Sums.{sum_by-append}
use Rattle.mesh_defs.specs.declared.point.Point.{Point}
use Rattle.mesh_defs.specs.Triangle.{level_of, IsAddress}
use Rattle.mesh_defs.proofs.TestLemmas.{same_tests}
use Rattle.mesh_defs.proofs.ListLemmas.{IsIn, IsIn-contains, Contains-in, IsIn-append, one_if, count-cons}
use Rattle.bintree_laws.proofs.LatticeLemmas.{same_point}
use Rattle.mesh_laws.proofs.SizeLemmas.{count-none}
use Rattle.mosaic_laws.specs.Tile.{IsTile, in_tile}
use Rattle.mosaic_laws.specs.Glue.{IsUnionOf}
use Rattle.mosaic_laws.specs.Join.{tile_at, joined}
use Rattle.mosaic_laws.proofs.AddressLemmas.{level-some, in_tile-unique, in_tile-apart, in_tile-address, in_tile-level}

-- numbers of tiles

-- the number of a tile
abbrev pub number_of : ℕ → Point → ℕ
number_of columns t = t.y * columns + t.x

-- the tile with the number of a tile is that tile
pub tile_at-number : (columns rows : ℕ) (t : Point) → IsTile columns rows t → tile_at columns (number_of columns t) ≡ t
tile_at-number columns rows t tile =
    same_point ((t.y * columns + t.x) % columns) ((t.y * columns + t.x) / columns) t.x t.y
    (mod-mul-add t.y columns t.x tile.column) (div-mul-add t.y columns t.x tile.column)

-- and a number is the number of its tile
pub number-tile_at : (columns k : ℕ) → number_of columns (tile_at columns k) ≡ k
number-tile_at columns k = div-add-mod' k columns

-- the first columns * rows numbers are those of the tiles
pub number-small : (columns rows : ℕ) (t : Point) → IsTile columns rows t → number_of columns t < columns * rows
number-small columns rows t tile =
    let row = tile.row in let column = tile.column in
    let le : columns * (t.y + 1) ≤ columns * rows = mul-le-mul_left columns (omega arith) in omega arith

pub tile_at-is : (columns rows k : ℕ) → k < columns * rows → IsTile columns rows (tile_at columns k)
tile_at-is columns rows k less = ⊎_elim
    (λ (none : columns < 1). let z : columns ≡ 0 = omega arith in absurd (empty columns z less))
    (λ (some : 1 ≤ columns). record {
      column = mod-lt k (omega arith);
      row = (div-lt_iff_lt-mul {k = columns} {x = k} {y = rows} (omega arith)).1 (omega arith);
    })
    (cases_lt columns 1)
  where
    empty : (c : ℕ) → c ≡ 0 → k < c * rows → ⊥
    empty c z less = let e : c * rows ≡ 0 * rows = ap (λ i. i * rows) z in omega arith

-- maps

-- an entry of a mapped list is the image of one
IsIn-map : (f : ℕ → ℕ) (x : ℕ) (xs : List ℕ) → IsIn x (map f xs) → (e : ℕ) × IsIn e xs × (f e ≡ x)
IsIn-map f x [] h = absurd h
IsIn-map f x (y ∷ ys) (inl same) = (y, inl refl, same)
IsIn-map f x (y ∷ ys) (inr rest) = let r = IsIn-map f x ys rest in (r.0, inr r.1, r.2)

-- an image is counted as often as what it is the image of, where no other has it
count-map : (f : ℕ → ℕ) (a : ℕ) (xs : List ℕ) → ((e : ℕ) → IsIn e xs → f e ≡ f a → e ≡ a) →
    count_by (λ x. eqb x (f a)) (map f xs) ≡ count_by (λ x. eqb x a) xs
count-map f a [] unique = refl
count-map f a (x ∷ xs) unique =
    let rest = count-map f a xs (λ e i. unique e (inr i)) in
    let here : eqb (f x) (f a) ≡ eqb x a = same_tests (eqb (f x) (f a)) (eqb x a)
    (λ e. eq-eqb x a (unique x (inl refl) (eqb-true (f x) (f a) e)))
    (λ e. eq-eqb (f x) (f a) (ap f (eqb-true x a e))) in
    let one : one_if (eqb (f x) (f a)) ≡ one_if (eqb x a) = ap one_if here in
    let c = count-cons (λ x. eqb x (f a)) (f x) (map f xs) in
    let d = count-cons (λ x. eqb x a) x xs in omega arith

-- lists of tiles

module _ (n p columns rows : ℕ) (lists : Point → List ℕ) (wide : columns ≤ 2 ^ p) (high : rows ≤ 2 ^ p)
    (addresses : (t : Point) (a : ℕ) → IsTile columns rows t → Contains (lists t) a → IsAddress n a × (4 ≤ a)) where
  -- the tiles are tiles of the square
  inside : (t : Point) → IsTile columns rows t → IsTile (2 ^ p) (2 ^ p) t
  inside t tile = let c = tile.column in let r = tile.row in record { column = omega arith; row = omega arith }

  address_in : (t : Point) (a : ℕ) → IsTile columns rows t → IsIn a (lists t) → IsAddress n a × (4 ≤ a)
  address_in t a tile listed = addresses t a tile (Contains-in a (lists t) listed)

  -- a triangle is counted in its tile's list as often as its address
  own-count : (t : Point) (a : ℕ) → IsTile columns rows t → 4 ≤ a →
      count_by (λ x. eqb x (in_tile p t a)) (map (in_tile p t) (lists t)) ≡ count_by (λ x. eqb x a) (lists t)
  own-count t a tile big = count-map (in_tile p t) a (lists t) (λ e listed same.
      in_tile-unique p t e a (inside t tile) (address_in t e tile listed).1 big same)

  -- and in no other's
  other-count : (t u : Point) (a : ℕ) → IsTile columns rows t → IsTile columns rows u → t ≢ u → 4 ≤ a →
      count_by (λ x. eqb x (in_tile p t a)) (map (in_tile p u) (lists u)) ≡ 0
  other-count t u a tile tile' other big =
      count-none (λ x. eqb x (in_tile p t a)) (map (in_tile p u) (lists u)) (λ x listed is.
      let e = IsIn-map (in_tile p u) x (lists u) listed in
      let same : x ≡ in_tile p t a = eqb-true x (in_tile p t a) is in
      other (in_tile-apart p t u a e.0 (inside t tile) (inside u tile') big (address_in u e.0 tile' e.1).1
      (sym same ∙ sym e.2)))

  joined-next : (q : ℕ → Bool) (k : ℕ) →
      count_by q (joined p columns lists (suc k))
      ≡ count_by q (joined p columns lists k) + count_by q
      (map (in_tile p (tile_at columns k)) (lists (tile_at columns k)))
  joined-next q k =
      sum_by-append (λ x. cond (q x) 1 0) (joined p columns lists k)
      (map (in_tile p (tile_at columns k)) (lists (tile_at columns k)))

  -- not at all before its tile
  joined-none : (t : Point) (a k : ℕ) → IsTile columns rows t → 4 ≤ a → k ≤ number_of columns t →
      count_by (λ x. eqb x (in_tile p t a)) (joined p columns lists k) ≡ 0
  joined-none t a zero tile big before = refl
  joined-none t a (suc k) tile big before =
      let small = number-small columns rows t tile in
      let c = joined-next (λ x. eqb x (in_tile p t a)) k in
      let other : t ≢ tile_at columns k = λ same.
      (let e : number_of columns t ≡ k = ap (number_of columns) same ∙ number-tile_at columns k in omega arith) in
      let first = other-count t (tile_at columns k) a tile (tile_at-is columns rows k (omega arith)) other big in
      let rest = joined-none t a k tile big (omega arith) in
      omega arith

  -- and as often as its address after it
  pub joined-once : (t : Point) (a k : ℕ) → IsTile columns rows t → 4 ≤ a → number_of columns t < k →
      k ≤ columns * rows →
      count_by (λ x. eqb x (in_tile p t a)) (joined p columns lists k) ≡ count_by (λ x. eqb x a) (lists t)
  joined-once t a zero tile big after within = absurd (omega arith)
  joined-once t a (suc k) tile big after within =
      let c = joined-next (λ x. eqb x (in_tile p t a)) k in
      ⊎_elim
      (λ (same : number_of columns t ≡ k).
      let is : tile_at columns k ≡ t = ap (tile_at columns) (sym same) ∙ tile_at-number columns rows t tile in
      let none = joined-none t a k tile big (omega arith) in
      let own = own-count t a tile big in
      let first : count_by (λ x. eqb x (in_tile p t a))
      (map (in_tile p (tile_at columns k)) (lists (tile_at columns k)))
      ≡ count_by (λ x. eqb x a) (lists t) =
      ap (λ z. count_by (λ x. eqb x (in_tile p t a)) (map (in_tile p z) (lists z))) is ∙ own in
      omega arith)
      (λ (different : number_of columns t ≢ k).
      let other : t ≢ tile_at columns k = λ same.
      different (ap (number_of columns) same ∙ number-tile_at columns k) in
      let first = other-count t (tile_at columns k) a tile (tile_at-is columns rows k (omega arith)) other big in
      let rest = joined-once t a k tile big (omega arith) (omega arith) in
      omega arith)
      (cases_eq (number_of columns t) k)

  -- each entry is a triangle of a tile
  pub joined-entry : (x k : ℕ) → k ≤ columns * rows → IsIn x (joined p columns lists k) →
      (t : Point) × (a : ℕ) × IsTile columns rows t × IsIn a (lists t) × (in_tile p t a ≡ x)
  joined-entry x zero within h = absurd h
  joined-entry x (suc k) within h = ⊎_elim
      (λ before. joined-entry x k (omega arith) before)
      (λ last.
      let e = IsIn-map (in_tile p (tile_at columns k)) x (lists (tile_at columns k)) last in
      (tile_at columns k, e.0, tile_at-is columns rows k (omega arith), e.1, e.2))
      (IsIn-append x (joined p columns lists k) (map (in_tile p (tile_at columns k)) (lists (tile_at columns k))) h)

  -- which is as deep as the quarters
  pub joined-fine : (x k : ℕ) → k ≤ columns * rows → IsIn x (joined p columns lists k) →
      IsAddress (n + p) x × (2 * p < level_of x)
  joined-fine x k within listed =
      let r = joined-entry x k within listed in
      let h = address_in r.0 r.1 r.2 r.3 in
      let level = in_tile-level p r.0 r.1 h.1 in
      let some = level-some r.1 h.1 in
      let same : in_tile p r.0 r.1 ≡ x = r.4 in
      let deep : 2 * p < level_of (in_tile p r.0 r.1) = omega arith in (
        subst (IsAddress (n + p)) same (in_tile-address p r.0 n r.1 h.1 h.0),
        subst (λ z. 2 * p < level_of z) same deep,
      )

-- the lists of all tiles, one after another, are a union
pub joined-union : (n p : ℕ) (lists : Point → List ℕ) →
    ((t : Point) (a : ℕ) → IsTile (2 ^ p) (2 ^ p) t → Contains (lists t) a → IsAddress n a × (4 ≤ a)) →
    IsUnionOf n p lists (joined p (2 ^ p) lists (2 ^ p * 2 ^ p))
joined-union n p lists addresses = record {
  fine = λ x listed. joined-fine n p (2 ^ p) (2 ^ p) lists (omega arith) (omega arith) addresses x (2 ^ p * 2 ^ p)
      (omega arith) (IsIn-contains x (joined p (2 ^ p) lists (2 ^ p * 2 ^ p)) listed);
  counts = λ t a tile address big. joined-once n p (2 ^ p) (2 ^ p) lists (omega arith) (omega arith) addresses t a
      (2 ^ p * 2 ^ p) tile big (number-small (2 ^ p) (2 ^ p) t tile) (omega arith);
}

-- lengths

-- how many triangles the tiles have in all
pub length-joined : (p columns : ℕ) (lists : Point → List ℕ) (k : ℕ) →
    length (joined p columns lists (suc k)) ≡ length (joined p columns lists k) + length (lists (tile_at columns k))
length-joined p columns lists k =
    length-append (joined p columns lists k) (map (in_tile p (tile_at columns k)) (lists (tile_at columns k)))
    ∙ ap (λ i. length (joined p columns lists k) + i)
    (length-map (lists (tile_at columns k)) (in_tile p (tile_at columns k)))

-- where no tile has fewer there are no fewer in all
pub joined-more : (p columns rows : ℕ) (lists more : Point → List ℕ) →
    ((t : Point) → IsTile columns rows t → length (lists t) ≤ length (more t)) → (k : ℕ) → k ≤ columns * rows →
    length (joined p columns lists k) ≤ length (joined p columns more k)
joined-more p columns rows lists more each zero within = omega arith
joined-more p columns rows lists more each (suc k) within =
    let l = length-joined p columns lists k in
    let m = length-joined p columns more k in
    let last = each (tile_at columns k) (tile_at-is columns rows k (omega arith)) in
    let rest = joined-more p columns rows lists more each k (omega arith) in omega arith

-- and where one has more there are more
pub joined-grown : (p columns rows : ℕ) (t : Point) (lists more : Point → List ℕ) → IsTile columns rows t →
    ((u : Point) → IsTile columns rows u → length (lists u) ≤ length (more u)) → length (lists t) < length (more t) →
    (k : ℕ) → number_of columns t < k → k ≤ columns * rows →
    length (joined p columns lists k) < length (joined p columns more k)
joined-grown p columns rows t lists more tile each less zero after within = absurd (omega arith)
joined-grown p columns rows t lists more tile each less (suc k) after within =
    let l = length-joined p columns lists k in
    let m = length-joined p columns more k in
    ⊎_elim
    (λ (same : number_of columns t ≡ k).
    let is : t ≡ tile_at columns k = sym (tile_at-number columns rows t tile) ∙ ap (tile_at columns) same in
    let last : length (lists (tile_at columns k)) < length (more (tile_at columns k)) =
    subst (λ z. length (lists z) < length (more z)) is less in
    let rest = joined-more p columns rows lists more each k (omega arith) in omega arith)
    (λ (different : number_of columns t ≢ k).
    let last = each (tile_at columns k) (tile_at-is columns rows k (omega arith)) in
    let rest = joined-grown p columns rows t lists more tile each less k (omega arith) (omega arith) in omega arith)
    (cases_eq (number_of columns t) k)

-- a bound for each tile is one for all
pub joined-most : (p columns most : ℕ) (lists : Point → List ℕ) → ((t : Point) → length (lists t) ≤ most) → (k : ℕ) →
    length (joined p columns lists k) ≤ most * k
joined-most p columns most lists each zero = omega arith
joined-most p columns most lists each (suc k) =
    let l = length-joined p columns lists k in
    let last = each (tile_at columns k) in
    let rest = joined-most p columns most lists each k in omega arith

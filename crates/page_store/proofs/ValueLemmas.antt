-- The wedge of a known triangle, by the finest page that has it: that of a half or a quarter of the page, or by the
-- page's heights alone.
use Rattle.std.proofs.Common.{◌≡◌, ℕ, zero, suc, ◌+◌, ◌-◌, ◌*◌, ◌/◌, ◌%◌, ◌^◌, ◌<◌, ◌≤◌, sym, ◌∙◌, ap, subst}
use Rattle.std.proofs.Common.{arith, ⊎_elim, Bool, true, false, IsTrue, refl, pow_pos, cond, nat_eq, ◌||◌}
use Rattle.std.proofs.Math.Nat.{pow-succ', div-div-eq-div-mul}
use Rattle.std.proofs.Math.Arith.{mod-mul}
use Rattle.std.proofs.lemmas.Bool.{ltb-true}
use Rattle.mesh_defs.specs.declared.point.Point.{Point}
use Rattle.mesh_defs.specs.Thickness.{height_of}
use Rattle.mesh_defs.specs.Triangle.{level_of, IsAddress}
use Rattle.mesh_laws.proofs.DescentLemmas.{IsAddress-level, IsAddress-splittable}
use Rattle.mosaic_laws.specs.Tile.{IsTile, quarter, in_tile}
use Rattle.mosaic_laws.specs.Glue.{quarter_of, prefix_at, prefix_of, number_at, tile_of, local_of}
use Rattle.mosaic_laws.proofs.AddressLemmas.{in_tile-local, local-big, local-level, quarter-back, quarter_of-small}
use Rattle.page_laws.specs.Pages.{half, is_turned, left_quarter, cuts_to, square_at}
use Rattle.page_laws.specs.Loaded.{known_wedge, AreSamples}
use Rattle.page_laws.specs.declared.wedge.KnownWedge.{KnownWedge}
use Rattle.page_laws.proofs.SquareLemmas.{tile-self}
use Rattle.page_laws.proofs.HalfLemmas.{half-left, halves, left_quarter-small}
use Rattle.page_laws.proofs.PyramidLemmas.{known-splittable}
use Rattle.page_laws.proofs.LoadedLemmas.{wedge-bounded, wedge-page}
use Rattle.page_wedges.specs.Page.{Page, own_wedge, quarter_in, half_in}
use Rattle.page_store.specs.Store.{Store, top_of, cuts_of, pages_of, height_in, known_in, IsPlaced, AreJoined, IsTable}
use Rattle.page_store.specs.Walk.{IsFound, IsFinest}
use Rattle.page_store.proofs.HeightLemmas.{height-small}
use Rattle.page_store.proofs.TableLemmas.{page-loaded}
use Rattle.page_store.proofs.WalkLemmas.{tile-small, prefix-shift, prefix-is}
use Rattle.page_store.proofs.FoundLemmas.{found-cuts, found-end, found-known}

-- wedges are thin

pub thin : {s : Store} (x : ℕ) {w : KnownWedge} → IsTable s → w ≡ known_wedge s.large (height_in s) (known_in s) x →
    w.thickness ≤ 131070 * 28
thin {s} x i is =
    let small = i.small in
    let bounded = wedge-bounded s.large (height_in s) (known_in s) 65535 x
    (λ r. height-small s r (λ q t page at. (i.placed q t page at).field)) in
    let same = ap (λ (z : KnownWedge). z.thickness) is in
    omega arith

-- the address in a page's grid

-- the bits of x below its quarter
number-bits : (levels p x : ℕ) →
    number_at levels p x ≡ 2 ^ levels * (4 + quarter_of p (prefix_at levels x)) + x % 2 ^ levels
number-bits zero p x = let none : x % 2 ^ 0 ≡ 0 = omega arith in rw none (omega arith)
number-bits (suc levels) p x =
    let up = number-bits levels p (x / 2) in
    let some : 0 < 2 ^ levels = pow_pos levels in
    let e : 2 ^ suc levels ≡ 2 * 2 ^ levels = pow-succ' 2 levels in
    let f : 2 ^ suc levels ≡ 2 ^ levels * 2 = omega arith in
    let bits : x % 2 ^ suc levels ≡ 2 * (x / 2 % 2 ^ levels) + x % 2 =
    ap (λ k. x % k) f ∙ mod-mul x {m = 2 ^ levels} {c = 2} some (omega arith) ∙ omega arith in
    rw (bits, e) (doubled (number_at levels p (x / 2)) (2 ^ levels) (4 + quarter_of p (prefix_at levels (x / 2)))
    (x / 2 % 2 ^ levels) (x % 2) up)
  where
    doubled : (n m q r b : ℕ) → n ≡ m * q + r → 2 * n + b ≡ 2 * m * q + (2 * r + b)
    doubled n m q r b e = omega (arith, ap (λ k. 2 * k) e)

-- at and below the quarters a triangle and its left child have one prefix
prefix-self : (p x : ℕ) → 2 ≤ x → 2 * p < level_of x → prefix_of p (2 * x) ≡ prefix_of p x
prefix-self p x low deep =
    let e : level_of x - 2 * p ≡ suc (level_of x - (2 * p + 1)) = omega arith in
    let twice : 2 ^ suc (level_of x - (2 * p + 1)) ≡ 2 * 2 ^ (level_of x - (2 * p + 1)) =
    pow-succ' 2 (level_of x - (2 * p + 1)) in
    let back : 2 * x / 2 ≡ x = omega arith in
    prefix-is p x low (omega arith)
    ∙ ap (λ k. 2 * x / 2 ^ k) e
    ∙ ap (λ k. 2 * x / k) twice
    ∙ sym (div-div-eq-div-mul (2 * x) 2 (2 ^ (level_of x - (2 * p + 1))))
    ∙ ap (λ k. k / 2 ^ (level_of x - (2 * p + 1))) back
    ∙ sym (prefix-shift (level_of x - (2 * p + 1)) x)

pub local-bits : (p x k : ℕ) → 2 ≤ x → 2 * p < level_of x → quarter_of p (prefix_of p (2 * x)) ≡ k →
    local_of p x ≡ 2 ^ (level_of x - (2 * p + 1)) * (4 + k) + x % 2 ^ (level_of x - (2 * p + 1))
local-bits p x k low deep part =
    number-bits (level_of x - (2 * p + 1)) p x
    ∙ ap (λ j. 2 ^ (level_of x - (2 * p + 1)) * (4 + j) + x % 2 ^ (level_of x - (2 * p + 1)))
    (ap (quarter_of p) (sym (prefix-self p x low deep)) ∙ part)

-- what the page says

-- a half by its left child, as the code tells it
which-is : (turned : Bool) (w : ℕ) → w < 2 →
    cond (nat_eq (left_quarter turned w) 1 || nat_eq (left_quarter turned w) 2) 1 0 ≡ w
which-is false zero less = refl
which-is false (suc zero) less = refl
which-is true zero less = refl
which-is true (suc zero) less = refl
which-is turned (suc (suc _)) less = absurd (omega (arith, less))

-- the wedge of a half, as `terrain_laws` of `page_wedges` says
pub record HalfLaw : Type 0 where
  pub half : (page : Page) (q p which : ℕ) (t : Point) (height : Point → ℕ) (known : ℕ → Bool) →
      1 ≤ page.field.n → which < 2 → IsTile (2 ^ p) (2 ^ p) t →
      AreSamples page.field.n q t height page.field.heights → page.turned ≡ is_turned p t →
      IsTrue (known (half p t which)) → ((k : ℕ) → k < 4 → quarter_in page k
      ≡ known_wedge (page.field.n + q + p) height known (in_tile p t (4 + k))) →
      half_in page which ≡ known_wedge (page.field.n + q + p) height known (half p t which)

module _ {s : Store} {x p k : ℕ} {t : Point} {page : Page} (i : IsTable s) (f : IsFound s x p k t page) (low : 2 ≤ x)
  where
    tile : IsTile (2 ^ p) (2 ^ p) t
    tile = subst (IsTile (2 ^ p) (2 ^ p)) f.square (tile-small p (2 * x))

    placed : IsPlaced s (top_of s - p) t page
    placed = i.placed (top_of s - p) t page f.loaded

    cuts : cuts_of s (top_of s - p) ≡ p
    cuts = found-cuts i f

    pub found-side : page.field.n ≡ s.n
    found-side = placed.side

    -- what is at the level of the page's halves
    module _ (level : level_of x ≡ 2 * p) where
      left-child : (w : ℕ) → w < 2 → x ≡ half p t w → k ≡ left_quarter (is_turned p t) w
      left-child w less is =
          let e : level_of x - 2 * p ≡ 0 = omega arith in
          let whole : 2 * x / 2 ^ 0 ≡ 2 * x = omega arith in
          let prefix : prefix_of p (2 * x) ≡ quarter p t.x t.y (left_quarter (is_turned p t) w) =
          prefix-is p x low (omega arith)
          ∙ ap (λ j. 2 * x / 2 ^ j) e
          ∙ whole
          ∙ ap (λ j. 2 * j) is
          ∙ half-left p t w less in
          sym f.part
          ∙ ap (quarter_of p) prefix
          ∙ (quarter-back p t.x t.y (left_quarter (is_turned p t) w) tile.column tile.row
          (left_quarter-small (is_turned p t) w)).number

      half-from : HalfLaw → AreJoined s (top_of s - p) t page → IsTrue (known_in s x) → (w : ℕ) → w < 2 →
          x ≡ half p t w →
          half_in page (cond (nat_eq k 1 || nat_eq k 2) 1 0) ≡ known_wedge s.large (height_in s) (known_in s) x
      half-from law joined known w less is =
          let side = placed.side in
          let some = i.some in
          let coarse = f.coarse in
          let fits = i.fits in
          let e : page.field.n + (top_of s - p) + p ≡ s.large = omega arith in
          let which : cond (nat_eq k 1 || nat_eq k 2) 1 0 ≡ w =
          ap (λ j. cond (nat_eq j 1 || nat_eq j 2) 1 0) (left-child w less is) ∙ which-is (is_turned p t) w less in
          ap (half_in page) which
          ∙ law.half page (top_of s - p) p w t (height_in s) (known_in s) (omega arith) less tile
          (subst (λ m. AreSamples m (top_of s - p) t (height_in s) page.field.heights) (sym side) placed.heights)
          (placed.turned ∙ ap (λ j. is_turned j t) cuts)
          (subst (λ z. IsTrue (known_in s z)) is known)
          (λ j small. joined j small
          ∙ ap (λ c. known_wedge s.large (height_in s) (known_in s) (in_tile c t (4 + j))) cuts
          ∙ ap (λ l. known_wedge l (height_in s) (known_in s) (in_tile p t (4 + j))) (sym e))
          ∙ ap (λ l. known_wedge l (height_in s) (known_in s) (half p t w)) e
          ∙ ap (known_wedge s.large (height_in s) (known_in s)) (sym is)

      pub half-value : HalfLaw → AreJoined s (top_of s - p) t page → IsTrue (known_in s x) →
          half_in page (cond (nat_eq k 1 || nat_eq k 2) 1 0) ≡ known_wedge s.large (height_in s) (known_in s) x
      half-value law joined known = ⊎_elim
          (λ (lower : x ≡ half p (tile_of p (2 * x)) 0).
          half-from law joined known 0 (omega arith) (lower ∙ ap (λ u. half p u 0) f.square))
          (λ (upper : x ≡ half p (tile_of p (2 * x)) 1).
          half-from law joined known 1 (omega arith) (upper ∙ ap (λ u. half p u 1) f.square))
          (halves p x low level)

    -- what is below the halves
    module _ (deep : 2 * p < level_of x) where
      there : in_tile p t (local_of p x) ≡ x
      there =
          ap (λ u. in_tile p u (local_of p x)) (sym f.square ∙ tile-self p x low deep) ∙ in_tile-local p x low deep

      pub quarter-value : AreJoined s (top_of s - p) t page → level_of x ≡ 2 * p + 1 →
          quarter_in page k ≡ known_wedge s.large (height_in s) (known_in s) x
      quarter-value joined level =
          let small : k < 4 = subst (λ j. j < 4) f.part (quarter_of-small p (prefix_of p (2 * x))) in
          let e : level_of x - (2 * p + 1) ≡ 0 = omega arith in
          let none : x % 2 ^ 0 ≡ 0 = omega arith in
          let bits : local_of p x ≡ 4 + k =
          local-bits p x k low deep f.part ∙ ap (λ j. 2 ^ j * (4 + k) + x % 2 ^ j) e ∙ omega arith in
          joined k small
          ∙ ap (λ c. known_wedge s.large (height_in s) (known_in s) (in_tile c t (4 + k))) cuts
          ∙ ap (λ a. known_wedge s.large (height_in s) (known_in s) (in_tile p t a)) (sym bits)
          ∙ ap (known_wedge s.large (height_in s) (known_in s)) there

      pub own-value : IsFinest s x p → IsTrue (known_in s x) → 2 * p + 2 ≤ level_of x →
          own_wedge page.field (local_of p x) ≡ known_wedge s.large (height_in s) (known_in s) x
      own-value finest known deeper =
          let side = placed.side in
          let coarse = f.coarse in
          let fits = i.fits in
          let level = local-level p x low deep in
          let address : IsAddress s.large x =
          IsAddress-splittable s.large x (known-splittable (pages_of s) i.pyramid x known) in
          let end = found-known i f low finest in
          let less : level_of x < 2 * (p + s.n) = ltb-true (level_of x) (2 * (p + s.n)) (sym end ∙ known) in
          let local-address : IsAddress s.n (local_of p x) =
          IsAddress-level s.n (local_of p x) (let big = local-big p x low deep in omega arith) (omega arith) in
          ap (λ m. known_wedge m (height_of m page.field.heights) (λ b. true) (local_of p x)) side
          ∙ sym (wedge-page (pages_of s) (top_of s - p) t (height_in s) page.field.heights (local_of p x) i.pyramid
          (omega arith) (subst (λ c. IsTile (2 ^ c) (2 ^ c) t) (sym cuts) tile)
          (page-loaded s (top_of s - p) t page f.loaded) placed.heights (local-big p x low deep) local-address
          (omega arith)
          (λ finer. subst (λ z. (pages_of s).loaded (top_of s - p - 1) (square_at (pages_of s) (top_of s - p - 1) z) ≡
          false)
          (sym (ap (λ c. in_tile c t (local_of p x)) cuts ∙ there))
          (found-end i f finest finer
          (let c : cuts_to (pages_of s) (top_of s - p - 1) ≡ p + 1 = omega arith in omega arith))))
          ∙ ap (λ c. known_wedge s.large (height_in s) (known_in s) (in_tile c t (local_of p x))) cuts
          ∙ ap (known_wedge s.large (height_in s) (known_in s)) there

      -- the triangle of the page's grid is one of its
      pub own-level : IsFinest s x p → IsTrue (known_in s x) → level_of (local_of p x) ≤ 2 * s.n
      own-level finest known =
          let level = local-level p x low deep in
          let end = found-known i f low finest in
          let less : level_of x < 2 * (p + s.n) = ltb-true (level_of x) (2 * (p + s.n)) (sym end ∙ known) in
          omega arith

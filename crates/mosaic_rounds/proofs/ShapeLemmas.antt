-- Numbers of tiles, of their bits and of their turns, and neighbours.
use Rattle.std.proofs.Common.{◌≡◌, ℕ, zero, suc, ◌+◌, ◌*◌, ◌/◌, ◌%◌, ◌^◌, ◌<◌, ◌≤◌, sym, ◌∙◌, ap, arith, pow_mono, ◌⊎◌}
use Rattle.std.proofs.Common.{⊎_elim, inl, inr}
use Rattle.std.proofs.lemmas.Bool.{cases_order}
use Rattle.std.proofs.lemmas.Nat.{same_from_place, mul-add-lt, mul-le, shl_below, mod-mul-add, div-mul-add, one_shl, pow-add, pow_pos}
use Rattle.mesh_defs.specs.declared.point.Point.{Point}
use Rattle.bintree_laws.proofs.LatticeLemmas.{same_point}
use Rattle.mosaic_laws.specs.Tile.{IsTile}
use Rattle.mosaic_rounds.specs.declared.shape.Shape.{Shape}
use Rattle.mosaic_rounds.specs.Shape.{first_of}
use Rattle.mosaic_rounds.specs.Side.{IsNeighbour}
use Rattle.mosaic_rounds.specs.Turn.{turn_in}

-- the bits of all tiles have numbers far below those of a word
pub first-small : (columns rows n x y : ℕ) → columns ≤ 65536 → rows ≤ 65536 → n ≤ 14 → x < columns → y < rows →
    (y * columns + x) * 2 ^ (n + 2) < 2 ^ 48
first-small columns rows n x y wide high deep column row =
    let number = mul-add-lt y columns x rows row column in
    let few : columns * rows ≤ 65536 * 65536 = mul-le columns rows 65536 65536 wide high in
    let below : (y * columns + x) * 2 ^ (n + 2) < 2 ^ (32 + (n + 2)) =
    shl_below (y * columns + x) 32 (n + 2) (omega arith) in
    let deepest : 32 + (n + 2) ≤ 48 = omega arith in
    let most : 2 ^ (32 + (n + 2)) ≤ 2 ^ 48 = pow_mono deepest in omega arith

-- how many places a side has, as the code finds it
pub side-places : (n : ℕ) → n ≤ 14 → 1 * 2 ^ n % 2 ^ 32 ≡ 2 ^ n
side-places n high = one_shl n 32 (omega arith)

-- a turn tells the tile
pub turn-tile : (s : Shape) (t : Point) (turn tiles : ℕ) → IsTile s.columns s.rows t → tiles ≡ s.columns * s.rows →
    turn_in s t ≡ turn → t ≡ record { x = turn % tiles % s.columns; y = turn % tiles / s.columns }
turn-tile s t turn tiles tile count is =
    let less = mul-add-lt t.y s.columns t.x s.rows tile.row tile.column in
    let number : turn % tiles ≡ t.y * s.columns + t.x =
    ap (λ k. k % tiles) (sym is) ∙ ap (λ k. turn_in s t % k) count
    ∙ mod-mul-add ((t.x + t.y) % 2) (s.columns * s.rows) (t.y * s.columns + t.x) less in
    same_point t.x t.y (turn % tiles % s.columns) (turn % tiles / s.columns)
    (sym (ap (λ k. k % s.columns) number ∙ mod-mul-add t.y s.columns t.x tile.column))
    (sym (ap (λ k. k / s.columns) number ∙ div-mul-add t.y s.columns t.x tile.column))

-- a side ends within the bits of its tile
pub side-ends : (n side first bit all room : ℕ) → side < 4 → bit ≡ side * 2 ^ n + 0 → first + 2 ^ (n + 2) ≤ all →
    all ≤ room → first + bit + 2 ^ n ≤ room
side-ends n side first bit all room small value within enough =
    let four : 2 ^ (n + 2) ≡ 2 ^ n * 2 ^ 2 = pow-add 2 n 2 in
    let some = pow_pos n in
    let most : side * 2 ^ n ≤ 3 * 2 ^ n = mul-le side (2 ^ n) 3 (2 ^ n) (omega arith) (omega arith) in omega arith

-- beyond a side lies one tile
pub neighbour-one : (side : ℕ) (t u v : Point) → IsNeighbour side t u → IsNeighbour side t v → u ≡ v
neighbour-one zero t u v p q = same_point u.x u.y v.x v.y (sym p.0 ∙ q.0) (let a = p.1 in let b = q.1 in omega arith)
neighbour-one (suc zero) t u v p q =
    same_point u.x u.y v.x v.y (let a = p.0 in let b = q.0 in omega arith) (sym p.1 ∙ q.1)
neighbour-one (suc (suc zero)) t u v p q = same_point u.x u.y v.x v.y (sym p.0 ∙ q.0) (p.1 ∙ sym q.1)
neighbour-one (suc (suc (suc _))) t u v p q = same_point u.x u.y v.x v.y (p.0 ∙ sym q.0) (sym p.1 ∙ q.1)

-- there are two turns for each tile, at most
pub turn-small : (s : Shape) (t : Point) → IsTile s.columns s.rows t → turn_in s t < 2 * (s.columns * s.rows)
turn-small s t tile =
    let number = mul-add-lt t.y s.columns t.x s.rows tile.row tile.column in
    let all = mul-add-lt ((t.x + t.y) % 2) (s.columns * s.rows) (t.y * s.columns + t.x) 2 (omega arith) number in
    omega arith

-- the bits of two tiles are apart
pub tile-before : (s : Shape) (t u : Point) → IsTile s.columns s.rows t → IsTile s.columns s.rows u →
    (u ≡ t → ⊥) → (first_of s u + 2 ^ (s.n + 2) ≤ first_of s t) ⊎ (first_of s t + 2 ^ (s.n + 2) ≤ first_of s u)
tile-before s t u tile tile' other = ⊎_elim
    (λ (same : t.y * s.columns + t.x ≡ u.y * s.columns + u.x).
    let e = same_from_place t.y t.x u.y u.x s.columns tile.column tile'.column same in
    absurd (other (same_point u.x u.y t.x t.y (sym e.1) (sym e.0))))
    (λ differ. ⊎_elim
    (λ (less : t.y * s.columns + t.x < u.y * s.columns + u.x). inr (row_fits_one (t.y * s.columns + t.x)
    (u.y * s.columns + u.x) (2 ^ (s.n + 2)) less))
    (λ (more : u.y * s.columns + u.x < t.y * s.columns + t.x). inl (row_fits_one (u.y * s.columns + u.x)
    (t.y * s.columns + t.x) (2 ^ (s.n + 2)) more))
    differ)
    (cases_order (t.y * s.columns + t.x) (u.y * s.columns + u.x))
  where
    row_fits_one : (a b m : ℕ) → a < b → a * m + m ≤ b * m
    row_fits_one a b m less =
        let step : (a + 1) * m ≤ b * m = mul-le (a + 1) m b m (omega arith) (omega arith) in grind arith

-- Mates and the squares that they lie in: one square, or two that have a side in common.
use Rattle.std.proofs.Common.{◌≡◌, ◌≢◌, ℕ, zero, suc, ◌+◌, ◌-◌, ◌*◌, ◌/◌, ◌%◌, ◌^◌, ◌<◌, ◌≤◌, ◌⊎◌, inl, inr, refl, sym}
use Rattle.std.proofs.Common.{◌∙◌, ap, ap₂, subst, arith, ⊎_elim}
use Rattle.std.proofs.Math.Pow.{pow_pos}
use Rattle.std.proofs.lemmas.Bool.{cases_lt}
use Rattle.mesh_defs.specs.declared.point.Point.{Point}
use Rattle.mesh_defs.specs.declared.point.Corners.{Corners}
use Rattle.mesh_defs.specs.Triangle.{level_of, corners_of, midpoint, IsAddress, IsMate, OnOneSide, HasBorderBase}
use Rattle.bintree_laws.proofs.LevelLemmas.{IsAtLevel, level_of-left, level-le, IsAtLevel-level_of}
use Rattle.bintree_laws.proofs.CornerLemmas.{corners_of-left}
use Rattle.bintree_laws.proofs.LatticeLemmas.{same_point, scaled, step_of, step_pos, corners_of-lattice}
use Rattle.bintree_laws.proofs.UnitLemmas.{frame, IsHalf, IsHalf-frame}
use Rattle.bintree_laws.proofs.MateLemmas.{cancel, coordinates, parity, lattice-frame}
use Rattle.bintree_laws.proofs.CentreLemmas.{mate_reversed}
use Rattle.mosaic_laws.specs.Tile.{in_tile, placed}
use Rattle.mosaic_laws.specs.Glue.{tile_of, local_of}
use Rattle.mosaic_laws.specs.Mirror.{IsBeyond}
use Rattle.mosaic_laws.proofs.AddressLemmas.{tile-is, local-big, local-level, local-address, in_tile-local}
use Rattle.mosaic_laws.proofs.CornerLemmas.{quarter_corners, quarter-first, in_tile-corners}
use Rattle.mosaic_laws.proofs.MateLemmas.{beyond-border}
use Rattle.mosaic_laws.proofs.SideLemmas.{mates-beyond}
use Rattle.mesh_laws.proofs.DescentLemmas.{IsAddress-level}
use Rattle.mesh_laws.specs.Vertex.{centre_of}
use Rattle.page_laws.specs.Pages.{square_above, AreBeside}

-- the centre of a square

quarter-apex : (h k : ℕ) → (quarter_corners h k).apex ≡ record { x = h; y = h }
quarter-apex h zero = refl
quarter-apex h (suc zero) = refl
quarter-apex h (suc (suc zero)) = refl
quarter-apex h (suc (suc (suc _))) = refl

-- the centre of a half is that of its square
pub half-centre : (n p x : ℕ) → 2 ≤ x → level_of x ≡ 2 * p →
    centre_of (suc n + p) x ≡ placed (2 ^ suc n) (tile_of p (2 * x)) (record { x = 2 ^ n; y = 2 ^ n })
half-centre n p x low level =
    let l = level_of-left x low in
    let tile = tile-is p (2 * x) (omega arith) (omega arith) in
    let big = local-big p (2 * x) (omega arith) (omega arith) in
    let one : level_of (local_of p (2 * x)) ≡ 1 =
    local-level p (2 * x) (omega arith) (omega arith) ∙ omega arith in
    let small : local_of p (2 * x) < 2 ^ 3 =
    (subst (λ k. IsAtLevel k (local_of p (2 * x))) one (IsAtLevel-level_of (local_of p (2 * x)) (omega arith))).high in
    let is : 4 + (local_of p (2 * x) - 4) ≡ local_of p (2 * x) = omega arith in
    let address : IsAddress (suc n) (local_of p (2 * x)) =
    IsAddress-level (suc n) (local_of p (2 * x)) (omega arith) (omega arith) in
    ap (λ (c : Corners). c.apex) (sym (corners_of-left (suc n + p) x low))
    ∙ ap (λ z. (corners_of (suc n + p) z).apex) (sym (in_tile-local p (2 * x) (omega arith) (omega arith)))
    ∙ ap (λ (c : Corners). c.apex)
    (in_tile-corners p (tile_of p (2 * x)) tile (suc n) (local_of p (2 * x)) big address)
    ∙ ap (λ z. placed (2 ^ suc n) (tile_of p (2 * x)) (corners_of (suc n) z).apex) (sym is)
    ∙ ap (λ (c : Corners). placed (2 ^ suc n) (tile_of p (2 * x)) c.apex)
    (quarter-first n (local_of p (2 * x) - 4) (omega arith))
    ∙ ap (placed (2 ^ suc n) (tile_of p (2 * x))) (quarter-apex (2 ^ n) (local_of p (2 * x) - 4))

-- so no two squares have the same
centre-square : (m h : ℕ) (t u : Point) → 0 < m →
    placed m t (record { x = h; y = h }) ≡ placed m u (record { x = h; y = h }) → t ≡ u
centre-square m h t u some same =
    let e = coordinates (placed m t (record { x = h; y = h })) (placed m u (record { x = h; y = h })) same in
    let x : m * t.x + h ≡ m * u.x + h = e.0 in let y : m * t.y + h ≡ m * u.y + h = e.1 in
    same_point t.x t.y u.x u.y (cancel m t.x u.x some (omega arith)) (cancel m t.y u.y some (omega arith))

midpoint-reversed : (p q : Point) → midpoint p q ≡ midpoint q p
midpoint-reversed p q =
    same_point ((p.x + q.x) / 2) ((p.y + q.y) / 2) ((q.x + p.x) / 2) ((q.y + p.y) / 2) (omega arith) (omega arith)

-- mates have one centre
pub mates-centre : (n x y : ℕ) → IsAddress n x → IsMate n x y → centre_of n x ≡ centre_of n y
mates-centre n x y address mate =
    let reversed = mate_reversed n x y address mate in
    ap₂ midpoint reversed.0 reversed.1 ∙ midpoint-reversed (corners_of n y).v1 (corners_of n y).v0

-- two halves that are mates are those of one square
pub mates-half : (n p x y : ℕ) → 1 ≤ n → level_of x ≡ 2 * p → IsAddress (n + p) x → IsMate (n + p) x y →
    tile_of p (2 * x) ≡ tile_of p (2 * y)
mates-half zero p x y some level address mate = absurd (omega (arith, some))
mates-half (suc n) p x y some level address mate =
    let same = mate.level in
    centre-square (2 ^ suc n) (2 ^ n) (tile_of p (2 * x)) (tile_of p (2 * y)) (pow_pos (suc n))
    (sym (half-centre n p x address.low level)
    ∙ mates-centre (suc n + p) x y address mate
    ∙ half-centre n p y mate.address.low (omega arith))

-- bases on the border

apart-sums : (step f g i : ℕ) → 0 < step → f + g ≡ 2 * i + 1 → step * f ≡ step * g → ⊥
apart-sums step f g i some sum same = let e : f ≡ g = cancel step f g some same in omega arith

not-side : (step m : ℕ) (c : Corners) (i j : ℕ) → 0 < step → IsHalf i j c →
    OnOneSide m (scaled step c).v0 (scaled step c).v1 → ⊥
not-side step m c i j some h (inl (e, f)) = apart-sums step c.v0.x c.v1.x i some h.x.sum (e ∙ sym f)
not-side step m c i j some h (inr (inl (e, f))) = apart-sums step c.v0.x c.v1.x i some h.x.sum (e ∙ sym f)
not-side step m c i j some h (inr (inr (inl (e, f)))) = apart-sums step c.v0.y c.v1.y j some h.y.sum (e ∙ sym f)
not-side step m c i j some h (inr (inr (inr (e, f)))) = apart-sums step c.v0.y c.v1.y j some h.y.sum (e ∙ sym f)

-- a triangle with its base on the border is at an odd level
pub border-odd : (n a : ℕ) → level_of a ≤ 2 * n → HasBorderBase n a → level_of a % 2 ≡ 1
border-odd n a fits border = ⊎_elim
    (λ even.
    let half = IsHalf-frame (level_of a) a in
    let is : corners_of n a ≡ scaled (step_of n (level_of a)) (frame (level_of a) a) =
    corners_of-lattice n a fits ∙ ap (scaled (step_of n (level_of a))) (lattice-frame (level_of a) a even) in
    absurd (not-side (step_of n (level_of a)) (2 ^ n) (frame (level_of a) a) half.0 half.1
    (step_pos n (level_of a)) half.2
    (subst (λ (c : Corners). OnOneSide (2 ^ n) c.v0 c.v1) is border)))
    (λ odd. odd)
    (parity (level_of a))

-- across a side

beyond-beside : (n : ℕ) (t u : Point) (a c : ℕ) → IsBeyond n t u a c → AreBeside t u
beyond-beside n t u a c (inl (e, f, column, row, is)) = inl (row, inl column)
beyond-beside n t u a c (inr (inl (e, f, column, row, is))) = inl (row, inr column)
beyond-beside n t u a c (inr (inr (inl (e, f, column, row, is)))) = inr (column, inl row)
beyond-beside n t u a c (inr (inr (inr (e, f, column, row, is)))) = inr (column, inr row)

-- mates of two squares lie across a side, and are at an odd level
pub mates-beside : (n p x y : ℕ) → 2 * p < level_of x → IsAddress (n + p) x → IsMate (n + p) x y →
    tile_of p x ≢ tile_of p y → AreBeside (tile_of p x) (tile_of p y) × (level_of x % 2 ≡ 1)
mates-beside n p x y deep address mate other =
    let low = address.low in
    let low' = mate.address.low in
    let same = mate.level in
    let deep' : 2 * p < level_of y = omega arith in
    let tile = tile-is p x low deep in
    let tile' = tile-is p y low' deep' in
    let big = local-big p x low deep in
    let big' = local-big p y low' deep' in
    let small : IsAddress n (local_of p x) = local-address p x low deep n address in
    let here = in_tile-local p x low deep in
    let there = in_tile-local p y low' deep' in
    let inside : IsMate (n + p) (in_tile p (tile_of p x) (local_of p x)) (in_tile p (tile_of p y) (local_of p y)) =
    subst (λ z. IsMate (n + p) z (in_tile p (tile_of p y) (local_of p y))) (sym here)
    (subst (λ z. IsMate (n + p) x z) (sym there) mate) in
    let level = local-level p x low deep in
    let odd = border-odd n (local_of p x) (level-le n (local_of p x) small)
    (beyond-border n p (tile_of p x) tile (tile_of p y) (local_of p x) (local_of p y) tile' other big big' small
    inside) in (
      beyond-beside n (tile_of p x) (tile_of p y) (local_of p x) (local_of p y)
          (mates-beyond n p (tile_of p x) (tile_of p y) (local_of p x) (local_of p y) tile tile' big big' small
          inside other),
      omega arith,
    )

-- squares of the next resolution

half-next : (i j : ℕ) → i ≡ j + 1 → (i / 2 ≡ j / 2) ⊎ (i / 2 ≡ j / 2 + 1)
half-next i j next = ⊎_elim
    (λ (same : i / 2 < j / 2 + 1). inl (omega arith))
    (λ (more : j / 2 + 1 ≤ i / 2). inr (omega arith))
    (cases_lt (i / 2) (j / 2 + 1))

-- squares that are beside each other lie in one square of twice the side, or in two that are
pub beside-above : (t u : Point) → AreBeside t u →
    (square_above t ≡ square_above u) ⊎ AreBeside (square_above t) (square_above u)
beside-above t u (inl (row, inl next)) = let e : t.y / 2 ≡ u.y / 2 = ap (λ k. k / 2) row in ⊎_elim
    (λ (same : t.x / 2 ≡ u.x / 2). inl (same_point (t.x / 2) (t.y / 2) (u.x / 2) (u.y / 2) same e))
    (λ (more : t.x / 2 ≡ u.x / 2 + 1). inr (inl (e, inl more)))
    (half-next t.x u.x next)
beside-above t u (inl (row, inr next)) = let e : t.y / 2 ≡ u.y / 2 = ap (λ k. k / 2) row in ⊎_elim
    (λ (same : u.x / 2 ≡ t.x / 2). inl (same_point (t.x / 2) (t.y / 2) (u.x / 2) (u.y / 2) (sym same) e))
    (λ (more : u.x / 2 ≡ t.x / 2 + 1). inr (inl (e, inr more)))
    (half-next u.x t.x next)
beside-above t u (inr (column, inl next)) = let e : t.x / 2 ≡ u.x / 2 = ap (λ k. k / 2) column in ⊎_elim
    (λ (same : t.y / 2 ≡ u.y / 2). inl (same_point (t.x / 2) (t.y / 2) (u.x / 2) (u.y / 2) e same))
    (λ (more : t.y / 2 ≡ u.y / 2 + 1). inr (inr (e, inl more)))
    (half-next t.y u.y next)
beside-above t u (inr (column, inr next)) = let e : t.x / 2 ≡ u.x / 2 = ap (λ k. k / 2) column in ⊎_elim
    (λ (same : u.y / 2 ≡ t.y / 2). inl (same_point (t.x / 2) (t.y / 2) (u.x / 2) (u.y / 2) e (sym same)))
    (λ (more : u.y / 2 ≡ t.y / 2 + 1). inr (inr (e, inr more)))
    (half-next u.y t.y next)

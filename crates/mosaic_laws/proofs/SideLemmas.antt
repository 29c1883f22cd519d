-- Mates across the sides of tiles: mirror images in the tile beyond, and no others.
use Rattle.std.proofs.Common.{◌≡◌, ◌≢◌, ℕ, ◌+◌, ◌-◌, ◌*◌, ◌^◌, ◌<◌, ◌≤◌, inl, inr, refl, sym, ◌∙◌, ap}
use Rattle.std.proofs.Common.{subst, arith, ⊎_elim, pow-add}
use Rattle.std.proofs.lemmas.Bool.{cases_lt}
use Rattle.mesh_defs.specs.declared.point.Point.{Point}
use Rattle.mesh_defs.specs.declared.point.Corners.{Corners}
use Rattle.mesh_defs.specs.Triangle.{corners_of, IsAddress, IsMate, OnOneSide, HasBorderBase}
use Rattle.bintree_laws.proofs.LevelLemmas.{level-le}
use Rattle.bintree_laws.proofs.LatticeLemmas.{same_point}
use Rattle.bintree_laws.proofs.CentreLemmas.{mate_unique, not_border_and_mate}
use Rattle.mesh_laws.proofs.DescentLemmas.{IsAddress-level}
use Rattle.mosaic_laws.specs.Tile.{IsTile, in_tile, placed, moved}
use Rattle.mosaic_laws.specs.Mirror.{mirrored, reflected, turned_over, IsBeyond}
use Rattle.mosaic_laws.proofs.AddressLemmas.{in_tile-level, in_tile-address, in_tile-unique, in_tile-apart}
use Rattle.mosaic_laws.proofs.CornerLemmas.{in_tile-corners}
use Rattle.mosaic_laws.proofs.MateLemmas.{beyond-border}
use Rattle.mosaic_laws.proofs.MirrorLemmas.{mirrored-level, mirrored-big, mirrored-corners}

-- the mirror image is an address where the triangle is
pub mirrored-address : (which n a : ℕ) → 4 ≤ a → IsAddress n a → IsAddress n (mirrored which a)
mirrored-address which n a big address =
    let fits = level-le n a address in
    let level = mirrored-level which a big in
    let low = mirrored-big which a big in
    IsAddress-level n (mirrored which a) (omega arith) (omega arith)

-- a triangle and its mirror image in another tile are mates, if their bases have the same ends
module _ (n p : ℕ) (t u : Point) (a which : ℕ) (tile : IsTile (2 ^ p) (2 ^ p) t) (tile' : IsTile (2 ^ p) (2 ^ p) u)
    (other : t ≢ u) (big : 4 ≤ a) (address : IsAddress n a) where
  mates-from : placed (2 ^ n) t (corners_of n a).v0 ≡ placed (2 ^ n) u (reflected which (2 ^ n) (corners_of n a).v0) →
      placed (2 ^ n) t (corners_of n a).v1 ≡ placed (2 ^ n) u (reflected which (2 ^ n) (corners_of n a).v1) →
      IsMate (n + p) (in_tile p t a) (in_tile p u (mirrored which a))
  mates-from first second =
      let large : 4 ≤ mirrored which a = mirrored-big which a big in
      let l = in_tile-level p t a big in
      let m = in_tile-level p u (mirrored which a) large in
      let level = mirrored-level which a big in
      let e : corners_of (n + p) (in_tile p t a) ≡ moved (2 ^ n) t (corners_of n a) =
      in_tile-corners p t tile n a big address in
      let f : corners_of (n + p) (in_tile p u (mirrored which a))
      ≡ moved (2 ^ n) u (turned_over which (2 ^ n) (corners_of n a)) =
      in_tile-corners p u tile' n (mirrored which a) large (mirrored-address which n a big address)
      ∙ ap (moved (2 ^ n) u) (mirrored-corners which n a big (level-le n a address)) in
      record {
        address = in_tile-address p u n (mirrored which a) large (mirrored-address which n a big address);
        other = λ one. other (sym (in_tile-apart p u t (mirrored which a) a tile' tile large big one));
        level = omega arith;
        base = inr (
          ap (λ (c : Corners). c.v0) e ∙ first ∙ sym (ap (λ (c : Corners). c.v1) f),
          ap (λ (c : Corners). c.v1) e ∙ second ∙ sym (ap (λ (c : Corners). c.v0) f),
        );
      }

left-place : (m : ℕ) (t u r : Point) → r.x ≡ 0 → t.x ≡ u.x + 1 → t.y ≡ u.y →
    placed m t r ≡ placed m u (reflected 0 m r)
left-place m t u r side column row =
    let e : m * t.x ≡ m * (u.x + 1) = ap (λ k. m * k) column in
    let f : m * t.y ≡ m * u.y = ap (λ k. m * k) row in
    same_point (m * t.x + r.x) (m * t.y + r.y) (m * u.x + (m - r.x)) (m * u.y + r.y) (omega arith) (omega arith)

right-place : (m : ℕ) (t u r : Point) → r.x ≡ m → u.x ≡ t.x + 1 → t.y ≡ u.y →
    placed m t r ≡ placed m u (reflected 0 m r)
right-place m t u r side column row =
    let e : m * u.x ≡ m * (t.x + 1) = ap (λ k. m * k) column in
    let f : m * t.y ≡ m * u.y = ap (λ k. m * k) row in
    same_point (m * t.x + r.x) (m * t.y + r.y) (m * u.x + (m - r.x)) (m * u.y + r.y) (omega arith) (omega arith)

lower-place : (m : ℕ) (t u r : Point) → r.y ≡ 0 → t.x ≡ u.x → t.y ≡ u.y + 1 →
    placed m t r ≡ placed m u (reflected 1 m r)
lower-place m t u r side column row =
    let e : m * t.x ≡ m * u.x = ap (λ k. m * k) column in
    let f : m * t.y ≡ m * (u.y + 1) = ap (λ k. m * k) row in
    same_point (m * t.x + r.x) (m * t.y + r.y) (m * u.x + r.x) (m * u.y + (m - r.y)) (omega arith) (omega arith)

upper-place : (m : ℕ) (t u r : Point) → r.y ≡ m → t.x ≡ u.x → u.y ≡ t.y + 1 →
    placed m t r ≡ placed m u (reflected 1 m r)
upper-place m t u r side column row =
    let e : m * t.x ≡ m * u.x = ap (λ k. m * k) column in
    let f : m * u.y ≡ m * (t.y + 1) = ap (λ k. m * k) row in
    same_point (m * t.x + r.x) (m * t.y + r.y) (m * u.x + r.x) (m * u.y + (m - r.y)) (omega arith) (omega arith)

-- a triangle with its base on a side and its mirror image in the tile beyond are mates
pub beyond-mates : (n p : ℕ) (t u : Point) (a c : ℕ) → IsTile (2 ^ p) (2 ^ p) t → IsTile (2 ^ p) (2 ^ p) u → 4 ≤ a →
    IsAddress n a → IsBeyond n t u a c → IsMate (n + p) (in_tile p t a) (in_tile p u c)
beyond-mates n p t u a c tile tile' big address (inl (e, f, column, row, is)) =
    let other : t ≢ u = λ same. (let s = ap (λ (r : Point). r.x) same in omega arith) in
    subst (λ z. IsMate (n + p) (in_tile p t a) (in_tile p u z)) (sym is)
    (mates-from n p t u a 0 tile tile' other big address
    (left-place (2 ^ n) t u (corners_of n a).v0 e column row) (left-place (2 ^ n) t u (corners_of n a).v1 f column row))
beyond-mates n p t u a c tile tile' big address (inr (inl (e, f, column, row, is))) =
    let other : t ≢ u = λ same. (let s = ap (λ (r : Point). r.x) same in omega arith) in
    subst (λ z. IsMate (n + p) (in_tile p t a) (in_tile p u z)) (sym is)
    (mates-from n p t u a 0 tile tile' other big address
    (right-place (2 ^ n) t u (corners_of n a).v0 e column row)
    (right-place (2 ^ n) t u (corners_of n a).v1 f column row))
beyond-mates n p t u a c tile tile' big address (inr (inr (inl (e, f, column, row, is)))) =
    let other : t ≢ u = λ same. (let s = ap (λ (r : Point). r.y) same in omega arith) in
    subst (λ z. IsMate (n + p) (in_tile p t a) (in_tile p u z)) (sym is)
    (mates-from n p t u a 1 tile tile' other big address
    (lower-place (2 ^ n) t u (corners_of n a).v0 e column row)
    (lower-place (2 ^ n) t u (corners_of n a).v1 f column row))
beyond-mates n p t u a c tile tile' big address (inr (inr (inr (e, f, column, row, is)))) =
    let other : t ≢ u = λ same. (let s = ap (λ (r : Point). r.y) same in omega arith) in
    subst (λ z. IsMate (n + p) (in_tile p t a) (in_tile p u z)) (sym is)
    (mates-from n p t u a 1 tile tile' other big address
    (upper-place (2 ^ n) t u (corners_of n a).v0 e column row)
    (upper-place (2 ^ n) t u (corners_of n a).v1 f column row))

-- and it has no other mate in another tile
module _ (n p : ℕ) (t u : Point) (a c : ℕ) (tile : IsTile (2 ^ p) (2 ^ p) t) (tile' : IsTile (2 ^ p) (2 ^ p) u)
    (big : 4 ≤ a) (large : 4 ≤ c) (address : IsAddress n a)
    (mates : IsMate (n + p) (in_tile p t a) (in_tile p u c)) where
  -- the mate is the one that is known
  known : (v : Point) (d : ℕ) → IsTile (2 ^ p) (2 ^ p) v → 4 ≤ d → IsBeyond n t v a d → (v ≡ u) × (d ≡ c)
  known v d tile'' fit is =
      let same : in_tile p v d ≡ in_tile p u c =
      mate_unique (n + p) (in_tile p t a) (in_tile p v d) (in_tile p u c) (in_tile-address p t n a big address)
      (beyond-mates n p t v a d tile tile'' big address is) mates in
      let place : v ≡ u = in_tile-apart p v u d c tile'' tile' fit large same in (
        place,
        in_tile-unique p u d c tile' fit large (ap (λ z. in_tile p z d) (sym place) ∙ same),
      )

  -- no base lies on the border of the whole
  no_border : OnOneSide (2 ^ (n + p)) (placed (2 ^ n) t (corners_of n a).v0) (placed (2 ^ n) t (corners_of n a).v1) → ⊥
  no_border side =
      let e = in_tile-corners p t tile n a big address in
      not_border_and_mate (n + p) (in_tile p t a) (in_tile p u c) (in_tile-address p t n a big address)
      (subst (λ (d : Corners). OnOneSide (2 ^ (n + p)) d.v0 d.v1) (sym e) side) mates

  least : (m i : ℕ) → i ≡ 0 → (k : ℕ) → k ≡ 0 → m * i + k ≡ 0
  least m i z k y = let e : m * i ≡ m * 0 = ap (λ j. m * j) z in omega arith

  most : (i k : ℕ) → i + 1 ≡ 2 ^ p → k ≡ 2 ^ n → 2 ^ n * i + k ≡ 2 ^ (n + p)
  most i k z y =
      let e : 2 ^ n * (i + 1) ≡ 2 ^ n * 2 ^ p = ap (λ j. 2 ^ n * j) z in
      let f : 2 ^ (n + p) ≡ 2 ^ n * 2 ^ p = pow-add 2 n p in omega arith

  mate-side : HasBorderBase n a → IsBeyond n t u a c
  mate-side (inl (e, f)) = ⊎_elim
      (λ (first : t.x < 1). absurd (no_border (inl (
        least (2 ^ n) t.x (omega arith) (corners_of n a).v0.x e,
        least (2 ^ n) t.x (omega arith) (corners_of n a).v1.x f,
      ))))
      (λ (inner : 1 ≤ t.x).
      let column = tile.column in
      let v : Point = record { x = t.x - 1; y = t.y } in
      let k = known (record { x = t.x - 1; y = t.y }) (mirrored 0 a)
      record { column = omega arith; row = tile.row } (mirrored-big 0 a big)
      (inl (e, f, omega arith, refl, refl)) in
      let x = ap (λ (r : Point). r.x) k.0 in let y = ap (λ (r : Point). r.y) k.0 in
      inl (e, f, omega arith, y, sym k.1))
      (cases_lt t.x 1)
  mate-side (inr (inl (e, f))) = ⊎_elim
      (λ (inner : t.x + 1 < 2 ^ p).
      let k = known (record { x = t.x + 1; y = t.y }) (mirrored 0 a)
      record { column = inner; row = tile.row } (mirrored-big 0 a big)
      (inr (inl (e, f, refl, refl, refl))) in
      let x = ap (λ (r : Point). r.x) k.0 in let y = ap (λ (r : Point). r.y) k.0 in
      inr (inl (e, f, sym x, y, sym k.1)))
      (λ (last : 2 ^ p ≤ t.x + 1).
      let column = tile.column in
      absurd (no_border (inr (inl (
        most t.x (corners_of n a).v0.x (omega arith) e,
        most t.x (corners_of n a).v1.x (omega arith) f,
      )))))
      (cases_lt (t.x + 1) (2 ^ p))
  mate-side (inr (inr (inl (e, f)))) = ⊎_elim
      (λ (first : t.y < 1). absurd (no_border (inr (inr (inl (
        least (2 ^ n) t.y (omega arith) (corners_of n a).v0.y e,
        least (2 ^ n) t.y (omega arith) (corners_of n a).v1.y f,
      ))))))
      (λ (inner : 1 ≤ t.y).
      let row = tile.row in
      let k = known (record { x = t.x; y = t.y - 1 }) (mirrored 1 a)
      record { column = tile.column; row = omega arith } (mirrored-big 1 a big)
      (inr (inr (inl (e, f, refl, omega arith, refl)))) in
      let x = ap (λ (r : Point). r.x) k.0 in let y = ap (λ (r : Point). r.y) k.0 in
      inr (inr (inl (e, f, x, omega arith, sym k.1))))
      (cases_lt t.y 1)
  mate-side (inr (inr (inr (e, f)))) = ⊎_elim
      (λ (inner : t.y + 1 < 2 ^ p).
      let k = known (record { x = t.x; y = t.y + 1 }) (mirrored 1 a)
      record { column = tile.column; row = inner } (mirrored-big 1 a big)
      (inr (inr (inr (e, f, refl, refl, refl)))) in
      let x = ap (λ (r : Point). r.x) k.0 in let y = ap (λ (r : Point). r.y) k.0 in
      inr (inr (inr (e, f, x, sym y, sym k.1))))
      (λ (last : 2 ^ p ≤ t.y + 1).
      let row = tile.row in
      absurd (no_border (inr (inr (inr (
        most t.y (corners_of n a).v0.y (omega arith) e,
        most t.y (corners_of n a).v1.y (omega arith) f,
      ))))))
      (cases_lt (t.y + 1) (2 ^ p))

  -- so mates in two tiles are mirror images beyond a common side
  pub mates-beyond : t ≢ u → IsBeyond n t u a c
  mates-beyond other = mate-side (beyond-border n p t tile u a c tile' other big large address mates)
